-- A guard that is split at a key.
use Rattle.std.proofs.Common.{◌≡◌, inl, inr, ◌≢◌, ℕ, zero, suc, ◌-◌, ◌<◌, ◌≤◌, Bool, true, false, not, List, [], ◌∷◌, length, refl, sym, ap, ◌∙◌, arith}
use Rattle.std.specs.Prelude.{set, get_or, if◌then◌else◌, ◌⊎◌, ◌||◌}
use Rattle.std.specs.List.{AllByRecursion, insert}
use Rattle.std.proofs.lemmas.List.{get_or-set_same, get_or-set_other, length-set}
use Rattle.std.proofs.lemmas.Bool.{true≢false, cases_eq, cases_lt}
use Rattle.peb_base.specs.Keys.{Bytes, key_lt, key_eq}
use Rattle.peb_base.specs.KeyLaws.{lt_trans, lt_le_weak, le_lt}
use Rattle.peb_base.specs.declared.table_row.TableRow.{TableRow}
use Rattle.guard_level.specs.TableLists.{below, above}
use Rattle.peb_base.specs.Guards.{Ascend, guard_of, is_guard, LiesIn}
use Rattle.guard_level.specs.Guards.{Guards, tables_of, IsLevel, IsUncut, split_at}
use Rattle.guard_level.proofs.GuardLemmas.{above_other, guard_grows, guard_bound}

differs : (b c : Bool) → (b || c) ≡ false → (b ≡ false) × (c ≡ false)
differs true c h = absurd (true≢false h)
differs false c h = (refl, h)

-- the keys ascend with the key at its place
pub ascend_with : (low key : Bytes) (keys : List Bytes) → Ascend low keys → key_lt low key ≡ true → is_guard key keys ≡ false → Ascend low (insert keys (guard_of key keys) key)
ascend_with low key [] h over new = (over, tt)
ascend_with low key (k ∷ ks) h over new = by (key_lt key k) refl (ascend_with k key ks h.1)
  where
    by : (b : Bool) → key_lt key k ≡ b → (key_lt k key ≡ true → is_guard key ks ≡ false → Ascend k (insert ks (guard_of key ks) key))
        → Ascend low (insert (k ∷ ks) (if b then 0 else suc (guard_of key ks)) key)
    by true e on = (over, (e, h.1))
    by false e on =
        let parts = differs (key_eq key k) (is_guard key ks) new in
        (h.0, on (above_other key k e parts.0) parts.1)

-- keys below the new one keep their guards, the others' are one further on
pub guard_with : (low x key : Bytes) (keys : List Bytes) → Ascend low keys → is_guard key keys ≡ false
    → guard_of x (insert keys (guard_of key keys) key) ≡ (if key_lt x key then guard_of x keys else suc (guard_of x keys))
guard_with low x key [] h new = refl
guard_with low x key (k ∷ ks) h new = by (key_lt key k) refl (guard_with k x key ks h.1)
  where
    at_front : (s t : Bool) → key_lt x key ≡ s → key_lt x k ≡ t → key_lt key k ≡ true
        → (if s then 0 else suc (if t then 0 else suc (guard_of x ks))) ≡ (if s then (if t then 0 else suc (guard_of x ks)) else suc (if t then 0 else suc (guard_of x ks)))
    at_front true true e f below = refl
    at_front true false e f below = absurd (true≢false (sym (lt_trans x key k e below) ∙ f))
    at_front false t e f below = refl

    further : (s t : Bool) → key_lt x key ≡ s → key_lt x k ≡ t → key_lt k key ≡ true → (n : ℕ) → n ≡ (if s then guard_of x ks else suc (guard_of x ks))
        → (if t then 0 else suc n) ≡ (if s then (if t then 0 else suc (guard_of x ks)) else suc (if t then 0 else suc (guard_of x ks)))
    further true true e f below n is = refl
    further true false e f below n is = ap suc is
    further false true e f below n is = absurd (true≢false (sym (lt_trans x k key f below) ∙ e))
    further false false e f below n is = ap suc is

    by : (b : Bool) → key_lt key k ≡ b
        → (is_guard key ks ≡ false → guard_of x (insert ks (guard_of key ks) key) ≡ (if key_lt x key then guard_of x ks else suc (guard_of x ks)))
        → guard_of x (insert (k ∷ ks) (if b then 0 else suc (guard_of key ks)) key) ≡ (if key_lt x key then guard_of x (k ∷ ks) else suc (guard_of x (k ∷ ks)))
    by true e on = at_front (key_lt x key) (key_lt x k) refl refl e
    by false e on =
        let parts = differs (key_eq key k) (is_guard key ks) new in
        further (key_lt x key) (key_lt x k) refl refl (above_other key k e parts.0) (guard_of x (insert ks (guard_of key ks) key)) (on parts.1)

-- ---- what is read after an insertion

insert_length : {X : Type 0} (xs : List X) (i : ℕ) (x : X) → i ≤ length xs → length (insert xs i x) ≡ suc (length xs)
insert_length xs zero x within = refl
insert_length [] (suc i) x within = absurd (omega (arith, within))
insert_length (y ∷ ys) (suc i) x within = ap suc (insert_length ys i x (omega (arith, within)))

insert_before : {X : Type 0} (xs : List X) (i h : ℕ) (x d : X) → h < i → i ≤ length xs → get_or (insert xs i x) h d ≡ get_or xs h d
insert_before xs zero h x d before within = absurd (omega (arith, before))
insert_before [] (suc i) h x d before within = absurd (omega (arith, within))
insert_before (y ∷ ys) (suc i) zero x d before within = refl
insert_before (y ∷ ys) (suc i) (suc h) x d before within = insert_before ys i h x d (omega (arith, before)) (omega (arith, within))

insert_same : {X : Type 0} (xs : List X) (i : ℕ) (x d : X) → i ≤ length xs → get_or (insert xs i x) i d ≡ x
insert_same xs zero x d within = refl
insert_same [] (suc i) x d within = absurd (omega (arith, within))
insert_same (y ∷ ys) (suc i) x d within = insert_same ys i x d (omega (arith, within))

-- what is read at the place of an insertion
pub inserted : {X : Type 0} (xs ys : List X) (i : ℕ) (x d : X) → ys ≡ insert xs i x → i ≤ length xs → d ≡ get_or ys i d → d ≡ x
inserted xs ys i x d is within read = read ∙ ap (λ zs. get_or zs i d) is ∙ insert_same xs i x d within

insert_behind : {X : Type 0} (xs : List X) (i h : ℕ) (x d : X) → i ≤ h → i ≤ length xs → get_or (insert xs i x) (suc h) d ≡ get_or xs h d
insert_behind xs zero h x d behind within = refl
insert_behind [] (suc i) h x d behind within = absurd (omega (arith, within))
insert_behind (y ∷ ys) (suc i) zero x d behind within = absurd (omega (arith, behind))
insert_behind (y ∷ ys) (suc i) (suc h) x d behind within = insert_behind ys i h x d (omega (arith, behind)) (omega (arith, within))

-- ---- where the tables lie then

abbrev new_keys : Bytes → List Bytes → List Bytes
new_keys key keys = insert keys (guard_of key keys) key

-- a key below the new one keeps its guard, another is one further on
stays : (x key : Bytes) (keys : List Bytes) (h : ℕ) → Ascend [] keys → is_guard key keys ≡ false → key_lt x key ≡ true → guard_of x keys ≡ h → guard_of x (new_keys key keys) ≡ h
stays x key keys h ascend new low is = guard_with [] x key keys ascend new ∙ rw low is

moves : (x key : Bytes) (keys : List Bytes) (h : ℕ) → Ascend [] keys → is_guard key keys ≡ false → key_lt x key ≡ false → guard_of x keys ≡ h → guard_of x (new_keys key keys) ≡ suc h
moves x key keys h ascend new high is = guard_with [] x key keys ascend new ∙ rw high (ap suc is)

-- a key of an earlier guard is below the new one, a key of a later guard isn't
in_front : (x key : Bytes) (keys : List Bytes) → guard_of x keys < guard_of key keys → key_lt x key ≡ true
in_front x key keys before = by (key_lt x key) refl
  where
    by : (b : Bool) → key_lt x key ≡ b → b ≡ true
    by true e = refl
    by false e = absurd (omega (arith, before, guard_grows key x keys (ap not e)))

behind : (x key : Bytes) (keys : List Bytes) → guard_of key keys < guard_of x keys → key_lt x key ≡ false
behind x key keys after = by (key_lt x key) refl
  where
    by : (b : Bool) → key_lt x key ≡ b → b ≡ false
    by true e = absurd (omega (arith, after, guard_grows x key keys (lt_le_weak x key e)))
    by false e = refl

module _ {T : Type 0} (row : T → TableRow) (key : Bytes) (keys : List Bytes) (ascend : Ascend [] keys) (new : is_guard key keys ≡ false) where
  abbrev Lie : List Bytes → ℕ → List T → Type 0
  Lie ks h ts = AllByRecursion (λ t. LiesIn ks h (row t)) ts

  all_in_front : (h : ℕ) → h < guard_of key keys → (ts : List T) → Lie keys h ts → Lie (new_keys key keys) h ts
  all_in_front h before [] lie = tt
  all_in_front h before (t ∷ ts) lie =
      let low : (x : Bytes) → guard_of x keys ≡ h → key_lt x key ≡ true = λ x is. in_front x key keys (rw is before) in (
        record {
          smallest = stays (row t).smallest key keys h ascend new (low (row t).smallest lie.0.smallest) lie.0.smallest;
          largest = stays (row t).largest key keys h ascend new (low (row t).largest lie.0.largest) lie.0.largest;
          ordered = lie.0.ordered;
        },
        all_in_front h before ts lie.1,
      )

  all_behind : (h : ℕ) → guard_of key keys < h → (ts : List T) → Lie keys h ts → Lie (new_keys key keys) (suc h) ts
  all_behind h after [] lie = tt
  all_behind h after (t ∷ ts) lie =
      let high : (x : Bytes) → guard_of x keys ≡ h → key_lt x key ≡ false = λ x is. behind x key keys (rw is after) in (
        record {
          smallest = moves (row t).smallest key keys h ascend new (high (row t).smallest lie.0.smallest) lie.0.smallest;
          largest = moves (row t).largest key keys h ascend new (high (row t).largest lie.0.largest) lie.0.largest;
          ordered = lie.0.ordered;
        },
        all_behind h after ts lie.1,
      )

  all_below : (h : ℕ) (ts : List T) → Lie keys h ts → IsUncut row key ts → Lie (new_keys key keys) h (below row key ts)
  all_below h [] lie uncut = tt
  all_below h (t ∷ ts) lie uncut = by (key_lt (row t).smallest key) refl (all_below h ts lie.1 uncut.1)
    where
      by : (b : Bool) → key_lt (row t).smallest key ≡ b → Lie (new_keys key keys) h (below row key ts) → Lie (new_keys key keys) h (if b then t ∷ below row key ts else below row key ts)
      by true low rest = (
        record {
          smallest = stays (row t).smallest key keys h ascend new low lie.0.smallest;
          largest = stays (row t).largest key keys h ascend new (uncut.0 low) lie.0.largest;
          ordered = lie.0.ordered;
        },
        rest,
      )
      by false high rest = rest

  all_above : (h : ℕ) (ts : List T) → Lie keys h ts → Lie (new_keys key keys) (suc h) (above row key ts)
  all_above h [] lie = tt
  all_above h (t ∷ ts) lie = by (key_lt (row t).smallest key) refl (all_above h ts lie.1)
    where
      over : key_lt (row t).smallest key ≡ false → (b : Bool) → key_lt (row t).largest key ≡ b → b ≡ false
      over high true low = absurd (true≢false (sym (le_lt (row t).smallest (row t).largest key lie.0.ordered low) ∙ high))
      over high false low = refl

      by : (b : Bool) → key_lt (row t).smallest key ≡ b → Lie (new_keys key keys) (suc h) (above row key ts) → Lie (new_keys key keys) (suc h) (if not b then t ∷ above row key ts else above row key ts)
      by true low rest = rest
      by false high rest = (
        record {
          smallest = moves (row t).smallest key keys h ascend new high lie.0.smallest;
          largest = moves (row t).largest key keys h ascend new (over high (key_lt (row t).largest key) refl) lie.0.largest;
          ordered = lie.0.ordered;
        },
        rest,
      )

-- a level that is split where no table is cut is a level
pub splits : {T : Type 0} (row : T → TableRow) (key : Bytes) (g : Guards T) → IsLevel row g → key_lt [] key ≡ true → is_guard key g.keys ≡ false
    → IsUncut row key (tables_of g (guard_of key g.keys)) → IsLevel row (split_at row key g)
splits {T = T} row key g level some new uncut = record {
  ascend = ascend_with [] key g.keys level.ascend some new;
  each = insert_length kept (suc at) given fits ∙ ap suc (length-set g.tables at low ∙ level.each) ∙ ap suc (sym (insert_length g.keys at key (guard_bound key g.keys)));
  inside = λ h. place h (cases_lt h at);
}
  where
    at : ℕ
    at = guard_of key g.keys

    low : List T
    low = below row key (tables_of g at)

    given : List T
    given = above row key (tables_of g at)

    kept : List (List T)
    kept = set g.tables at low

    within : at < length g.tables
    within = omega (arith, guard_bound key g.keys, level.each)

    fits : suc at ≤ length kept
    fits = omega (arith, within, length-set g.tables at low)

    Lies : ℕ → List T → Type 0
    Lies h ts = AllByRecursion (λ t. LiesIn (new_keys key g.keys) h (row t)) ts

    last : (h i : ℕ) → h ≡ suc i → at < i → AllByRecursion (λ t. LiesIn (new_keys key g.keys) h (row t)) (get_or (insert kept (suc at) given) h [])
    last h i is after =
        let read : get_or (insert kept (suc at) given) (suc i) [] ≡ get_or g.tables i [] =
        insert_behind kept (suc at) i given [] (omega (arith, after)) fits ∙ get_or-set_other g.tables at i low [] (λ e. omega (arith, after, e)) in
        rw is (rw read (all_behind row key g.keys level.ascend new i after (tables_of g i) (level.inside i)))

    further : (h : ℕ) → at ≤ h → (h ≡ at) ⊎ (h ≢ at) → (h ≡ suc at) ⊎ (h ≢ suc at) → AllByRecursion (λ t. LiesIn (new_keys key g.keys) h (row t)) (get_or (insert kept (suc at) given) h [])
    further h from (inl is) next =
        let read : get_or (insert kept (suc at) given) at [] ≡ low = insert_before kept (suc at) at given [] (omega arith) fits ∙ get_or-set_same g.tables at low [] within in
        rw is (rw read (all_below row key g.keys level.ascend new at (tables_of g at) (level.inside at) uncut))
    further h from (inr not_at) (inl is) =
        rw is (rw (insert_same kept (suc at) given [] fits) (all_above row key g.keys level.ascend new at (tables_of g at) (level.inside at)))
    further h from (inr not_at) (inr not_next) = last h (h - 1) (omega (arith, from, not_at, not_next)) (omega (arith, from, not_at, not_next))

    place : (h : ℕ) → (h < at) ⊎ (at ≤ h) → AllByRecursion (λ t. LiesIn (new_keys key g.keys) h (row t)) (get_or (insert kept (suc at) given) h [])
    place h (inl before) =
        let read : get_or (insert kept (suc at) given) h [] ≡ get_or g.tables h [] =
        insert_before kept (suc at) h given [] (omega (arith, before)) fits ∙ get_or-set_other g.tables at h low [] (λ e. omega (arith, before, e)) in
        rw read (all_in_front row key g.keys level.ascend new h before (tables_of g h) (level.inside h))
    place h (inr from) = further h from (cases_eq h at) (cases_eq h (suc at))
