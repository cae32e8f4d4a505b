-- The rows of a level as tables are appended and guards are cut.
use Rattle.std.proofs.Common.{◌≡◌, ◌≢◌, ℕ, suc, ◌+◌, ◌-◌, ◌<◌, ◌≤◌, Bool, true, false, cond, not, ◌&&◌, ◌||◌, List, [], ◌∷◌, ◌++◌, length, refl, sym, ap, ◌∙◌, subst, inl, inr, ◌⊎◌, arith, append-nil, append_assoc, add-one, take, drop, Result, Ok, Err}
use Rattle.std.specs.Prelude.{map, filter, ◌==◌, get_or, set, OnOk, IfOk, if◌then◌else◌}
use Rattle.std.specs.List.{AllByRecursion, insert}
use Rattle.std.specs.declared.cmp.Ordering.{Ordering}
use Rattle.std.specs.declared.cmp.Ordering.TheVariants.{Less, Equal, Greater}
use Rattle.std.specs.Ordering.{nat_cmp, is_lt, is_eq, ordering_reverse}
use Rattle.std.specs.Cmp.Lexicographic.{slice_cmp, nat_list_cmp_total}
use Rattle.std.proofs.lemmas.Map.Text.{is_eq-slice_cmp}
use Rattle.std.proofs.lemmas.Bool.{cases_eq, cases_lt, true≢false}
use Rattle.std.proofs.lemmas.List.{get_or-set_same, get_or-set_other, length-set, map-append, drop_more, take_more}
use Rattle.std.proofs.lemmas.List.Edits.{get_or-insert_at, get_or-insert_below, get_or-insert_above}
use Rattle.std.proofs.lemmas.List.Elements.{filter-append}
use Rattle.peb_base.specs.Guards.{Ascend, guard_of, is_guard}
use Rattle.peb_base.specs.Keys.{Bytes, key_lt, key_le, key_eq}
use Rattle.peb_base.specs.KeyLaws.{lt_trans, lt_asym, lt_le_weak, le_lt, same_key}
use Rattle.peb_base.specs.declared.table_row.TableRow.{TableRow}
use Rattle.flsm_model.specs.Ranges.{with_key, with_keys}
use Rattle.guard_level.specs.TableLists.{below, above}
use Rattle.guard_level.specs.Guards.{Guards, tables_of, with_table, split_at, cut_at}
use Rattle.version_set.specs.Shapes.{rows_of_guard, HasRows}
use Rattle.version_set.specs.Changes.{EachTable}
use Rattle.version_set.proofs.Rows.{eqb_same, eqb_other, filter_same, filter_both, map_filter}

-- ---- a table that is appended

pub guard_bound : (key : Bytes) (keys : List Bytes) → guard_of key keys ≤ length keys
guard_bound key [] = omega arith
guard_bound key (k ∷ ks) = by (key_lt key k) (guard_bound key ks)
  where
    by : (b : Bool) → guard_of key ks ≤ length ks → (if b then 0 else suc (guard_of key ks)) ≤ suc (length ks)
    by true h = omega arith
    by false h = omega (arith, h)

pub appended : {T : Type 0} (row : T → TableRow) (g : Guards T) (rows : List TableRow) (t : T) → length g.tables ≡ suc (length g.keys)
    → HasRows row g rows → HasRows row (with_table row t g) (rows ++ row t ∷ [])
appended {T} row g rows t each_has each guard = by (cases_eq guard at)
  where
    at : ℕ
    at = guard_of (row t).smallest g.keys

    within : at < length g.tables
    within = omega (arith, guard_bound (row t).smallest g.keys, each_has)

    ts : List T
    ts = tables_of g at ++ t ∷ []

    more : (i : ℕ) → rows_of_guard g.keys i (rows ++ row t ∷ []) ≡ rows_of_guard g.keys i rows ++ cond (at == i) (row t ∷ []) []
    more i = filter-append (λ (r : TableRow). guard_of r.smallest g.keys == i) rows (row t ∷ [])

    here : map row (tables_of (with_table row t g) at) ≡ rows_of_guard g.keys at (rows ++ row t ∷ [])
    here =
        ap (map row) (get_or-set_same g.tables at ts [] within) ∙ map-append row (tables_of g at) (t ∷ []) ∙ ap (λ rs. rs ++ row t ∷ []) (each at)
        ∙ sym (more at ∙ ap (λ b. rows_of_guard g.keys at rows ++ cond b (row t ∷ []) []) (eqb_same at))

    by : (guard ≡ at) ⊎ (guard ≢ at) → map row (tables_of (with_table row t g) guard) ≡ rows_of_guard g.keys guard (rows ++ row t ∷ [])
    by (inl same) = subst (λ (i : ℕ). map row (tables_of (with_table row t g) i) ≡ rows_of_guard g.keys i (rows ++ row t ∷ [])) (sym same) here
    by (inr other) =
        ap (map row) (get_or-set_other g.tables at guard ts [] other) ∙ each guard
        ∙ sym (more guard ∙ ap (λ b. rows_of_guard g.keys guard rows ++ cond b (row t ∷ []) []) (eqb_other at guard (λ e. other (sym e))) ∙ append-nil (rows_of_guard g.keys guard rows))

-- ---- guards beside a new one

above_other : (a b : Bytes) → key_lt a b ≡ false → key_eq a b ≡ false → key_lt b a ≡ true
above_other a b not_below differ = by (slice_cmp nat_cmp a b) refl
  where
    by : (o : Ordering) → slice_cmp nat_cmp a b ≡ o → key_lt b a ≡ true
    by Less e = absurd (true≢false (sym (ap is_lt e) ∙ not_below))
    by Equal e = absurd (true≢false (sym (ap is_eq e) ∙ is_eq-slice_cmp a b ∙ differ))
    by Greater e = ap is_lt (nat_list_cmp_total.antisymm b a ∙ ap ordering_reverse e)

differs : (b c : Bool) → (b || c) ≡ false → (b ≡ false) × (c ≡ false)
differs true c h = absurd (true≢false h)
differs false c h = (refl, h)

-- a new guard key stands behind those of its guard
pub inserted : (key : Bytes) (keys : List Bytes) → is_guard key keys ≡ false → insert keys (guard_of key keys) key ≡ with_key key keys
inserted key [] new = refl
inserted key (k ∷ ks) new = by (key_lt key k) (key_eq key k) new (inserted key ks)
  where
    by : (a b : Bool) → (b || is_guard key ks) ≡ false → (is_guard key ks ≡ false → insert ks (guard_of key ks) key ≡ with_key key ks)
        → insert (k ∷ ks) (cond a 0 (suc (guard_of key ks))) key ≡ cond a (key ∷ k ∷ ks) (cond b (k ∷ ks) (k ∷ with_key key ks))
    by true b n ih = refl
    by false true n ih = absurd (true≢false n)
    by false false n ih = ap (λ rest. k ∷ rest) (ih n)

-- a key that is one of the guard keys changes nothing
lowest : (low key : Bytes) (keys : List Bytes) → Ascend low keys → is_guard key keys ≡ true → key_lt low key ≡ true
lowest low key [] ascend is = absurd (true≢false (sym is))
lowest low key (k ∷ ks) ascend is = by (key_eq key k) refl is (lowest k key ks ascend.1)
  where
    by : (b : Bool) → key_eq key k ≡ b → (b || is_guard key ks) ≡ true → (is_guard key ks ≡ true → key_lt k key ≡ true) → key_lt low key ≡ true
    by true e h rest = subst (λ x. key_lt low x ≡ true) (sym (same_key key k e)) ascend.0
    by false e h rest = lt_trans low k key ascend.0 (rest h)

pub present : (low key : Bytes) (keys : List Bytes) → Ascend low keys → is_guard key keys ≡ true → with_key key keys ≡ keys
present low key [] ascend is = absurd (true≢false (sym is))
present low key (k ∷ ks) ascend is = by (key_lt key k) (key_eq key k) refl refl is (present k key ks ascend.1)
  where
    by : (a b : Bool) → key_lt key k ≡ a → key_eq key k ≡ b → (b || is_guard key ks) ≡ true → (is_guard key ks ≡ true → with_key key ks ≡ ks)
        → cond a (key ∷ k ∷ ks) (cond b (k ∷ ks) (k ∷ with_key key ks)) ≡ k ∷ ks
    by true true a b h ih = absurd (true≢false (sym (subst (λ x. key_lt x k ≡ true) (same_key key k b) a) ∙ lt_asym k k (subst (λ x. key_lt x k ≡ true) (same_key key k b) a)))
    by true false a b h ih = absurd (true≢false (sym a ∙ lt_asym k key (lowest k key ks ascend.1 h)))
    by false true a b h ih = refl
    by false false a b h ih = ap (λ rest. k ∷ rest) (ih h)

-- keys below the new one keep their guards, the others' are one further on
guard_with : (low x key : Bytes) (keys : List Bytes) → Ascend low keys → is_guard key keys ≡ false
    → guard_of x (insert keys (guard_of key keys) key) ≡ (if key_lt x key then guard_of x keys else suc (guard_of x keys))
guard_with low x key [] h new = refl
guard_with low x key (k ∷ ks) h new = by (key_lt key k) refl (guard_with k x key ks h.1)
  where
    at_front : (s t : Bool) → key_lt x key ≡ s → key_lt x k ≡ t → key_lt key k ≡ true
        → (if s then 0 else suc (if t then 0 else suc (guard_of x ks))) ≡ (if s then (if t then 0 else suc (guard_of x ks)) else suc (if t then 0 else suc (guard_of x ks)))
    at_front true true e f below = refl
    at_front true false e f below = absurd (true≢false (sym (lt_trans x key k e below) ∙ f))
    at_front false t e f below = refl

    further : (s t : Bool) → key_lt x key ≡ s → key_lt x k ≡ t → key_lt k key ≡ true → (n : ℕ) → n ≡ (if s then guard_of x ks else suc (guard_of x ks))
        → (if t then 0 else suc n) ≡ (if s then (if t then 0 else suc (guard_of x ks)) else suc (if t then 0 else suc (guard_of x ks)))
    further true true e f below n is = refl
    further true false e f below n is = ap suc is
    further false true e f below n is = absurd (true≢false (sym (lt_trans x k key f below) ∙ e))
    further false false e f below n is = ap suc is

    by : (b : Bool) → key_lt key k ≡ b
        → (is_guard key ks ≡ false → guard_of x (insert ks (guard_of key ks) key) ≡ (if key_lt x key then guard_of x ks else suc (guard_of x ks)))
        → guard_of x (insert (k ∷ ks) (if b then 0 else suc (guard_of key ks)) key) ≡ (if key_lt x key then guard_of x (k ∷ ks) else suc (guard_of x (k ∷ ks)))
    by true e on = at_front (key_lt x key) (key_lt x k) refl refl e
    by false e on =
        let parts = differs (key_eq key k) (is_guard key ks) new in
        further (key_lt x key) (key_lt x k) refl refl (above_other key k e parts.0) (guard_of x (insert ks (guard_of key ks) key)) (on parts.1)

-- greater keys have no lower guards
guard_grows : (a b : Bytes) (keys : List Bytes) → key_le a b ≡ true → guard_of a keys ≤ guard_of b keys
guard_grows a b [] le = omega arith
guard_grows a b (k ∷ ks) le = by (key_lt b k) (key_lt a k) refl refl (guard_grows a b ks le)
  where
    by : (s t : Bool) → key_lt b k ≡ s → key_lt a k ≡ t → guard_of a ks ≤ guard_of b ks → (if t then 0 else suc (guard_of a ks)) ≤ (if s then 0 else suc (guard_of b ks))
    by true true e f h = omega arith
    by true false e f h = absurd (true≢false (sym (le_lt a b k le e) ∙ f))
    by false true e f h = omega arith
    by false false e f h = omega (arith, h)

-- ---- which rows the guards have, once one of them is split: a row whose old guard is n, and which
-- begins below the new key or doesn't

suc_eqb : (n i : ℕ) → (suc n == suc i) ≡ (n == i)
suc_eqb n i = elim (cases_eq n i) [
  | inl same ↦ ap (λ m. suc m == suc i) same ∙ eqb_same (suc i) ∙ sym (ap (λ m. m == i) same ∙ eqb_same i)
  | inr other ↦ eqb_other (suc n) (suc i) (λ e. other (omega (arith, e))) ∙ sym (eqb_other n i other)
]

in_front : (b : Bool) (n at h : ℕ) → (b ≡ false → at ≤ n) → h < at → (cond b n (suc n) == h) ≡ (n == h)
in_front true n at h high before = refl
in_front false n at h high before = eqb_other (suc n) h (λ e. omega (arith, e, before, high refl)) ∙ sym (eqb_other n h (λ e. omega (arith, e, before, high refl)))

kept_at : (b : Bool) (n at : ℕ) → (b ≡ false → at ≤ n) → (cond b n (suc n) == at) ≡ ((n == at) && b)
kept_at true n at high = and_true (n == at)
  where
    and_true : (c : Bool) → c ≡ (c && true)
    and_true true = refl
    and_true false = refl
kept_at false n at high = eqb_other (suc n) at (λ e. omega (arith, e, high refl)) ∙ and_false (n == at)
  where
    and_false : (c : Bool) → false ≡ (c && false)
    and_false true = refl
    and_false false = refl

given_at : (b : Bool) (n at : ℕ) → (b ≡ true → n ≤ at) → (cond b n (suc n) == suc at) ≡ ((n == at) && not b)
given_at true n at low = eqb_other n (suc at) (λ e. omega (arith, e, low refl)) ∙ and_false (n == at)
  where
    and_false : (c : Bool) → false ≡ (c && false)
    and_false true = refl
    and_false false = refl
given_at false n at low = suc_eqb n at ∙ and_true (n == at)
  where
    and_true : (c : Bool) → c ≡ (c && true)
    and_true true = refl
    and_true false = refl

further_on : (b : Bool) (n at i : ℕ) → (b ≡ true → n ≤ at) → at < i → (cond b n (suc n) == suc i) ≡ (n == i)
further_on true n at i low after = eqb_other n (suc i) (λ e. omega (arith, e, after, low refl)) ∙ sym (eqb_other n i (λ e. omega (arith, e, after, low refl)))
further_on false n at i low after = suc_eqb n i

-- ---- the tables of the guards, once one of them is split

data Place {T : Type 0} (row : T → TableRow) (key : Bytes) (g : Guards T) (h : ℕ) : Type 0 where
  Front : h < guard_of key g.keys → tables_of (split_at row key g) h ≡ tables_of g h → Place row key g h
  Kept : h ≡ guard_of key g.keys → tables_of (split_at row key g) h ≡ below row key (tables_of g (guard_of key g.keys)) → Place row key g h
  Given : h ≡ suc (guard_of key g.keys) → tables_of (split_at row key g) h ≡ above row key (tables_of g (guard_of key g.keys)) → Place row key g h
  Behind : (i : ℕ) → h ≡ suc i → guard_of key g.keys < i → tables_of (split_at row key g) h ≡ tables_of g i → Place row key g h

place : {T : Type 0} (row : T → TableRow) (key : Bytes) (g : Guards T) (h : ℕ) → length g.tables ≡ suc (length g.keys) → Place row key g h
place {T} row key g h each_has = by (cases_lt h at)
  where
    at : ℕ
    at = guard_of key g.keys

    low : List T
    low = below row key (tables_of g at)

    given : List T
    given = above row key (tables_of g at)

    kept : List (List T)
    kept = set g.tables at low

    within : at < length g.tables
    within = omega (arith, guard_bound key g.keys, each_has)

    fits : suc at ≤ length kept
    fits = omega (arith, within, length-set g.tables at low)

    last : (i : ℕ) → h ≡ suc i → at < i → Place row key g h
    last i is after =
        Behind i is after
        (ap (λ j. get_or (insert kept (suc at) given) j []) (is ∙ sym (add-one i)) ∙ get_or-insert_above kept (suc at) given [] i (omega (arith, after)) fits
        ∙ get_or-set_other g.tables at i low [] (λ e. omega (arith, after, e)))

    further : at ≤ h → (h ≡ at) ⊎ (h ≢ at) → (h ≡ suc at) ⊎ (h ≢ suc at) → Place row key g h
    further from (inl is) next =
        Kept is (ap (λ j. get_or (insert kept (suc at) given) j []) is ∙ get_or-insert_below kept (suc at) given [] at (omega arith) fits ∙ get_or-set_same g.tables at low [] within)
    further from (inr not_at) (inl is) = Given is (ap (λ j. get_or (insert kept (suc at) given) j []) is ∙ get_or-insert_at kept (suc at) given [] fits)
    further from (inr not_at) (inr not_next) = last (h - 1) (omega (arith, from, not_at, not_next)) (omega (arith, from, not_at, not_next))

    by : (h < at) ⊎ (at ≤ h) → Place row key g h
    by (inl before) =
        Front before (get_or-insert_below kept (suc at) given [] h (omega (arith, before)) fits ∙ get_or-set_other g.tables at h low [] (λ e. omega (arith, before, e)))
    by (inr from) = further from (cases_eq h at) (cases_eq h (suc at))

-- the guards then have the same rows
split_rows : {T : Type 0} (row : T → TableRow) (key : Bytes) (g : Guards T) (rows : List TableRow) → Ascend [] g.keys → length g.tables ≡ suc (length g.keys) → is_guard key g.keys ≡ false
    → HasRows row g rows → HasRows row (split_at row key g) rows
split_rows {T} row key g rows ascend each_has new each h = by (place row key g h each_has)
  where
    at : ℕ
    at = guard_of key g.keys

    old : TableRow → ℕ
    old r = guard_of r.smallest g.keys

    begins : TableRow → Bool
    begins r = key_lt r.smallest key

    next : (r : TableRow) → guard_of r.smallest (insert g.keys at key) ≡ cond (begins r) (old r) (suc (old r))
    next r = guard_with [] r.smallest key g.keys ascend new

    low : (r : TableRow) → begins r ≡ true → old r ≤ at
    low r is = guard_grows r.smallest key g.keys (lt_le_weak r.smallest key is)

    high : (r : TableRow) → begins r ≡ false → at ≤ old r
    high r is = guard_grows key r.smallest g.keys (ap not is)

    -- the rows of the new guard pass another test of the same rows
    test : (i : ℕ) (p : TableRow → Bool) → ((r : TableRow) → (cond (begins r) (old r) (suc (old r)) == i) ≡ p r) → rows_of_guard (insert g.keys at key) i rows ≡ filter p rows
    test i p same = filter_same (λ (r : TableRow). guard_of r.smallest (insert g.keys at key) == i) p rows (λ r among. ap (λ n. n == i) (next r) ∙ same r)

    by : Place row key g h → map row (tables_of (split_at row key g) h) ≡ rows_of_guard (insert g.keys at key) h rows
    by (Front before read) = ap (map row) read ∙ each h ∙ sym (test h (λ r. old r == h) (λ r. in_front (begins r) (old r) at h (high r) before))
    by (Kept is read) =
        ap (map row) read ∙ map_filter row begins (tables_of g at) ∙ ap (filter begins) (each at) ∙ filter_both begins (λ r. old r == at) rows
        ∙ sym (ap (λ i. rows_of_guard (insert g.keys at key) i rows) is ∙ test at (λ r. (old r == at) && begins r) (λ r. kept_at (begins r) (old r) at (high r)))
    by (Given is read) =
        ap (map row) read ∙ map_filter row (λ r. not (begins r)) (tables_of g at) ∙ ap (filter (λ r. not (begins r))) (each at) ∙ filter_both (λ r. not (begins r)) (λ r. old r == at) rows
        ∙ sym (ap (λ i. rows_of_guard (insert g.keys at key) i rows) is ∙ test (suc at) (λ r. (old r == at) && not (begins r)) (λ r. given_at (begins r) (old r) at (low r)))
    by (Behind i is after read) =
        ap (map row) read ∙ each i
        ∙ sym (ap (λ j. rows_of_guard (insert g.keys at key) j rows) is ∙ test (suc i) (λ r. old r == i) (λ r. further_on (begins r) (old r) at i (low r) after))

pub cut_rows : {T : Type 0} (row : T → TableRow) (key : Bytes) (g : Guards T) (rows : List TableRow) → Ascend [] g.keys → length g.tables ≡ suc (length g.keys)
    → HasRows row g rows → HasRows row (cut_at row key g) rows
cut_rows row key g rows ascend each_has each = by (is_guard key g.keys) refl
  where
    by : (b : Bool) → is_guard key g.keys ≡ b → HasRows row (if b then g else split_at row key g) rows
    by true is = each
    by false is = split_rows row key g rows ascend each_has is each

pub cut_keys : {T : Type 0} (row : T → TableRow) (key : Bytes) (g : Guards T) → Ascend [] g.keys → (cut_at row key g).keys ≡ with_key key g.keys
cut_keys {T} row key g ascend = by (is_guard key g.keys) refl
  where
    by : (b : Bool) → is_guard key g.keys ≡ b → (if b then g else split_at row key g).keys ≡ with_key key g.keys
    by true is = sym (present [] key g.keys ascend is)
    by false is = inserted key g.keys is

-- ---- what holds of each table still holds

all_left : {X : Type 0} (P : X → Type 0) (p : X → Bool) (xs : List X) → AllByRecursion P xs → AllByRecursion P (filter p xs)
all_left P p [] all = tt
all_left {X} P p (x ∷ xs) all = by (p x) (all_left P p xs all.1)
  where
    by : (b : Bool) → AllByRecursion P (filter p xs) → AllByRecursion P (cond b (x ∷ filter p xs) (filter p xs))
    by true rest = (all.0, rest)
    by false rest = rest

pub cut_each : {T : Type 0} (P : T → Type 0) (row : T → TableRow) (key : Bytes) (g : Guards T) → length g.tables ≡ suc (length g.keys) → EachTable P g → EachTable P (cut_at row key g)
cut_each {T} P row key g each_has each h = by (is_guard key g.keys)
  where
    split : Place row key g h → AllByRecursion P (tables_of (split_at row key g) h)
    split (Front before read) = subst (AllByRecursion P) (sym read) (each h)
    split (Kept is read) = subst (AllByRecursion P) (sym read) (all_left P (λ t. key_lt (row t).smallest key) (tables_of g (guard_of key g.keys)) (each (guard_of key g.keys)))
    split (Given is read) = subst (AllByRecursion P) (sym read) (all_left P (λ t. not (key_lt (row t).smallest key)) (tables_of g (guard_of key g.keys)) (each (guard_of key g.keys)))
    split (Behind i is after read) = subst (AllByRecursion P) (sym read) (each i)

    by : (b : Bool) → AllByRecursion P (tables_of (if b then g else split_at row key g) h)
    by true = each h
    by false = split (place row key g h each_has)

-- ---- steps of the calls

pub on_ok : {X E P : Type 0} (r : Result X E) → P → OnOk r P
on_ok (Ok x) p = p
on_ok (Err e) p = tt

pub on_ok_map : {X E P Q : Type 0} (r : Result X E) → (P → Q) → OnOk r P → OnOk r Q
on_ok_map (Ok x) f p = f p
on_ok_map (Err e) f p = tt

pub on_ok_both : {X E P Q R : Type 0} (r : Result X E) → (P → Q → R) → OnOk r P → OnOk r Q → OnOk r R
on_ok_both (Ok x) f p q = f p q
on_ok_both (Err e) f p q = tt

pub if_ok_map : {X E : Type 0} {P Q : X → Type 0} (r : Result X E) → ((x : X) → P x → Q x) → IfOk r P → IfOk r Q
if_ok_map (Ok x) f p = f x p
if_ok_map (Err e) f p = tt

-- a further handle to a table is appended
pub appended_as : {T : Type 0} (row : T → TableRow) (old new : Guards T) (rows : List TableRow) (t u : T) → new ≡ with_table row u old → row u ≡ row t → length old.tables ≡ suc (length old.keys)
    → HasRows row old rows → HasRows row new (rows ++ row t ∷ [])
appended_as {T} row old new rows t u is same each_has each =
    subst (λ (g : Guards T). HasRows row g (rows ++ row t ∷ [])) (sym is) (subst (λ r. HasRows row (with_table row u old) (rows ++ r ∷ [])) same (appended row old rows u each_has each))

-- one table more among those that were appended
pub rows_on : {T : Type 0} (row : T → TableRow) (rows : List TableRow) (ts : List T) (i : ℕ) (t : T) → i < length ts → t ≡ get_or ts i t → (rows ++ map row (take i ts)) ++ row t ∷ [] ≡ rows ++ map row (take (i + 1) ts)
rows_on row rows ts i t within is =
    append_assoc rows (map row (take i ts)) (row t ∷ []) ∙ ap (λ rs. rows ++ rs) (sym (map-append row (take i ts) (t ∷ [])))
    ∙ ap (λ us. rows ++ map row us) (ap (λ u. take i ts ++ u ∷ []) is ∙ sym (take_more ts i t within))

-- one key more among the guards, from the last one on
pub keys_on : (ks guards : List Bytes) (left : ℕ) (k : Bytes) → 0 < left → left ≤ length ks → k ≡ get_or ks (left - 1) k → with_key k (with_keys (drop left ks) guards) ≡ with_keys (drop (left - 1) ks) guards
keys_on ks guards left k some within is =
    let next : left - 1 + 1 ≡ left = omega (arith, some) in
    let read : drop (left - 1) ks ≡ k ∷ drop left ks =
    drop_more ks (left - 1) k (omega (arith, some, within)) ∙ ap (λ x. x ∷ drop (left - 1 + 1) ks) (sym is) ∙ ap (λ n. k ∷ drop n ks) next in
    sym (ap (λ xs. with_keys xs guards) read)
