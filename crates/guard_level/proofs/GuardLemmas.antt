-- The guard of a key, and a table that is appended.
use Rattle.std.proofs.Common.{◌≡◌, inl, inr, ◌≢◌, ℕ, zero, suc, ◌-◌, ◌<◌, ◌≤◌, Bool, true, false, List, [], ◌∷◌, ◌++◌, length, refl, sym, ap, ◌∙◌, arith, subst}
use Rattle.std.specs.Prelude.{set, get_or, slice_index_or, if◌then◌else◌, ◌⊎◌, ◌||◌, Result, Ok, Err, OnOk, OnErr}
use Rattle.std.specs.List.{AllByRecursion}
use Rattle.std.specs.declared.cmp.Ordering.{Ordering}
use Rattle.std.specs.declared.cmp.Ordering.TheVariants.{Less, Equal, Greater}
use Rattle.std.specs.Ordering.{nat_cmp, is_lt, is_eq, ordering_reverse}
use Rattle.std.specs.Cmp.Lexicographic.{slice_cmp, nat_list_cmp_total}
use Rattle.std.proofs.Math.Bool.{or-false}
use Rattle.std.proofs.lemmas.Bool.{true≢false, cases_eq}
use Rattle.std.proofs.lemmas.List.{get_or-set_same, get_or-set_other, length-set}
use Rattle.std.proofs.lemmas.Map.Text.{is_eq-slice_cmp}
use Rattle.peb_base.specs.Keys.{Bytes, key_lt, key_le, key_eq}
use Rattle.peb_base.specs.KeyLaws.{lt_trans, lt_asym, le_lt, other_key}
use Rattle.peb_base.specs.declared.table_row.TableRow.{TableRow}
use Rattle.guard_level.proofs.TableLemmas.{same_at}
use Rattle.peb_base.specs.Guards.{Ascend, guard_of, is_guard, LiesIn}
use Rattle.guard_level.specs.Guards.{Guards, tables_of, IsLevel, with_table}

-- every key is below another, the same, or above it
pub above_other : (a b : Bytes) → key_lt a b ≡ false → key_eq a b ≡ false → key_lt b a ≡ true
above_other a b not_below differ = by (slice_cmp nat_cmp a b) refl
  where
    by : (o : Ordering) → slice_cmp nat_cmp a b ≡ o → key_lt b a ≡ true
    by Less e = absurd (true≢false (sym (ap is_lt e) ∙ not_below))
    by Equal e = absurd (true≢false (sym (ap is_eq e) ∙ is_eq-slice_cmp a b ∙ differ))
    by Greater e = ap is_lt (nat_list_cmp_total.antisymm b a ∙ ap ordering_reverse e)

pub guard_bound : (key : Bytes) (keys : List Bytes) → guard_of key keys ≤ length keys
guard_bound key [] = omega arith
guard_bound key (k ∷ ks) = by (key_lt key k) (guard_bound key ks)
  where
    by : (b : Bool) → guard_of key ks ≤ length ks → (if b then 0 else suc (guard_of key ks)) ≤ suc (length ks)
    by true h = omega arith
    by false h = omega (arith, h)

-- a guard key above the key is behind its guard
pub guard_to : (key : Bytes) (keys : List Bytes) (i : ℕ) (d : Bytes) → i < length keys → key_lt key (get_or keys i d) ≡ true → guard_of key keys ≤ i
guard_to key [] i d within above = absurd (omega (arith, within))
guard_to key (k ∷ ks) zero d within above = rw above (omega arith)
guard_to key (k ∷ ks) (suc i) d within above = by (key_lt key k) (guard_to key ks i d (omega (arith, within)) above)
  where
    by : (b : Bool) → guard_of key ks ≤ i → (if b then 0 else suc (guard_of key ks)) ≤ suc i
    by true h = omega arith
    by false h = omega (arith, h)

ascend_at : (low : Bytes) (keys : List Bytes) (i : ℕ) (d : Bytes) → Ascend low keys → i < length keys → key_lt low (get_or keys i d) ≡ true
ascend_at low [] i d h within = absurd (omega (arith, within))
ascend_at low (k ∷ ks) zero d h within = h.0
ascend_at low (k ∷ ks) (suc i) d h within = lt_trans low k (get_or ks i d) h.0 (ascend_at k ks i d h.1 (omega (arith, within)))

-- a key that comes behind the key has a guard no further front
not_above : (key k at : Bytes) → key_lt k at ≡ true → key_lt key at ≡ false → key_lt key k ≡ false
not_above key k at below not_below = by (key_lt key k) refl
  where
    by : (b : Bool) → key_lt key k ≡ b → b ≡ false
    by true e = sym (lt_trans key k at e below) ∙ not_below
    by false e = refl

-- a guard key that isn't above the key is before its guard or is its guard's
pub guard_from : (low key : Bytes) (keys : List Bytes) (i : ℕ) (d : Bytes) → Ascend low keys → i < length keys → key_lt key (get_or keys i d) ≡ false → i < guard_of key keys
guard_from low key [] i d h within reached = absurd (omega (arith, within))
guard_from low key (k ∷ ks) zero d h within reached = rw reached (omega arith)
guard_from low key (k ∷ ks) (suc i) d h within reached =
    let inner : i < length ks = omega (arith, within) in
    rw (not_above key k (get_or ks i d) (ascend_at k ks i d h.1 inner) reached) (omega (arith, guard_from k key ks i d h.1 inner reached))

-- greater keys have no lower guards
pub guard_grows : (a b : Bytes) (keys : List Bytes) → key_le a b ≡ true → guard_of a keys ≤ guard_of b keys
guard_grows a b [] le = omega arith
guard_grows a b (k ∷ ks) le = by (key_lt b k) (key_lt a k) refl refl (guard_grows a b ks le)
  where
    by : (s t : Bool) → key_lt b k ≡ s → key_lt a k ≡ t → guard_of a ks ≤ guard_of b ks → (if t then 0 else suc (guard_of a ks)) ≤ (if s then 0 else suc (guard_of b ks))
    by true true e f h = omega arith
    by true false e f h = absurd (true≢false (sym (le_lt a b k le e) ∙ f))
    by false true e f h = omega arith
    by false false e f h = omega (arith, h)

-- ---- a table that is appended

pub all_push : {X : Type 0} (P : X → Type 0) (xs : List X) (x : X) → AllByRecursion P xs → P x → AllByRecursion P (xs ++ x ∷ [])
all_push P [] x h p = (p, tt)
all_push P (y ∷ ys) x h p = (h.0, all_push P ys x h.1 p)

-- a level with other tables in one of its guards, which lie there
pub with_tables : {T : Type 0} (row : T → TableRow) (g : Guards T) (guard : ℕ) (ts : List T) → IsLevel row g → guard < length g.tables
    → AllByRecursion (λ t. LiesIn g.keys guard (row t)) ts → IsLevel row (record { keys = g.keys; tables = set g.tables guard ts })
with_tables row g guard ts level within lie = record {
  ascend = level.ascend;
  each = length-set g.tables guard ts ∙ level.each;
  inside = λ h. at h (cases_eq h guard);
}
  where
    at : (h : ℕ) → (h ≡ guard) ⊎ (h ≢ guard) → AllByRecursion (λ t. LiesIn g.keys h (row t)) (get_or (set g.tables guard ts) h [])
    at h (inl same) = rw same (rw (get_or-set_same g.tables guard ts [] within) lie)
    at h (inr other) = rw (get_or-set_other g.tables guard h ts [] other) (level.inside h)

pub appended : {T : Type 0} (row : T → TableRow) (t : T) (g : Guards T) → IsLevel row g → LiesIn g.keys (guard_of (row t).smallest g.keys) (row t) → IsLevel row (with_table row t g)
appended row t g level lies =
    let guard = guard_of (row t).smallest g.keys in
    with_tables row g guard (tables_of g guard ++ t ∷ []) level (omega (arith, guard_bound (row t).smallest g.keys, level.each))
    (all_push (λ u. LiesIn g.keys guard (row u)) (tables_of g guard) t (level.inside guard) lies)

-- ---- the sentinel's tables beside those of the guards

read_again : {X : Type 0} (xs : List X) (i : ℕ) (d : X) → get_or xs i d ≡ slice_index_or xs i (get_or xs i d)
read_again [] i d = refl
read_again (x ∷ xs) zero d = refl
read_again (x ∷ xs) (suc i) d = read_again xs i d

-- the tables of a guard that isn't the sentinel
pub beside : {T : Type 0} (s : List T) (gs : List (List T)) (guard : ℕ) (ts : List T) → guard ≢ 0 → guard - 1 < length gs → ts ≡ slice_index_or gs (guard - 1) ts
    → ts ≡ get_or (s ∷ gs) guard []
beside s gs zero ts some within is = absurd (some refl)
beside s gs (suc n) ts some within is =
    let same : suc n - 1 ≡ n = omega arith in
    let inside : n < length gs = omega (arith, within) in
    same_at gs n ts (get_or gs n []) inside (subst (λ i. ts ≡ slice_index_or gs i ts) same is) (read_again gs n [])

pub set_beside : {T : Type 0} (s : List T) (gs : List (List T)) (guard : ℕ) (ts : List T) → guard ≢ 0 → set (s ∷ gs) guard ts ≡ s ∷ set gs (guard - 1) ts
set_beside s gs zero ts some = absurd (some refl)
set_beside s gs (suc n) ts some = ap (λ i. s ∷ set gs i ts) (omega arith)

-- a table is pushed, or for want of memory it isn't
pub pushed_or_not : {T E : Type 0} (r : Result (Unit {0}) E) (old new : List T) (t : T) → OnOk r (new ≡ old ++ t ∷ []) → OnErr r (new ≡ old)
    → (new ≡ old ++ t ∷ []) ⊎ (new ≡ old)
pushed_or_not (Ok x) old new t ok err = inl ok
pushed_or_not (Err e) old new t ok err = inr err

-- the level after such a push
pub pushed_in : {T : Type 0} (row : T → TableRow) (t : T) (g : Guards T) (guard : ℕ) (new : List T) → IsLevel row g
    → guard ≡ guard_of (row t).smallest g.keys → LiesIn g.keys (guard_of (row t).smallest g.keys) (row t)
    → (new ≡ tables_of g guard ++ t ∷ []) ⊎ (new ≡ tables_of g guard)
    → IsLevel row (record { keys = g.keys; tables = set g.tables guard new })
pushed_in row t g guard new level is lies (inl pushed) = rw (pushed, is) (appended row t g level lies)
pushed_in row t g guard new level is lies (inr same) = rw same (with_tables row g guard (tables_of g guard) level (rw is (omega (arith, guard_bound (row t).smallest g.keys, level.each))) (level.inside guard))

-- a key isn't empty
pub some_key : (key : Bytes) → 0 < length key → key_lt [] key ≡ true
some_key [] some = absurd (omega (arith, some))
some_key (b ∷ bs) some = refl

-- ---- whether a key is a guard, by the key at its guard

not_same : (a b : Bytes) → key_lt a b ≡ true → key_eq a b ≡ false
not_same a b lt = other_key a b (λ same. let twice : key_lt b b ≡ true = subst (λ c. key_lt c b ≡ true) same lt in true≢false (sym twice ∙ lt_asym b b twice))

-- keys above another don't have it
others_above : (key low : Bytes) (keys : List Bytes) → key_lt key low ≡ true → Ascend low keys → is_guard key (low ∷ keys) ≡ false
others_above key low [] below h = rw (not_same key low below) refl
others_above key low (k ∷ ks) below h = rw (not_same key low below) (others_above key k ks (lt_trans key low k below h.0) h.1)

-- a key of the sentinel is none of them
pub none_found : (low key : Bytes) (keys : List Bytes) → Ascend low keys → guard_of key keys ≡ 0 → is_guard key keys ≡ false
none_found low key [] h is = refl
none_found low key (k ∷ ks) h is = by (key_lt key k) refl is
  where
    by : (b : Bool) → key_lt key k ≡ b → (if b then 0 else suc (guard_of key ks)) ≡ 0 → is_guard key (k ∷ ks) ≡ false
    by true e is = others_above key k ks e h.1
    by false e is = absurd (omega (arith, is))

-- the keys behind a key are above it
behind_key : (low : Bytes) (keys : List Bytes) → Ascend low keys → guard_of low keys ≡ 0
behind_key low [] h = refl
behind_key low (k ∷ ks) h = rw h.0 refl

-- another key is one of them exactly where it is the key of its guard
pub one_found : (low key : Bytes) (keys : List Bytes) (n : ℕ) (d : Bytes) → Ascend low keys → guard_of key keys ≡ suc n → is_guard key keys ≡ key_eq key (get_or keys n d)
one_found low key [] n d h is = absurd (omega (arith, is))
one_found low key (k ∷ ks) n d h is = by (key_lt key k) is (λ m. one_found k key ks m d h.1)
  where
    other : (m : ℕ) → guard_of key ks ≡ suc m → key_eq key k ≡ false
    other m is = other_key key k (λ same. let none : guard_of key ks ≡ 0 = ap (λ x. guard_of x ks) same ∙ behind_key k ks h.1 in absurd (omega (arith, is, none)))

    at : (n : ℕ) → guard_of key ks ≡ n → ((m : ℕ) → guard_of key ks ≡ suc m → is_guard key ks ≡ key_eq key (get_or ks m d))
        → (key_eq key k || is_guard key ks) ≡ key_eq key (get_or (k ∷ ks) n d)
    at zero is on = rw (none_found k key ks h.1 is) (or-false (key_eq key k))
    at (suc m) is on = rw (other m is) (on m is)

    by : (b : Bool) → (if b then 0 else suc (guard_of key ks)) ≡ suc n → ((m : ℕ) → guard_of key ks ≡ suc m → is_guard key ks ≡ key_eq key (get_or ks m d))
        → (key_eq key k || is_guard key ks) ≡ key_eq key (get_or (k ∷ ks) n d)
    by true is on = absurd (omega (arith, is))
    by false is on = at n (omega (arith, is)) on
