-- Ascending keys: where a key belongs, which lie in a range, and the ranges that they bound.
use Rattle.std.proofs.Common.{◌≡◌, ℕ, zero, suc, ◌-◌, ◌<◌, ◌≤◌, ◌≢◌, Bool, true, false, ◌&&◌, ◌||◌, not, cond, List, [], ◌∷◌, length, get_or, take, drop, refl, sym, ap, ◌∙◌, subst, arith}
use Rattle.std.specs.Prelude.{filter, Option, Some, None}
use Rattle.std.specs.List.{slice_get}
use Rattle.std.specs.List.Sorted.{IsPartitionedBy, IsPartitionPoint}
use Rattle.std.proofs.Math.Seq.{take-length}
use Rattle.std.proofs.lemmas.Bool.{both_ways, false_from_ne_true}
use Rattle.peb_base.specs.Guards.{Ascend}
use Rattle.peb_base.specs.Keys.{Bytes, key_lt, key_le, key_eq}
use Rattle.peb_base.specs.KeyLaws.{lt_trans, lt_asym, le_lt, lt_le_weak, same_key}
use Rattle.flsm_model.specs.GuardRanges.{range_from}
use Rattle.flsm_model.specs.Ranges.{has_key, in_range, is_below}
use Rattle.job_picker.specs.Places.{place_in, end_in}

-- ---- ascending keys

-- keys above a bound are above each lower one
pub ascend_from : (a b : Bytes) (ks : List Bytes) → key_le a b ≡ true → Ascend b ks → Ascend a ks
ascend_from a b [] le up = tt
ascend_from a b (k ∷ ks) le up = (le_lt a b k le up.0, up.1)

-- later keys ascend from the same bound
pub ascend_drop : (low : Bytes) (n : ℕ) (ks : List Bytes) → Ascend low ks → Ascend low (drop n ks)
ascend_drop low zero ks up = up
ascend_drop low (suc n) [] up = tt
ascend_drop low (suc n) (k ∷ ks) up = ascend_drop low n ks (ascend_from low k ks (lt_le_weak low k up.0) up.1)

-- each key is above the bound
above_at : (low : Bytes) (ks : List Bytes) (i : ℕ) (d : Bytes) → Ascend low ks → i < length ks → key_lt low (get_or ks i d) ≡ true
above_at low [] i d up within = absurd (omega arith)
above_at low (k ∷ ks) zero d up within = up.0
above_at low (k ∷ ks) (suc i) d up within = lt_trans low k (get_or ks i d) up.0 (above_at k ks i d up.1 (omega arith))

-- those before a key come in front
pub parted : (low key : Bytes) (ks : List Bytes) → Ascend low ks → IsPartitionedBy (λ k. key_lt k key) ks
parted low key [] up i j d le within less = absurd (omega arith)
parted low key (k ∷ ks) up zero zero d le within less = less
parted low key (k ∷ ks) up zero (suc j) d le within less = lt_trans k (get_or ks j d) key (above_at k ks j d up.1 (omega arith)) less
parted low key (k ∷ ks) up (suc i) zero d le within less = absurd (omega arith)
parted low key (k ∷ ks) up (suc i) (suc j) d le within less = parted k key ks up.1 i j d (omega arith) (omega arith) less

-- where they end is the place of the key
pub point_place : (key : Bytes) (ks : List Bytes) (i : ℕ) → i ≤ length ks → IsPartitionPoint (λ k. key_lt k key ≡ true) (λ k. key_lt k key ≡ false) ks i → i ≡ place_in key ks
point_place key [] i within point = omega arith
point_place key (k ∷ ks) zero within point = rw (point.1 0 k (omega arith) (omega arith)) refl
point_place key (k ∷ ks) (suc i) within point =
    rw (point.0 0 k (omega arith) (omega arith)) (ap suc (point_place key ks i (omega arith) (λ n d from to. point.0 (suc n) d (omega arith) (omega arith), λ n d from to. point.1 (suc n) d (omega arith) (omega arith))))

-- ---- a key among them

-- no key comes before itself
irreflexive : (k : Bytes) → key_lt k k ≡ false
irreflexive k = false_from_ne_true (key_lt k k) (λ h. both_ways (key_lt k k) (lt_asym k k h) h)

-- keys of which one comes before the other differ
lower_other : (a b : Bytes) → key_lt a b ≡ true → key_eq a b ≡ false
lower_other a b less = false_from_ne_true (key_eq a b) (λ same. both_ways (key_lt a b) (subst (λ k. key_lt a k ≡ false) (same_key a b same) (irreflexive a)) less)

-- and the other way round
higher_other : (a b : Bytes) → key_lt b a ≡ true → key_eq a b ≡ false
higher_other a b less = false_from_ne_true (key_eq a b) (λ same. both_ways (key_lt b a) (subst (λ k. key_lt b k ≡ false) (sym (same_key a b same)) (irreflexive b)) less)

-- a key at or below the bound is none of them
none_above : (key low : Bytes) (ks : List Bytes) → key_le key low ≡ true → Ascend low ks → has_key key ks ≡ false
none_above key low [] le up = refl
none_above key low (k ∷ ks) le up =
    let less : key_lt key k ≡ true = le_lt key low k le up.0 in
    ap (λ b. b || has_key key ks) (lower_other key k less) ∙ none_above key k ks (lt_le_weak key k less) up.1

-- a key is among them exactly where it stands at its place
pub found : (low key : Bytes) (ks : List Bytes) (d : Bytes) → Ascend low ks → place_in key ks < length ks → has_key key ks ≡ key_eq key (get_or ks (place_in key ks) d)
found low key [] d up within = absurd (omega arith)
found low key (k ∷ ks) d up within = by (key_lt k key) refl within (found k key ks d up.1)
  where
    or_false : (a : Bool) → (a || false) ≡ a
    or_false true = refl
    or_false false = refl

    by : (b : Bool) → key_lt k key ≡ b → cond b (suc (place_in key ks)) 0 < suc (length ks) → (place_in key ks < length ks → has_key key ks ≡ key_eq key (get_or ks (place_in key ks) d))
        → (key_eq key k || has_key key ks) ≡ key_eq key (get_or (k ∷ ks) (cond b (suc (place_in key ks)) 0) d)
    by true less w rest = ap (λ b. b || has_key key ks) (higher_other key k less) ∙ rest (omega (arith, w))
    by false least w rest = ap (λ b. key_eq key k || b) (none_above key k ks (ap not least) up.1) ∙ or_false (key_eq key k)

-- a key whose place is behind all is none of them
pub absent : (low key : Bytes) (ks : List Bytes) → Ascend low ks → length ks ≤ place_in key ks → has_key key ks ≡ false
absent low key [] up past = refl
absent low key (k ∷ ks) up past = by (key_lt k key) refl past (absent k key ks up.1)
  where
    by : (b : Bool) → key_lt k key ≡ b → suc (length ks) ≤ cond b (suc (place_in key ks)) 0 → (length ks ≤ place_in key ks → has_key key ks ≡ false) → (key_eq key k || has_key key ks) ≡ false
    by true less w rest = ap (λ b. b || has_key key ks) (higher_other key k less) ∙ rest (omega (arith, w))
    by false least w rest = absurd (omega (arith, w))

-- ---- keys in a range

-- the first keys are those below an end
below_end : (low : Bytes) (hi : Option Bytes) (ks : List Bytes) → Ascend low ks → filter (λ k. is_below k hi) ks ≡ take (end_in hi ks) ks
below_end low None ks up = all ks ∙ sym (take-length ks)
  where
    all : (xs : List Bytes) → filter (λ k. true) xs ≡ xs
    all [] = refl
    all (x ∷ xs) = ap (λ ys. x ∷ ys) (all xs)
below_end low (Some hi) [] up = refl
below_end low (Some hi) (k ∷ ks) up = by (key_lt k hi) refl (below_end k (Some hi) ks up.1)
  where
    none : (from : Bytes) (xs : List Bytes) → key_le hi from ≡ true → Ascend from xs → filter (λ x. key_lt x hi) xs ≡ []
    none from [] le up2 = refl
    none from (x ∷ xs) le up2 =
        let less : key_lt hi x ≡ true = le_lt hi from x le up2.0 in
        ap (λ b. cond b (x ∷ filter (λ y. key_lt y hi) xs) (filter (λ y. key_lt y hi) xs)) (lt_asym hi x less) ∙ none x xs (lt_le_weak hi x less) up2.1

    by : (b : Bool) → key_lt k hi ≡ b → filter (λ x. key_lt x hi) ks ≡ take (place_in hi ks) ks
        → cond b (k ∷ filter (λ x. key_lt x hi) ks) (filter (λ x. key_lt x hi) ks) ≡ take (cond b (suc (place_in hi ks)) 0) (k ∷ ks)
    by true less rest = ap (λ ys. k ∷ ys) rest
    by false least rest = none k ks (ap not least) up.1

-- above the start of a range only its end is asked for
past_start : (low lo : Bytes) (hi : Option Bytes) (ks : List Bytes) → key_le lo low ≡ true → Ascend low ks → filter (in_range lo hi) ks ≡ filter (λ k. is_below k hi) ks
past_start low lo hi [] le up = refl
past_start low lo hi (k ∷ ks) le up =
    let less : key_lt lo k ≡ true = le_lt lo low k le up.0 in
    ap (λ b. cond (b && is_below k hi) (k ∷ filter (in_range lo hi) ks) (filter (in_range lo hi) ks)) (lt_le_weak lo k less)
    ∙ ap (λ ys. cond (is_below k hi) (k ∷ ys) ys) (past_start k lo hi ks (lt_le_weak lo k less) up.1)

-- the keys in a range are those from its place on up to the end
pub within_range : (low lo : Bytes) (hi : Option Bytes) (ks : List Bytes) → Ascend low ks
    → filter (in_range lo hi) ks ≡ take (end_in hi (drop (place_in lo ks) ks)) (drop (place_in lo ks) ks)
within_range low lo None [] up = refl
within_range low lo (Some hi) [] up = refl
within_range low lo hi (k ∷ ks) up = by (key_lt k lo) refl (within_range k lo hi ks up.1)
  where
    by : (b : Bool) → key_lt k lo ≡ b → filter (in_range lo hi) ks ≡ take (end_in hi (drop (place_in lo ks) ks)) (drop (place_in lo ks) ks)
        → cond (not b && is_below k hi) (k ∷ filter (in_range lo hi) ks) (filter (in_range lo hi) ks)
        ≡ take (end_in hi (drop (cond b (suc (place_in lo ks)) 0) (k ∷ ks))) (drop (cond b (suc (place_in lo ks)) 0) (k ∷ ks))
    by true less rest = rest
    by false least rest = ap (λ ys. cond (is_below k hi) (k ∷ ys) ys) (past_start k lo hi ks (ap not least) up.1) ∙ below_end low hi (k ∷ ks) up

-- ---- the range of a guard by the keys beside it

-- the range of a later guard goes from the key before it to the next
pub range_past : (lo : Bytes) (keys : List Bytes) (guard : ℕ) (d : Bytes) → guard < length keys → ◌≡◌ {A = Bytes × Option Bytes} (range_from lo keys (suc guard)) (get_or keys guard d, slice_get keys (suc guard))
range_past lo [] guard d within = absurd (omega arith)
range_past lo (k ∷ []) zero d within = refl
range_past lo (k ∷ l ∷ keys) zero d within = refl
range_past lo (k ∷ keys) (suc guard) d within = range_past k keys guard d (omega arith)

-- pairs of the same are the same
pair : {a b : Bytes} {x y : Option Bytes} → a ≡ b → x ≡ y → ◌≡◌ {A = Bytes × Option Bytes} (a, x) (b, y)
pair {a} {b} {x} {y} p q = ap {B = Bytes × Option Bytes} (λ z. (z, x)) p ∙ ap {B = Bytes × Option Bytes} (λ z. (b, z)) q

-- so a guard's range is told by the keys beside it
pub range_beside : (keys : List Bytes) (guard : ℕ) (lo : Bytes) (hi : Option Bytes) → guard ≢ 0 → guard - 1 < length keys → lo ≡ get_or keys (guard - 1) lo → hi ≡ slice_get keys guard
    → ◌≡◌ {A = Bytes × Option Bytes} (lo, hi) (range_from [] keys guard)
range_beside keys zero lo hi some within low high = absurd (some refl)
range_beside keys (suc guard) lo hi some within low high =
    let less : guard < length keys = omega arith in
    pair (low ∙ ap (λ n. get_or keys n lo) (less_one guard)) high ∙ sym (range_past [] keys guard lo less)
  where
    less_one : (n : ℕ) → suc n - 1 ≡ n
    less_one n = omega arith
