-- Where a key stands among ascending ones.
use Rattle.std.proofs.Common.{◌≡◌, ℕ, zero, suc, ◌<◌, ◌≤◌, Bool, true, false, ◌&&◌, ◌||◌, not, List, [], ◌∷◌, length, get_or, refl, sym, ap, ◌∙◌, subst, arith, nat_le}
use Rattle.std.proofs.Math.Bool.{and-false, or-false}
use Rattle.std.proofs.lemmas.Bool.{both_ways, false_from_ne_true}
use Rattle.std.specs.List.{AllByRecursion}
use Rattle.std.specs.List.Sorted.{IsPartitionedBy, IsPartitionPoint}
use Rattle.peb_base.specs.Keys.{Bytes, key_lt, key_le, key_eq}
use Rattle.peb_base.specs.KeyLaws.{lt_trans, le_lt, lt_asym, same_key}
use Rattle.flsm_model.specs.declared.chosen.Chosen.{Chosen}
use Rattle.guard_choice.specs.Candidates.{Ascend}
use Rattle.flsm_model.specs.Fits.{is_candidate}
use Rattle.guard_choice.specs.Sorted.{place_in}

-- each key comes after this one
abbrev pub AreAbove : Bytes → List Chosen → Type 0
AreAbove key cs = AllByRecursion (λ d. key_lt key d.key ≡ true) cs

pub above-at : (key : Bytes) (cs : List Chosen) (i : ℕ) (d : Chosen) → AreAbove key cs → i < length cs → key_lt key (get_or cs i d).key ≡ true
above-at key [] i d above within = absurd (omega arith)
above-at key (c ∷ cs) zero d above within = above.0
above-at key (c ∷ cs) (suc i) d above within = above-at key cs i d above.1 (omega arith)

pub above-from : (a b : Bytes) (cs : List Chosen) → key_lt a b ≡ true → AreAbove b cs → AreAbove a cs
above-from a b [] less above = tt
above-from a b (c ∷ cs) less above = (lt_trans a b c.key less above.0, above-from a b cs less above.1)

pub above-le : (a b : Bytes) (cs : List Chosen) → key_le a b ≡ true → AreAbove b cs → AreAbove a cs
above-le a b [] le above = tt
above-le a b (c ∷ cs) le above = (le_lt a b c.key le above.0, above-le a b cs le above.1)

-- ---- the search

pub parted : (key : Bytes) (cs : List Chosen) → Ascend cs → IsPartitionedBy (λ c. key_lt c.key key) cs
parted key [] ascend i j d le within less = absurd (omega arith)
parted key (c ∷ cs) ascend zero zero d le within less = less
parted key (c ∷ cs) ascend zero (suc j) d le within less = lt_trans c.key (get_or cs j d).key key (above-at c.key cs j d ascend.0 (omega arith)) less
parted key (c ∷ cs) ascend (suc i) zero d le within less = absurd (omega arith)
parted key (c ∷ cs) ascend (suc i) (suc j) d le within less = parted key cs ascend.1 i j d (omega arith) (omega arith) less

pub point-place : (key : Bytes) (cs : List Chosen) (i : ℕ) → i ≤ length cs → IsPartitionPoint (λ c. key_lt c.key key ≡ true) (λ c. key_lt c.key key ≡ false) cs i → i ≡ place_in key cs
point-place key [] i within point = omega arith
point-place key (c ∷ cs) zero within point = rw (point.1 0 c (omega arith) (omega arith)) refl
point-place key (c ∷ cs) (suc i) within point =
    rw (point.0 0 c (omega arith) (omega arith)) (ap suc (point-place key cs i (omega arith) (λ k d from to. point.0 (suc k) d (omega arith) (omega arith), λ k d from to. point.1 (suc k) d (omega arith) (omega arith))))

-- ---- candidates

irreflexive : (k : Bytes) → key_lt k k ≡ false
irreflexive k = false_from_ne_true (key_lt k k) (λ h. both_ways (key_lt k k) (lt_asym k k h) h)

-- a key that comes before another one isn't the same
pub lt-ne : (a b : Bytes) → key_lt a b ≡ true → key_eq a b ≡ false
lt-ne a b less = false_from_ne_true (key_eq a b) (λ same. both_ways (key_lt a b) (subst (λ k. key_lt a k ≡ false) (same_key a b same) (irreflexive a)) less)

pub lt-ne_back : (a b : Bytes) → key_lt a b ≡ true → key_eq b a ≡ false
lt-ne_back a b less = false_from_ne_true (key_eq b a) (λ same. both_ways (key_lt a b) (subst (λ k. key_lt k b ≡ false) (same_key b a same) (irreflexive b)) less)

pub none-above : (cs : List Chosen) (level : ℕ) (key : Bytes) → AreAbove key cs → is_candidate cs level key ≡ false
none-above [] level key above = refl
none-above (c ∷ cs) level key above = rw (lt-ne key c.key above.0, and-false) (none-above cs level key above.1)

-- a search finds the one of its key, if there is one
found-candidate : (cs : List Chosen) (level : ℕ) (key : Bytes) (d : Chosen) → Ascend cs → place_in key cs < length cs
    → is_candidate cs level key ≡ (nat_le (get_or cs (place_in key cs) d).level level && key_eq key (get_or cs (place_in key cs) d).key)
found-candidate [] level key d ascend within = absurd (omega arith)
found-candidate (c ∷ cs) level key d ascend within = by (key_lt c.key key) refl (found-candidate cs level key d ascend.1)
  where
    by : (b : Bool) → key_lt c.key key ≡ b → (place_in key cs < length cs → is_candidate cs level key ≡ (nat_le (get_or cs (place_in key cs) d).level level && key_eq key (get_or cs (place_in key cs) d).key))
        → is_candidate (c ∷ cs) level key ≡ (nat_le (get_or (c ∷ cs) (place_in key (c ∷ cs)) d).level level && key_eq key (get_or (c ∷ cs) (place_in key (c ∷ cs)) d).key)
    by true less ih = rw (less, lt-ne_back c.key key less, and-false) (ih (let w : place_in key (c ∷ cs) < suc (length cs) = within in let v : suc (place_in key cs) < suc (length cs) = rw less at w in omega arith))
    by false least ih = rw least (ap (λ b. (nat_le c.level level && key_eq key c.key) || b) (none-above cs level key (above-le key c.key cs (ap not least) ascend.0)) ∙ or-false _)

absent-candidate : (cs : List Chosen) (level : ℕ) (key : Bytes) → Ascend cs → length cs ≤ place_in key cs → is_candidate cs level key ≡ false
absent-candidate [] level key ascend past = refl
absent-candidate (c ∷ cs) level key ascend past = by (key_lt c.key key) refl (absent-candidate cs level key ascend.1)
  where
    by : (b : Bool) → key_lt c.key key ≡ b → (length cs ≤ place_in key cs → is_candidate cs level key ≡ false) → is_candidate (c ∷ cs) level key ≡ false
    by true less ih = rw (lt-ne_back c.key key less, and-false) (ih (let v : suc (length cs) ≤ suc (place_in key cs) = rw less at past in omega arith))
    by false least ih = let v : suc (length cs) ≤ 0 = rw least at past in absurd (omega arith)

pub found-at : (cs : List Chosen) (level : ℕ) (key : Bytes) (d : Chosen) (at : ℕ) → Ascend cs → at ≡ place_in key cs → at < length cs → d ≡ get_or cs at d
    → is_candidate cs level key ≡ (nat_le d.level level && key_eq key d.key)
found-at cs level key d at ascend is within here =
    subst (λ n. n < length cs → d ≡ get_or cs n d → is_candidate cs level key ≡ (nat_le d.level level && key_eq key d.key)) (sym is)
    (λ inside holds. found-candidate cs level key d ascend inside ∙ ap (λ x. nat_le x.level level && key_eq key x.key) (sym holds)) within here

pub absent-at : (cs : List Chosen) (level : ℕ) (key : Bytes) (at : ℕ) → Ascend cs → at ≡ place_in key cs → length cs ≤ at → is_candidate cs level key ≡ false
absent-at cs level key at ascend is past = absent-candidate cs level key ascend (omega (arith, is, past))
