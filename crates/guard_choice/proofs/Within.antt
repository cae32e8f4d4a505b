-- Candidates in a range.
use Rattle.std.proofs.Common.{◌≡◌, ℕ, zero, suc, Bool, true, false, ◌&&◌, ◌||◌, not, List, [], ◌∷◌, map, filter, take, drop, cond, refl, sym, ap, ◌∙◌, subst, inl, inr, nat_le, Option, Some, None}
use Rattle.std.proofs.Math.Bool.{and-false, and-true, and_assoc}
use Rattle.std.proofs.Math.Seq.{take-length}
use Rattle.std.proofs.lemmas.Bool.{both_ways, or_cases, and_parts, and_from, not-true}
use Rattle.std.specs.List.{AllByRecursion}
use Rattle.peb_base.specs.Keys.{Bytes, key_lt, key_le, key_eq}
use Rattle.peb_base.specs.KeyLaws.{same_key, lt_le_weak, le_lt}
use Rattle.flsm_model.specs.Ranges.{in_range, has_key, keys_ascend}
use Rattle.flsm_model.specs.declared.chosen.Chosen.{Chosen}
use Rattle.guard_choice.specs.Candidates.{Ascend}
use Rattle.flsm_model.specs.Fits.{is_candidate}
use Rattle.guard_choice.specs.Sorted.{end_in, place_in}
use Rattle.guard_choice.proofs.Places.{AreAbove}

-- ---- parts of ascending keys

above-take : (key : Bytes) (n : ℕ) (cs : List Chosen) → AreAbove key cs → AreAbove key (take n cs)
above-take key zero cs above = tt
above-take key (suc n) [] above = tt
above-take key (suc n) (c ∷ cs) above = (above.0, above-take key n cs above.1)

above-filter : (key : Bytes) (test : Chosen → Bool) (cs : List Chosen) → AreAbove key cs → AreAbove key (filter test cs)
above-filter key test [] above = tt
above-filter key test (c ∷ cs) above = by (test c) (above-filter key test cs above.1)
  where
    by : (b : Bool) → AreAbove key (filter test cs) → AreAbove key (cond b (c ∷ filter test cs) (filter test cs))
    by true ih = (above.0, ih)
    by false ih = ih

pub ascend-drop : (n : ℕ) (cs : List Chosen) → Ascend cs → Ascend (drop n cs)
ascend-drop zero cs ascend = ascend
ascend-drop (suc n) [] ascend = tt
ascend-drop (suc n) (c ∷ cs) ascend = ascend-drop n cs ascend.1

ascend-take : (n : ℕ) (cs : List Chosen) → Ascend cs → Ascend (take n cs)
ascend-take zero cs ascend = tt
ascend-take (suc n) [] ascend = tt
ascend-take (suc n) (c ∷ cs) ascend = (above-take c.key n cs ascend.0, ascend-take n cs ascend.1)

ascend-filter : (test : Chosen → Bool) (cs : List Chosen) → Ascend cs → Ascend (filter test cs)
ascend-filter test [] ascend = tt
ascend-filter test (c ∷ cs) ascend = by (test c) (ascend-filter test cs ascend.1)
  where
    by : (b : Bool) → Ascend (filter test cs) → Ascend (cond b (c ∷ filter test cs) (filter test cs))
    by true ih = (above-filter c.key test cs ascend.0, ih)
    by false ih = ih

keys-ascend : (cs : List Chosen) → Ascend cs → keys_ascend (map (λ c. c.key) cs) ≡ true
keys-ascend [] ascend = refl
keys-ascend (c ∷ []) ascend = refl
keys-ascend (c ∷ d ∷ cs) ascend = and_from _ _ ascend.0.0 (keys-ascend (d ∷ cs) ascend.1)

-- ---- candidates of a part

-- a candidate among keys above one that isn't below lo isn't below lo
held-le : (lo : Bytes) (cs : List Chosen) (level : ℕ) (key : Bytes) → AllByRecursion (λ d. key_le lo d.key ≡ true) cs → is_candidate cs level key ≡ true → key_le lo key ≡ true
held-le lo [] level key le held = absurd (both_ways false refl held)
held-le lo (c ∷ cs) level key le held = elim (or_cases _ _ held) [
  | inl here ↦ subst (λ k. key_le lo k ≡ true) (sym (same_key key c.key (and_parts (nat_le c.level level) (key_eq key c.key) here).1)) le.0
  | inr later ↦ held-le lo cs level key le.1 later
]

above-all_le : (lo key : Bytes) (cs : List Chosen) → key_le lo key ≡ true → AreAbove key cs → AllByRecursion (λ d. key_le lo d.key ≡ true) cs
above-all_le lo key [] le above = tt
above-all_le lo key (c ∷ cs) le above = (lt_le_weak lo c.key (le_lt lo key c.key le above.0), above-all_le lo key cs le above.1)

-- x, where it implies y
with-implied : (x y : Bool) → (x ≡ true → y ≡ true) → x ≡ (x && y)
with-implied true y implies = sym (implies refl)
with-implied false y implies = refl

unmoved : (p rest y : Bool) → (p ≡ true → y ≡ false) → (rest && y) ≡ ((p || rest) && y)
unmoved true rest y no_more = rw (no_more refl) (and-false rest)
unmoved false rest y no_more = refl

moved : (p rest y : Bool) → (p ≡ true → y ≡ true) → (p || (rest && y)) ≡ ((p || rest) && y)
moved true rest y implies = sym (implies refl)
moved false rest y implies = refl

never-both : (x y : Bool) → (x ≡ true → y ≡ false) → false ≡ (x && y)
never-both true y no_more = sym (no_more refl)
never-both false y no_more = refl

-- the key of a candidate that is this one
same-as : (c : Chosen) (level : ℕ) (key : Bytes) → (nat_le c.level level && key_eq key c.key) ≡ true → c.key ≡ key
same-as c level key here = sym (same_key key c.key (and_parts (nat_le c.level level) (key_eq key c.key) here).1)

pub candidate-drop : (lo : Bytes) (cs : List Chosen) (level : ℕ) (key : Bytes) → Ascend cs → is_candidate (drop (place_in lo cs) cs) level key ≡ (is_candidate cs level key && key_le lo key)
candidate-drop lo [] level key ascend = refl
candidate-drop lo (c ∷ cs) level key ascend = by (key_lt c.key lo) refl (candidate-drop lo cs level key ascend.1)
  where
    by : (b : Bool) → key_lt c.key lo ≡ b → is_candidate (drop (place_in lo cs) cs) level key ≡ (is_candidate cs level key && key_le lo key)
        → is_candidate (drop (cond b (suc (place_in lo cs)) 0) (c ∷ cs)) level key ≡ (is_candidate (c ∷ cs) level key && key_le lo key)
    by true less ih = ih ∙ unmoved (nat_le c.level level && key_eq key c.key) (is_candidate cs level key) (key_le lo key) (λ here. ap not (subst (λ k. key_lt k lo ≡ true) (same-as c level key here) less))
    by false least ih = with-implied (is_candidate (c ∷ cs) level key) (key_le lo key)
        (held-le lo (c ∷ cs) level key (ap not least, above-all_le lo c.key cs (ap not least) ascend.0))

pub candidate-take : (hi : Bytes) (cs : List Chosen) (level : ℕ) (key : Bytes) → Ascend cs → is_candidate (take (place_in hi cs) cs) level key ≡ (is_candidate cs level key && key_lt key hi)
candidate-take hi [] level key ascend = refl
candidate-take hi (c ∷ cs) level key ascend = by (key_lt c.key hi) refl (candidate-take hi cs level key ascend.1)
  where
    by : (b : Bool) → key_lt c.key hi ≡ b → is_candidate (take (place_in hi cs) cs) level key ≡ (is_candidate cs level key && key_lt key hi)
        → is_candidate (take (cond b (suc (place_in hi cs)) 0) (c ∷ cs)) level key ≡ (is_candidate (c ∷ cs) level key && key_lt key hi)
    by true less ih =
        ap (λ r. (nat_le c.level level && key_eq key c.key) || r) ih
        ∙ moved (nat_le c.level level && key_eq key c.key) (is_candidate cs level key) (key_lt key hi) (λ here. subst (λ k. key_lt k hi ≡ true) (same-as c level key here) less)
    by false least ih = never-both (is_candidate (c ∷ cs) level key) (key_lt key hi) (λ held.
        not-true (key_lt key hi) (held-le hi (c ∷ cs) level key (ap not least, above-all_le hi c.key cs (ap not least) ascend.0) held))

-- ---- the keys that are given

pub has-kept : (cs : List Chosen) (level : ℕ) (key : Bytes) → has_key key (map (λ c. c.key) (filter (λ c. nat_le c.level level) cs)) ≡ is_candidate cs level key
has-kept [] level key = refl
has-kept (c ∷ cs) level key = by (nat_le c.level level) (has-kept cs level key)
  where
    by : (b : Bool) → has_key key (map (λ c. c.key) (filter (λ c. nat_le c.level level) cs)) ≡ is_candidate cs level key
        → has_key key (map (λ c. c.key) (cond b (c ∷ filter (λ c. nat_le c.level level) cs) (filter (λ c. nat_le c.level level) cs))) ≡ ((b && key_eq key c.key) || is_candidate cs level key)
    by true ih = ap (λ r. key_eq key c.key || r) ih
    by false ih = ih

pub kept-ascend : (n : ℕ) (cs : List Chosen) (level : ℕ) → Ascend cs → keys_ascend (map (λ c. c.key) (filter (λ c. nat_le c.level level) (take n cs))) ≡ true
kept-ascend n cs level ascend = keys-ascend (filter (λ c. nat_le c.level level) (take n cs)) (ascend-filter (λ c. nat_le c.level level) (take n cs) (ascend-take n cs ascend))

pub has-within : (cs : List Chosen) (lo : Bytes) (hi : Option Bytes) (level : ℕ) (key : Bytes) → Ascend cs
    → is_candidate (take (end_in hi (drop (place_in lo cs) cs)) (drop (place_in lo cs) cs)) level key ≡ (is_candidate cs level key && in_range lo hi key)
has-within cs lo None level key ascend =
    let rest = drop (place_in lo cs) cs in
    ap (λ l. is_candidate l level key) (take-length rest) ∙ candidate-drop lo cs level key ascend ∙ ap (λ b. is_candidate cs level key && b) (sym (and-true (key_le lo key)))
has-within cs lo (Some hi) level key ascend =
    let rest = drop (place_in lo cs) cs in
    candidate-take hi rest level key (ascend-drop (place_in lo cs) cs ascend)
    ∙ ap (λ b. b && key_lt key hi) (candidate-drop lo cs level key ascend)
    ∙ and_assoc (is_candidate cs level key) (key_le lo key) (key_lt key hi)
