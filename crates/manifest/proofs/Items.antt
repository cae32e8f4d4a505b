-- The items of a list, one after another.
use Rattle.std.proofs.Common.{◌≡◌, ◌≢◌, ℕ, suc, ◌<◌, List, [], ◌∷◌, ◌++◌, length, sym, ap, ◌∙◌, arith, append_assoc}
use Rattle.std.proofs.lemmas.List.{append-nil}
use Rattle.std.specs.Prelude.{flat_map}
use Rattle.std.specs.List.{AllByRecursion}
use Rattle.std.proofs.lemmas.Grind.{flat_map-append}
use Rattle.manifest.specs.Fields.{AreApart}

-- items whose bytes are what is left, so many, with these bytes behind them
pub record Leaves {X : Type 0} (fits : X → Type 0) (bytes_of : X → List ℕ) (left : ℕ) (rest tail : List ℕ) : Type 0 where
  pub items : List X
  pub each : AllByRecursion fits items
  pub counted : length items ≡ left
  pub are : rest ≡ flat_map bytes_of items ++ tail

less : {X : Type 0} (fits : X → Type 0) (bytes_of : X → List ℕ) (items : List X) (left next : ℕ) (rest tail : List ℕ) (x : X) (behind : List ℕ) → AreApart fits bytes_of → AllByRecursion fits items → length items ≡ left → rest ≡ flat_map bytes_of items ++ tail → suc next ≡ left → fits x → rest ≡ bytes_of x ++ behind
    → Leaves fits bytes_of next behind tail
less fits bytes_of [] left next rest tail x behind apart each counts are is fits_x found = absurd (omega (arith, counts))
less fits bytes_of (first ∷ items) left next rest tail x behind apart each counts are is fits_x found =
    let same = apart.one x first behind (flat_map bytes_of items ++ tail) fits_x each.0 (sym found ∙ are ∙ append_assoc (bytes_of first) (flat_map bytes_of items) tail) in
    record { items = items; each = each.1; counted = omega (arith, counts); are = same.1 }

-- one item less of what is left
pub leaves_less : {X : Type 0} {fits : X → Type 0} {bytes_of : X → List ℕ} {left : ℕ} {rest tail : List ℕ} (next : ℕ) (x : X) (behind : List ℕ) → AreApart fits bytes_of → Leaves fits bytes_of left rest tail → suc next ≡ left → fits x → rest ≡ bytes_of x ++ behind → Leaves fits bytes_of next behind tail
leaves_less {X} {fits} {bytes_of} {left} {rest} {tail} next x behind apart leaves is fits_x found =
    less fits bytes_of leaves.items left next rest tail x behind apart leaves.each leaves.counted leaves.are is fits_x found

none_left : {X : Type 0} (fits : X → Type 0) (bytes_of : X → List ℕ) (items : List X) (left : ℕ) (rest tail : List ℕ) → AllByRecursion fits items → length items ≡ left → rest ≡ flat_map bytes_of items ++ tail → 0 < left → ((x : X) (more : List ℕ) → fits x → rest ≢ bytes_of x ++ more) → ⊥
none_left fits bytes_of [] left rest tail each counts are some none = omega (arith, counts)
none_left fits bytes_of (first ∷ items) left rest tail each counts are some none = none first (flat_map bytes_of items ++ tail) each.0 (are ∙ append_assoc (bytes_of first) (flat_map bytes_of items) tail)

-- what is left is no item
pub leaves_none : {X : Type 0} {fits : X → Type 0} {bytes_of : X → List ℕ} {left : ℕ} {rest tail : List ℕ} → Leaves fits bytes_of left rest tail → 0 < left → ((x : X) (more : List ℕ) → fits x → rest ≢ bytes_of x ++ more) → ⊥
leaves_none {X} {fits} {bytes_of} {left} {rest} {tail} leaves some none = none_left fits bytes_of leaves.items left rest tail leaves.each leaves.counted leaves.are some none

pub all-push : {X : Type 0} (fits : X → Type 0) (xs : List X) (x : X) → AllByRecursion fits xs → fits x → AllByRecursion fits (xs ++ x ∷ [])
all-push fits [] x each is = (is, tt)
all-push fits (first ∷ xs) x each is = (each.0, all-push fits xs x each.1 is)

pub flat-push : {X : Type 0} (bytes_of : X → List ℕ) (xs : List X) (x : X) → flat_map bytes_of (xs ++ x ∷ []) ≡ flat_map bytes_of xs ++ bytes_of x
flat-push bytes_of xs x = flat_map-append bytes_of xs (x ∷ []) ∙ ap (λ l. flat_map bytes_of xs ++ l) (append-nil (bytes_of x))

-- one item more of what was read
pub so_far-push : {X : Type 0} (bytes_of : X → List ℕ) (xs : List X) (x : X) (rest behind bytes : List ℕ) → flat_map bytes_of xs ++ rest ≡ bytes → rest ≡ bytes_of x ++ behind → flat_map bytes_of (xs ++ x ∷ []) ++ behind ≡ bytes
so_far-push bytes_of xs x rest behind bytes so_far found =
    ap (λ l. l ++ behind) (flat-push bytes_of xs x) ∙ append_assoc (flat_map bytes_of xs) (bytes_of x) behind ∙ ap (λ l. flat_map bytes_of xs ++ l) (sym found) ∙ so_far
