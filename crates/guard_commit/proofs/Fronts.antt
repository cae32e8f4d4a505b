-- The entries in front of a place.
use Rattle.std.proofs.Common.{◌≡◌, inl, inr, ℕ, zero, suc, ◌+◌, ◌<◌, ◌≤◌, Bool, true, false, List, [], ◌∷◌, ◌++◌, length, take, drop, Option, Some, None, refl, sym, ap, ◌∙◌, arith, length-append}
use Rattle.std.proofs.lemmas.List.{take_all, take-append-drop}
use Rattle.std.proofs.lemmas.Bool.Decides.{nat_tests}
use Rattle.std.proofs.lemmas.List.Sums.{sum_by-append}
use Rattle.std.specs.Prelude.{slice_get, nat_lt, if◌then◌else◌}
use Rattle.peb_base.specs.Cursors.{place_in, first_place, next_place, entry_at, StandsAmong}
use Rattle.peb_base.specs.Entries.{value_of}
use Rattle.peb_base.specs.Tables.{IsRowOf}
use Rattle.peb_base.specs.declared.entry.Entry.{Entry}
use Rattle.peb_base.specs.declared.table_row.TableRow.{TableRow}
use Rattle.guard_commit.specs.Reading.{IsPassedBy}
use Rattle.table_cursor.specs.Walking.{in_front}
use Rattle.table_cursor.specs.WalkLaws.{take_on}

-- the place, or none where the list ends
at_place : (es : List Entry) (n : ℕ) → n ≤ length es → in_front (place_in es n) es ≡ take n es
at_place es n le = by (nat_lt n (length es)) refl
  where
    by : (b : Bool) → nat_lt n (length es) ≡ b
        → in_front (if b then Some n else None) es ≡ take n es
    by true is = refl
    by false is =
        let ge : length es ≤ n = grind (arith, nat_tests, is) in sym (take_all n es ge)

-- in front of the first place stands nothing
pub front_first : (es : List Entry) → in_front (first_place es) es ≡ []
front_first es = at_place es 0 (omega arith)

-- one step on, the entry at the place stands in front too
pub front_next : (es : List Entry) (place : Option ℕ) (e : Entry) → entry_at es place ≡ Some e
    → in_front (next_place es place) es ≡ in_front place es ++ e ∷ []
front_next es None e there = cc
front_next es (Some n) e there =
    at_place es (suc n) (inside es n there) ∙ take_on es n e there
  where
    inside : (xs : List Entry) (n : ℕ) → slice_get xs n ≡ Some e → suc n ≤ length xs
    inside [] n h = cc
    inside (x ∷ xs) zero h = omega arith
    inside (x ∷ xs) (suc n) h = omega (arith, inside xs n h)

-- in front of no place stand all
pub front_none : (es : List Entry) (place : Option ℕ) → StandsAmong es place None
    → in_front place es ≡ es
front_none es None among = refl
front_none es (Some n) among = absurd (never es n among.inside (sym among.shows))
  where
    never : (xs : List Entry) (n : ℕ) → n < length xs → slice_get xs n ≡ None → ⊥
    never [] n lt h = omega (arith, lt)
    never (x ∷ xs) zero lt h = cc
    never (x ∷ xs) (suc n) lt h = never xs n (omega (arith, lt)) h

-- what stands in front is a front
pub front_of : (es : List Entry) (place : Option ℕ) → (rest : List Entry)
    × (in_front place es ++ rest ≡ es)
front_of es None = ([], nil es)
  where
    nil : (xs : List Entry) → xs ++ [] ≡ xs
    nil [] = refl
    nil (x ∷ xs) = ap (λ (l : List Entry). x ∷ l) (nil xs)
front_of es (Some n) = (drop n es, take-append-drop n es)

-- a front of a row's entries doesn't pass the row
pub front_fits : (row : TableRow) (es rest : List Entry) → IsRowOf row (es ++ rest)
    → IsPassedBy row es → ⊥
front_fits row es rest is (inl h) = omega (arith, h, is.entries, length-append es rest)
front_fits row es rest is (inr h) =
    omega (arith, h, is.raw, sum_by-append (λ (e : Entry). length e.key + length (value_of e.change)) es rest)
