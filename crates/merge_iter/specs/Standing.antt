-- Where merged cursors stand among the entries of all of them.
use Rattle.std.specs.Prelude.{◌≡◌, ℕ, ◌<◌, Bool, List, Option, Some, None, length, get_or}
use Rattle.peb_base.specs.declared.entry.Entry.{Entry}
use Rattle.peb_base.specs.declared.read_fault.ReadFault.{ReadFault}
use Rattle.merge_iter.specs.Cuts.{beside, Falls}
use Rattle.merge_iter.specs.Parts.{AreParts}

-- a merge: its inputs, which of them shows the current entry, in which direction it goes, and what it
-- refused with
pub record Merged (C : Type 0) : Type 0 where
  pub inputs : List C
  pub current : Option ℕ
  pub is_back : Bool
  pub refused : Option ReadFault

-- each input stands at its place among its own entries
abbrev pub StandEach : {C : Type 0} → (C → List Entry → Option ℕ → Type 0) → List C
    → (ℕ → List Entry)
    → (ℕ → Option ℕ) → Type 0
StandEach {C} stands inputs part at =
    (k : ℕ) (d : C) → k < length inputs → stands (get_or inputs k d) (part k) (at k)

-- one cut leaves each input at its place, and the whole at its own
pub record IsAtCut (back : Bool) (count : ℕ) (part : ℕ → List Entry) (at : ℕ → Option ℕ)
    (es : List Entry) (place : Option ℕ) : Type 0 where
  pub cut : Entry → Bool
  pub falls : Falls cut
  pub each : (k : ℕ) → k < count → at k ≡ beside back cut (part k)
  pub whole : place ≡ beside back cut es

-- the places of the inputs and of the whole; without a current input the whole is at no place
abbrev pub IsHere : {C : Type 0} → Merged C → (ℕ → List Entry) → (ℕ → Option ℕ) → List Entry
    → Option ℕ → Option ℕ → Type 0
IsHere m part at es place None = place ≡ None
IsHere m part at es place (Some i) = IsAtCut m.is_back (length m.inputs) part at es place

-- the entries are those of all inputs, no two of which have one in common, and the merge stands at this
-- place among them
pub record Stands {C : Type 0} (stands : C → List Entry → Option ℕ → Type 0) (m : Merged C)
    (es : List Entry) (place : Option ℕ) : Type 0 where
  pub part : ℕ → List Entry
  pub parts : AreParts es (length m.inputs) part
  pub at : ℕ → Option ℕ
  pub each : StandEach stands m.inputs part at
  pub here : IsHere m part at es place m.current
