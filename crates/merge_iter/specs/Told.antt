-- What the inputs of a merge tell of their last moves.
use Rattle.std.specs.Prelude.{◌≡◌, ℕ, ◌<◌, Bool, List, [], ◌∷◌, Option, Some, None, Result, Ok, Err, get_or, length, map}
use Rattle.peb_base.specs.declared.cursor.Cursor.{Ghosts}
use Rattle.peb_base.specs.declared.read_fault.ReadFault.{ReadFault}
use Rattle.merge_iter.specs.Heads.{IsChosen}
use Rattle.merge_iter.specs.Moves.{Of}
use Rattle.merge_iter.specs.Standing.{Merged}

-- the first that is there
abbrev pub first_some : {A : Type 0} → List (Option A) → Option A
first_some [] = None
first_some (None ∷ os) = first_some os
first_some (Some a ∷ os) = Some a

module _ {C : Type 0} (g : Ghosts C) where
  -- none of them refused its last move
  abbrev pub NoneRefused : List C → Type 0
  NoneRefused inputs = (k : ℕ) (d : C) → k < length inputs → g.refused (get_or inputs k d) ≡ None

  -- one of them refused its last move with just this
  abbrev pub OneRefused : ReadFault → List C → Type 0
  OneRefused e inputs =
      (k : ℕ) × (k < length inputs) × ((d : C) → g.refused (get_or inputs k d) ≡ Some e)

  -- the first refusal among their last moves
  abbrev pub first_refusal : List C → Option ReadFault
  first_refusal inputs = first_some (map g.refused inputs)

  -- of moves of each of them, or of the one at a place alone: after Ok none that was moved refused,
  -- and the others are as they were; after Err one refused with just that
  abbrev pub Told : Option ℕ → List C → List C → Result (Unit {0}) ReadFault → Type 0
  Told only old new (Ok x) = Of (λ a b. g.refused b ≡ None) only old new
  Told only old new (Err e) = OneRefused e new

  -- it goes in this direction, and its current input is the first in it, or no input has an entry
  abbrev pub HasChosen : Bool → Merged C → Type 0
  HasChosen back m = (m.is_back ≡ back) × IsChosen back (map g.shows m.inputs) m.current
