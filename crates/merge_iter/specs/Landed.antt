-- A move of inputs that the merge took in.
use Rattle.std.specs.Prelude.{◌≡◌, Bool, List, None, Result, OnOk, OnErr, map}
use Rattle.peb_base.specs.declared.cursor.Cursor.{Ghosts}
use Rattle.peb_base.specs.declared.read_fault.ReadFault.{ReadFault}
use Rattle.merge_iter.specs.Heads.{IsChosen}
use Rattle.merge_iter.specs.Moves.{AllWent}
use Rattle.merge_iter.specs.Standing.{Merged}

-- the inputs were moved, and after Ok the first of them in a direction is current, else none
pub record Landed {C : Type 0} (g : Ghosts C) (R : List C → List C → Type 0) (back : Bool)
    (old new : Merged C) (result : Result (Unit {0}) ReadFault) : Type 0 where
  pub went : AllWent g R old.inputs new.inputs result
  pub chosen : OnOk result (IsChosen back (map g.shows new.inputs) new.current)
  pub direction : OnOk result (new.is_back ≡ back)
  pub nothing : OnErr result (new.current ≡ None)
