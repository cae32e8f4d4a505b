-- Where a cursor stands, by what its page shows.
use Rattle.std.proofs.Common.{◌≡◌, ℕ, IsTrue, List, Option, Result, Ok, Err, sym, subst}
use Rattle.peb_base.specs.Cursors.{LeadsTo}
use Rattle.peb_base.specs.declared.entry.Entry.{Entry}
use Rattle.peb_base.specs.declared.read_fault.ReadFault.{ReadFault}
use Rattle.peb_base.specs.declared.read_fault.ReadFault.TheVariants.{Fault, Damaged}
use Rattle.disk_model.specs.declared.table_handle.TableHandle.{Ghosts}
use Rattle.table_file.specs.Form.{blocks_of}
use Rattle.table_file.specs.Tables.{TableParts, Holds}
use Rattle.table_cursor.specs.Page.{Reading}
use Rattle.table_cursor.specs.Standing.{OnPage, StandsAt}

pub stands_on : {F : Type 0} (g : Ghosts F) (t now : TableParts F) (page : Reading) (index : ℕ) (es : List Entry) (holds : Holds g t es) (place : Option ℕ) (r : Result (Unit {0}) ReadFault)
    → IsTrue g.tells → now ≡ t → LeadsTo (OnPage page index (blocks_of holds.full es) es) place r → LeadsTo (StandsAt g now page index es) place r
stands_on g t now page index es holds place r told same goes =
    subst (λ t. LeadsTo (StandsAt g t page index es) place r) (sym same) (by r goes)
  where
    by : (r : Result (Unit {0}) ReadFault) → LeadsTo (OnPage page index (blocks_of holds.full es) es) place r → LeadsTo (StandsAt g t page index es) place r
    by (Ok x) on = record { told = told; holds = holds; on = on }
    by (Err Fault) on = record { told = told; holds = holds; on = on }
    by (Err (Damaged n at)) never = never
