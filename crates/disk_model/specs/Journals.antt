-- What calls do with journals.
use Rattle.std.specs.Prelude.{◌≤◌}
use Rattle.peb_base.specs.Faults.{Rose}
use Rattle.disk_model.specs.Images.{Elapses}
use Rattle.disk_model.specs.declared.journal.Journal.{Ghosts}

-- time goes on for the journal, it is steady where it was, and the call failed by it only where its
-- count of faults rose
pub record GoesOn {J : Type 0} (g : Ghosts J) (old new : J) (failed : Type 0) : Type 0 where
  pub time : Elapses (g.moment old) (g.moment new) (g.left_since old) (g.left_since new)
  pub steady : g.steady old → g.steady new
  pub later : g.faults old ≤ g.faults new
  pub cause : failed → Rose (g.faults old) (g.faults new)
