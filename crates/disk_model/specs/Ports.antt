-- What devices and calls do with ports.
use Rattle.std.specs.Prelude.{◌≡◌, ℕ, ◌+◌, ◌≤◌}
use Rattle.peb_base.specs.Faults.{Rose}
use Rattle.disk_model.specs.declared.port.Port.{Ghosts}
use Rattle.disk_model.specs.Told.{TablesTold}

-- a port over the table files that are told, by which nothing was read, and which is steady where
-- they are
pub record IsNewPort {P F : Type 0} (g : Ghosts P F) (told : TablesTold) (port : P) : Type 0 where
  pub files : g.table_files port ≡ told.files
  pub no_faults : g.faults port ≡ 0
  pub no_reads : g.reads port ≡ 0
  pub is_steady : told.steady → g.steady port

-- so many reads at most: the port has its tables still and is steady where it was, its counts never
-- fell, and the call failed by it only where that of faults rose
pub record ReadsAtMost {P F : Type 0} (g : Ghosts P F) (most : ℕ) (old new : P)
    (failed : Type 0) : Type 0 where
  pub files : g.table_files new ≡ g.table_files old
  pub no_fewer : g.reads old ≤ g.reads new
  pub reads : g.reads new ≤ g.reads old + most
  pub steady : g.steady old → g.steady new
  pub later : g.faults old ≤ g.faults new
  pub cause : failed → Rose (g.faults old) (g.faults new)
