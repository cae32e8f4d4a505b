-- What a job does with its port, whose forks it joins.
use Rattle.std.specs.Prelude.{◌≡◌, ◌≤◌}
use Rattle.disk_model.specs.Tables.{capped}
use Rattle.disk_model.specs.declared.port.Port.{Ghosts}

-- the port has its tables still and is steady where it was, and its counts, which stay at 2^64 - 1,
-- never fell
pub record HasJoined {P F : Type 0} (g : Ghosts P F) (old new : P) : Type 0 where
  pub files : g.table_files new ≡ g.table_files old
  pub reads : g.reads old ≤ g.reads new
  pub steady : g.steady old → g.steady new
  pub later : capped (g.faults old) ≤ g.faults new
