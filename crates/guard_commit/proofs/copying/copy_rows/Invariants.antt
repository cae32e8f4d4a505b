use Rattle.std.proofs.Common.{◌≡◌, take, map}
use Rattle.std.specs.Arc.{arc_value}
use Rattle.guard_commit.specs.Cutting.{rows_of}
use Rattle.guard_commit.proofs.copying.copy_rows.Given as goal

abbrev pub invariant-loop-table : goal.invariant-loop-table
invariant-loop-table g l = l.copies.items ≡ rows_of (map arc_value (take l.table-index l.tables))
