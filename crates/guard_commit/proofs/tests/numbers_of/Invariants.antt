use Rattle.std.proofs.Common.{◌≡◌, take, map}
use Rattle.std.specs.Arc.{arc_value}
use Rattle.guard_commit.specs.Cutting.{rows_of}
use Rattle.guard_commit.proofs.tests.numbers_of.Given as goal

abbrev pub invariant-loop-table : goal.invariant-loop-table
invariant-loop-table g l =
    l.numbers.items ≡ map (λ row. row.number) (rows_of (map arc_value (take l.table-index l.tables)))
