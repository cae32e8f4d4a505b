use Rattle.std.proofs.Common.{drop, Global}
use Rattle.std.specs.Arc.{arc_value}
use Rattle.std.specs.declared.sync.Arc.{Arc}
use Rattle.peb_base.specs.declared.table_row.TableRow.{TableRow}
use Rattle.guard_level.specs.declared.tests.Bare.{Bare}
use Rattle.guard_level.specs.Guards.{IsUncut}
use Rattle.guard_level.proofs.tests.cut.Given as goal

abbrev pub row_of : Arc Bare Global → TableRow
row_of table = (arc_value {X = Bare} table).row

abbrev pub invariant-loop-table : goal.invariant-loop-table
invariant-loop-table g l = IsUncut row_of l.key (drop l.table-index l.table-items) → IsUncut row_of l.key l.table-items
