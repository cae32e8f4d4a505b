use Rattle.std.proofs.Common.{◌≡◌, drop}
use Rattle.guard_level.specs.TableLists.{IsAbsent}
use Rattle.version_set.proofs.changing.take_table.Given as goal

abbrev pub invariant-loop-at : goal.invariant-loop-at
invariant-loop-at g l = record {
  same : l.tables ≡ l.initial.tables;
  absent : IsAbsent g.T.HasRow.the_row l.number (drop l.at l.tables.items) → IsAbsent g.T.HasRow.the_row l.number l.tables.items;
}
