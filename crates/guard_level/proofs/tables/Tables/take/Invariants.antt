use Rattle.std.proofs.Common.{◌≡◌, drop}
use Rattle.guard_level.specs.TableLists.{IsAbsent}
use Rattle.guard_level.proofs.tables.Tables.take.Given as goal

abbrev pub invariant-loop-at : goal.invariant-loop-at
invariant-loop-at g l = record {
  same : l.self-inside.items ≡ l.initial.self-inside.items;
  absent : IsAbsent g.T.HasRow.the_row l.number (drop l.at l.self-inside.items.items) → IsAbsent g.T.HasRow.the_row l.number l.self-inside.items.items;
}
