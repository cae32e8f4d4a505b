use Rattle.std.proofs.Common.{◌++◌, List, drop}
use Rattle.guard_level.specs.TableLists.{AreShared}
use Rattle.guard_level.proofs.tables.Tables.share.Given as goal

abbrev pub invariant-loop-table : goal.invariant-loop-table
invariant-loop-table g l =
    (more : List _) → AreShared g.T.HasRow.the_row g.T.HasRow.holds (drop l.table-index l.table-items) more
    → AreShared g.T.HasRow.the_row g.T.HasRow.holds l.self (l.items.items ++ more)
