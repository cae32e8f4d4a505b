use Rattle.std.proofs.Common.{◌++◌, List, drop}
use Rattle.std.specs.List.{AllZip}
use Rattle.guard_level.specs.TableLists.{AreShared}
use Rattle.guard_level.proofs.level.share_all.Given as goal

abbrev pub invariant-loop-tables : goal.invariant-loop-tables
invariant-loop-tables g l =
    (more : List _) → AllZip (AreShared g.T.HasRow.the_row g.T.HasRow.holds) (drop l.tables-index l.guards) more
    → AllZip (AreShared g.T.HasRow.the_row g.T.HasRow.holds) l.guards (l.shared.items ++ more)
