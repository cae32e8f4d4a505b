use Rattle.std.proofs.Common.{◌≡◌, ◌++◌, take, map}
use Rattle.std.specs.List.{AllByRecursion}
use Rattle.version_set.specs.Contents.{ContentsStay}
use Rattle.version_set.proofs.changing.share_onto.Given as goal

abbrev pub invariant-loop-table : goal.invariant-loop-table
invariant-loop-table g l = record {
  rows : map g.T.HasRow.the_row l.shared.items ≡ map g.T.HasRow.the_row l.initial.shared.items ++ map g.T.HasRow.the_row (take l.table-index l.tables);
  contents : ContentsStay g.T.HasRow.the_row g.T.HasRow.holds (λ P. AllByRecursion P l.initial.shared.items × AllByRecursion P l.tables) (λ P. AllByRecursion P l.shared.items);
}
