use Rattle.std.proofs.Common.{◌≡◌, ◌++◌, List, take, map}
use Rattle.peb_base.specs.declared.table_row.TableRow.{TableRow}
use Rattle.std.specs.List.{AllByRecursion}
use Rattle.version_set.specs.Shapes.{HasRows}
use Rattle.version_set.specs.Changes.{EachTable}
use Rattle.version_set.specs.Contents.{ContentsStay}
use Rattle.version_set.proofs.changing.append_all.Given as goal

abbrev pub invariant-loop-table : goal.invariant-loop-table
invariant-loop-table g l = record {
  keys_are : l.level.keys ≡ l.initial.level.keys;
  rows : (rows : List TableRow) → HasRows g.T.HasRow.the_row l.initial.level rows → HasRows g.T.HasRow.the_row l.level (rows ++ map g.T.HasRow.the_row (take l.table-index l.tables));
  contents : ContentsStay g.T.HasRow.the_row g.T.HasRow.holds (λ P. EachTable P l.initial.level × AllByRecursion P l.tables) (λ P. EachTable P l.level);
}
