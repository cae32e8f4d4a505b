use Rattle.std.proofs.Common.{◌≡◌, List, drop}
use Rattle.peb_base.specs.declared.table_row.TableRow.{TableRow}
use Rattle.version_set.specs.Shapes.{HasRows}
use Rattle.std.specs.List.{AllByRecursion}
use Rattle.version_set.specs.Changes.{AreInputs, EachTable}
use Rattle.version_set.specs.Contents.{ContentsStay}
use Rattle.version_set.proofs.Taken.{Taking}
use Rattle.version_set.proofs.changing.take_all.Given as goal

abbrev pub invariant-loop-number : goal.invariant-loop-number
invariant-loop-number g l = record {
  keys : l.level.keys ≡ l.initial.level.keys;
  taking : (rows : List TableRow) → HasRows g.T.HasRow.the_row l.initial.level rows → AreInputs l.numbers rows
      → Taking g.T.HasRow.the_row (HasRows g.T.HasRow.the_row l.level) l.gone.items (drop l.number-index l.numbers) l.numbers rows;
  contents : ContentsStay g.T.HasRow.the_row g.T.HasRow.holds (λ P. EachTable P l.initial.level) (λ P. EachTable P l.level × AllByRecursion P l.gone.items);
}
