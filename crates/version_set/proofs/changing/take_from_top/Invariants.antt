use Rattle.std.proofs.Common.{◌≡◌, List, drop, map}
use Rattle.std.specs.List.{AllByRecursion}
use Rattle.peb_base.specs.declared.table_row.TableRow.{TableRow}
use Rattle.version_set.specs.Changes.{AreInputs}
use Rattle.version_set.specs.Contents.{ContentsStay}
use Rattle.version_set.proofs.Taken.{Taking}
use Rattle.version_set.proofs.changing.take_from_top.Given as goal

abbrev pub invariant-loop-number : goal.invariant-loop-number
invariant-loop-number g l = record {
  taking : (rows : List TableRow) → map g.T.HasRow.the_row l.initial.tables.items ≡ rows → AreInputs l.numbers rows
      → Taking g.T.HasRow.the_row (λ left. map g.T.HasRow.the_row l.tables.items ≡ left) l.gone.items (drop l.number-index l.numbers) l.numbers rows;
  contents : ContentsStay g.T.HasRow.the_row g.T.HasRow.holds (λ P. AllByRecursion P l.initial.tables.items) (λ P. AllByRecursion P l.tables.items × AllByRecursion P l.gone.items);
}
