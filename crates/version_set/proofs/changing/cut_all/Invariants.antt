use Rattle.std.proofs.Common.{◌≡◌, ◌≤◌, List, length, drop}
use Rattle.std.specs.List.{AllByRecursion}
use Rattle.peb_base.specs.declared.table_row.TableRow.{TableRow}
use Rattle.flsm_model.specs.Ranges.{with_keys}
use Rattle.version_set.specs.Shapes.{HasRows}
use Rattle.version_set.specs.Changes.{EachTable, IsWhole}
use Rattle.version_set.specs.Contents.{ContentsStay}
use Rattle.version_set.proofs.changing.cut_all.Given as goal

abbrev pub invariant-loop-left : goal.invariant-loop-left
invariant-loop-left g l = record {
  within : l.left ≤ length l.keys;
  keys_are : l.level.keys ≡ with_keys (drop l.left l.keys) l.initial.level.keys;
  rows : (rows : List TableRow) → HasRows g.T.HasRow.the_row l.initial.level rows → HasRows g.T.HasRow.the_row l.level rows;
  whole : AllByRecursion (λ key. EachTable (λ t. IsWhole key (g.T.HasRow.the_row t)) l.level) l.keys;
  contents : ContentsStay g.T.HasRow.the_row g.T.HasRow.holds (λ P. EachTable P l.initial.level) (λ P. EachTable P l.level);
}

abbrev pub decreases-loop-left : goal.decreases-loop-left
decreases-loop-left g l = l.left
