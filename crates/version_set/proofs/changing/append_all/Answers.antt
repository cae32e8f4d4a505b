use Rattle.std.proofs.Common.{◌∙◌, ◌++◌, take, map, subst}
use Rattle.std.proofs.lemmas.List.{take_all}
use Rattle.version_set.specs.Shapes.{HasRows}
use Rattle.version_set.specs.Contents.{HoldsContent}
use Rattle.version_set.proofs.Cuts.{rows_on}
use Rattle.version_set.proofs.Parts.{all_item}
use Rattle.version_set.proofs.changing.append_all.Goals as goal

pub loop-table-preserved : goal.loop-table-preserved
loop-table-preserved g c =
    let row = g.T.HasRow.the_row in
    let tables = c.args.tables.now in
    let i = c.loop-table.table-index in
    record {
      keys_are = c.in_ok-append_one.ensures.keys ∙ c.loop-table.invariant.keys_are;
      rows = λ rows each. subst (HasRows row c.append_one.new.level) (rows_on row rows tables i c.table-item.result c.loop-table-test.true c.table-item.is)
          (c.in_ok-append_one.ensures.rows (rows ++ map row (take i tables)) (c.loop-table.invariant.rows rows each));
      contents = λ content h. c.in_ok-append_one.ensures.contents content
          (c.loop-table.invariant.contents content h, all_item (HoldsContent row g.T.HasRow.holds content) tables i c.table-item.result h.1 c.loop-table-test.true c.table-item.is);
    }

pub returns-clause-rows : goal.returns-clause-rows
returns-clause-rows g c = λ rows each.
    subst (λ ts. HasRows g.T.HasRow.the_row c.loop-table.level (rows ++ map g.T.HasRow.the_row ts)) (take_all c.loop-table.table-index c.args.tables.now c.loop-table-test.false)
    (c.loop-table.invariant.rows rows each)
