use Rattle.std.proofs.Common.{◌∙◌, ◌++◌, map, subst, take}
use Rattle.std.proofs.lemmas.List.{take_all}
use Rattle.version_set.specs.Shapes.{HasTables}
use Rattle.version_set.specs.Contents.{HoldsContent}
use Rattle.version_set.proofs.Cuts.{rows_on}
use Rattle.version_set.proofs.Parts.{all_item}
use Rattle.version_set.proofs.building.place_all.Goals as goal

pub loop-table-preserved : goal.loop-table-preserved
loop-table-preserved g c =
    let row = g.T.HasRow.the_row in
    let tables = c.args.tables.now in
    let i = c.loop-table.table-index in
    record {
      keys_are = c.in_ok-place.ensures.keys ∙ c.loop-table.invariant.keys_are;
      stands = λ guards live begun. subst (HasTables row (record { top = c.place.new.top.items; levels = c.place.new.levels.items }) guards)
          (rows_on row live tables i c.table-item.result c.loop-table-test.true c.table-item.is)
          (c.in_ok-place.ensures.stands guards (live ++ map row (take i tables)) (c.loop-table.invariant.stands guards live begun));
      contents = λ content h. c.in_ok-place.ensures.contents content
          (c.loop-table.invariant.contents content h, all_item (HoldsContent row g.T.HasRow.holds content) tables i c.table-item.result h.1 c.loop-table-test.true c.table-item.is);
    }

pub returns-clause-stands : goal.returns-clause-stands
returns-clause-stands g c = λ guards live begun.
    subst (λ ts. HasTables g.T.HasRow.the_row (record { top = c.loop-table.top.items; levels = c.loop-table.levels.items }) guards (live ++ map g.T.HasRow.the_row ts))
    (take_all c.loop-table.table-index c.args.tables.now c.loop-table-test.false) (c.loop-table.invariant.stands guards live begun)
