use Rattle.std.proofs.Common.{◌∙◌, ◌∷◌, ◌++◌, [], ap, map}
use Rattle.std.proofs.lemmas.List.{map-append}
use Rattle.version_set.proofs.Cuts.{rows_on}
use Rattle.version_set.proofs.Holding.{share_step}
use Rattle.version_set.proofs.changing.share_onto.Goals as goal

pub loop-table-preserved : goal.loop-table-preserved
loop-table-preserved g c =
    let row = g.T.HasRow.the_row in
    let tables = c.args.tables.now in
    let i = c.loop-table.table-index in
    let begun = c.args.shared.now.items in
    let old = c.loop-table.shared.items in
    let handle = c.in_ok-handle.handle in
    record {
      rows = ap (map row) c.in_ok-push.ensures.items ∙ map-append row old (handle ∷ []) ∙ ap (λ r. map row old ++ r ∷ []) c.in_ok-handle.ensures.row
          ∙ ap (λ rs. rs ++ row c.table-item.result ∷ []) c.loop-table.invariant.rows ∙ rows_on row (map row begun) tables i c.table-item.result c.loop-table-test.true c.table-item.is;
      contents = share_step row g.T.HasRow.holds begun old c.push.new.self.items tables c.table-item.result handle c.in_ok-handle.ensures.row c.in_ok-handle.ensures.entries c.in_ok-push.ensures.items
          i c.loop-table-test.true c.table-item.is c.loop-table.invariant.contents;
    }
