use Rattle.std.proofs.Common.{◌≡◌, ◌∙◌, ◌++◌, List, ap, map, subst, sym}
use Rattle.peb_base.specs.declared.table_row.TableRow.{TableRow}
use Rattle.version_set.specs.Changes.{AreInputs, IsTaken}
use Rattle.version_set.proofs.Holding.{top_holds}
use Rattle.version_set.proofs.Stands.{made_top}
use Rattle.version_set.proofs.Taken.{AreRowsOf}
use Rattle.version_set.proofs.changing.change_top.Goals as goal

pub returns-clause-made : goal.returns-clause-made
returns-clause-made g c = λ guards live change may level inputs outputs.
    let row = g.T.HasRow.the_row in
    let shared = c.share_onto.new.shared.items in
    let taken = c.take_from_top.new.tables.items in
    let gone = c.in_ok-gone.gone.items in
    made_top row c.args.version.now c.in_ok-made.made guards live change shared taken c.share_onto-2.new.shared.items gone may level
    (c.in_ok-share_onto.ensures.rows ∙ ap (λ ts. map row ts ++ map row c.top.result.now) c.new-top.ensures.items ∙ ap (map row) c.top.ensures)
    (subst (λ ns. (rows : List TableRow) → map row shared ≡ rows → AreInputs ns rows → IsTaken row (AreRowsOf row taken) gone ns rows) (sym inputs) c.in_ok-gone.ensures.taken)
    (c.in_ok-share_onto-2.ensures.rows ∙ ap (λ rs. map row taken ++ rs) (sym outputs)) c.in_ok-made.ensures

pub returns-clause-contents : goal.returns-clause-contents
returns-clause-contents g c =
    top_holds g.T.HasRow.the_row g.T.HasRow.holds c.args.version.now c.in_ok-made.made c.new-top.result.items c.top.result.now c.share_onto.new.shared.items c.take_from_top.new.tables.items
    c.share_onto-2.new.shared.items c.in_ok-gone.gone.items c.args.tables.now c.new-top.ensures.items c.top.ensures c.in_ok-share_onto.ensures.contents c.in_ok-gone.ensures.contents
    c.in_ok-share_onto-2.ensures.contents c.in_ok-made.ensures
