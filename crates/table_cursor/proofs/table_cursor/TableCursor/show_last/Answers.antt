use Rattle.std.proofs.Common.{◌-◌, ◌<◌, ◌∙◌, suc, length, sym, ap, subst}
use Rattle.table_file.specs.Form.{blocks_of}
use Rattle.table_cursor.specs.Standing.{entries_before, OnPage}
use Rattle.table_cursor.specs.Steps.{where_block}
use Rattle.table_cursor.proofs.Ends.{not_none}
use Rattle.table_cursor.proofs.Moves.{moved_last}
use Rattle.table_cursor.proofs.table_cursor.TableCursor.show_last.Goals as goal

pub returns-then-not-is_empty-clause-leads : goal.returns-then-not-is_empty-clause-leads
returns-then-not-is_empty-clause-leads g c = λ es holds told.
    let blocks = blocks_of holds.full es in
    let shown = c.show.new.self in
    let some : 0 < length shown.page.entries = not_none (length shown.page.entries) c.is_empty.result c.if-not-is_empty.true c.is_empty.ensures.1 in
    subst (λ page. OnPage page shown.index blocks es (where_block c.args.index blocks (entries_before (suc c.args.index) blocks - 1)))
    (ap (λ n. record shown.page { place = n - 1 }) (sym c.len.ensures) ∙ sym c.go.ensures)
    (moved_last shown.page c.args.index shown.index blocks es _ (c.in-Ok.ensures.leads es holds told) c.show.ensures.index some)
