use Rattle.std.proofs.Common.{◌≡◌, ◌+◌, ◌<◌, ◌∙◌, length, ap, arith, Some}
use Rattle.table_file.specs.Form.{blocks_of}
use Rattle.table_cursor.specs.Standing.{entries_before}
use Rattle.table_cursor.proofs.Blocks.{length-items}
use Rattle.table_cursor.proofs.Ends.{not_none}
use Rattle.table_cursor.proofs.Moves.{next_within, next_block, next_none}
use Rattle.table_cursor.proofs.table_cursor.TableCursor.next_step.Goals as goal

pub returns-then-place-last-clause-leads : goal.returns-then-place-last-clause-leads
returns-then-place-last-clause-leads g c = λ es holds place on.
    let cursor = c.args.self.now in
    ap (λ n. Some (entries_before cursor.index (blocks_of holds.full es) + (n + 1))) c.place-then-place-last.ensures
    ∙ next_within cursor.page cursor.index (blocks_of holds.full es) es place on (omega arith)

pub returns-then-self-last-clause-leads : goal.returns-then-self-last-clause-leads
returns-then-self-last-clause-leads g c = λ es holds place on.
    let cursor = c.args.self.now in
    let some : 0 < length cursor.page.entries = not_none (length cursor.page.entries) c.is_empty.result c.if-is_empty.false c.is_empty.ensures.1 in
    let inside = (cursor.shown some).inside in
    let count : c.blocks-last.result ≡ length (blocks_of holds.full es) =
    c.blocks-last.ensures.count ∙ ap (λ t. length t.items) c.deref.ensures ∙ ap length holds.table.items_are ∙ length-items 0 (blocks_of holds.full es) in
    next_block cursor.page cursor.index (blocks_of holds.full es) es place on inside (omega arith) (omega arith)

pub returns-clause-leads : goal.returns-clause-leads
returns-clause-leads g c = λ es holds place on.
    let cursor = c.args.self.now in
    let some : 0 < length cursor.page.entries = not_none (length cursor.page.entries) c.is_empty.result c.if-is_empty.false c.is_empty.ensures.1 in
    let inside = (cursor.shown some).inside in
    let count : c.blocks-last.result ≡ length (blocks_of holds.full es) =
    c.blocks-last.ensures.count ∙ ap (λ t. length t.items) c.deref.ensures ∙ ap length holds.table.items_are ∙ length-items 0 (blocks_of holds.full es) in
    next_none cursor.page cursor.index (blocks_of holds.full es) es place on inside (omega arith) (omega arith)
