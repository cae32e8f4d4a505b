use Rattle.std.proofs.Common.{◌≡◌, ◌<◌, ◌∙◌, length, sym, ap, subst, arith}
use Rattle.std.specs.Arc.{arc_value}
use Rattle.table_file.specs.Form.{blocks_of}
use Rattle.peb_base.specs.Cursors.{LeadsTo}
use Rattle.table_cursor.specs.Steps.{where_block}
use Rattle.table_cursor.specs.Standing.{entries_before, OnPage}
use Rattle.table_cursor.proofs.Blocks.{length-items}
use Rattle.table_cursor.proofs.Honest.{turned}
use Rattle.table_cursor.proofs.Moves.{nothing_shown, block_outside}
use Rattle.table_cursor.proofs.table_cursor.TableCursor.show.Goals as goal

pub returns-then-index-blocks-clause-leads : goal.returns-then-index-blocks-clause-leads
returns-then-index-blocks-clause-leads g c = λ es holds told.
    let blocks = blocks_of holds.full es in
    let whole = c.law_blocks.ensures.joined holds.full es holds.least holds.most holds.table.sorted in
    let are = c.law_blocks.ensures.blocks holds.full es holds.least holds.most holds.table.sorted in
    let count : c.blocks-2.result ≡ length blocks = c.blocks-2.ensures.count ∙ ap (λ t. length t.items) c.deref.ensures ∙ ap length holds.table.items_are ∙ length-items 0 blocks in
    subst (OnPage c.clear.new.self c.args.index blocks es) (sym (block_outside c.args.index blocks (entries_before c.args.index blocks) (omega (arith, count, c.if-index-blocks.true))))
    (nothing_shown c.clear.new.self c.args.index blocks es whole are c.clear.ensures)

pub returns-clause-leads : goal.returns-clause-leads
returns-clause-leads g c = λ es holds told.
    let whole = c.law_blocks.ensures.joined holds.full es holds.least holds.most holds.table.sorted in
    let are = c.law_blocks.ensures.blocks holds.full es holds.least holds.most holds.table.sorted in
    let lt : c.args.index < length (arc_value c.args.self.now.table).items = omega (arith, c.if-index-blocks.false, c.blocks-2.ensures.count, ap (λ t. length t.items) c.deref.ensures) in
    let turn = c.turn_to.ensures in
    let page = c.turn_to.new.self.page in
    subst (λ index. LeadsTo (OnPage page index (blocks_of holds.full es) es) (where_block c.args.index (blocks_of holds.full es) (entries_before c.args.index (blocks_of holds.full es))) c.turn_to.result) (sym turn.index)
    (turned g.P.File.TableHandle _ es holds told whole are c.one_block.ensures c.args.index page c.turn_to.result lt turn.shows turn.form turn.first turn.turns.nothing turn.damage)
