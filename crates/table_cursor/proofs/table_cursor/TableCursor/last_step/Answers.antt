use Rattle.std.proofs.Common.{◌≡◌, ◌-◌, ◌<◌, ◌∙◌, suc, length, ap, arith}
use Rattle.table_file.specs.Form.{blocks_of}
use Rattle.table_cursor.specs.Standing.{entries_before}
use Rattle.table_cursor.specs.Steps.{where_block}
use Rattle.table_cursor.proofs.Blocks.{length-items}
use Rattle.table_cursor.proofs.Moves.{last_block}
use Rattle.table_cursor.proofs.table_cursor.TableCursor.last_step.Goals as goal

pub returns-clause-leads : goal.returns-clause-leads
returns-clause-leads g c = λ es holds.
    let blocks = blocks_of holds.full es in
    let whole = c.law_blocks.ensures.joined holds.full es holds.least holds.most holds.table.sorted in
    let count : c.blocks-2.result ≡ length blocks = c.blocks-2.ensures.count ∙ ap (λ t. length t.items) c.deref.ensures ∙ ap length holds.table.items_are ∙ length-items 0 blocks in
    let any : 0 < length blocks = omega (arith, c.blocks-2.ensures.some, ap (λ t. length t.items) c.deref.ensures, ap length holds.table.items_are, length-items 0 blocks) in
    ap (λ n. where_block (n - 1) blocks (entries_before (suc (n - 1)) blocks - 1)) count ∙ last_block blocks es whole (omega (arith, holds.table.row_is.some)) any
