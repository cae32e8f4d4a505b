use Rattle.std.proofs.Common.{◌<◌, length, arith}
use Rattle.table_file.specs.Form.{blocks_of}
use Rattle.table_cursor.proofs.Ends.{not_none}
use Rattle.table_cursor.proofs.Moves.{previous_block}
use Rattle.table_cursor.proofs.table_cursor.TableCursor.previous_step.Goals as goal

pub returns-clause-leads : goal.returns-clause-leads
returns-clause-leads g c = λ es holds place on.
    let cursor = c.args.self.now in
    let some : 0 < length cursor.page.entries = not_none (length cursor.page.entries) c.is_empty.result c.if-is_empty.false c.is_empty.ensures.1 in
    previous_block cursor.page cursor.index (blocks_of holds.full es) es place on some (omega arith) (omega arith)
