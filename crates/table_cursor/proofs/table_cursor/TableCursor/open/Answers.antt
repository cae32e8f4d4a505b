use Rattle.table_file.specs.Form.{blocks_of}
use Rattle.table_cursor.proofs.Moves.{nothing_shown}
use Rattle.table_cursor.proofs.table_cursor.TableCursor.open.Goals as goal

pub returns-clause-stands : goal.returns-clause-stands
returns-clause-stands g c = λ es told holds.
    let whole = c.law_blocks.ensures.joined holds.full es holds.least holds.most holds.table.sorted in
    let are = c.law_blocks.ensures.blocks holds.full es holds.least holds.most holds.table.sorted in
    record { told = told; holds = holds; on = nothing_shown c.new.result 0 (blocks_of holds.full es) es whole are c.new.ensures }
