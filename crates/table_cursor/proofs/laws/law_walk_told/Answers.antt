use Rattle.table_cursor.specs.Views.{table_of, index_of, page_of}
use Rattle.table_cursor.proofs.WalkEnds.{walk_told}
use Rattle.table_cursor.proofs.laws.law_walk_told.Goals as goal

pub returns : goal.returns
returns g c = λ es walked place stands walks.
    let cursor = c.args.cursor.now in
    let holds = stands.holds in
    let whole = c.law_blocks.ensures.joined holds.full es holds.least holds.most holds.table.sorted in
    let are = c.law_blocks.ensures.blocks holds.full es holds.least holds.most holds.table.sorted in
    walk_told g.P.File.TableHandle (table_of cursor) c.one_block.ensures es holds stands.told whole are (index_of cursor) (page_of cursor) walked place (λ some. (cursor.shown some).inside) stands.on walks
