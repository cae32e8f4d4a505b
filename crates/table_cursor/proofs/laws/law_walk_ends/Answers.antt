use Rattle.table_cursor.specs.Views.{table_of, index_of, page_of}
use Rattle.table_cursor.proofs.WalkEnds.{walk_ends}
use Rattle.table_cursor.proofs.laws.law_walk_ends.Goals as goal

pub returns : goal.returns
returns g c = λ es walks none.
    let cursor = c.args.cursor.now in
    walk_ends g.P.File.TableHandle (table_of cursor) (index_of cursor) (page_of cursor) es (λ some. (cursor.shown some).inside) c.blocks-2.ensures.some walks none
