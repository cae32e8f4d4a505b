use Rattle.table_cursor.specs.Views.{table_of, index_of, page_of}
use Rattle.table_cursor.specs.WalkLaws.{walk_behind}
use Rattle.table_cursor.proofs.laws.law_walk_ascends.Goals as goal

pub returns : goal.returns
returns g c = λ es e walks there.
    let cursor = c.args.cursor.now in
    walk_behind g.P.File.TableHandle (table_of cursor) (index_of cursor) (page_of cursor) es e cursor.shown cursor.sorted walks there
