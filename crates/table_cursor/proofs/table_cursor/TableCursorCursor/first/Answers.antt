use Rattle.std.proofs.Common.{ap, subst}
use Rattle.std.specs.Arc.{arc_value}
use Rattle.peb_base.specs.Cursors.{LeadsTo}
use Rattle.table_file.specs.Form.{blocks_of}
use Rattle.table_cursor.specs.Standing.{OnPage}
use Rattle.table_cursor.proofs.Moves.{first_block}
use Rattle.table_cursor.proofs.Standings.{stands_on}
use Rattle.table_cursor.proofs.table_cursor.TableCursorCursor.first.Goals as goal

pub returns-clause-goes : goal.returns-clause-goes
returns-clause-goes g c = λ es place stands.
    let cursor = c.args.self.now in
    let new = c.show-moved.new.self in
    let blocks = blocks_of stands.holds.full es in
    stands_on g.P.File.TableHandle (arc_value cursor.table) (arc_value new.table) new.page new.index es stands.holds _ c.show-moved.result stands.told
    (ap arc_value c.show-moved.ensures.turns.table)
    (subst (λ p. LeadsTo (OnPage new.page new.index blocks es) p c.show-moved.result) (first_block blocks es stands.on.whole stands.holds.table.row_is.some) (c.show-moved.ensures.leads es stands.holds stands.told))
