use Rattle.std.proofs.Common.{◌-◌, length, ap, subst, arith}
use Rattle.std.specs.Arc.{arc_value}
use Rattle.peb_base.specs.Cursors.{LeadsTo}
use Rattle.table_file.specs.Form.{blocks_of}
use Rattle.table_cursor.specs.Standing.{OnPage}
use Rattle.table_cursor.proofs.Standings.{stands_on}
use Rattle.table_cursor.proofs.table_cursor.TableCursorCursor.last.Goals as goal

pub returns-clause-goes : goal.returns-clause-goes
returns-clause-goes g c = λ es place stands.
    let cursor = c.args.self.now in
    let new = c.go-moved.new.self in
    let blocks = blocks_of stands.holds.full es in
    stands_on g.P.File.TableHandle (arc_value cursor.table) (arc_value new.table) new.page new.index es stands.holds _ c.go-moved.result stands.told
    (ap arc_value c.go-moved.ensures.turns.table)
    (subst (λ p. LeadsTo (OnPage new.page new.index blocks es) p c.go-moved.result) (c.last_step-step.ensures.leads es stands.holds) (c.go-moved.ensures.leads es stands.holds place stands.on stands.told))

pub returns-clause-unread : goal.returns-clause-unread
returns-clause-unread g c = λ here some.
    let cursor = c.args.self.now in
    c.go-moved.ensures.unread (length (arc_value cursor.table).items - 1) c.last_step-step.ensures.last
    (omega (arith, here)) some
