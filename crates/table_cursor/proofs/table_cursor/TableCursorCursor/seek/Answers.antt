use Rattle.std.proofs.Common.{ap}
use Rattle.std.specs.Arc.{arc_value}
use Rattle.table_cursor.proofs.Standings.{stands_on}
use Rattle.table_cursor.proofs.table_cursor.TableCursorCursor.seek.Goals as goal

pub returns-clause-goes : goal.returns-clause-goes
returns-clause-goes g c = λ es place stands.
    let cursor = c.args.self.now in
    let new = c.go_to-moved.new.self in
    stands_on g.P.File.TableHandle (arc_value cursor.table) (arc_value new.table) new.page new.index es stands.holds _ c.go_to-moved.result stands.told
    (ap arc_value c.go_to-moved.ensures.turns.table) (c.go_to-moved.ensures.leads es stands.holds stands.told)
