use Rattle.std.proofs.Common.{◌-◌, ◌<◌, length, ap, subst}
use Rattle.std.specs.Arc.{arc_value}
use Rattle.peb_base.specs.Cursors.{LeadsTo}
use Rattle.peb_base.specs.EntryLaws.{entry_asym}
use Rattle.table_file.specs.Form.{blocks_of}
use Rattle.table_cursor.specs.Agreeing.{ShowsOf}
use Rattle.table_cursor.specs.Standing.{OnPage}
use Rattle.table_cursor.proofs.Neighbours.{falls_off}
use Rattle.table_cursor.proofs.Standings.{stands_on}
use Rattle.table_cursor.proofs.Walked.{GoesWithin, shows_nothing, nothing_there, steps_off}
use Rattle.table_cursor.proofs.table_cursor.TableCursorCursor.prev.Goals as goal

pub returns-clause-goes : goal.returns-clause-goes
returns-clause-goes g c = λ es place stands.
    let cursor = c.args.self.now in
    let new = c.go-moved.new.self in
    let blocks = blocks_of stands.holds.full es in
    stands_on g.P.File.TableHandle (arc_value cursor.table) (arc_value new.table) new.page new.index es stands.holds _ c.go-moved.result stands.told
    (ap arc_value c.go-moved.ensures.turns.table)
    (subst (λ p. LeadsTo (OnPage new.page new.index blocks es) p c.go-moved.result) (c.previous_step-step.ensures.leads es stands.holds place stands.on) (c.go-moved.ensures.leads es stands.holds place stands.on stands.told))

pub returns-clause-stays : goal.returns-clause-stays
returns-clause-stays g c = λ none.
    let cursor = c.args.self.now in
    let empty = shows_nothing cursor.page.entries cursor.page.place (λ some. (cursor.shown some).inside) none in
    let stays = c.go-moved.ensures.stays (c.previous_step-step.ensures.stays empty) in
    (stays.0, nothing_there c.go-moved.new.self.page.entries c.go-moved.new.self.page.place stays.1)

pub returns-clause-fewer : goal.returns-clause-fewer
returns-clause-fewer g c = λ e there.
    let cursor = c.args.self.now in
    let new = c.go-moved.new.self in
    let table = arc_value cursor.table in
    let within : 0 < cursor.page.place → 0 < length cursor.page.entries → GoesWithin cursor.page cursor.index (cursor.page.place - 1) new.page new.index = λ later some.
    let w = c.go-moved.ensures.within (cursor.page.place - 1) (c.previous_step-step.ensures.within later some) in (w.1, w.2) in
    let shown : 0 < length new.page.entries → ShowsOf g.P.File.TableHandle table new.index new.page =
    subst (λ t. 0 < length new.page.entries → ShowsOf g.P.File.TableHandle (arc_value t) new.index new.page) c.go-moved.ensures.turns.table new.shown in
    steps_off g.P.File.TableHandle table cursor.index cursor.page cursor.shown c.go-moved.result _ new.index new.page e shown within c.go-moved.ensures.lands (c.previous_step-step.ensures.lands new.page) c.go-moved.ensures.turns.nothing there

pub returns-clause-before : goal.returns-clause-before
returns-clause-before g c = λ e f there then_there.
    let cursor = c.args.self.now in
    let new = c.go-moved.new.self in
    let table = arc_value cursor.table in
    let within : 0 < cursor.page.place → 0 < length cursor.page.entries → GoesWithin cursor.page cursor.index (cursor.page.place - 1) new.page new.index = λ later some.
    let w = c.go-moved.ensures.within (cursor.page.place - 1) (c.previous_step-step.ensures.within later some) in (w.1, w.2) in
    let shown : 0 < length new.page.entries → ShowsOf g.P.File.TableHandle table new.index new.page =
    subst (λ t. 0 < length new.page.entries → ShowsOf g.P.File.TableHandle (arc_value t) new.index new.page) c.go-moved.ensures.turns.table new.shown in
    falls_off g.P.File.TableHandle table cursor.index cursor.page cursor.shown cursor.sorted c.go-moved.result _ new.index new.page e f shown within c.go-moved.ensures.lands (c.previous_step-step.ensures.lands new.page) c.go-moved.ensures.turns.nothing there then_there

pub returns-clause-falls : goal.returns-clause-falls
returns-clause-falls g c = λ e f there then_there. entry_asym f e (returns-clause-before g c e f there then_there)

pub returns-clause-begins : goal.returns-clause-begins
returns-clause-begins g c = λ last here.
    let new = c.go-moved.new.self in
    let stays = c.go-moved.ensures.stays (c.previous_step-step.ensures.begins last here) in
    (stays.0, nothing_there new.page.entries new.page.place stays.1, stays.2)
