use Rattle.std.proofs.Common.{◌≡◌, ◌+◌, ◌<◌, ◌++◌, ◌∷◌, [], List, Some, OnOk, length, sym, ap, subst}
use Rattle.std.specs.Prelude.{slice_get}
use Rattle.std.specs.Arc.{arc_value}
use Rattle.peb_base.specs.Cursors.{LeadsTo}
use Rattle.peb_base.specs.declared.entry.Entry.{Entry}
use Rattle.table_file.specs.Form.{blocks_of}
use Rattle.table_cursor.specs.Standing.{OnPage}
use Rattle.table_cursor.specs.Walking.{WalkedOver, steps_ahead}
use Rattle.table_cursor.specs.Agreeing.{ShowsOf}
use Rattle.table_cursor.proofs.Neighbours.{rises_on}
use Rattle.table_cursor.proofs.Standings.{stands_on}
use Rattle.table_cursor.proofs.Walked.{GoesWithin, shows_nothing, nothing_there, walks_on, steps_on}
use Rattle.table_cursor.proofs.table_cursor.TableCursorCursor.next.Goals as goal

pub returns-clause-goes : goal.returns-clause-goes
returns-clause-goes g c = λ es place stands.
    let cursor = c.args.self.now in
    let new = c.go-moved.new.self in
    let blocks = blocks_of stands.holds.full es in
    stands_on g.P.File.TableHandle (arc_value cursor.table) (arc_value new.table) new.page new.index es stands.holds _ c.go-moved.result stands.told
    (ap arc_value c.go-moved.ensures.turns.table)
    (subst (λ p. LeadsTo (OnPage new.page new.index blocks es) p c.go-moved.result) (c.next_step-step.ensures.leads es stands.holds place stands.on) (c.go-moved.ensures.leads es stands.holds place stands.on stands.told))

pub returns-clause-stays : goal.returns-clause-stays
returns-clause-stays g c = λ none.
    let cursor = c.args.self.now in
    let empty = shows_nothing cursor.page.entries cursor.page.place (λ some. (cursor.shown some).inside) none in
    let stays = c.go-moved.ensures.stays (c.next_step-step.ensures.stays empty) in
    (stays.0, nothing_there c.go-moved.new.self.page.entries c.go-moved.new.self.page.place stays.1)

pub returns-clause-walks : goal.returns-clause-walks
returns-clause-walks g c =
    let cursor = c.args.self.now in
    let new = c.go-moved.new.self in
    let table = arc_value cursor.table in
    let within : cursor.page.place + 1 < length cursor.page.entries → GoesWithin cursor.page cursor.index (cursor.page.place + 1) new.page new.index = λ lt.
    let w = c.go-moved.ensures.within (cursor.page.place + 1) (c.next_step-step.ensures.within lt) in (w.1, w.2) in
    subst (λ t. OnOk c.go-moved.result ((es : List Entry) (e : Entry) → slice_get cursor.page.entries cursor.page.place ≡ Some e
    → WalkedOver g.P.File.TableHandle table cursor.index cursor.page es → WalkedOver g.P.File.TableHandle (arc_value t) new.index new.page (es ++ e ∷ [])))
    (sym c.go-moved.ensures.turns.table)
    (walks_on g.P.File.TableHandle table cursor.index cursor.page cursor.shown c.go-moved.result _ cursor.sorted new.index new.page within c.go-moved.ensures.lands
    (c.next_step-step.ensures.lands new.page))

pub returns-clause-fewer : goal.returns-clause-fewer
returns-clause-fewer g c = λ e there.
    let cursor = c.args.self.now in
    let new = c.go-moved.new.self in
    let table = arc_value cursor.table in
    let within : cursor.page.place + 1 < length cursor.page.entries → GoesWithin cursor.page cursor.index (cursor.page.place + 1) new.page new.index = λ lt.
    let w = c.go-moved.ensures.within (cursor.page.place + 1) (c.next_step-step.ensures.within lt) in (w.1, w.2) in
    let long : length (arc_value new.table).items ≡ length table.items = λ i. length (arc_value (c.go-moved.ensures.turns.table i)).items in
    subst (λ n. steps_ahead n new.index new.page < steps_ahead (length table.items) cursor.index cursor.page) (sym long)
    (steps_on g.P.File.TableHandle table cursor.index cursor.page cursor.shown c.go-moved.result _ new.index new.page e within c.go-moved.ensures.lands (c.next_step-step.ensures.lands new.page) c.go-moved.ensures.turns.nothing there)

pub returns-clause-behind : goal.returns-clause-behind
returns-clause-behind g c = λ e f there then_there.
    let cursor = c.args.self.now in
    let new = c.go-moved.new.self in
    let table = arc_value cursor.table in
    let within : cursor.page.place + 1 < length cursor.page.entries → GoesWithin cursor.page cursor.index (cursor.page.place + 1) new.page new.index = λ lt.
    let w = c.go-moved.ensures.within (cursor.page.place + 1) (c.next_step-step.ensures.within lt) in (w.1, w.2) in
    let shown : 0 < length new.page.entries → ShowsOf g.P.File.TableHandle table new.index new.page =
    subst (λ t. 0 < length new.page.entries → ShowsOf g.P.File.TableHandle (arc_value t) new.index new.page) c.go-moved.ensures.turns.table new.shown in
    rises_on g.P.File.TableHandle table cursor.index cursor.page cursor.shown cursor.sorted c.go-moved.result _ new.index new.page e f shown within c.go-moved.ensures.lands (c.next_step-step.ensures.lands new.page) c.go-moved.ensures.turns.nothing there then_there

pub returns-clause-ends : goal.returns-clause-ends
returns-clause-ends g c = λ last here.
    let new = c.go-moved.new.self in
    let stays = c.go-moved.ensures.stays (c.next_step-step.ensures.ends last here) in
    (stays.0, nothing_there new.page.entries new.page.place stays.1, stays.2)
