use Rattle.std.proofs.Common.{◌+◌, Some, sym, subst}
use Rattle.peb_base.specs.Cursors.{LeadsTo}
use Rattle.table_file.specs.Form.{blocks_of}
use Rattle.table_cursor.specs.Standing.{entries_before, OnPage}
use Rattle.table_cursor.specs.Steps.{target, Fits}
use Rattle.table_cursor.proofs.Moves.{moved_within}
use Rattle.table_cursor.proofs.table_cursor.TableCursor.go.Goals as goal

pub returns-in-Within-clause-leads : goal.returns-in-Within-clause-leads
returns-in-Within-clause-leads g c = λ es holds place on told.
    let cursor = c.args.self.now in
    let blocks = blocks_of holds.full es in
    subst (λ step. OnPage c.go.new.self cursor.index blocks es (target step cursor.index blocks)) (sym c.in-Within.is)
    (subst (λ page. OnPage page cursor.index blocks es (Some (entries_before cursor.index blocks + c.in-Within.place))) (sym c.go.ensures)
    (moved_within cursor.page cursor.index c.in-Within.place blocks es place on (subst (λ step. Fits step cursor.page) c.in-Within.is c.requires)))

pub returns-in-First-clause-leads : goal.returns-in-First-clause-leads
returns-in-First-clause-leads g c = λ es holds place on told.
    let blocks = blocks_of holds.full es in
    subst (λ step. LeadsTo (OnPage c.show.new.self.page c.show.new.self.index blocks es) (target step c.args.self.now.index blocks) c.show.result) (sym c.in-First.is) (c.show.ensures.leads es holds told)

pub returns-in-Last-clause-leads : goal.returns-in-Last-clause-leads
returns-in-Last-clause-leads g c = λ es holds place on told.
    let blocks = blocks_of holds.full es in
    subst (λ step. LeadsTo (OnPage c.show_last.new.self.page c.show_last.new.self.index blocks es) (target step c.args.self.now.index blocks) c.show_last.result) (sym c.in-Last.is) (c.show_last.ensures.leads es holds told)
