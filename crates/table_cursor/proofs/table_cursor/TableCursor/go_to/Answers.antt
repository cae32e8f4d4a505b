use Rattle.std.proofs.Common.{◌≡◌, ◌<◌, ◌∙◌, length, sym, ap, subst}
use Rattle.peb_base.specs.Cursors.{place_from}
use Rattle.peb_base.specs.Entries.{first_from}
use Rattle.table_file.specs.Form.{blocks_of, items_from}
use Rattle.table_file.specs.Items.{index_for}
use Rattle.table_cursor.specs.Standing.{entries_before, OnPage}
use Rattle.table_cursor.specs.Steps.{where_block}
use Rattle.std.specs.Arc.{arc_value}
use Rattle.table_cursor.specs.Agreeing.{ShowsOf}
use Rattle.table_cursor.proofs.Ends.{not_none}
use Rattle.peb_base.specs.Entries.{AreSorted}
use Rattle.table_cursor.specs.WalkLaws.{shows_moved}
use Rattle.table_cursor.proofs.Finding.{find_inside}
use Rattle.std.specs.Prelude.{slice_get}
use Rattle.table_cursor.specs.Page.{Reading}
use Rattle.table_cursor.proofs.Neighbours.{found_not_before, none_among}
use Rattle.table_cursor.proofs.Walked.{no_entries}
use Rattle.table_cursor.proofs.Seeking.{not_found, found_on_page}
use Rattle.table_cursor.proofs.table_cursor.TableCursor.go_to.Goals as goal

pub returns-then-is_empty-clause-leads : goal.returns-then-is_empty-clause-leads
returns-then-is_empty-clause-leads g c = λ es holds told.
    let shown = c.show.new.self in
    let blocks = blocks_of holds.full es in
    let key = c.args.key.now in
    let index : c.block_index-index.result ≡ index_for key c.args.number (items_from 0 blocks) =
    c.block_index-index.ensures ∙ ap (λ t. index_for key c.args.number t.items) c.deref.ensures ∙ ap (index_for key c.args.number) holds.table.items_are in
    not_found shown.page shown.index c.block_index-index.result key c.args.number blocks es holds.table.sorted index (c.in-Ok.ensures.leads es holds told) (c.is_empty.ensures.0 c.if-is_empty.true)

pub seek-requires : goal.seek-requires
seek-requires g c =
    let shown = c.show.new.self in
    let table = arc_value c.args.self.now.table in
    let key = c.args.key.now in
    let some : 0 < length shown.page.entries = not_none (length shown.page.entries) c.is_empty.result c.if-is_empty.false c.is_empty.ensures.1 in
    let shows = subst (λ t. ShowsOf g.P.File.TableHandle (arc_value t) shown.index shown.page) c.show.ensures.turns.table (shown.shown some) in
    let index : shown.index ≡ index_for key c.args.number table.items = c.show.ensures.index ∙ c.block_index-index.ensures ∙ ap (λ t. index_for key c.args.number t.items) c.deref.ensures in
    find_inside key c.args.number table.row table.items shown.index shown.page.at shown.page.entries shows.agrees index some

pub returns-clause-leads : goal.returns-clause-leads
returns-clause-leads g c = λ es holds told.
    let shown = c.show.new.self in
    let blocks = blocks_of holds.full es in
    let table = arc_value c.args.self.now.table in
    let key = c.args.key.now in
    let n = first_from key c.args.number shown.page.entries in
    let some : 0 < length shown.page.entries = not_none (length shown.page.entries) c.is_empty.result c.if-is_empty.false c.is_empty.ensures.1 in
    let shows = subst (λ t. ShowsOf g.P.File.TableHandle (arc_value t) shown.index shown.page) c.show.ensures.turns.table (shown.shown some) in
    let same : shown.index ≡ index_for key c.args.number table.items = c.show.ensures.index ∙ c.block_index-index.ensures ∙ ap (λ t. index_for key c.args.number t.items) c.deref.ensures in
    let index : shown.index ≡ index_for key c.args.number (items_from 0 blocks) = same ∙ ap (index_for key c.args.number) holds.table.items_are in
    let on = subst (λ i. OnPage shown.page shown.index blocks es (where_block i blocks (entries_before i blocks))) (sym c.show.ensures.index) (c.in-Ok.ensures.leads es holds told) in
    let lt : n < length shown.page.entries = find_inside key c.args.number table.row table.items shown.index shown.page.at shown.page.entries shows.agrees same some in
    subst (λ page. OnPage page shown.index blocks es (place_from key c.args.number es)) (sym c.seek.ensures)
    (found_on_page shown.page shown.index key c.args.number blocks es holds.table.sorted index on lt)

pub invariant_of-self : goal.invariant_of-self
invariant_of-self g c =
    let shown = c.show.new.self in
    let table = arc_value shown.table in
    let key = c.args.key.now in
    let n = first_from key c.args.number shown.page.entries in
    let some : 0 < length shown.page.entries = not_none (length shown.page.entries) c.is_empty.result c.if-is_empty.false c.is_empty.ensures.1 in
    let shows = shown.shown some in
    let same : shown.index ≡ index_for key c.args.number table.items =
    c.show.ensures.index ∙ c.block_index-index.ensures ∙ ap (λ t. index_for key c.args.number t.items) c.deref.ensures ∙ sym (λ i. index_for key c.args.number (arc_value (c.show.ensures.turns.table i)).items) in
    let lt : n < length shown.page.entries = find_inside key c.args.number table.row table.items shown.index shown.page.at shown.page.entries shows.agrees same some in
    let both = subst (λ page. (0 < length page.entries → ShowsOf g.P.File.TableHandle table shown.index page) × AreSorted page.entries) (sym c.seek.ensures) ((λ s. shows_moved g.P.File.TableHandle table shows lt), shown.sorted) in
    record { shown = both.0; sorted = both.1 }

pub returns-in-Err-clause-behind : goal.returns-in-Err-clause-behind
returns-in-Err-clause-behind g c = λ e there. absurd (none_among _ _ e c.in-Err.ensures.turns.nothing there)

pub returns-then-is_empty-clause-behind : goal.returns-then-is_empty-clause-behind
returns-then-is_empty-clause-behind g c = λ e there. absurd (none_among _ _ e (no_entries _ (c.is_empty.ensures.0 c.if-is_empty.true)) there)

pub returns-clause-behind : goal.returns-clause-behind
returns-clause-behind g c = λ e there.
    let shown = c.show.new.self in
    let key = c.args.key.now in
    found_not_before key c.args.number shown.page.entries e (sym (ap (λ (p : Reading). slice_get p.entries p.place) c.seek.ensures) ∙ there)
