use Rattle.std.proofs.Common.{◌≡◌, ◌∙◌, List, length, take, drop, sym, ap, subst, arith}
use Rattle.peb_base.specs.declared.entry.Entry.{Entry}
use Rattle.block_form.specs.Form.{IsBlock, block_bytes}
use Rattle.block_form.specs.Walks.{entries_in}
use Rattle.table_file.specs.Form.{item_of}
use Rattle.table_file.specs.declared.index_item.IndexItem.{IndexItem}
use Rattle.table_cursor.specs.Agreeing.{Agrees}
use Rattle.table_cursor.specs.IndexLaws.{item_is}
use Rattle.table_cursor.proofs.Pages.{none_in, empty_page, full_page, known_block}
use Rattle.block_form.specs.Spots.{IsSpot}
use Rattle.table_cursor.proofs.page.Page.turn.Goals as goal

pub invariant_of-self : goal.invariant_of-self
invariant_of-self g c = empty_page c.self.inside.len c.self.inside.place c.self.inside.here c.fetch.new.loan c.fetch.new.room c.self.invariant.fits

pub returns-in-Err-clause-empty : goal.returns-in-Err-clause-empty
returns-in-Err-clause-empty g c = none_in (take c.self.inside.len c.fetch.new.loan)

pub block_in-requires-clause-fits : goal.block_in-requires-clause-fits
block_in-requires-clause-fits g c = ((known_block g.P.File.TableHandle c.args.table.now c.args.index (record { place = c.item-at.result.0; len = c.item-at.result.1; key = c.item-at.result.2.now; number = c.item-at.result.3 }) c.in-Ok.count c.fetch.new.loan c.item-at.ensures.item c.in-Ok.ensures.fetched)).fits

pub block_in-requires-clause-block : goal.block_in-requires-clause-block
block_in-requires-clause-block g c = let read = (known_block g.P.File.TableHandle c.args.table.now c.args.index (record { place = c.item-at.result.0; len = c.item-at.result.1; key = c.item-at.result.2.now; number = c.item-at.result.3 }) c.in-Ok.count c.fetch.new.loan c.item-at.ensures.item c.in-Ok.ensures.fetched) in (read.entries, read.form, read.counted)

pub go-self-inside-requires : goal.go-self-inside-requires
go-self-inside-requires g c =
    let read = (known_block g.P.File.TableHandle c.args.table.now c.args.index (record { place = c.item-at.result.0; len = c.item-at.result.1; key = c.item-at.result.2.now; number = c.item-at.result.3 }) c.in-Ok.count c.fetch.new.loan c.item-at.ensures.item c.in-Ok.ensures.fetched) in
    omega (arith, read.form.some, ap length (c.block_in.ensures.block read.entries read.form))

pub invariant_of-self-2 : goal.invariant_of-self-2
invariant_of-self-2 g c =
    let read = (known_block g.P.File.TableHandle c.args.table.now c.args.index (record { place = c.item-at.result.0; len = c.item-at.result.1; key = c.item-at.result.2.now; number = c.item-at.result.3 }) c.in-Ok.count c.fetch.new.loan c.item-at.ensures.item c.in-Ok.ensures.fetched) in
    let same = c.block_in.ensures.block read.entries read.form in
    full_page c.item-at.result.1 c.in-Ok.count c.go-self-inside.result c.fetch.new.loan c.go-self-inside.new.key read.entries read.fits read.form read.counted (sym c.block_in.ensures.reads ∙ same)
    (subst (λ (es : List Entry). IsSpot es 0 c.go-self-inside.new.key c.go-self-inside.result) same c.go-self-inside.ensures)

pub returns-clause-shows : goal.returns-clause-shows
returns-clause-shows g c =
    let read = (known_block g.P.File.TableHandle c.args.table.now c.args.index (record { place = c.item-at.result.0; len = c.item-at.result.1; key = c.item-at.result.2.now; number = c.item-at.result.3 }) c.in-Ok.count c.fetch.new.loan c.item-at.ensures.item c.in-Ok.ensures.fetched) in
    let item : IndexItem = record { place = c.item-at.result.0; len = c.item-at.result.1; key = c.item-at.result.2.now; number = c.item-at.result.3 } in
    let file = g.P.File.TableHandle.bytes c.args.table.now.file in
    let is_item : item ≡ item_of item.place read.entries = item_is item (item_of item.place read.entries) (sym c.item-at.ensures.item ∙ read.agrees.indexed) in
    let long : length (take item.len c.fetch.new.loan) ≡ item.len = ap length read.form.spelled ∙ sym (ap (λ (i : IndexItem). i.len) is_item) in
    let same : entries_in c.in-Ok.count (take c.item-at.result.1 c.fetch.new.loan) ≡ read.entries = sym c.block_in.ensures.reads ∙ c.block_in.ensures.block read.entries read.form in
    record {
      inside = omega (arith, ap length same, read.form.some);
      agrees = subst (λ (es : List Entry). Agrees c.args.table.now.row c.args.table.now.items c.args.index c.item-at.result.0 es) (sym same) read.agrees;
      small = read.form.small;
      spelled = read.form.spelled ∙ ap block_bytes (sym same);
      read = λ told. read.read told ∙ ap (λ n. take n (drop item.place file)) (sym long);
    }

pub returns-clause-form : goal.returns-clause-form
returns-clause-form g c =
    let read = (known_block g.P.File.TableHandle c.args.table.now c.args.index (record { place = c.item-at.result.0; len = c.item-at.result.1; key = c.item-at.result.2.now; number = c.item-at.result.3 }) c.in-Ok.count c.fetch.new.loan c.item-at.ensures.item c.in-Ok.ensures.fetched) in
    subst (λ (es : List Entry). IsBlock es (take c.item-at.result.1 c.fetch.new.loan)) (sym (sym c.block_in.ensures.reads ∙ c.block_in.ensures.block read.entries read.form)) read.form
