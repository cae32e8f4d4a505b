use Rattle.std.proofs.Common.{◌≡◌, ◌+◌, ◌<◌, ◌∙◌, ◌++◌, ◌∷◌, Bool, true, false, IsTrue, List, ℕ, [], length, drop, sym, ap, subst, refl, arith, rules, length-append}
use Rattle.std.proofs.lemmas.List.{take_rest}
use Rattle.byteorder.specs.Endian.{big_number}
use Rattle.peb_base.specs.Keys.{Bytes}
use Rattle.table_file.specs.Form.{item_bytes}
use Rattle.table_file.specs.Opening.{IsItem}
use Rattle.table_file.specs.declared.index_item.IndexItem.{IndexItem}
use Rattle.table_file.proofs.Indexing.{length-item}
use Rattle.table_file.proofs.IndexWalk.{Walk, walk_start, walk_on, walk_end, walk_whole, none_on, not_on, index_parts, index_again}
use Rattle.table_file.proofs.index_reading.items_of.Goals as goal

false_not : (b : Bool) → b ≡ false → IsTrue b → ⊥
false_not b e h = cc

pub walk-init : goal.walk-init
walk-init c =
    subst (λ (t : List ℕ × List IndexItem × Bytes). Walk 0 t.2 0 c.args.end t.1 t.0 (drop 4 c.args.bytes.now))
    (λ i. (sym (take_rest c.args.bytes.now 4) i, sym c.new-items.ensures.items i, sym c.new-key.ensures i)) (walk_start c.args.end (drop 4 c.args.bytes.now))

pub returns-in-None-clause-form : goal.returns-in-None-clause-form
returns-in-None-clause-form c = λ err items is spelled.
    let parts = index_parts c.args.bytes.now items c.requires spelled in
    let some : 0 < length c.walk.rest.now = search rules in
    none_on c.walk.place c.walk.key c.walk.above c.args.end c.walk.items.items c.walk.rest.now (drop 4 c.args.bytes.now) c.walk.invariant some c.in-None.ensures.none items is.each parts.1

pub returns-then-not-is_item-clause-form : goal.returns-then-not-is_item-clause-form
returns-then-not-is_item-clause-form c = λ err items is spelled.
    let parts = index_parts c.args.bytes.now items c.requires spelled in
    let f = c.in-Some.fields in
    let found : IndexItem = record { place = f.place; len = f.len; key = f.key.now; number = f.number } in
    let fits = c.in-Some.ensures.fits in
    let no_ : c.is_item.result ≡ false = search rules in
    not_on c.walk.place c.walk.key c.walk.above c.args.end c.walk.items.items c.walk.rest.now f.behind.now (drop 4 c.args.bytes.now) found (omega arith) (record { place = fits.0; len = fits.1; key = fits.2; number = fits.3 })
    c.walk.invariant c.in-Some.ensures.found
    (λ item le. false_not c.is_item.result no_ (c.is_item.ensures.none (subst (λ (k : Bytes). IsItem c.walk.place k c.walk.above found) (sym c.bytes.ensures.value) item) le)) items is.each parts.1

pub walk-smaller : goal.walk-smaller
walk-smaller c =
    let f = c.in-Some.fields in
    let found : IndexItem = record { place = f.place; len = f.len; key = f.key.now; number = f.number } in
    omega (arith, ap length c.in-Some.ensures.found, length-append (item_bytes found) f.behind.now, length-item found)

pub walk-preserved : goal.walk-preserved
walk-preserved c =
    let f = c.in-Some.fields in
    let found : IndexItem = record { place = f.place; len = f.len; key = f.key.now; number = f.number } in
    let yes_ : c.is_item.result ≡ true = search rules in
    let is : IsItem c.walk.place c.walk.key c.walk.above found = subst (λ (k : Bytes). IsItem c.walk.place k c.walk.above found) c.bytes.ensures.value (c.is_item.ensures.item yes_) in
    let pushed : c.push.new.self.items ≡ c.walk.items.items ++ found ∷ [] = c.in_ok-push.ensures.items ∙ ap (λ (i : IndexItem). c.walk.items.items ++ i ∷ []) c.in-Ok.ensures.item in
    subst (λ (l : List IndexItem). Walk (c.walk.place + f.len) c.put.new.self f.number c.args.end l f.behind.now (drop 4 c.args.bytes.now)) (sym pushed)
    (walk_on c.walk.place (c.walk.place + f.len) c.walk.key c.put.new.self c.walk.above f.number c.args.end c.walk.items.items c.walk.rest.now f.behind.now (drop 4 c.args.bytes.now) found (omega arith) c.walk.invariant is c.in-Some.ensures.found c.put.ensures refl refl
    (c.is_item.ensures.fits yes_))

pub returns-then-place-end-clause-form : goal.returns-then-place-end-clause-form
returns-then-place-end-clause-form c = λ err items is spelled.
    let parts = index_parts c.args.bytes.now items c.requires spelled in
    let none : length c.walk.rest.now ≡ 0 = search rules in
    let end = walk_end c.walk.place c.walk.key c.walk.above c.args.end c.walk.items.items c.walk.rest.now (drop 4 c.args.bytes.now) c.walk.invariant none items is.each parts.1 in
    c.if-place-end.true end.0

pub returns-then-as_slice-count-clause-form : goal.returns-then-as_slice-count-clause-form
returns-then-as_slice-count-clause-form c = λ err items is spelled.
    let parts = index_parts c.args.bytes.now items c.requires spelled in
    let none : length c.walk.rest.now ≡ 0 = search rules in
    let end = walk_end c.walk.place c.walk.key c.walk.above c.args.end c.walk.items.items c.walk.rest.now (drop 4 c.args.bytes.now) c.walk.invariant none items is.each parts.1 in
    c.if-as_slice-count.true (ap length c.as_slice.ensures.value ∙ sym end.1 ∙ sym parts.0 ∙ sym c.read_u32-count.ensures)

pub returns-then-count-eq0-clause-form : goal.returns-then-count-eq0-clause-form
returns-then-count-eq0-clause-form c = λ err items is spelled.
    let parts = index_parts c.args.bytes.now items c.requires spelled in
    omega (arith, is.some, parts.0, c.read_u32-count.ensures, c.if-count-eq0.true)

pub returns-clause-index : goal.returns-clause-index
returns-clause-index c =
    let none : length c.walk.rest.now ≡ 0 = search rules in
    let whole = walk_whole c.walk.place c.walk.key c.walk.above c.args.end c.walk.items.items c.walk.rest.now (drop 4 c.args.bytes.now) c.walk.invariant none c.if-place-end.false in
    let count : big_number 4 c.args.bytes.now ≡ length c.walk.items.items = sym c.read_u32-count.ensures ∙ sym c.if-as_slice-count.false ∙ ap length c.as_slice.ensures.value in
    let spelled = index_again c.args.bytes.now c.walk.items.items (omega (arith, c.if-bytes-lt4.false)) (λ i. omega (arith, c.type_inv.bytes i)) count whole.1 in
    record { some = omega (arith, count, c.read_u32-count.ensures, c.if-count-eq0.false); each = whole.0; short = omega (arith, ap length spelled, c.requires) }

pub returns-clause-spelled : goal.returns-clause-spelled
returns-clause-spelled c =
    let none : length c.walk.rest.now ≡ 0 = search rules in
    let whole = walk_whole c.walk.place c.walk.key c.walk.above c.args.end c.walk.items.items c.walk.rest.now (drop 4 c.args.bytes.now) c.walk.invariant none c.if-place-end.false in
    let count : big_number 4 c.args.bytes.now ≡ length c.walk.items.items = sym c.read_u32-count.ensures ∙ sym c.if-as_slice-count.false ∙ ap length c.as_slice.ensures.value in
    index_again c.args.bytes.now c.walk.items.items (omega (arith, c.if-bytes-lt4.false)) (λ i. omega (arith, c.type_inv.bytes i)) count whole.1
