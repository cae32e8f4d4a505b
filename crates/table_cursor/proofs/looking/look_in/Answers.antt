use Rattle.std.proofs.Common.{◌≡◌, ◌∙◌, ◌<◌, List, Some, length, sym, ap, subst, arith}
use Rattle.std.specs.Prelude.{slice_get}
use Rattle.peb_base.specs.Entries.{first_from}
use Rattle.peb_base.specs.EntryRefs.{entry_of}
use Rattle.peb_base.specs.declared.entry.Entry.{Entry}
use Rattle.peb_base.specs.Keys.{Bytes}
use Rattle.block_form.specs.Spots.{IsSpot}
use Rattle.table_cursor.proofs.Newest.{found_there, other_there, none_there, keys_differ, keys_same}
use Rattle.table_cursor.proofs.looking.look_in.Goals as goal

pub entry-entry-requires : goal.entry-entry-requires
entry-entry-requires c =
    let block = c.again-block.result in
    let inside : c.seek-place.result.0 < length block = omega (arith, c.if-place-len.false, c.len.ensures.count) in
    (block, c.again-block.ensures, subst (λ (k : Bytes). IsSpot block c.seek-place.result.0 k c.seek-place.result.1) (sym c.bytes.ensures.value) (c.seek-place.ensures.spot inside))

pub returns-then-place-len : goal.returns-then-place-len
returns-then-place-len c = λ es is.
    let same = c.one_block.ensures c.again-block.result es c.args.bytes.now c.again-block.ensures is in
    none_there c.args.key.now c.args.number es is.each (omega (arith, c.if-place-len.true, c.len.ensures, c.seek-place.ensures.place, ap length same, ap (first_from c.args.key.now c.args.number) same))

pub returns-then-ne : goal.returns-then-ne
returns-then-ne c = λ es is.
    let same = c.one_block.ensures c.again-block.result es c.args.bytes.now c.again-block.ensures is in
    let block = c.again-block.result in
    let inside : c.seek-place.result.0 < length block = omega (arith, c.if-place-len.false, c.len.ensures.count) in
    let spot = subst (λ (k : Bytes). IsSpot block c.seek-place.result.0 k c.seek-place.result.1) (sym c.bytes.ensures.value) (c.seek-place.ensures.spot inside) in
    let e = entry_of c.entry-entry.result in
    let there : slice_get es (first_from c.args.key.now c.args.number es) ≡ Some e =
    subst (λ (l : List Entry). slice_get l (first_from c.args.key.now c.args.number l) ≡ Some e) same (ap (slice_get block) (sym c.seek-place.ensures.place) ∙ c.entry-entry.ensures block c.again-block.ensures spot) in
    other_there c.args.key.now c.args.number es e is.each there (keys_differ e.key c.args.key.now (sym c.ne.ensures ∙ c.if-ne.true))

pub returns : goal.returns
returns c = λ es is.
    let same = c.one_block.ensures c.again-block.result es c.args.bytes.now c.again-block.ensures is in
    let block = c.again-block.result in
    let inside : c.seek-place.result.0 < length block = omega (arith, c.if-place-len.false, c.len.ensures.count) in
    let spot = subst (λ (k : Bytes). IsSpot block c.seek-place.result.0 k c.seek-place.result.1) (sym c.bytes.ensures.value) (c.seek-place.ensures.spot inside) in
    let e = entry_of c.entry-entry.result in
    let there : slice_get es (first_from c.args.key.now c.args.number es) ≡ Some e =
    subst (λ (l : List Entry). slice_get l (first_from c.args.key.now c.args.number l) ≡ Some e) same (ap (slice_get block) (sym c.seek-place.ensures.place) ∙ c.entry-entry.ensures block c.again-block.ensures spot) in
    found_there c.args.key.now c.args.number es e is.each there (keys_same e.key c.args.key.now (sym c.ne.ensures ∙ c.if-ne.false))
