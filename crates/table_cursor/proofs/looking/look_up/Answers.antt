use Rattle.std.proofs.Common.{◌≤◌, ◌∙◌, [], length, take, refl, sym, ap, subst, arith}
use Rattle.peb_base.specs.Entries.{AreSorted, first_from}
use Rattle.std.specs.Prelude.{option_map}
use Rattle.peb_base.specs.EntryRefs.{entry_of}
use Rattle.block_form.specs.Form.{IsBlock}
use Rattle.table_file.specs.Form.{blocks_of, items_from}
use Rattle.table_file.specs.Items.{index_for}
use Rattle.table_cursor.specs.Looking.{newest_of}
use Rattle.table_cursor.proofs.Blocks.{length-items}
use Rattle.table_cursor.proofs.Finding.{found_in_none}
use Rattle.table_cursor.proofs.Looked.{no_damage, looked, is_found, looked_up}
use Rattle.table_cursor.proofs.Newest.{none_there}
use Rattle.table_cursor.proofs.Pages.{known_block}
use Rattle.table_cursor.proofs.looking.look_up.Goals as goal

pub returns-then-index-blocks-clause-told : goal.returns-then-index-blocks-clause-told
returns-then-index-blocks-clause-told g c = λ es told holds.
    let blocks = blocks_of holds.full es in
    let whole = c.law_blocks.ensures.joined holds.full es holds.least holds.most holds.table.sorted in
    let are = c.law_blocks.ensures.blocks holds.full es holds.least holds.most holds.table.sorted in
    let index = c.block_index-index.ensures ∙ ap (index_for c.args.key.now c.args.number) holds.table.items_are in
    let past : length blocks ≤ index_for c.args.key.now c.args.number (items_from 0 blocks) =
    omega (arith, c.if-index-blocks.true, c.blocks-2.ensures.count, index, ap length holds.table.items_are, length-items 0 blocks) in
    let all = found_in_none [] 0 0 c.args.key.now c.args.number blocks (subst AreSorted (sym whole) holds.table.sorted) are past in
    none_there c.args.key.now c.args.number es holds.table.sorted (omega (arith, all, ap length whole, ap (first_from c.args.key.now c.args.number) whole))

pub returns-in-Err-clause-told : goal.returns-in-Err-clause-told
returns-in-Err-clause-told g c = λ es told holds.
    let whole = c.law_blocks.ensures.joined holds.full es holds.least holds.most holds.table.sorted in
    let are = c.law_blocks.ensures.blocks holds.full es holds.least holds.most holds.table.sorted in
    no_damage g.P.File.TableHandle c.args.table.now es holds told whole are (newest_of c.args.key.now c.args.number es) c.block_index-index.result c.in-Err.fault c.in-Err.ensures.damaged

pub returns-clause-told : goal.returns-clause-told
returns-clause-told g c = λ es told holds.
    let whole = c.law_blocks.ensures.joined holds.full es holds.least holds.most holds.table.sorted in
    let are = c.law_blocks.ensures.blocks holds.full es holds.least holds.most holds.table.sorted in
    let read = known_block g.P.File.TableHandle c.args.table.now c.block_index-index.result (record { place = c.item-len.result.0; len = c.item-len.result.1; key = c.item-len.result.2.now; number = c.item-len.result.3 }) c.in-Ok.count c.fetch.new.loan c.item-len.ensures.item c.in-Ok.ensures.fetched in
    let form : IsBlock read.entries (take c.item-len.result.1 c.bytes.result.now) = subst (λ l. IsBlock read.entries (take c.item-len.result.1 l)) (sym c.bytes.ensures.value) read.form in
    c.look_in.ensures read.entries form
    ∙ sym (looked g.P.File.TableHandle c.args.table.now c.one_block.ensures es holds told whole are c.args.key.now c.args.number c.block_index-index.result _ c.in-Ok.count c.fetch.new.loan c.block_index-index.ensures c.item-len.ensures.item read)

pub returns-clause-own : goal.returns-clause-own
returns-clause-own g c =
    let read = known_block g.P.File.TableHandle c.args.table.now c.block_index-index.result (record { place = c.item-len.result.0; len = c.item-len.result.1; key = c.item-len.result.2.now; number = c.item-len.result.3 }) c.in-Ok.count c.fetch.new.loan c.item-len.ensures.item c.in-Ok.ensures.fetched in
    let form : IsBlock read.entries (take c.item-len.result.1 c.bytes.result.now) = subst (λ l. IsBlock read.entries (take c.item-len.result.1 l)) (sym c.bytes.ensures.value) read.form in
    is_found g.P.File.TableHandle c.args.table.now c.args.key.now c.args.number c.block_index-index.result _ c.in-Ok.count c.fetch.new.loan c.item-len.ensures.item read c.look_in.result (c.look_in.ensures read.entries form)

pub returns-then-index-blocks-clause-answers : goal.returns-then-index-blocks-clause-answers
returns-then-index-blocks-clause-answers g c = record {
  beyond = λ behind. refl;
  inside = λ lt. absurd (omega (arith, lt, c.if-index-blocks.true, c.blocks-2.ensures.count, c.block_index-index.ensures));
}

pub returns-clause-answers : goal.returns-clause-answers
returns-clause-answers g c =
    let read = known_block g.P.File.TableHandle c.args.table.now c.block_index-index.result (record { place = c.item-len.result.0; len = c.item-len.result.1; key = c.item-len.result.2.now; number = c.item-len.result.3 }) c.in-Ok.count c.fetch.new.loan c.item-len.ensures.item c.in-Ok.ensures.fetched in
    let form : IsBlock read.entries (take c.item-len.result.1 c.bytes.result.now) = subst (λ l. IsBlock read.entries (take c.item-len.result.1 l)) (sym c.bytes.ensures.value) read.form in
    looked_up g.P.File.TableHandle c.args.table.now c.args.key.now c.args.number c.block_index-index.result _ c.in-Ok.count c.fetch.new.loan c.block_index-index.ensures c.item-len.ensures.item read (option_map entry_of c.look_in.result) (c.look_in.ensures read.entries form)
