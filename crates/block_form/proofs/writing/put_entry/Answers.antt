use Rattle.std.proofs.Common.{◌≡◌, ◌-◌, ◌∙◌, ◌++◌, ap, take, drop, length, length-append, arith}
use Rattle.std.proofs.lemmas.List.{take_rest}
use Rattle.peb_base.specs.declared.entry.Entry.{Entry}
use Rattle.peb_base.specs.EntryRefs.{entry_of}
use Rattle.peb_base.specs.Tables.{shared_length}
use Rattle.block_form.specs.declared.head.Head.{Head}
use Rattle.block_form.specs.Parts.{head_of_parts}
use Rattle.block_form.specs.Building.{put_in}
use Rattle.block_form.specs.Form.{parts_at}
use Rattle.block_form.proofs.Spelling.{length-head}
use Rattle.block_form.proofs.Prefixes.{entry-spelled, length-entry-parts}
use Rattle.block_form.proofs.writing.put_entry.Goals as goal

pub put-requires : goal.put-requires
put-requires c =
    let e : Entry = entry_of c.args.item.now in
    let key = c.args.item.now.key.now in
    let s = c.shared_len-shared.result in
    let part = take (length key - s) (drop s key) in
    let value = c.code_and_value-code.result.1.now in
    let same : s ≡ shared_length c.args.place c.args.before.now key = c.shared_len-shared.ensures.value in
    let rest : part ≡ drop (shared_length c.args.place c.args.before.now key) key = take_rest key s ∙ ap (λ n. drop n key) same in
    let h : Head = record { shared = s; rest = length part; number = c.args.item.now.number; code = c.code_and_value-code.result.0; value = length value } in
    omega (arith, c.requires.room, length-entry-parts c.args.place c.args.before.now e, ap length c.head_array-head.ensures, length-head h)

pub put-requires-2 : goal.put-requires-2
put-requires-2 c =
    let e : Entry = entry_of c.args.item.now in
    let key = c.args.item.now.key.now in
    let s = c.shared_len-shared.result in
    let part = take (length key - s) (drop s key) in
    let value = c.code_and_value-code.result.1.now in
    let same : s ≡ shared_length c.args.place c.args.before.now key = c.shared_len-shared.ensures.value in
    let rest : part ≡ drop (shared_length c.args.place c.args.before.now key) key = take_rest key s ∙ ap (λ n. drop n key) same in
    let h : Head = record { shared = s; rest = length part; number = c.args.item.now.number; code = c.code_and_value-code.result.0; value = length value } in
    omega (arith, c.requires.room, length-entry-parts c.args.place c.args.before.now e, ap length c.head_array-head.ensures, length-head h, ap length c.put.ensures, length-append (put_in c.args.out.now) c.head_array-head.result, ap length rest)

pub put-requires-3 : goal.put-requires-3
put-requires-3 c =
    let e : Entry = entry_of c.args.item.now in
    let key = c.args.item.now.key.now in
    let s = c.shared_len-shared.result in
    let part = take (length key - s) (drop s key) in
    let value = c.code_and_value-code.result.1.now in
    let same : s ≡ shared_length c.args.place c.args.before.now key = c.shared_len-shared.ensures.value in
    let rest : part ≡ drop (shared_length c.args.place c.args.before.now key) key = take_rest key s ∙ ap (λ n. drop n key) same in
    let h : Head = record { shared = s; rest = length part; number = c.args.item.now.number; code = c.code_and_value-code.result.0; value = length value } in
    omega (
      arith,
      c.requires.room,
      length-entry-parts c.args.place c.args.before.now e,
      ap length c.head_array-head.ensures,
      length-head h,
      ap length c.put.ensures,
      length-append (put_in c.args.out.now) c.head_array-head.result,
      ap length rest,
      ap length c.put-2.ensures,
      length-append (put_in c.put.new.self) part,
      ap length c.code_and_value-code.ensures.value,
    )

pub returns : goal.returns
returns c =
    let e : Entry = entry_of c.args.item.now in
    let key = c.args.item.now.key.now in
    let s = c.shared_len-shared.result in
    let part = take (length key - s) (drop s key) in
    let value = c.code_and_value-code.result.1.now in
    let same : s ≡ shared_length c.args.place c.args.before.now key = c.shared_len-shared.ensures.value in
    let rest : part ≡ drop (shared_length c.args.place c.args.before.now key) key = take_rest key s ∙ ap (λ n. drop n key) same in
    let h : Head = record { shared = s; rest = length part; number = c.args.item.now.number; code = c.code_and_value-code.result.0; value = length value } in
    let is : ◌≡◌ {A = Head} h (head_of_parts (parts_at c.args.place c.args.before.now e)) =
    λ i. record { shared = same i; rest = ap length rest i; number = c.args.item.now.number; code = c.code_and_value-code.ensures.code i; value = ap length c.code_and_value-code.ensures.value i } in
    c.put-3.ensures ∙ ap (λ l. l ++ value) (c.put-2.ensures ∙ ap (λ l. l ++ part) c.put.ensures)
    ∙ entry-spelled c.args.place c.args.before.now e (put_in c.args.out.now) c.head_array-head.result part value h c.head_array-head.ensures is rest c.code_and_value-code.ensures.value
