use Rattle.std.proofs.Common.{◌≡◌, ◌∙◌, length, take, drop, ap, arith}
use Rattle.std.proofs.lemmas.List.{take_rest}
use Rattle.byteorder.specs.Endian.{big_number}
use Rattle.table_file.proofs.IndexWalk.{item_found, none_short, none_past}
use Rattle.table_file.proofs.item_fields.item_at.Goals as goal

pub returns-then-bytes-lt22-clause-none : goal.returns-then-bytes-lt22-clause-none
returns-then-bytes-lt22-clause-none c = λ item rest small. none_short c.args.bytes.now item rest c.if-bytes-lt22.true

pub returns-then-tail-key_len-clause-none : goal.returns-then-tail-key_len-clause-none
returns-then-tail-key_len-clause-none c = λ item rest small.
    let bytes = c.args.bytes.now in
    let read = c.read_u16-key_len.ensures ∙ ap (big_number 2) (take_rest bytes 12) in
    none_past bytes item rest c.read_u16-key_len.result small read (omega (arith, c.if-tail-key_len.true, ap length (take_rest bytes 14)))

pub returns-clause-found : goal.returns-clause-found
returns-clause-found c =
    let bytes = c.args.bytes.now in
    let tail = take_rest bytes 14 in
    let rest : c.split_at.result.1.now ≡ drop c.read_u16-key_len.result (drop 14 bytes) = c.split_at.ensures.back ∙ ap (drop c.read_u16-key_len.result) tail in
    item_found bytes c.split_at.result.0.now _ c.read_u64.result c.read_u32.result c.read_u16-key_len.result c.read_u64-2.result (omega (arith, c.if-bytes-lt22.false)) (λ i. omega (arith, c.type_inv.bytes i))
    c.read_u64.ensures (c.read_u32.ensures ∙ ap (big_number 4) (take_rest bytes 8)) (c.read_u16-key_len.ensures ∙ ap (big_number 2) (take_rest bytes 12))
    (omega (arith, c.if-tail-key_len.false, ap length tail)) (c.split_at.ensures.front ∙ ap (take c.read_u16-key_len.result) tail) (c.read_u64-2.ensures ∙ ap (big_number 8) rest)
    (take_rest c.split_at.result.1.now 8 ∙ ap (drop 8) rest)
