use Rattle.std.proofs.Common.{◌≡◌, ◌-◌, ◌∙◌, ap, drop, get_or, length, length-drop, arith}
use Rattle.std.proofs.lemmas.List.{take_all}
use Rattle.byteorder.specs.Endian.{big_number}
use Rattle.block_form.specs.Parts.{head_from}
use Rattle.block_form.proofs.head.head_of.Goals as goal

pub returns : goal.returns
unfolding head_from
returns c =
    let bytes = c.args.bytes.now in
    let shared : c.read_u16.result ≡ big_number 2 bytes = c.read_u16.ensures in
    let rest : c.read_u16-2.result ≡ big_number 2 (drop 2 bytes) = c.read_u16-2.ensures ∙ ap (big_number 2) (take_all (length bytes - 2) (drop 2 bytes) (omega (arith, length-drop 2 bytes))) in
    let number : c.read_u64.result ≡ big_number 8 (drop 4 bytes) = c.read_u64.ensures ∙ ap (big_number 8) (take_all (length bytes - 4) (drop 4 bytes) (omega (arith, length-drop 4 bytes))) in
    let value : c.read_u32.result ≡ big_number 4 (drop 13 bytes) = c.read_u32.ensures ∙ ap (big_number 4) (take_all (length bytes - 13) (drop 13 bytes) (omega (arith, length-drop 13 bytes))) in
    λ i. record { shared = shared i; rest = rest i; number = number i; code = get_or bytes 12 0; value = value i }
