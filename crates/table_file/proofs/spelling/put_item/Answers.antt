use Rattle.std.proofs.Common.{◌++◌, ◌∙◌, ap, length}
use Rattle.byteorder.specs.Endian.{big_bytes}
use Rattle.table_file.specs.Form.{item_bytes}
use Rattle.table_file.proofs.Spelled.{five}
use Rattle.table_file.proofs.spelling.put_item.Goals as goal

pub returns : goal.returns
unfolding item_bytes
returns c =
    let item = c.args.item.now in
    five c.args.bytes.now.items _ _ _ _ _ (big_bytes 8 item.place) (big_bytes 4 item.len) (big_bytes 2 (length item.key)) item.key (big_bytes 8 item.number)
    (c.in_ok-extend_from_slice.ensures.items ∙ ap (λ l. c.args.bytes.now.items ++ l) c.to_be_bytes.ensures)
    (c.in_ok-extend_from_slice-2.ensures.items ∙ ap (λ l. c.extend_from_slice.new.self.items ++ l) c.to_be_bytes-2.ensures)
    (c.in_ok-extend_from_slice-3.ensures.items ∙ ap (λ l. c.extend_from_slice-2.new.self.items ++ l) (c.to_be_bytes-3.ensures ∙ ap (λ k. big_bytes 2 (length k)) c.bytes-key.ensures.value))
    (c.in_ok-extend_from_slice-4.ensures.items ∙ ap (λ l. c.extend_from_slice-3.new.self.items ++ l) c.bytes-key.ensures.value)
    (c.in_ok-extend_from_slice-5.ensures.items ∙ ap (λ l. c.extend_from_slice-4.new.self.items ++ l) (c.to_be_bytes-4.ensures ∙ ap (big_bytes 8) c.packed.ensures.number))
