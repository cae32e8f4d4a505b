use Rattle.std.proofs.Common.{◌≡◌, ◌++◌, take, length}
use Rattle.std.specs.List.{flat_map}
use Rattle.byteorder.specs.Endian.{big_bytes}
use Rattle.table_file.specs.Form.{item_bytes}
use Rattle.table_file.proofs.spelling.index_text.Given as goal

abbrev pub invariant-loop-item : goal.invariant-loop-item
invariant-loop-item l = l.bytes.items ≡ big_bytes 4 (length l.items) ++ flat_map item_bytes (take l.item-index l.items)
