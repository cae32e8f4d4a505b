-- How many entries a block has at most.
use Rattle.std.proofs.Common.{ℕ, suc, ◌<◌, ◌≤◌, List, [], ◌∷◌, ◌++◌, length, arith, length-append}
use Rattle.byteorder.specs.Endian.{big_bytes}
use Rattle.peb_base.specs.Keys.{Bytes}
use Rattle.peb_base.specs.declared.entry.Entry.{Entry}
use Rattle.block_form.specs.Form.{entry_bytes, entries_bytes, block_bytes, places_bytes, block_restarts}
use Rattle.block_form.specs.Parts.{head_bytes, parts_bytes}

entries_long : (place : ℕ) (before : Bytes) (es : List Entry)
    → length es ≤ length (entries_bytes place before es)
unfolding entries_bytes entry_bytes parts_bytes head_bytes
entries_long place before [] = omega arith
entries_long place before (e ∷ es) =
    omega (
      arith,
      entries_long (suc place) e.key es,
      length-append (entry_bytes place before e) (entries_bytes (suc place) e.key es),
      one_long place before e,
    )
  where
    one_long : (place : ℕ) (before : Bytes) (e : Entry) → 1 ≤ length (entry_bytes place before e)
    one_long place before e = omega arith

-- a block has fewer entries than bytes
pub entries_few : (es : List Entry) → length es < length (block_bytes es)
unfolding block_bytes
entries_few es =
    let r = block_restarts es in
    omega (
      arith,
      entries_long 0 [] es,
      length-append (entries_bytes 0 [] es) (places_bytes r ++ big_bytes 4 (length r)),
    )
