-- Looking through an index.
use Rattle.std.specs.Prelude.{ℕ, suc, Bool, true, ◌&&◌, if◌then◌else◌, List, [], ◌∷◌, Option, Some, None, nat_le}
use Rattle.peb_base.specs.Entries.{comes_before}
use Rattle.peb_base.specs.Keys.{Bytes}
use Rattle.table_file.specs.declared.index_item.IndexItem.{IndexItem}

-- the last entries of the blocks ascend strictly in entry order, all behind this key and number
abbrev pub ascend_from : Bytes → ℕ → List IndexItem → Bool
ascend_from before above [] = true
ascend_from before above (item ∷ items) =
    comes_before before above item.key item.number && ascend_from item.key item.number items

-- the last entries of the blocks ascend strictly
abbrev pub ascend : List IndexItem → Bool
ascend items = ascend_from [] 0 items

-- no block is longer than 40,960 bytes
abbrev pub are_short : List IndexItem → Bool
are_short [] = true
are_short (item ∷ items) = nat_le item.len 40960 && are_short items

-- the block ends before this key and number
abbrev pub ends_before : Bytes → ℕ → IndexItem → Bool
ends_before key number item = comes_before item.key item.number key number

-- the index of the first block that doesn't end before this key and number, or the number of blocks
abbrev pub index_for : Bytes → ℕ → List IndexItem → ℕ
index_for key number [] = 0
index_for key number (item ∷ items) =
    if ends_before key number item then suc (index_for key number items) else 0

-- the place and the length of the first block that doesn't end before this key and number
abbrev pub block_for : Bytes → ℕ → List IndexItem → Option (ℕ × ℕ)
block_for key number [] = None
block_for key number (item ∷ items) = if comes_before item.key item.number key number
    then block_for key number items else Some (item.place, item.len)
