-- The form of a table: its blocks, the index, the filter, the footer.
use Rattle.std.specs.Prelude.{ℕ, ◌+◌, if◌then◌else◌, List, [], ◌∷◌, ◌++◌, length, nat_le, map}
use Rattle.std.specs.List.{flat_map, fold}
use Rattle.byteorder.specs.Endian.{big_bytes}
use Rattle.peb_base.specs.Choice.{mixed}
use Rattle.peb_base.specs.Tables.{last_key}
use Rattle.peb_base.specs.declared.entry.Entry.{Entry}
use Rattle.block_form.specs.Form.{block_bytes}
use Rattle.bloom.specs.Filter.{filter_of}
use Rattle.table_file.specs.declared.footer.Footer.{Footer}
use Rattle.table_file.specs.declared.index_item.IndexItem.{IndexItem}

-- the closed blocks of a table, and the entries of the one that is begun
pub record Cut : Type 0 where
  pub closed : List (List Entry)
  pub begun : List Entry

-- a block is closed as soon as it is full
abbrev pub closed_at : ℕ → List (List Entry) → List Entry → Cut
closed_at full closed begun =
    if nat_le full (length (block_bytes begun))
    then record { closed = closed ++ begun ∷ []; begun = [] }
    else record { closed = closed; begun = begun }

-- one entry more
abbrev pub cut_on : ℕ → Cut → Entry → Cut
cut_on full cut e = closed_at full cut.closed (cut.begun ++ e ∷ [])

-- the entries in blocks, where a block is full at this length
abbrev pub cut_of : ℕ → List Entry → Cut
cut_of full es = fold (cut_on full) (record { closed = []; begun = [] }) es

-- the begun block as a last one, unless it is empty
abbrev pub with_last : List (List Entry) → List Entry → List (List Entry)
with_last closed [] = closed
with_last closed (e ∷ es) = closed ++ (e ∷ es) ∷ []

-- the blocks of a table
abbrev pub blocks_of : ℕ → List Entry → List (List Entry)
blocks_of full es = with_last (cut_of full es).closed (cut_of full es).begun

-- the blocks, back to back
abbrev pub body_bytes : List (List Entry) → List ℕ
body_bytes blocks = flat_map block_bytes blocks

-- the number of the last entry
abbrev pub last_number : List Entry → ℕ
last_number [] = 0
last_number (e ∷ []) = e.number
last_number (e ∷ f ∷ es) = last_number (f ∷ es)

-- what the index keeps of a block at this place
abbrev pub item_of : ℕ → List Entry → IndexItem
item_of place es =
    record {
      place = place;
      len = length (block_bytes es);
      key = last_key es;
      number =
          last_number es;
    }

-- the items of blocks, of which the first is at this place
abbrev pub items_from : ℕ → List (List Entry) → List IndexItem
items_from place [] = []
items_from place (es ∷ blocks) =
    item_of place es ∷ items_from (place + length (block_bytes es)) blocks

-- an item: place, length, the last key behind its length, the last number
unfoldable pub item_bytes : IndexItem → List ℕ
item_bytes item = big_bytes 8 item.place
    ++ (big_bytes 4 item.len
    ++ (big_bytes 2 (length item.key) ++ (item.key ++ big_bytes 8 item.number)))

-- the index: the number of items, and they
abbrev pub index_bytes : List IndexItem → List ℕ
index_bytes items = big_bytes 4 (length items) ++ flat_map item_bytes items

-- the filter of the entries' keys
abbrev pub key_filter : List Entry → List ℕ
key_filter es = filter_of (length es) (map (λ e. mixed e.key) es)

-- FLSMTAB1
abbrev pub magic : List ℕ
magic = 70 ∷ 76 ∷ 83 ∷ 77 ∷ 84 ∷ 65 ∷ 66 ∷ 49 ∷ []

-- the footer: the table's number, where the index and the filter stand, the
-- number of entries, and the magic bytes
unfoldable pub footer_bytes : Footer → List ℕ
footer_bytes f =
    big_bytes 8 f.number
    ++ (big_bytes 8 f.index
    ++ (big_bytes 4 f.index_len
    ++ (big_bytes 8 f.filter
    ++ (big_bytes 4 f.filter_len ++ (big_bytes 8 f.entries ++ magic)))))

-- the table of this number with these entries in these blocks
unfoldable pub blocks_table : ℕ → List (List Entry) → List Entry → List ℕ
blocks_table number blocks es =
    let body = body_bytes blocks in
    let index = index_bytes (items_from 0 blocks) in
    let filter = key_filter es in
    body ++ (index ++ (filter ++ footer_bytes (record {
      number = number;
      index = length body;
      index_len = length index;
      filter = length body + length index;
      filter_len = length filter;
      entries = length es;
    })))

-- the table of this number with these entries, in a profile whose blocks are full at this length
abbrev pub table_bytes : ℕ → ℕ → List Entry → List ℕ
table_bytes full number es = blocks_table number (blocks_of full es) es
