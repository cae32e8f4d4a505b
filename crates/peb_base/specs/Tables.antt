-- Sorted tables: their lengths, and what a row says of their entries.
use Rattle.std.specs.Prelude.{◌≡◌, ℕ, suc, ◌+◌, ◌-◌, ◌*◌, ◌/◌, ◌%◌, ◌<◌, max, min, Bool, ◌&&◌, if◌then◌else◌, List, [], ◌∷◌, length, nat_lt, nat_le, ◌==◌, sum_by}
use Rattle.peb_base.specs.Keys.{Bytes, key_le}
use Rattle.peb_base.specs.Profiles.{Column}
use Rattle.peb_base.specs.Entries.{value_of}
use Rattle.peb_base.specs.declared.entry.Entry.{Entry}
use Rattle.peb_base.specs.declared.table_row.TableRow.{TableRow}

-- the key of the first entry
abbrev pub first_key : List Entry → Bytes
first_key [] = []
first_key (e ∷ es) = e.key

-- the key of the last entry
abbrev pub last_key : List Entry → Bytes
last_key [] = []
last_key (e ∷ []) = e.key
last_key (e ∷ f ∷ es) = last_key (f ∷ es)

-- the least number of an entry
abbrev pub least_number : List Entry → ℕ
least_number [] = 0
least_number (e ∷ []) = e.number
least_number (e ∷ f ∷ es) = min e.number (least_number (f ∷ es))

-- the greatest number of an entry
abbrev pub greatest_number : List Entry → ℕ
greatest_number [] = 0
greatest_number (e ∷ es) = max e.number (greatest_number es)

-- the lengths of keys and values together
abbrev pub raw_length : List Entry → ℕ
raw_length es = sum_by (λ e. length e.key + length (value_of e.change)) es

-- the length of the longest common beginning
abbrev pub common_prefix : Bytes → Bytes → ℕ
common_prefix [] ys = 0
common_prefix (x ∷ xs) [] = 0
common_prefix (x ∷ xs) (y ∷ ys) = if x == y then suc (common_prefix xs ys) else 0

-- how much of its key an entry shares with the key before it, behind so many
-- entries of its block: nothing at every sixteenth
abbrev pub shared_length : ℕ → Bytes → Bytes → ℕ
shared_length places before key = if places % 16 == 0 then 0 else common_prefix before key

-- the length of an entry behind so many entries of its block
abbrev pub entry_length : ℕ → Bytes → Entry → ℕ
entry_length places before e =
    17 + (length e.key - shared_length places before e.key) + length (value_of e.change)

-- the length of a block of so many entries with these lengths together: kind byte, entries, a
-- place for every sixteen entries, and their number
abbrev pub block_length : ℕ → ℕ → ℕ
block_length places size = 1 + size + 4 * ((places + 15) / 16) + 4

-- the length of the index item of a block with this last key
abbrev pub item_length : Bytes → ℕ
item_length last = 22 + length last

-- the lengths of blocks and index items, behind the entries of a begun block
abbrev pub body_length : ℕ → ℕ → ℕ → Bytes → List Entry → ℕ
body_length full places size before [] =
    if places == 0 then 0 else block_length places size + item_length before
body_length full places size before (e ∷ es) =
    let grown = size + entry_length places before e in
    if nat_le full (block_length (suc places) grown)
    then block_length (suc places) grown + item_length e.key + body_length full 0 0 [] es
    else body_length full (suc places) grown e.key es

-- the length of the filter of so many entries
abbrev pub filter_length : ℕ → ℕ
filter_length count = (max 64 (10 * count) + 7) / 8

-- the length of the table of these entries: blocks, index, filter and footer
unfoldable pub table_length : Column → List Entry → ℕ
table_length o es = body_length o.block_bytes 0 0 [] es + 4 + filter_length (length es) + 48

-- the row of a table of this tier is in its form: its keys and its numbers are in order, and it has entries
abbrev pub is_row : ℕ → TableRow → Bool
is_row tier row = key_le row.smallest row.largest && nat_le row.first row.last
    && nat_lt 0 row.entries && row.tier == tier

-- the row tells the keys, counts and numbers of these entries
pub record IsRowOf (row : TableRow) (es : List Entry) : Type 0 where
  pub some : 0 < length es
  pub smallest : row.smallest ≡ first_key es
  pub largest : row.largest ≡ last_key es
  pub entries : row.entries ≡ length es
  pub raw : row.raw ≡ raw_length es
  pub first : row.first ≡ least_number es
  pub last : row.last ≡ greatest_number es
