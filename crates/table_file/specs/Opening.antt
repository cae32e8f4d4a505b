-- What bytes are taken as a table.
use Rattle.std.specs.Prelude.{◌≡◌, ℕ, ◌+◌, ◌<◌, ◌≤◌, ◌^◌, true, List, [], ◌∷◌, ◌++◌, length}
use Rattle.peb_base.specs.Entries.{comes_before}
use Rattle.peb_base.specs.Keys.{Bytes}
use Rattle.peb_base.specs.Tables.{filter_length}
use Rattle.peb_base.specs.declared.table_row.TableRow.{TableRow}
use Rattle.table_file.specs.Form.{index_bytes, footer_bytes}
use Rattle.table_file.specs.declared.footer.Footer.{Footer}
use Rattle.table_file.specs.declared.index_item.IndexItem.{IndexItem}

-- an item of a block at this place, whose last entry comes after this key and number
pub record IsItem (place : ℕ) (before : Bytes) (above : ℕ) (item : IndexItem) : Type 0 where
  pub place_is : item.place ≡ place
  pub len : item.len ≤ 40960
  pub some : 0 < length item.key
  pub short : length item.key ≤ 1024
  pub number : item.number < 2 ^ 63
  pub after : comes_before before above item.key item.number ≡ true

-- items of blocks that follow each other from this place up to this end, and whose last
-- entries ascend, all after this key and number
abbrev pub AreItems : ℕ → Bytes → ℕ → ℕ → List IndexItem → Type 0
AreItems place before above end [] = place ≡ end
AreItems place before above end (item ∷ items) =
    IsItem place before above item × AreItems (place + item.len) item.key item.number end items

-- an index of a block at least, in which the blocks end here
pub record IsIndex (end : ℕ) (items : List IndexItem) : Type 0 where
  pub some : 0 < length items
  pub each : AreItems 0 [] 0 end items
  pub short : length (index_bytes items) ≤ 2147483648

-- a footer that agrees with the row: the parts follow each other, and the filter
-- is as long as the count of entries asks
pub record IsFooterOf (row : TableRow) (footer : Footer) : Type 0 where
  pub number : footer.number ≡ row.number
  pub entries : footer.entries ≡ row.entries
  pub few : row.entries ≤ 1717986918
  pub filter_len : footer.filter_len ≡ filter_length row.entries
  pub index_len : footer.index_len ≤ 2147483648
  pub adjoin : footer.index + footer.index_len ≡ footer.filter
  pub end : footer.filter + footer.filter_len + 48 ≡ row.bytes

-- the bytes are blocks, the index of these items, this filter and their footer, and agree with the row
pub record OpensAs (row : TableRow) (items : List IndexItem) (filter : List ℕ)
    (bytes : List ℕ) : Type 0 where
  pub body : List ℕ
  pub footer : Footer
  pub spelled : bytes ≡ body ++ (index_bytes items ++ (filter ++ footer_bytes footer))
  pub agrees : IsFooterOf row footer
  pub index : IsIndex (length body) items
  pub body_len : length body ≡ footer.index
  pub index_len : length (index_bytes items) ≡ footer.index_len
  pub filter_len : length filter ≡ footer.filter_len

-- no index and filter make the bytes a table of the row
abbrev pub IsNoTable : TableRow → List ℕ → Type 0
IsNoTable row bytes =
    (items : List IndexItem) (filter : List ℕ) → OpensAs row items filter bytes → ⊥

-- what is opened fits the row, whatever the device tells: by its index the blocks adjoin and end where the
-- index begins by a footer that agrees, and the filter is as long as that says
pub record FitsRow (row : TableRow) (items : List IndexItem) (filter : List ℕ) : Type 0 where
  pub footer : Footer
  pub agrees : IsFooterOf row footer
  pub index : IsIndex footer.index items
  pub filter_len : length filter ≡ footer.filter_len
