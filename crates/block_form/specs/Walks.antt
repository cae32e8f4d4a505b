-- What a walk over the bytes of a block knows.
use Rattle.std.specs.Prelude.{◌≡◌, ℕ, zero, suc, ◌*◌, ◌<◌, ◌≤◌, true, if◌then◌else◌, List, [], ◌∷◌, ◌++◌, length, take, drop}
use Rattle.byteorder.specs.Endian.{big_bytes, big_number}
use Rattle.peb_base.specs.Keys.{Bytes}
use Rattle.peb_base.specs.declared.entry.Entry.{Entry}
use Rattle.peb_base.specs.Entries.{IsEntry, comes_before, AscendFrom, AreSorted}
use Rattle.block_form.specs.Form.{is_restart, entry_bytes, entries_bytes, restarts, places_bytes}
use Rattle.peb_base.specs.Tables.{shared_length}
use Rattle.block_form.specs.Parts.{Parts, parts_from, behind_from}

-- the entry of these parts, after this key
abbrev pub entry_from : Bytes → Parts → Entry
entry_from before p =
    record { key = take p.shared before ++ p.rest; number = p.number; change = p.change }

-- the parts are those of an entry at this place, after this key and number
pub record Meets (place : ℕ) (before : Bytes) (above : ℕ) (p : Parts) : Type 0 where
  pub kept : p.shared ≤ length before
  pub longest : shared_length place before (take p.shared before ++ p.rest) ≡ p.shared
  pub entry : IsEntry (entry_from before p)
  pub after : comes_before before above (take p.shared before ++ p.rest) p.number ≡ true

-- the bytes begin with an entry of these parts
pub record IsNext (place : ℕ) (before : Bytes) (above : ℕ) (bytes : List ℕ) (p : Parts)
    (behind : List ℕ) : Type 0 where
  pub meets : Meets place before above p
  pub spelled : bytes ≡ entry_bytes place before (entry_from before p) ++ behind

-- the bytes begin with some entry, after this key
pub record BeginsWithEntry (before : Bytes) (bytes : List ℕ) : Type 0 where
  pub place : ℕ
  pub entry : Entry
  pub more : List ℕ
  pub is : IsEntry entry
  pub spelled : bytes ≡ entry_bytes place before entry ++ more

-- the place of this entry in four bytes, where it is a restart
abbrev pub places_at : ℕ → ℕ → List ℕ
places_at place at = if is_restart place then big_bytes 4 at else []

-- the bytes and the places are those of these entries, from the one at this place on
pub record Spells (place : ℕ) (at : ℕ) (before : Bytes) (above : ℕ) (es : List Entry)
    (bytes : List ℕ) (places : List ℕ) : Type 0 where
  pub each : AscendFrom before above es
  pub spelled : bytes ≡ entries_bytes place before es
  pub placed : places ≡ places_bytes (restarts place at before es)

-- the entries and the places of a block's bytes
pub record BlockParts (bytes : List ℕ) (entries : List ℕ) (places : List ℕ) : Type 0 where
  pub number : ℕ
  pub tail : List ℕ
  pub small : length bytes ≤ 40960
  pub whole : bytes ≡ 0 ∷ ((entries ++ places) ++ tail)
  pub four : length tail ≡ 4
  pub long : length places ≡ 4 * number
  pub read : number ≡ big_number 4 tail
  pub again : tail ≡ big_bytes 4 number

-- the bytes are those of these entries, so many and at least one
pub record HoldsEntries (entries : List ℕ) (count : ℕ) (es : List Entry) : Type 0 where
  pub some : 0 < length es
  pub each : AreSorted es
  pub spelled : entries ≡ entries_bytes 0 [] es
  pub count_is : count ≡ length es

-- the entries that bytes read as, so many and with no test
unfoldable pub entries_from : ℕ → Bytes → List ℕ → List Entry
entries_from zero before bytes = []
entries_from (suc n) before [] = []
entries_from (suc n) before (b ∷ bytes) =
    entry_from before (parts_from (b ∷ bytes))
    ∷ entries_from n (entry_from before (parts_from (b ∷ bytes))).key (behind_from (b ∷ bytes))

-- the entries that a block's bytes read as, so many and with no test
abbrev pub entries_in : ℕ → List ℕ → List Entry
entries_in count bytes = entries_from count [] (drop 1 bytes)
