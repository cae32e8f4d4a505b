-- A block that is built.
use Rattle.std.specs.Prelude.{◌≡◌, ℕ, ◌+◌, ◌≤◌, List, [], ◌∷◌, length, take}
use Rattle.peb_base.specs.Keys.{Bytes}
use Rattle.peb_base.specs.declared.entry.Entry.{Entry}
use Rattle.block_form.specs.declared.room.Room.{Room}
use Rattle.block_form.specs.Form.{entries_bytes, places_bytes, block_restarts}
use Rattle.peb_base.specs.Entries.{AreSorted}

-- the length at which a block is full, and the entries so far
pub record Building : Type 0 where
  pub full : ℕ
  pub entries : List Entry

-- the bytes that were put into a buffer
abbrev pub put_in : Room → List ℕ
put_in room = take room.len room.bytes.items

-- the key of the last of these entries, or this one
abbrev pub key_after : Bytes → List Entry → Bytes
key_after before [] = before
key_after before (e ∷ es) = key_after e.key es

-- what is kept of a block that is built: its bytes without the restarts, the
-- restarts, the number of entries and the last key
pub record IsBuilding (full : ℕ) (out places : List ℕ) (count : ℕ) (key : Bytes)
    (es : List Entry) : Type 0 where
  pub small : full ≤ 4096
  pub room : length out + length places ≤ 40956
  pub each : AreSorted es
  pub text : out ≡ 0 ∷ entries_bytes 0 [] es
  pub placed : places ≡ places_bytes (block_restarts es)
  pub counted : count ≡ length es
  pub key_is : key ≡ key_after [] es
