-- The form of a block: a kind byte, the entries, the places of the restarts, and their number.
use Rattle.std.specs.Prelude.{◌≡◌, ℕ, suc, ◌+◌, ◌<◌, ◌≤◌, ◌%◌, Bool, if◌then◌else◌, ◌==◌, List, [], ◌∷◌, ◌++◌, length, drop}
use Rattle.std.specs.List.{flat_map}
use Rattle.byteorder.specs.Endian.{big_bytes}
use Rattle.peb_base.specs.Keys.{Bytes}
use Rattle.peb_base.specs.Tables.{shared_length}
use Rattle.peb_base.specs.declared.entry.Entry.{Entry}
use Rattle.peb_base.specs.Entries.{AreSorted}
use Rattle.block_form.specs.Parts.{Parts, parts_bytes}

-- every sixteenth entry is a restart: its key is spelled whole
abbrev pub is_restart : ℕ → Bool
is_restart place = place % 16 == 0

-- what is spelled of an entry at this place, after this key
abbrev pub parts_at : ℕ → Bytes → Entry → Parts
parts_at place before e =
    record {
      shared = shared_length place before e.key;
      rest = drop (shared_length place before e.key) e.key;
      number = e.number;
      change = e.change;
    }

-- the bytes of an entry at this place, after this key
unfoldable pub entry_bytes : ℕ → Bytes → Entry → List ℕ
entry_bytes place before e = parts_bytes (parts_at place before e)

-- the bytes of entries from this place on
unfoldable pub entries_bytes : ℕ → Bytes → List Entry → List ℕ
entries_bytes place before [] = []
entries_bytes place before (e ∷ es) =
    entry_bytes place before e ++ entries_bytes (suc place) e.key es

-- where the restarts stand among entries from this place on, of which the first stands at this byte
unfoldable pub restarts : ℕ → ℕ → Bytes → List Entry → List ℕ
restarts place at before [] = []
restarts place at before (e ∷ es) =
    (if is_restart place then at ∷ [] else [])
    ++ restarts (suc place) (at + length (entry_bytes place before e)) e.key es

-- the restarts of a block, counted from its first byte
abbrev pub block_restarts : List Entry → List ℕ
block_restarts es = restarts 0 1 [] es

-- four bytes for each
abbrev pub places_bytes : List ℕ → List ℕ
places_bytes ps = flat_map (big_bytes 4) ps

-- the kind byte, the entries, the places of the restarts, and their number
unfoldable pub block_bytes : List Entry → List ℕ
block_bytes es =
    0 ∷ (entries_bytes 0 [] es
    ++ (places_bytes (block_restarts es) ++ big_bytes 4 (length (block_restarts es))))

-- the bytes are the block of these entries, at least one and ascending
pub record IsBlock (es : List Entry) (bytes : List ℕ) : Type 0 where
  pub some : 0 < length es
  pub small : length bytes ≤ 40960
  pub each : AreSorted es
  pub spelled : bytes ≡ block_bytes es
