-- A look-up misses no table in which its key may lie.
use Rattle.std.specs.Prelude.{◌≡◌, ℕ, zero, suc, true, List}
use Rattle.peb_base.specs.Keys.{Bytes, key_le}
use Rattle.peb_base.specs.Members.{IsIn}
use Rattle.peb_base.specs.declared.table_row.TableRow.{TableRow}
use Rattle.guard_level.specs.Guards.{tables_of}
use Rattle.version.specs.Levels.{Levels, level_at}

-- the key lies between the table's smallest and largest
abbrev pub Covers : TableRow → Bytes → Type 0
Covers row key = (key_le row.smallest key ≡ true) × (key_le key row.largest ≡ true)

-- each table of level 0 is among these, and of a deeper level each table of any guard whose keys
-- reach over the key
abbrev pub MissesNone : {T : Type 0} → (T → TableRow) → Levels T → ℕ → Bytes → List T → Type 0
MissesNone {T} row v zero key found = (t : T) → IsIn t v.top → IsIn t found
MissesNone {T} row v (suc n) key found =
    (guard : ℕ) (t : T) → IsIn t (tables_of (level_at v n) guard) → Covers (row t) key
    → IsIn t found
