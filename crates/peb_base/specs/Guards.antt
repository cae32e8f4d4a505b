-- The guards of a level by their index. Guard keys ascend, and the guard of an index begins with the
-- key before it; the one at 0, the sentinel, begins with the least key.
use Rattle.std.specs.Prelude.{◌≡◌, ℕ, suc, Bool, true, if◌then◌else◌, List, [], ◌∷◌}
use Rattle.std.specs.List.{list_any}
use Rattle.peb_base.specs.Keys.{Bytes, key_lt, key_le, key_eq}
use Rattle.peb_base.specs.declared.table_row.TableRow.{TableRow}

-- keys that ascend strictly, all above this one
abbrev pub Ascend : Bytes → List Bytes → Type 0
Ascend low [] = Unit {0}
Ascend low (k ∷ ks) = (key_lt low k ≡ true) × Ascend k ks

-- the guard of a key: how many guard keys aren't above it, 0 for the sentinel
abbrev pub guard_of : Bytes → List Bytes → ℕ
guard_of key [] = 0
guard_of key (k ∷ ks) = if key_lt key k then 0 else suc (guard_of key ks)

-- the key is one of the guard keys
abbrev pub is_guard : Bytes → List Bytes → Bool
is_guard key ks = list_any (key_eq key) ks

-- the table's keys all belong to this guard
pub record LiesIn (keys : List Bytes) (guard : ℕ) (row : TableRow) : Type 0 where
  pub smallest : guard_of row.smallest keys ≡ guard
  pub largest : guard_of row.largest keys ≡ guard
  pub ordered : key_le row.smallest row.largest ≡ true
