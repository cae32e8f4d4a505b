-- The guards of a level by their index and by their ranges are the same.
use Rattle.std.specs.Prelude.{◌≡◌, ◌↔◌, ◌≤◌, ℕ, zero, suc, true, false, List, [], ◌∷◌, length, Option, Some, None}
use Rattle.std.specs.List.{insert}
use Rattle.peb_base.specs.Keys.{Bytes, key_le}
use Rattle.peb_base.specs.Guards.{Ascend, guard_of, is_guard, LiesIn}
use Rattle.peb_base.specs.declared.table_row.TableRow.{TableRow}
use Rattle.flsm_model.specs.Ranges.{in_range, with_key, range_of}
use Rattle.flsm_model.specs.Fits.{lies_in}

-- the range of the guard at an index, where lo bounds the first one from below
abbrev pub range_from : Bytes → List Bytes → ℕ → Bytes × Option Bytes
range_from lo [] guard = (lo, None)
range_from lo (k ∷ ks) zero = (lo, Some k)
range_from lo (k ∷ ks) (suc guard) = range_from k ks guard

-- the range of the guard at an index: from the key before it, or the empty string, to the next key,
-- if there is one
abbrev pub range_at : List Bytes → ℕ → Bytes × Option Bytes
range_at keys guard = range_from [] keys guard

-- the range that has a key is the one at its guard's index
abbrev pub RangeIsOfGuard : Type 0
RangeIsOfGuard = (keys : List Bytes) (key : Bytes) → range_of keys key ≡ range_at keys (guard_of key keys)

-- a guard's range has exactly the keys that belong to it, so each key lies in just one
abbrev pub RangesPartKeys : Type 0
RangesPartKeys = (keys : List Bytes) (guard : ℕ) (key : Bytes) → Ascend [] keys → guard ≤ length keys
    → (in_range (range_at keys guard).0 (range_at keys guard).1 key ≡ true) ↔ (guard_of key keys ≡ guard)

-- a table lies in a guard exactly where its row, whose keys are in order, lies in the guard's range
abbrev pub RowsLieInRanges : Type 0
RowsLieInRanges = (keys : List Bytes) (guard : ℕ) (row : TableRow) → Ascend [] keys → guard ≤ length keys
    → LiesIn keys guard row
    ↔ ((lies_in (range_at keys guard) row ≡ true) × (key_le row.smallest row.largest ≡ true))

-- a new guard key stands behind those of its guard
abbrev pub NewGuardIsInserted : Type 0
NewGuardIsInserted = (keys : List Bytes) (key : Bytes) → is_guard key keys ≡ false
    → insert keys (guard_of key keys) key ≡ with_key key keys
