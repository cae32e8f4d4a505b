-- The guards of a level.
use Rattle.std.specs.Prelude.{◌≡◌, ℕ, suc, true, if◌then◌else◌, List, [], ◌∷◌, ◌++◌, length, set, get_or}
use Rattle.std.specs.List.{AllByRecursion, insert}
use Rattle.peb_base.specs.Keys.{Bytes, key_lt}
use Rattle.peb_base.specs.Guards.{Ascend, guard_of, is_guard, LiesIn}
use Rattle.peb_base.specs.declared.entry.Entry.{Entry}
use Rattle.peb_base.specs.declared.table_row.TableRow.{TableRow}
use Rattle.guard_level.specs.TableLists.{below, above, TakesFrom, AreShared}

-- the guard keys, and the tables of the sentinel and of each guard
pub record Guards (T : Type 0) : Type 0 where
  pub keys : List Bytes
  pub tables : List (List T)

-- the tables of a guard
abbrev pub tables_of : {T : Type 0} → Guards T → ℕ → List T
tables_of g guard = get_or g.tables guard []

-- guard keys ascend, and each table lies in its guard
pub record IsLevel {T : Type 0} (row : T → TableRow) (g : Guards T) : Type 0 where
  pub ascend : Ascend [] g.keys
  pub each : length g.tables ≡ suc (length g.keys)
  pub inside : (guard : ℕ) → AllByRecursion (λ t. LiesIn g.keys guard (row t)) (tables_of g guard)

-- a table behind those of its guard
abbrev pub with_table : {T : Type 0} → (T → TableRow) → T → Guards T → Guards T
with_table row t g =
    let guard = guard_of (row t).smallest g.keys in
    record { keys = g.keys; tables = set g.tables guard (tables_of g guard ++ t ∷ []) }

-- a new guard takes the tables at or above its key from the guard that it splits
abbrev pub split_at : {T : Type 0} → (T → TableRow) → Bytes → Guards T → Guards T
split_at row key g =
    let guard = guard_of key g.keys in
    record {
      keys = insert g.keys guard key;
      tables = insert (set g.tables guard (below row key (tables_of g guard))) (suc guard)
          (above row key (tables_of g guard));
    }

-- a key that is a guard changes nothing
abbrev pub cut_at : {T : Type 0} → (T → TableRow) → Bytes → Guards T → Guards T
cut_at row key g = if is_guard key g.keys then g else split_at row key g

-- no table has the key and one below it
abbrev pub IsUncut : {T : Type 0} → (T → TableRow) → Bytes → List T → Type 0
IsUncut row key ts =
    AllByRecursion
    (λ t. (key_lt (row t).smallest key ≡ true) → key_lt (row t).largest key ≡ true) ts

-- one guard gave a table of this number up
pub record Takes {T : Type 0} (row : T → TableRow) (number : ℕ) (old : Guards T) (t : T)
    (new : Guards T) : Type 0 where
  pub keys : new.keys ≡ old.keys
  pub tables : TakesFrom row number old.tables t new.tables

-- the same keys, and for each guard tables with the same rows and entries
pub record IsCopy {T : Type 0} (row : T → TableRow) (holds : T → List Entry → Type 0)
    (g copy : Guards T) : Type 0 where
  pub keys : copy.keys ≡ g.keys
  pub tables : (guard : ℕ) → AreShared row holds (tables_of g guard) (tables_of copy guard)
