-- Which shape of a record a version stands for.
use Rattle.std.specs.Prelude.{◌≡◌, ◌≢◌, ℕ, suc, ◌-◌, ◌<◌, ◌≤◌, List, [], length, map, filter, get_or, ◌==◌}
use Rattle.peb_base.specs.Guards.{guard_of, LiesIn}
use Rattle.peb_base.specs.Keys.{Bytes}
use Rattle.peb_base.specs.declared.table_row.TableRow.{TableRow}
use Rattle.flsm_model.specs.Shape.{Shape}
use Rattle.flsm_model.specs.Ledgers.{rows_at}
use Rattle.guard_level.specs.Guards.{Guards, tables_of}
use Rattle.version.specs.Levels.{Levels, level_at}

-- the rows of a guard, among those of its level, in order
abbrev pub rows_of_guard : List Bytes → ℕ → List TableRow → List TableRow
rows_of_guard keys guard rows = filter (λ r. guard_of r.smallest keys == guard) rows

-- each guard has the tables of those rows that begin in it, in order
abbrev pub HasRows : {T : Type 0} → (T → TableRow) → Guards T → List TableRow → Type 0
HasRows row g rows = (guard : ℕ) → map row (tables_of g guard) ≡ rows_of_guard g.keys guard rows

-- the level has no guard key and no table
pub record IsEmptyLevel {T : Type 0} (g : Guards T) : Type 0 where
  pub no_keys : g.keys ≡ []
  pub no_tables : (guard : ℕ) → tables_of g guard ≡ []

-- the level has these guard keys and the tables of these rows
pub record IsOfLevel {T : Type 0} (row : T → TableRow) (g : Guards T) (keys : List Bytes)
    (rows : List TableRow) : Type 0 where
  pub keys_are : g.keys ≡ keys
  pub each : HasRows row g rows

-- the version has these guards and the tables of these live rows, level by level
pub record HasTables {T : Type 0} (row : T → TableRow) (v : Levels T) (guards : List (List Bytes))
    (live : List TableRow) : Type 0 where
  pub count : length v.levels ≡ length guards
  pub top : map row v.top ≡ rows_at 0 live
  pub deeper : (n : ℕ) → n < length guards
      → IsOfLevel row (level_at v n) (get_or guards n []) (rows_at (suc n) live)

-- the version has the guards and the live tables of the shape
abbrev pub IsVersionOf : {T : Type 0} → (T → TableRow) → Levels T → Shape → Type 0
IsVersionOf row v s = HasTables row v s.guards s.live

-- a table with the row can stand in a version with these guards: its level is one of them or 0, and
-- it lies in one guard of it
pub record HasPlace (guards : List (List Bytes)) (row : TableRow) : Type 0 where
  pub deep : row.level ≤ length guards
  pub lies : row.level ≢ 0
      → LiesIn (get_or guards (row.level - 1) [])
      (guard_of row.smallest (get_or guards (row.level - 1) [])) row
