-- What an edit does to one level: tables are taken away, keys become guards, tables are added.
use Rattle.std.specs.Prelude.{◌≡◌, ◌≢◌, ℕ, ◌-◌, ◌≤◌, true, List, [], ◌++◌, length, map, get_or, set, ◌==◌}
use Rattle.std.specs.List.{AllByRecursion, list_all}
use Rattle.peb_base.specs.Guards.{Ascend, guard_of, LiesIn}
use Rattle.peb_base.specs.Keys.{Bytes, key_lt}
use Rattle.peb_base.specs.Members.{IsIn}
use Rattle.peb_base.specs.Profiles.{Column}
use Rattle.peb_base.specs.declared.table_row.TableRow.{TableRow}
use Rattle.flsm_model.specs.declared.edit.Edit.{Edit}
use Rattle.flsm_model.specs.Fits.{fits, numbers_ascend, numbers_differ}
use Rattle.flsm_model.specs.Ledgers.{rows_at}
use Rattle.flsm_model.specs.Ranges.{with_keys}
use Rattle.flsm_model.specs.Shape.{Shape, inputs_of, outputs_of, rows_numbered, rows_without, shape_after}
use Rattle.flsm_model.specs.Sound.{IsSound}
use Rattle.guard_level.specs.Guards.{Guards, tables_of}
use Rattle.version.specs.Levels.{Levels}
use Rattle.version_set.specs.Shapes.{HasRows, HasTables, IsVersionOf}

-- ---- numbers and rows

-- no two of the rows have one number
abbrev pub Differ : List TableRow → Type 0
Differ rows = numbers_differ (map (λ r. r.number) rows) ≡ true

-- each of the rows is at the level
abbrev pub AreAt : ℕ → List TableRow → Type 0
AreAt level rows = list_all (λ r. r.level == level) rows ≡ true

-- each number is that of one of the rows
abbrev pub AreNumbersOf : List ℕ → List TableRow → Type 0
AreNumbersOf ns rows = AllByRecursion (λ n. (r : TableRow) × (IsIn r rows × (r.number ≡ n))) ns

-- numbers that ascend, each of one of the rows, of which no two have one number
pub record AreInputs (ns : List ℕ) (rows : List TableRow) : Type 0 where
  pub differ : Differ rows
  pub ascend : numbers_ascend ns ≡ true
  pub among : AreNumbersOf ns rows

-- tables of these numbers, in order, each with one of these rows
pub record AreTablesOf {T : Type 0} (row : T → TableRow) (ns : List ℕ) (rows : List TableRow)
    (ts : List T) : Type 0 where
  pub numbered : map (λ t. (row t).number) ts ≡ ns
  pub among : AllByRecursion (λ t. IsIn (row t) rows) ts

-- tables of these numbers were taken out, and the others are left in this sense
pub record IsTaken {T : Type 0} (row : T → TableRow) (Has : List TableRow → Type 0) (gone : List T)
    (ns : List ℕ) (rows : List TableRow) : Type 0 where
  pub has : Has (rows_without ns rows)
  pub tables_are : AreTablesOf row ns rows gone

-- every table of the level meets P
abbrev pub EachTable : {T : Type 0} → (T → Type 0) → Guards T → Type 0
EachTable P g = (guard : ℕ) → AllByRecursion P (tables_of g guard)

-- the key doesn't split the row's table
abbrev pub IsWhole : Bytes → TableRow → Type 0
IsWhole key r = key_lt r.smallest key ≡ true → key_lt r.largest key ≡ true

-- the row's keys all belong to one of the guards
abbrev pub LiesInOne : List Bytes → TableRow → Type 0
LiesInOne keys r = LiesIn keys (guard_of r.smallest keys) r

-- ---- a change of one level

-- the numbers of the tables that go, the keys that become guards, the rows of the tables that come
pub record Change : Type 0 where
  pub level : ℕ
  pub keys : List Bytes
  pub inputs : List ℕ
  pub outputs : List TableRow

-- the change that adds these tables
abbrev pub change_of : {T : Type 0} → (T → TableRow) → ℕ → List Bytes → List ℕ → List T → Change
change_of row level keys inputs tables =
    record { level = level; keys = keys; inputs = inputs; outputs = map row tables }

-- the guards of all levels after a change; level 0 has none
abbrev pub guards_after : List (List Bytes) → Change → List (List Bytes)
guards_after guards c = set guards (c.level - 1) (with_keys c.keys (get_or guards (c.level - 1) []))

-- the live rows after a change
abbrev pub live_after : List TableRow → Change → List TableRow
live_after live c = rows_without c.inputs live ++ c.outputs

-- of a level with these rows: the inputs are tables of it, no key splits another of its tables, and
-- each output lies in one of the guards that there are then
pub record CanChange (keys : List Bytes) (rows : List TableRow) (c : Change) : Type 0 where
  pub inputs_are : AreInputs c.inputs rows
  pub whole : AllByRecursion
      (λ key. AllByRecursion (IsWhole key) (rows_without c.inputs rows)) c.keys
  pub lie : AllByRecursion (LiesInOne (with_keys c.keys keys)) c.outputs

-- the level after a change
pub record IsChanged {T : Type 0} (row : T → TableRow) (old new : Guards T) (rows : List TableRow)
    (c : Change) : Type 0 where
  pub keys_are : new.keys ≡ with_keys c.keys old.keys
  pub each : HasRows row new (rows_without c.inputs rows ++ c.outputs)

-- the change can be made in a version with these guards and live rows: at level 0 it has no keys,
-- its inputs and outputs are of its level, and the level can change
pub record Changes {T : Type 0} (row : T → TableRow) (v : Levels T) (guards : List (List Bytes))
    (live : List TableRow) (c : Change) : Type 0 where
  pub stands : HasTables row v guards live
  pub within : c.level ≤ length guards
  pub top : c.level ≡ 0 → c.keys ≡ []
  pub inputs_are : AreInputs c.inputs (rows_at c.level live)
  pub own : AreAt c.level (rows_numbered c.inputs live)
  pub outputs_are : AreAt c.level c.outputs
  pub deeper : c.level ≢ 0 → Ascend [] (get_or guards (c.level - 1) [])
      → CanChange (get_or guards (c.level - 1) []) (rows_at c.level live) c

-- the version that a change makes, and the tables that go
pub record IsMade {T : Type 0} (row : T → TableRow) (made : Levels T × List T)
    (guards : List (List Bytes)) (live : List TableRow) (c : Change) : Type 0 where
  pub stands : HasTables row made.0 (guards_after guards c) (live_after live c)
  pub inputs_are : AreTablesOf row c.inputs live made.1

-- ---- an edit

-- the version stands for the shape, which a legal record leaves; the edit fits it, and the tables
-- are its outputs
pub record CanStage {T : Type 0} (row : T → TableRow) (v : Levels T) (s : Shape) (e : Edit)
    (tables : List T) : Type 0 where
  pub column : Column
  pub stands : IsVersionOf row v s
  pub sound : IsSound column s
  pub fit : fits column s e ≡ true
  pub outputs_are : map row tables ≡ outputs_of e

-- the next version stands for the shape after the edit, and the tables that go are its inputs
pub record IsStagedFor {T : Type 0} (row : T → TableRow) (next : Levels T) (gone : List T)
    (s : Shape) (e : Edit) : Type 0 where
  pub stands : IsVersionOf row next (shape_after s e)
  pub inputs_are : AreTablesOf row (inputs_of e) s.live gone
