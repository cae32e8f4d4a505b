-- Readings of numbers that agree on what is live.
use Rattle.std.specs.Prelude.{◌≡◌, ℕ, List}
use Rattle.std.specs.List.{AllByRecursion}
use Rattle.peb_base.specs.Keys.{Bytes}
use Rattle.peb_base.specs.Members.{IsIn}
use Rattle.peb_base.specs.declared.entry.Entry.{Entry}
use Rattle.peb_base.specs.declared.table_row.TableRow.{TableRow}
use Rattle.version.specs.Levels.{Levels, looked_at}
use Rattle.version_set.specs.Contents.{HoldEach, HoldsContent}
use Rattle.version_set.specs.Shapes.{HasTables}

-- the numbers of the rows stand for the same entries in both readings
abbrev pub AgreeOn : List TableRow → (ℕ → List Entry) → (ℕ → List Entry) → Type 0
AgreeOn rows content other =
    (r : TableRow) → IsIn r rows → content r.number ≡ other r.number

-- where readings agree on the live rows, tables that hold their content by one do by the other
abbrev pub HoldBoth : {T : Type 0} → (T → TableRow) → (T → List Entry → Type 0) → Type 0
HoldBoth {T} row holds =
    (v : Levels T) (guards : List (List Bytes)) (live : List TableRow)
    (content other : ℕ → List Entry) → HasTables row v guards live → AgreeOn live content other
    → HoldEach row holds content v → HoldEach row holds other v

-- so does each table that a look-up gives
abbrev pub LooksHold : {T : Type 0} → (T → TableRow) → (T → List Entry → Type 0) → Type 0
LooksHold {T} row holds =
    (v : Levels T) (content : ℕ → List Entry) (level : ℕ) (key : Bytes) → HoldEach row holds content v
    → AllByRecursion (HoldsContent row holds content) (looked_at v level key)
