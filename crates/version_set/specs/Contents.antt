-- Which entries the tables of a version hold.
use Rattle.std.specs.Prelude.{ℕ, List}
use Rattle.std.specs.List.{AllByRecursion}
use Rattle.peb_base.specs.declared.entry.Entry.{Entry}
use Rattle.peb_base.specs.declared.table_row.TableRow.{TableRow}
use Rattle.version.specs.Levels.{Levels, level_at}
use Rattle.version_set.specs.Changes.{EachTable}

-- the table holds the entries that its number stands for
abbrev pub HoldsContent : {T : Type 0} → (T → TableRow) → (T → List Entry → Type 0)
    → (ℕ → List Entry) → T → Type 0
HoldsContent row holds content t = holds t (content (row t).number)

-- every table of the version meets P
pub record EachLive {T : Type 0} (P : T → Type 0) (v : Levels T) : Type 0 where
  pub top : AllByRecursion P v.top
  pub deeper : (n : ℕ) → EachTable P (level_at v n)

-- each table of the version holds the entries that its number stands for
abbrev pub HoldEach : {T : Type 0} → (T → TableRow) → (T → List Entry → Type 0)
    → (ℕ → List Entry) → Levels T → Type 0
HoldEach row holds content v = EachLive (HoldsContent row holds content) v

-- whatever the numbers stand for: where each table of Old holds its content, each of New does
abbrev pub ContentsStay : {T : Type 0} → (T → TableRow) → (T → List Entry → Type 0)
    → ((T → Type 0) → Type 0) → ((T → Type 0) → Type 0) → Type 0
ContentsStay row holds Old New =
    (content : ℕ → List Entry) → Old (HoldsContent row holds content)
    → New (HoldsContent row holds content)
