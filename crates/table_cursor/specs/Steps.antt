-- Where a step of a cursor leads.
use Rattle.std.specs.Prelude.{◌≡◌, ℕ, suc, ◌+◌, ◌-◌, ◌<◌, List, length, nat_lt, if◌then◌else◌, Option, Some, None}
use Rattle.peb_base.specs.declared.entry.Entry.{Entry}
use Rattle.table_cursor.specs.Page.{Reading}
use Rattle.table_cursor.specs.Standing.{entries_before}
use Rattle.table_cursor.specs.declared.step.Step.{Step}
use Rattle.table_cursor.specs.declared.step.Step.TheVariants.{Nowhere, Within, First, Last}

-- this, where there is a block at the index
abbrev pub where_block : ℕ → List (List Entry) → ℕ → Option ℕ
where_block index blocks place = if nat_lt index (length blocks) then Some place else None

-- the place among the entries of all blocks to which a step leads from a
-- page on which the block at the index is
abbrev pub target : Step → ℕ → List (List Entry) → Option ℕ
target Nowhere index blocks = None
target (Within place) index blocks = Some (entries_before index blocks + place)
target (First i) index blocks = where_block i blocks (entries_before i blocks)
target (Last i) index blocks = where_block i blocks (entries_before (suc i) blocks - 1)

-- a step within the block leads to one of its entries
abbrev pub Fits : Step → Reading → Type 0
Fits Nowhere page = Unit {0}
Fits (Within place) page = place < length page.entries
Fits (First i) page = Unit {0}
Fits (Last i) page = Unit {0}

-- a step that turns to another block turns to the one at this index
abbrev pub TurnsTo : Step → ℕ → Type 0
TurnsTo Nowhere index = Unit {0}
TurnsTo (Within place) index = Unit {0}
TurnsTo (First i) index = i ≡ index
TurnsTo (Last i) index = i ≡ index
