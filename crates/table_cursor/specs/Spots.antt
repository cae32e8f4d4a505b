-- What a cursor shows: the index of a block and a place in it, or nothing.
use Rattle.std.specs.Prelude.{ℕ, ◌+◌, ◌-◌, ◌==◌, List, [], ◌∷◌, length, nat_lt, if◌then◌else◌, Option, Some, None}
use Rattle.peb_base.specs.Entries.{first_from}
use Rattle.peb_base.specs.Keys.{Bytes}
use Rattle.peb_base.specs.declared.entry.Entry.{Entry}
use Rattle.table_file.specs.Items.{index_for}
use Rattle.table_file.specs.declared.index_item.IndexItem.{IndexItem}
use Rattle.table_cursor.specs.Page.{Reading}
use Rattle.table_cursor.specs.declared.step.Step.{Step}
use Rattle.table_cursor.specs.declared.step.Step.TheVariants.{Nowhere, Within, First, Last}

-- this, where there are entries
abbrev pub where_some : {A : Type 0} → List Entry → A → Option A
where_some [] a = None
where_some (e ∷ es) a = Some a

-- the block of this index is on the page: its place is shown; a page without entries shows nothing
abbrev pub spot : ℕ → Reading → Option (ℕ × ℕ)
spot index page = where_some page.entries (index, page.place)

-- this spot, where there is a block at the index
abbrev pub spot_in : List IndexItem → ℕ → ℕ → Option (ℕ × ℕ)
spot_in items index place = if nat_lt index (length items) then Some (index, place) else None

-- the first entry of the block at an index
abbrev pub first_spot : List IndexItem → ℕ → Option (ℕ × ℕ)
first_spot items index = spot_in items index 0

-- the last entry of the block at an index, which is on the page
abbrev pub last_spot : List IndexItem → ℕ → Reading → Option (ℕ × ℕ)
last_spot items index page = spot_in items index (length page.entries - 1)

-- behind a place of a page's block: the next entry of the block, or the first of the next block
abbrev pub spot_behind : List IndexItem → ℕ → ℕ → ℕ → Option (ℕ × ℕ)
spot_behind items index place count =
    if nat_lt (place + 1) count then Some (index, place + 1) else first_spot items (index + 1)

-- one entry on from what the page shows; there is no step from nothing
abbrev pub next_spot : List IndexItem → ℕ → Reading → Option (ℕ × ℕ)
next_spot items index page = if length page.entries == 0 then None
    else spot_behind items index page.place (length page.entries)

-- in front of a place of a page's block: the entry before, or the last of the
-- block before, which is on the page then
abbrev pub spot_before : List IndexItem → ℕ → ℕ → Reading → Option (ℕ × ℕ)
spot_before items index place now =
    if nat_lt 0 place then Some (index, place - 1) else if index == 0 then None
    else last_spot items (index - 1) now

-- one entry back from what the page shows, by the page after the step
abbrev pub previous_spot : List IndexItem → ℕ → Reading → Reading → Option (ℕ × ℕ)
previous_spot items index page now =
    if length page.entries == 0 then None else spot_before items index page.place now

-- the first entry at or behind a key and number, by the index and by the page on which its block is then
abbrev pub found_spot : List IndexItem → Bytes → ℕ → Reading → Option (ℕ × ℕ)
found_spot items key number now =
    spot_in items (index_for key number items) (first_from key number now.entries)

-- where a step leads from the block at an index, by the page after the step
abbrev pub spot_after : Step → List IndexItem → ℕ → Reading → Option (ℕ × ℕ)
spot_after Nowhere items index now = None
spot_after (Within place) items index now = Some (index, place)
spot_after (First i) items index now = first_spot items i
spot_after (Last i) items index now = last_spot items i now
