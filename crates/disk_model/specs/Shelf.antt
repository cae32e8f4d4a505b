-- The tables that are kept in memory.
use Rattle.std.specs.Prelude.{◌≡◌, ◌⊎◌, cond, IsTrue, ℕ, ◌/◌, ◌%◌, ◌^◌, ◌==◌, Bool, true, false, not, ◌&&◌, ◌||◌, Option, None, Some, if◌then◌else◌}
use Rattle.std.proofs.Common.{inl, inr, refl}
use Rattle.std.specs.Option.{option_or}
use Rattle.disk_model.specs.declared.made.Made.{Made}
use Rattle.disk_model.specs.declared.port_tables.PortTables.{PortTables}
use Rattle.disk_model.specs.declared.pick.Pick.{Pick}
use Rattle.disk_model.specs.declared.pick.Pick.TheVariants.{Old, New, Seeded}
use Rattle.disk_model.specs.declared.shelf.Shelf.{Shelf}
use Rattle.disk_model.specs.declared.shelf.Shelf.TheVariants.{Resting, More'}
use Rattle.disk_model.specs.declared.stock.Stock.{Stock}
use Rattle.disk_model.specs.Tables.{Sealed, TableFiles, Gone, Tally, none_gone, IsTableImage, is_among, is_gone, joined}
use Rattle.disk_model.specs.TableLists.{table_in}

-- the table files that a port reads
abbrev pub files_in : PortTables → TableFiles
files_in tables =
    record { sealed = table_in tables.sealed.items; is_unsealed = is_among tables.unsealed.items }

-- this is the number that is begun
abbrev pub is_begun : Option ℕ → ℕ → Bool
is_begun None n = false
is_begun (Some number) n = number == n

-- each table that was sealed, also where it was retired or removed since; the latest of its number
-- counts
abbrev pub kept_by : Shelf → Sealed
kept_by (Resting tables) n = table_in tables.sealed.items n
kept_by (More' made place earlier) n = option_or (table_in made.tables.items n) (kept_by earlier n)

-- the numbers that a maker retired and removed
abbrev pub gone_of : Made → Gone
gone_of made = record { retired = made.retired.items; removed = made.removed.items }

-- the numbers that were retired and removed
abbrev pub gone_by : Shelf → Gone
gone_by (Resting tables) = none_gone
gone_by (More' made place earlier) = joined (gone_by earlier) (gone_of made)

-- a table of this number was begun and not sealed
abbrev pub begun_by : Shelf → ℕ → Bool
begun_by (Resting tables) n = is_among tables.unsealed.items n
begun_by (More' made place earlier) n = is_begun made.begun n || begun_by earlier n

-- the tables but those that are lost
abbrev pub without : (ℕ → Bool) → Sealed → Sealed
without lost sealed n = if lost n then None else sealed n

-- whether what was done with the file of this number, and isn't durable, stands after a crash:
-- never by Old, always by New, else by a bit of the seed
abbrev pub is_done : Pick → ℕ → Bool
is_done Old n = false
is_done New n = true
is_done (Seeded seed) n = (seed / 2 ^ (n % 64)) % 2 == 1

-- a crash loses this table
abbrev pub is_lost : Pick → Gone → ℕ → Bool
is_lost pick gone n = is_done pick n && is_gone gone n

-- the table files that a crash leaves: each sealed table, but perhaps those that were retired or
-- removed; and perhaps those that were begun and not sealed
abbrev pub files_left : Pick → Shelf → TableFiles
files_left pick shelf = record {
  sealed = without (is_lost pick (gone_by shelf)) (kept_by shelf);
  is_unsealed = λ n. is_done pick n && (not (is_gone (gone_by shelf) n) && begun_by shelf n);
}

-- the table files that are there
abbrev pub files_of : Shelf → TableFiles
files_of shelf = record {
  sealed = without (is_gone (gone_by shelf)) (kept_by shelf);
  is_unsealed = λ n. not (is_gone (gone_by shelf) n) && begun_by shelf n;
}

-- what the ports and makers that were handed back did
abbrev pub tally_of : Stock → Tally
tally_of stock = record { reads = stock.reads; taken = stock.taken; gone = gone_by stock.shelf }

-- the tables that are there are what a crash may leave
pub there_left : (shelf : Shelf)
    → IsTableImage (kept_by shelf) (gone_by shelf) (files_of shelf).sealed
there_left shelf n = by (is_gone (gone_by shelf) n) refl where
  by : (gone : Bool) → is_gone (gone_by shelf) n ≡ gone
      → (cond gone None (kept_by shelf n) ≡ kept_by shelf n)
      ⊎ (IsTrue (is_gone (gone_by shelf) n) × (cond gone None (kept_by shelf n) ≡ None))
  by true is = inr (is, refl)
  by false is = inl refl
