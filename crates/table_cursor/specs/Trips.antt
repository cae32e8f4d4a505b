-- Tables that are written and walked.
use Rattle.std.specs.Prelude.{◌≡◌, ◌⊎◌, ◌≤◌, ◌<◌, ℕ, List, ◌∷◌, ◌++◌, length, Some, None, ◌^◌}
use Rattle.disk_model.specs.Told.{TellsTheSame}
use Rattle.disk_model.specs.declared.devices.Devices.{Ghosts}
use Rattle.peb_base.specs.Entries.{AreSorted}
use Rattle.peb_base.specs.Tables.{IsRowOf, first_key, last_key, least_number, greatest_number}
use Rattle.peb_base.specs.declared.entry.Entry.{Entry}
use Rattle.peb_base.specs.declared.read_fault.ReadFault.{ReadFault}
use Rattle.peb_base.specs.declared.read_fault.ReadFault.TheVariants as reads
use Rattle.peb_base.specs.declared.table_row.TableRow.{TableRow}
use Rattle.table_file.specs.Form.{blocks_of, table_bytes}
use Rattle.table_file.specs.Limits.{push_fault, blocks_fault}
use Rattle.table_file.specs.declared.put_fault.PutFault.{PutFault}
use Rattle.table_file.specs.declared.put_fault.PutFault.TheVariants as puts
use Rattle.table_file.specs.declared.table_fault.TableFault.{TableFault}
use Rattle.table_file.specs.declared.table_fault.TableFault.TheVariants as tables
use Rattle.table_cursor.specs.declared.trip_fault.TripFault.{TripFault}
use Rattle.table_cursor.specs.declared.trip_fault.TripFault.TheVariants.{Fault, Limit, Damaged, Memory}

-- a fault of writing
abbrev pub of_put : PutFault → TripFault
of_put puts.Fault = Fault
of_put (puts.Limit kind most) = Limit kind most
of_put puts.Memory = Memory

-- a fault of opening
abbrev pub of_table : TableFault → TripFault
of_table tables.Fault = Fault
of_table (tables.Damaged table at) = Damaged table at
of_table tables.Memory = Memory

-- a fault of a read
abbrev pub of_read : ReadFault → TripFault
of_read reads.Fault = Fault
of_read (reads.Damaged table at) = Damaged table at

-- the fault tells damage
abbrev pub TellsDamage : TripFault → Type 0
TellsDamage Fault = ⊥
TellsDamage (Limit kind most) = ⊥
TellsDamage (Damaged table at) = Unit {0}
TellsDamage Memory = ⊥

-- damage, where it is told, is that of the table of this number
abbrev pub TellsTable : ℕ → TripFault → Type 0
TellsTable number Fault = Unit {0}
TellsTable number (Limit kind most) = Unit {0}
TellsTable number (Damaged table at) = table ≡ number
TellsTable number Memory = Unit {0}

-- damage, where it is told, is told of a table's number and a place of which this is true
abbrev pub TellsOf : (ℕ → ℕ → Type 0) → TripFault → Type 0
TellsOf fact Fault = Unit {0}
TellsOf fact (Limit kind most) = Unit {0}
TellsOf fact (Damaged table at) = fact table at
TellsOf fact Memory = Unit {0}

-- a table of these entries is refused by this limit: one of them can't be pushed behind those before
-- it, or the index of all is too long
abbrev pub PassesLimit : ℕ → List Entry → PutFault → Type 0
PassesLimit full es limit =
    ((front : List Entry) × (e : Entry) × (behind : List Entry)
    × (es ≡ front ++ e ∷ behind) × (push_fault full front e ≡ Some limit))
    ⊎ (blocks_fault (blocks_of full es) ≡ Some limit)

-- a limit is told of these entries only where it would be passed
abbrev pub LimitsPut : ℕ → List Entry → PutFault → Type 0
LimitsPut full es puts.Fault = Unit {0}
LimitsPut full es (puts.Limit kind most) = PassesLimit full es (puts.Limit kind most)
LimitsPut full es puts.Memory = Unit {0}

-- the same of writing and walking
abbrev pub LimitsTrip : ℕ → List Entry → TripFault → Type 0
LimitsTrip full es Fault = Unit {0}
LimitsTrip full es (Limit kind most) = PassesLimit full es (puts.Limit kind most)
LimitsTrip full es (Damaged table at) = Unit {0}
LimitsTrip full es Memory = Unit {0}

-- entries that ascend, begin and end with the keys of others, and have numbers within theirs
pub record SpansEntries (es seen : List Entry) : Type 0 where
  pub some : 0 < length seen
  pub sorted : AreSorted seen
  pub smallest : first_key seen ≡ first_key es
  pub largest : last_key seen ≡ last_key es
  pub least : least_number es ≤ least_number seen
  pub greatest : greatest_number seen ≤ greatest_number es

-- the row tells the table of these entries, whose blocks are full at a length of 6 to 4,096 bytes
pub record IsRowWritten (row : TableRow) (full : ℕ) (es : List Entry) : Type 0 where
  pub least : 5 < full
  pub most : full ≤ 4096
  pub sorted : AreSorted es
  pub few : length es ≤ 1717986918
  pub short : blocks_fault (blocks_of full es) ≡ None
  pub row_is : IsRowOf row es
  pub row_size : row.bytes < 2 ^ 64
  pub row_bytes : row.bytes ≡ length (table_bytes full row.number es)

-- nothing but the files of tables changed: what is told of the journal and the directories, and their
-- count of faults
pub record ChangesTables {D J P M F : Type 0} (g : Ghosts D J P M F) (old new : D) : Type 0 where
  pub journal : TellsTheSame (g.journal_told old) (g.journal_told new)
  pub directories : g.directories new ≡ g.directories old
  pub faults : g.faults new ≡ g.faults old
