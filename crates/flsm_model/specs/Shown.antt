-- The entries of tables and of memtables.
use Rattle.std.specs.Prelude.{ℕ, List, filter, flat_map, nat_lt}
use Rattle.peb_base.specs.Batches.{Batches, entries_of}
use Rattle.peb_base.specs.declared.entry.Entry.{Entry}
use Rattle.flsm_model.specs.Trees.{Table}

-- the entries of all tables
abbrev pub all_entries : List Table → List Entry
all_entries ts = flat_map (λ (t : Table). t.entries) ts

-- the entries of the memtables: those above the last flush
abbrev pub in_memory : Batches → ℕ → List Entry
in_memory bs to = filter (λ (x : Entry). nat_lt to x.number) (entries_of bs)
