-- Tables that are kept in memory, by their numbers.
use Rattle.std.specs.Prelude.{ℕ, ◌==◌, List, [], ◌∷◌, None, Some, if◌then◌else◌}
use Rattle.std.specs.Arc.{arc_value}
use Rattle.disk_model.specs.declared.mem_table_file.MemTableFile.{MemTableFile}
use Rattle.disk_model.specs.Tables.{Sealed}

-- a table's bytes
abbrev pub table_bytes : MemTableFile → List ℕ
table_bytes table = (arc_value table.bytes).items

-- the sealed tables among these; of two with one number the first counts
abbrev pub table_in : List MemTableFile → Sealed
table_in [] n = None
table_in (table ∷ rest) n = if n == table.number then Some (table_bytes table) else table_in rest n
