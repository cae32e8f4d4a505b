use Rattle.std.proofs.Common.{◌↔◌, drop}
use Rattle.peb_base.specs.Entries.{AreSorted, AscendFrom}
use Rattle.table_cursor.proofs.trips.are_sorted.Given as goal

abbrev pub invariant-each : goal.invariant-each
invariant-each l = AscendFrom l.before l.above (drop l.entry-index l.entries) ↔ AreSorted l.entries
