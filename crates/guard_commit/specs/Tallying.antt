-- What is counted of entries.
use Rattle.std.specs.Prelude.{◌≡◌, List, length}
use Rattle.peb_base.specs.Tables.{least_number, greatest_number, raw_length}
use Rattle.peb_base.specs.declared.entry.Entry.{Entry}
use Rattle.peb_base.specs.declared.table_row.TableRow.{TableRow}
use Rattle.guard_commit.specs.declared.tally.Tally.{Tally}

-- the tally is that of these entries
pub record Tallies (t : Tally) (es : List Entry) : Type 0 where
  pub entries : t.entries ≡ length es
  pub raw : t.raw ≡ raw_length es
  pub first : t.first ≡ least_number es
  pub last : t.last ≡ greatest_number es

-- the row counts the same of these entries
pub record IsCounted (row : TableRow) (es : List Entry) : Type 0 where
  pub entries : row.entries ≡ length es
  pub raw : row.raw ≡ raw_length es
  pub first : row.first ≡ least_number es
  pub last : row.last ≡ greatest_number es
