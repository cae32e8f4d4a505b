-- Damage of tables.
use Rattle.std.specs.Prelude.{◌≡◌, ◌≢◌, ◌-◌, ◌<◌, ◌≤◌, ℕ, List, length, drop, min}
use Rattle.peb_base.specs.declared.table_row.TableRow.{TableRow}
use Rattle.table_file.specs.Form.{footer_bytes}
use Rattle.table_file.specs.Opening.{IsFooterOf}
use Rattle.table_file.specs.declared.footer.Footer.{Footer}
use Rattle.table_file.specs.declared.table_fault.TableFault.{TableFault}
use Rattle.table_file.specs.declared.table_fault.TableFault.TheVariants.{Fault, Damaged, Memory}

-- the fault tells damage
abbrev pub IsDamage : TableFault → Type 0
IsDamage Fault = ⊥
IsDamage (Damaged table at) = Unit {0}
IsDamage Memory = ⊥

-- damage is told of the table of this number
abbrev pub TellsTable : ℕ → TableFault → Type 0
TellsTable number Fault = Unit {0}
TellsTable number (Damaged table at) = table ≡ number
TellsTable number Memory = Unit {0}

-- damage, where it is told, is told at a place of which this is true
abbrev pub IsToldAt : (ℕ → Type 0) → TableFault → Type 0
IsToldAt IsPlace Fault = Unit {0}
IsToldAt IsPlace (Damaged table at) = IsPlace at
IsToldAt IsPlace Memory = Unit {0}

-- the last 48 bytes are this footer, which agrees with the row, and the bytes are as many as it tells
pub record EndsWithFooter (row : TableRow) (bytes : List ℕ) (footer : Footer) : Type 0 where
  pub long : length bytes ≡ row.bytes
  pub agrees : IsFooterOf row footer
  pub spelled : drop (row.bytes - 48) bytes ≡ footer_bytes footer

-- The place at which bytes are damaged that aren't those of the row's table: where they end, if they
-- are shorter than the row tells; the end by the row, if they are longer; the footer's, if it isn't one
-- that agrees, or their beginning, if they have no room for one; and the index's, if that alone isn't.
pub record IsPlaceOfDamage (row : TableRow) (bytes : List ℕ) (at : ℕ) : Type 0 where
  pub other_length : length bytes ≢ row.bytes → at ≡ min (length bytes) row.bytes
  pub tiny : row.bytes < 48 → length bytes ≡ row.bytes → at ≡ 0
  pub no_footer : 48 ≤ row.bytes → length bytes ≡ row.bytes →
      ((footer : Footer) → EndsWithFooter row bytes footer → ⊥) → at ≡ row.bytes - 48
  pub footer_stands : (footer : Footer) → EndsWithFooter row bytes footer → at ≡ footer.index
