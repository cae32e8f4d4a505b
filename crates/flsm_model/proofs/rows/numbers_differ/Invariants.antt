use Rattle.std.proofs.Common.{◌≡◌, drop, map}
use Rattle.peb_base.specs.declared.table_row.TableRow.{TableRow}
use Rattle.flsm_model.specs.Fits as fits
use Rattle.flsm_model.proofs.rows.numbers_differ.Given as goal

abbrev pub invariant-loop-i : goal.invariant-loop-i
invariant-loop-i l = fits.numbers_differ (map (λ (row : TableRow). row.number) (drop l.i l.rows)) ≡ fits.numbers_differ (map (λ (row : TableRow). row.number) l.rows)
