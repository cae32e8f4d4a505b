use Rattle.std.proofs.Common.{◌≡◌, drop}
use Rattle.flsm_model.specs.Shape.{rows_numbered}
use Rattle.flsm_model.specs.Fits as fits
use Rattle.flsm_model.proofs.rows.first_smallest.Given as goal

abbrev pub invariant-loop-row : goal.invariant-loop-row
invariant-loop-row l = fits.first_smallest (rows_numbered l.numbers (drop l.row-index l.rows)) ≡ fits.first_smallest (rows_numbered l.numbers l.rows)
