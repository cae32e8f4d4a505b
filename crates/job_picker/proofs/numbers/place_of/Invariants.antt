use Rattle.std.proofs.Common.{◌≡◌, ◌++◌, take, drop}
use Rattle.flsm_model.specs.Picking.{with_number}
use Rattle.job_picker.proofs.numbers.place_of.Given as goal

abbrev pub invariant-loop-place : goal.invariant-loop-place
invariant-loop-place l = with_number l.number l.numbers ≡ take l.place l.numbers ++ with_number l.number (drop l.place l.numbers)
