use Rattle.std.proofs.Common.{◌≡◌, ◌++◌, take, drop}
use Rattle.flsm_model.specs.Ranges.{with_key}
use Rattle.flsm_model.proofs.merging.place_of.Given as goal

abbrev pub invariant-loop-place : goal.invariant-loop-place
invariant-loop-place l = with_key l.key l.guards ≡ take l.place l.guards ++ with_key l.key (drop l.place l.guards)
