use Rattle.std.proofs.Common.{◌≡◌, [], replicate}
use Rattle.flsm_model.proofs.shape.no_guards.Given as goal

abbrev pub invariant-loop : goal.invariant-loop
invariant-loop l = l.guards.items ≡ replicate l.counter []
