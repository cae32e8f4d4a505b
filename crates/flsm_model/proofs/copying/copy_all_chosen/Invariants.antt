use Rattle.std.proofs.Common.{◌≡◌, take}
use Rattle.flsm_model.proofs.copying.copy_all_chosen.Given as goal

abbrev pub invariant-loop-one : goal.invariant-loop-one
invariant-loop-one l = l.copies.items ≡ take l.one-index l.chosen
