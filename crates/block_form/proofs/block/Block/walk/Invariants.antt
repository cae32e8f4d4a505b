use Rattle.block_form.specs.Spots.{IsSpot}
use Rattle.block_form.proofs.block.Block.walk.Given as goal

abbrev pub invariant-loop-i : goal.invariant-loop-i
invariant-loop-i l = IsSpot l.self l.i l.key l.spot
