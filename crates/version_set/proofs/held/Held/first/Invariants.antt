use Rattle.std.proofs.Common.{ℕ, ◌∷◌, drop}
use Rattle.version_set.specs.Registers.{IsFirstHeld}
use Rattle.version_set.proofs.held.Held.first.Given as goal

abbrev pub invariant-loop-pair : goal.invariant-loop-pair
invariant-loop-pair l = (pair : ℕ × ℕ) → IsFirstHeld pair (l.first ∷ drop l.pair-index l.rest) → IsFirstHeld pair l.self
