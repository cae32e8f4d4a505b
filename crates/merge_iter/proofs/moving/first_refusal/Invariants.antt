use Rattle.std.proofs.Common.{◌≡◌, ◌<◌, ℕ, None}
use Rattle.std.specs.Prelude.{get_or}
use Rattle.merge_iter.proofs.moving.first_refusal.Given as goal

abbrev pub invariant-loop-i : goal.invariant-loop-i
invariant-loop-i g l = (k : ℕ) (d : _) → k < l.i → g.C.Cursor.refused (get_or l.inputs k d) ≡ None
