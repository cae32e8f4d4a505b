use Rattle.std.proofs.Common.{◌≡◌, drop, not}
use Rattle.std.specs.Prelude.{find}
use Rattle.flsm_model.specs.Ranges.{has_key}
use Rattle.job_picker.proofs.keys.first_missing.Given as goal

abbrev pub invariant-loop-key : goal.invariant-loop-key
invariant-loop-key l = find (λ key. not (has_key key l.keys)) l.wanted ≡ find (λ key. not (has_key key l.keys)) (drop l.key-index l.wanted)
