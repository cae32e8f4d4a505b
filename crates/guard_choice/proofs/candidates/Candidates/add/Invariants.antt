use Rattle.std.proofs.Common.{◌≡◌, ◌+◌, ◌≤◌, ◌||◌, ℕ, vec_len, vec_capacity}
use Rattle.peb_base.specs.Keys.{Bytes}
use Rattle.guard_choice.specs.Candidates.{Ascend}
use Rattle.flsm_model.specs.Fits.{is_candidate}
use Rattle.guard_choice.proofs.candidates.Candidates.add.Given as goal

abbrev pub invariant-loop-next : goal.invariant-loop-next
invariant-loop-next l = record {
  ascend : Ascend l.self-inside.chosen.items;
  room : vec_len l.self-inside.chosen + vec_len l.more ≤ vec_capacity l.self-inside.chosen;
  same : (level : ℕ) (key : Bytes) → (is_candidate l.self-inside.chosen.items level key || is_candidate l.more.items level key) ≡ (is_candidate l.initial.self-inside.chosen.items level key || is_candidate l.initial.more.items level key);
}

abbrev pub decreases-loop-next : goal.decreases-loop-next
decreases-loop-next l = vec_len l.more
