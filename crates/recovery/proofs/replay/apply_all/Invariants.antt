use Rattle.std.proofs.Common.{◌≡◌, ℕ}
use Rattle.peb_base.specs.Batches.{numbered}
use Rattle.peb_base.specs.Map.{apply_entries}
use Rattle.recovery.proofs.replay.apply_all.Given as goal

abbrev pub invariant-loop-op : goal.invariant-loop-op
invariant-loop-op l = (first : ℕ) → l.current ≡ apply_entries (numbered first l.yielded) l.initial.current
