use Rattle.std.proofs.Common.{◌≤◌, ◌-◌, length}
use Rattle.peb_base.specs.Guards.{guard_of}
use Rattle.guard_level.proofs.level.find_guard.Given as goal

abbrev pub invariant-loop-low : goal.invariant-loop-low
invariant-loop-low l = record {
  from : l.low ≤ guard_of l.key l.keys;
  to : guard_of l.key l.keys ≤ l.high;
  within : l.high ≤ length l.keys;
}

abbrev pub decreases-loop-low : goal.decreases-loop-low
decreases-loop-low l = l.high - l.low
