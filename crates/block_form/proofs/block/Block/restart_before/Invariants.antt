use Rattle.std.proofs.Common.{◌≡◌, ◌⊎◌, ◌+◌, ◌-◌, ◌*◌, ◌<◌, Some, length, true, false}
use Rattle.std.specs.Prelude.{slice_get}
use Rattle.peb_base.specs.Entries.{comes_before}
use Rattle.peb_base.specs.declared.entry.Entry.{Entry}
use Rattle.block_form.proofs.block.Block.restart_before.Given as goal

abbrev pub invariant-halve : goal.invariant-halve
invariant-halve l = record {
  below : l.low < l.high;
  few : 16 * l.high < length l.self + 16;
  passed : (e : Entry) → slice_get l.self (16 * l.low) ≡ Some e →
      (16 * l.low ≡ 0) ⊎ (comes_before e.key e.number l.key l.number ≡ true);
  ahead : (e : Entry) → slice_get l.self (16 * l.high) ≡ Some e → comes_before e.key e.number l.key l.number ≡ false;
}

abbrev pub decreases-halve : goal.decreases-halve
decreases-halve l = l.high - l.low
