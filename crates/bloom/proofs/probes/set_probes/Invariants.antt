use Rattle.std.proofs.Common.{◌≡◌, ℕ, ◌*◌, ◌||◌, length}
use Rattle.peb_base.specs.Keys.{AreBytes}
use Rattle.bloom.specs.Bits.{bit}
use Rattle.bloom.specs.Filter.{is_probe}
use Rattle.bloom.proofs.probes.set_probes.Given as goal

abbrev pub invariant-loop-i : goal.invariant-loop-i
invariant-loop-i l = record {
  bytes : AreBytes l.bytes;
  set : (j : ℕ) → bit l.bytes j ≡ (bit l.fn.bytes j || is_probe l.i l.hash (8 * length l.fn.bytes) j);
}
