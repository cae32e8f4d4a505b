use Rattle.std.proofs.Common.{sym, ap, ◌∙◌}
use Rattle.bloom.specs.Bits.{bit}
use Rattle.bloom.proofs.Held.{none-set, one-more-set, one-unset}
use Rattle.bloom.proofs.probes.has_probes.Goals as goal

pub loop-i-init : goal.loop-i-init
loop-i-init c = none-set c.args.bytes.now c.args.hash

pub returns-then-not-has_bit : goal.returns-then-not-has_bit
returns-then-not-has_bit c =
    sym (one-unset 6 c.args.bytes.now c.args.hash c.loop-i.i c.loop-i-test.true
    (ap (bit c.args.bytes.now) (sym c.probe_at.ensures) ∙ sym c.has_bit.ensures ∙ c.if-not-has_bit.true))

pub loop-i-preserved : goal.loop-i-preserved
loop-i-preserved c =
    one-more-set c.loop-i.i c.args.bytes.now c.args.hash c.loop-i.invariant
    (ap (bit c.args.bytes.now) (sym c.probe_at.ensures) ∙ sym c.has_bit.ensures ∙ c.if-not-has_bit.false)
