use Rattle.std.proofs.Common.{◌≡◌, ◌<◌, ◌+◌, ◌-◌, ◌/◌, true, false, sym, ap, ◌∙◌, arith}
use Rattle.peb_base.specs.Keys.{key_lt}
use Rattle.guard_level.proofs.GuardLemmas.{guard_bound, guard_to, guard_from}
use Rattle.guard_level.proofs.level.find_guard.Goals as goal

pub loop-low-init : goal.loop-low-init
loop-low-init c = record { from = omega arith; to = guard_bound c.args.key.now c.args.keys.now; within = omega arith }

pub loop-low-preserved-then-is_below : goal.loop-low-preserved-then-is_below
loop-low-preserved-then-is_below c =
    let middle = c.loop-low.low + (c.loop-low.high - c.loop-low.low) / 2 in
    let inside : middle < c.loop-low.high = omega (arith, c.loop-low-test.true) in
    let read : key_lt c.args.key.now c.index-keys-middle.result ≡ true = ap (key_lt c.args.key.now) (sym c.bytes.ensures.value) ∙ sym c.is_below.ensures ∙ c.if-is_below.true in
    record {
      from = c.loop-low.invariant.from;
      to = guard_to c.args.key.now c.args.keys.now middle _ (omega (arith, inside, c.loop-low.invariant.within)) (ap (key_lt c.args.key.now) (sym c.index-keys-middle.is) ∙ read);
      within = omega (arith, inside, c.loop-low.invariant.within);
    }

pub loop-low-preserved : goal.loop-low-preserved
loop-low-preserved c =
    let middle = c.loop-low.low + (c.loop-low.high - c.loop-low.low) / 2 in
    let inside : middle < c.loop-low.high = omega (arith, c.loop-low-test.true) in
    let read : key_lt c.args.key.now c.index-keys-middle.result ≡ false = ap (key_lt c.args.key.now) (sym c.bytes.ensures.value) ∙ sym c.is_below.ensures ∙ c.if-is_below.false in
    let reached = guard_from _ c.args.key.now c.args.keys.now middle _ c.requires (omega (arith, inside, c.loop-low.invariant.within)) (ap (key_lt c.args.key.now) (sym c.index-keys-middle.is) ∙ read) in
    record {
      from = omega (arith, reached);
      to = c.loop-low.invariant.to;
      within = c.loop-low.invariant.within;
    }
