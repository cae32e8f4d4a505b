use Rattle.std.proofs.Common.{◌≡◌, true, false, sym, ap, ◌∙◌, arith}
use Rattle.std.specs.Prelude.{get_or}
use Rattle.peb_base.specs.Keys.{key_lt}
use Rattle.table_file.proofs.Ranges.{range_bound, range_to, range_on}
use Rattle.table_file.proofs.piece_writer.range_from.Goals as goal

pub loop-at-init : goal.loop-at-init
loop-at-init c =
    record {
      low = c.requires;
      high = omega (arith, c.requires, range_bound c.args.key.now c.args.keys.now);
    }

pub loop-at-preserved : goal.loop-at-preserved
loop-at-preserved c =
    let key = c.args.key.now in
    let keys = c.args.keys.now in
    let d = c.index-keys-at.result in
    let below : key_lt key (get_or keys c.loop-at.at d) ≡ false =
    ap (key_lt key) (sym (c.bytes.ensures.value ∙ c.index-keys-at.is))
    ∙ sym c.is_below.ensures ∙ c.if-not-is_below.true in
    record {
      low = range_on key keys c.loop-at.at d c.loop-at-test.true c.loop-at.invariant.low below;
      high = omega (arith, c.loop-at-test.true);
    }

pub returns-else-not-is_below-clause-place : goal.returns-else-not-is_below-clause-place
returns-else-not-is_below-clause-place c =
    let key = c.args.key.now in
    let keys = c.args.keys.now in
    let d = c.index-keys-at.result in
    let above : key_lt key (get_or keys c.loop-at.at d) ≡ true =
    ap (key_lt key) (sym (c.bytes.ensures.value ∙ c.index-keys-at.is))
    ∙ sym c.is_below.ensures ∙ c.if-not-is_below.false in
    omega (arith, c.loop-at.invariant.low, range_to key keys c.loop-at.at d c.loop-at-test.true above)

pub returns-after-loop-at-clause-place : goal.returns-after-loop-at-clause-place
returns-after-loop-at-clause-place c =
    omega (
      arith,
      c.loop-at-test.false,
      c.loop-at.invariant.low,
      range_bound c.args.key.now c.args.keys.now,
    )
