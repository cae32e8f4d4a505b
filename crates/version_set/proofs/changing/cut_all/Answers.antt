use Rattle.std.proofs.Common.{◌∙◌, ap, arith}
use Rattle.flsm_model.specs.Ranges.{with_key}
use Rattle.version_set.specs.Changes.{EachTable, IsWhole}
use Rattle.version_set.proofs.Cuts.{keys_on}
use Rattle.version_set.proofs.Stands.{all_weaker}
use Rattle.version_set.proofs.changing.cut_all.Goals as goal

pub loop-left-preserved : goal.loop-left-preserved
loop-left-preserved g c =
    let row = g.T.HasRow.the_row in
    let keys = c.args.keys.now in
    let left = c.loop-left.left in
    record {
      within = omega (arith, c.loop-left.invariant.within);
      keys_are = c.in_ok-cut_one.ensures.keys ∙ ap (λ k. with_key k c.loop-left.level.keys) c.in_ok-copy.ensures ∙ ap (with_key c.index-keys-left.result) c.loop-left.invariant.keys_are
          ∙ keys_on keys c.args.level.now.keys left c.index-keys-left.result c.loop-left-test.true c.loop-left.invariant.within c.index-keys-left.is;
      rows = λ rows each. c.in_ok-cut_one.ensures.rows rows (c.loop-left.invariant.rows rows each);
      whole = all_weaker (λ key. EachTable (λ t. IsWhole key (row t)) c.loop-left.level) (λ key. EachTable (λ t. IsWhole key (row t)) c.cut_one.new.level) keys
          (λ key each. c.in_ok-cut_one.ensures.whole key each) c.loop-left.invariant.whole;
      contents = λ content each. c.in_ok-cut_one.ensures.contents content (c.loop-left.invariant.contents content each);
    }
