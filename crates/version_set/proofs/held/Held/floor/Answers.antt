use Rattle.std.proofs.Common.{◌∙◌, ◌+◌, ap, drop}
use Rattle.std.specs.Prelude.{min}
use Rattle.flsm_model.specs.Jobs.{floor_of}
use Rattle.version_set.proofs.HeldLemmas.{floor_step}
use Rattle.version_set.proofs.held.Held.floor.Goals as goal

pub loop-pair-preserved : goal.loop-pair-preserved
loop-pair-preserved c =
    let pairs = c.deref-pair-items.result.now in
    let i = c.loop-pair.pair-index in
    ap (floor_of (drop (i + 1) pairs)) (c.least-floor.ensures ∙ ap (λ pair. min pair.1 c.loop-pair.floor) c.pair-item.is)
    ∙ floor_step pairs i c.pair-item.result c.loop-pair.floor c.loop-pair-test.true ∙ c.loop-pair.invariant
