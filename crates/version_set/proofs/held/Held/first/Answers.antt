use Rattle.std.proofs.Common.{◌∙◌, ◌+◌, ◌∷◌, ap, drop, subst, sym}
use Rattle.std.proofs.lemmas.List.{drop_all}
use Rattle.version_set.specs.Registers.{IsFirstHeld, earlier}
use Rattle.version_set.proofs.HeldLemmas.{first_step, first_alone}
use Rattle.version_set.proofs.held.Held.first.Goals as goal

pub loop-pair-preserved : goal.loop-pair-preserved
loop-pair-preserved c = λ pair is.
    let rest = c.in_ok-head.rest.now in
    let i = c.loop-pair.pair-index in
    c.loop-pair.invariant pair
    (first_step pair c.loop-pair.first c.pair-item.result rest i c.loop-pair-test.true
    (subst (λ first. IsFirstHeld pair (first ∷ drop (i + 1) rest)) (c.earlier-first.ensures ∙ ap (earlier c.loop-pair.first) c.pair-item.is) is))

pub returns-clause-first : goal.returns-clause-first
returns-clause-first c =
    c.loop-pair.invariant c.loop-pair.first
    (subst (λ pairs. IsFirstHeld c.loop-pair.first (c.loop-pair.first ∷ pairs)) (sym (drop_all c.loop-pair.pair-index c.in_ok-head.rest.now c.loop-pair-test.false)) (first_alone c.loop-pair.first))
