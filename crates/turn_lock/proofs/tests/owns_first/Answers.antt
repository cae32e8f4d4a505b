use Rattle.std.proofs.Common.{◌∙◌, ap, sym, Some}
use Rattle.turn_lock.proofs.TestLemmas.{first_is_kept}
use Rattle.turn_lock.proofs.tests.owns_first.Goals as goal

pub returns-clause-own : goal.returns-clause-own
returns-clause-own g c t =
    let a = c.take-tape in let m = c.starts_by-own.ensures t in
    first_is_kept (λ mark. Some mark.by) a.new.seat.known c.give_about.new.seat.known _ m.0 c.give_about.ensures.given a.ensures.own_events ((λ i. (a.ensures.known i).base) ∙ c.requires.new) a.ensures.value m.1
    (ap Some (m.2 ∙ (sym c.requires.idle.2 ∙ ap (λ v. v.number) (sym a.ensures.known))))
