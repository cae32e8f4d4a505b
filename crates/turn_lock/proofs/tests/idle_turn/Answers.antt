use Rattle.std.proofs.Common.{◌<◌, subst, sym}
use Rattle.turn_lock.proofs.TestLemmas.{turn_comes_after}
use Rattle.turn_lock.proofs.tests.idle_turn.Goals as goal

pub returns-clause-after : goal.returns-clause-after
returns-clause-after g c =
    subst (λ v. c.args.seat.known.over < v.over) (sym c.give_about.ensures.given) (turn_comes_after c.args.seat.known.over c.take-tape.new.seat.known.stage c.take-tape.ensures.in_order)
