use Rattle.std.proofs.Common.{refl}
use Rattle.flsm_core.proofs.At.{at_begun}
use Rattle.flsm_core.proofs.state.State.new.Goals as goal

pub returns-clause-stands : goal.returns-clause-stands
returns-clause-stands g c = λ start log is.
    at_begun g.J.Journal _ start log is.began is.counted (record { ordered = is.ordered; last = is.last; current = is.current; stopped = refl; tail = is.tail }) is.past is.rests
