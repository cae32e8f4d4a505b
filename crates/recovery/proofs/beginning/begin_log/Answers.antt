use Rattle.std.proofs.Common.{refl}
use Rattle.recovery.proofs.Begins.{is_begun}
use Rattle.recovery.proofs.beginning.begin_log.Goals as goal

pub returns-in-Ok-clause-stands : goal.returns-in-Ok-clause-stands
returns-in-Ok-clause-stands g c = λ start logs own is has.
    c.new.ensures.stands start c.args.header.number (is_begun g.J.Journal c.args.journal start logs c.args.header.number c.args.header own has _ refl
    (record { ordered = is.ordered; last = is.last; current = is.current; tail = c.in-Ok.ensures.empty })
    c.create.ensures.time c.create.ensures.later
    (λ told. record {
      images = c.create.ensures.any_moment told;
      counts = λ image left. g.met.J.Journal.counts_now c.create.new.journal _ image c.create.ensures.time.later left;
      ready = c.in-Ok.ensures.ready told;
      file = c.in-Ok.ensures.file;
      tail = c.in-Ok.ensures.empty;
    }))
