use Rattle.std.proofs.Common.{List, sym, ap, ◌∙◌, subst}
use Rattle.disk_model.specs.declared.journal_file.JournalFile.TheVariants.{Log}
use Rattle.record_log.specs.declared.record.Record.{Record}
use Rattle.record_log.specs.Records.{bodies_of, views}
use Rattle.store_layout.specs.LogLaws.{begins_more}
use Rattle.recovery.specs.Opening.{StopsAt}
use Rattle.recovery.specs.Reading.{TakeCause}
use Rattle.recovery.proofs.Openings.{taken, watched_each}
use Rattle.recovery.proofs.Readings.{take_refused}
use Rattle.recovery.proofs.reading.next_log.Goals as goal

pub returns-in-Ok-clause-taken : goal.returns-in-Ok-clause-taken
returns-in-Ok-clause-taken g c = λ more bounds logs batches asked is begins.
    let found = rw c.in-Ok-Some.field-0-is at c.in-Ok-Some.ensures.found in
    let log = taken g.J.Journal.tells (g.J.Journal.seen c.args.journal.now) c.args.read.next c.in-Ok-Some.log.0 c.in-Ok-Some.log.1.items found in
    let next = c.in-Ok.ensures.ok bounds logs batches log.log asked is log.header_is (log.bodies ∙ ap bodies_of (sym c.deref.ensures.value)) in
    (log.log, next.0, next.1, λ told. begins_more bounds.first c.args.read.next logs log.log (g.J.Journal.seen c.args.journal.now) (sym is.next) (begins told) (log.told told))

pub returns-in-Ok-clause-watched : goal.returns-in-Ok-clause-watched
returns-in-Ok-clause-watched g c = record {
  seen = c.open.ensures.seen;
  time = c.open.ensures.time;
  each = watched_each (Log c.args.read.next) _ _ c.open.ensures.any_moment;
}

pub returns-clause-cause : goal.returns-clause-cause
returns-clause-cause g c = λ bounds logs batches asked is begins.
    let found = rw c.in-Ok-Some.field-0-is at c.in-Ok-Some.ensures.found in
    take_refused _ g.J.Journal.tells (g.J.Journal.seen c.args.journal.now) bounds c.args.read logs batches c.in-Ok-Some.log.0 c.in-Ok-Some.log.1.items c.in-Err-take_log.fault is begins found
    (subst (λ (rs : List Record). TakeCause bounds c.args.read.next c.in-Ok-Some.log.0 (StopsAt c.in-Ok-Some.log.0.session batches (views rs)) c.in-Err-take_log.fault)
    c.deref.ensures.value (c.in-Err-take_log.ensures.cause bounds logs batches asked is))
