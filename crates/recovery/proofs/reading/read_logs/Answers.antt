use Rattle.std.proofs.Common.{◌≡◌, ◌+◌, ℕ, [], ◌∷◌, ◌++◌, arith, refl, sym, ◌∙◌, subst}
use Rattle.disk_model.specs.Images.{Image, Rose}
use Rattle.disk_model.specs.declared.journal_file.JournalFile.TheVariants.{Log}
use Rattle.record_log.specs.Log.{IsUnfinished}
use Rattle.store_layout.specs.Logs.{BeginsLogs, HoldsLogs}
use Rattle.store_layout.specs.LogLaws.{begins_end}
use Rattle.recovery.specs.declared.logs_read.LogsRead.{LogsRead}
use Rattle.recovery.specs.Reading.{HasLogs, KeepsLogs}
use Rattle.recovery.proofs.Openings.{watched_none, watched_on}
use Rattle.recovery.proofs.Readings.{logs_cause_on, kept_now, keeps_on, keeps_more}
use Rattle.recovery.proofs.reading.read_logs.Goals as goal

pub loop-number-init : goal.loop-number-init
loop-number-init g c = record {
  count = (c.new-read.ensures (record { profile = c.args.profile; first = c.args.first; session = c.args.session }) refl refl).next ∙ omega arith;
  same = (c.new-read.ensures (record { profile = c.args.profile; first = c.args.first; session = c.args.session }) refl refl).session;
  so_far = λ bounds profile first session. ([], [], c.new-read.ensures bounds first session, λ told. tt);
  watched = watched_none g.J.Journal c.args.journal.now
      (g.met.J.Journal.counts_now c.args.journal.now) (g.met.J.Journal.only_now c.args.journal.now);
  kept = λ m from below. absurd (omega (arith, from, below, (c.new-read.ensures (record { profile = c.args.profile; first = c.args.first; session = c.args.session }) refl refl).next));
  never_falls = omega arith;
}

pub returns-in-Err-clause-cause : goal.returns-in-Err-clause-cause
returns-in-Err-clause-cause g c = λ bounds profile first session.
    let d = g.J.Journal in
    let found = c.loop-number.invariant.so_far bounds profile first session in
    let same : d.seen c.loop-number.journal ≡ d.seen c.args.journal.now = c.loop-number.invariant.watched.seen in
    logs_cause_on (Rose (d.faults c.loop-number.journal) (d.faults c.next_log.new.journal)) _ d.tells (d.seen c.loop-number.journal) (d.seen c.args.journal.now) bounds c.in-Err.fault
    (λ rose. omega (arith, rose, c.loop-number.invariant.never_falls)) same
    (c.in-Err.ensures.cause bounds found.0 found.1 profile found.2 (λ told. subst (λ (i : Image). BeginsLogs bounds.first found.0 i) (sym same) (found.3 told)))

pub returns-in-Err-clause-watched : goal.returns-in-Err-clause-watched
returns-in-Err-clause-watched g c =
    watched_on g.J.Journal c.args.journal.now c.loop-number.journal c.next_log.new.journal
    (λ image left. g.met.J.Journal.counts_now c.loop-number.journal _ image c.loop-number.invariant.watched.time.later left)
    c.loop-number.invariant.watched c.next_log.ensures.watched

pub returns-then-not-more-clause-read : goal.returns-then-not-more-clause-read
returns-then-not-more-clause-read g c = λ bounds profile first session.
    let d = g.J.Journal in
    let found = c.loop-number.invariant.so_far bounds profile first session in
    let done = c.in-Ok.ensures.done c.if-not-more.true in
    let same : d.seen c.loop-number.journal ≡ d.seen c.args.journal.now = c.loop-number.invariant.watched.seen in (
      found.0,
      found.1,
      subst (λ (r : LogsRead). HasLogs bounds r found.0 found.1) (sym done.0) found.2,
      λ told. subst (λ (n : ℕ). HoldsLogs n found.0 (d.seen c.args.journal.now)) first
          (begins_end bounds.first c.loop-number.read.next found.0 (d.seen c.args.journal.now) (sym found.2.next) (found.3 told)
          (subst (λ (i : Image). IsUnfinished (i (Log c.loop-number.read.next))) same (done.1 told))),
    )

pub returns-then-not-more-clause-kept : goal.returns-then-not-more-clause-kept
returns-then-not-more-clause-kept g c =
    let d = g.J.Journal in
    let done = c.in-Ok.ensures.done c.if-not-more.true in
    subst (λ (r : LogsRead). KeepsLogs d c.next_log.new.journal c.args.first (r.next + 1)) (sym done.0)
    (keeps_more d c.next_log.new.journal c.args.first c.loop-number.read.next
    (kept_now d c.loop-number.journal c.next_log.new.journal (Log c.loop-number.read.next) c.next_log.ensures.watched c.in-Ok.ensures.kept)
    (keeps_on d c.loop-number.journal c.next_log.new.journal c.args.first c.loop-number.read.next
    (λ image left. g.met.J.Journal.counts_now c.next_log.new.journal _ image c.next_log.ensures.watched.time.later left) c.next_log.ensures.watched c.loop-number.invariant.kept))

pub returns-then-not-more-clause-watched : goal.returns-then-not-more-clause-watched
returns-then-not-more-clause-watched g c =
    watched_on g.J.Journal c.args.journal.now c.loop-number.journal c.next_log.new.journal
    (λ image left. g.met.J.Journal.counts_now c.loop-number.journal _ image c.loop-number.invariant.watched.time.later left)
    c.loop-number.invariant.watched c.next_log.ensures.watched

pub loop-number-preserved : goal.loop-number-preserved
loop-number-preserved g c =
    let d = g.J.Journal in
    let count = c.in-Ok.ensures.count c.if-not-more.false in
    let same : d.seen c.loop-number.journal ≡ d.seen c.args.journal.now = c.loop-number.invariant.watched.seen in
    record {
      count = omega (arith, count, c.loop-number.invariant.count);
      same = c.in-Ok.ensures.same ∙ c.loop-number.invariant.same;
      so_far = λ bounds profile first session.
          let found = c.loop-number.invariant.so_far bounds profile first session in
          let more = c.in-Ok.ensures.taken c.if-not-more.false bounds found.0 found.1 profile found.2
          (λ told. subst (λ (i : Image). BeginsLogs bounds.first found.0 i) (sym same) (found.3 told)) in
          (found.0 ++ more.0 ∷ [], found.1 ++ more.1, more.2, λ told. subst (λ (i : Image). BeginsLogs bounds.first (found.0 ++ more.0 ∷ []) i) same (more.3 told));
      watched = watched_on d c.args.journal.now c.loop-number.journal c.next_log.new.journal
          (λ image left. g.met.J.Journal.counts_now c.loop-number.journal _ image c.loop-number.invariant.watched.time.later left)
          c.loop-number.invariant.watched c.next_log.ensures.watched;
      kept = subst (λ (n : ℕ). KeepsLogs d c.next_log.new.journal c.args.first n) (sym count)
          (keeps_more d c.next_log.new.journal c.args.first c.loop-number.read.next
          (kept_now d c.loop-number.journal c.next_log.new.journal (Log c.loop-number.read.next) c.next_log.ensures.watched c.in-Ok.ensures.kept)
          (keeps_on d c.loop-number.journal c.next_log.new.journal c.args.first c.loop-number.read.next
          (λ image left. g.met.J.Journal.counts_now c.next_log.new.journal _ image c.next_log.ensures.watched.time.later left) c.next_log.ensures.watched c.loop-number.invariant.kept));
      never_falls = omega (arith, c.loop-number.invariant.never_falls, c.next_log.ensures.never_falls);
    }
