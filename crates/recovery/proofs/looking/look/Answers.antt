use Rattle.std.proofs.Common.{◌≡◌, ℕ, ◌+◌, refl, subst, sym, ap, ◌∙◌, arith}
use Rattle.disk_model.specs.declared.journal_file.JournalFile.TheVariants.{ManifestA, ManifestB}
use Rattle.disk_model.specs.Images.{Image, Rose}
use Rattle.flsm_model.specs.Shape.{Shape}
use Rattle.store_layout.specs.Logs.{HoldsLogs}
use Rattle.store_layout.specs.Recorded.{bounds_of, first_log, HoldsRecord}
use Rattle.recovery.specs.Reading.{KeepsLogs, KeepsBelow}
use Rattle.recovery.proofs.Openings.{watched_on}
use Rattle.recovery.proofs.Readings.{logs_cause_on, kept_file, kept_now, keeps_on, ready_watched}
use Rattle.recovery.proofs.Unreadable.{store_refused, store_unrecorded}
use Rattle.recovery.proofs.looking.look.Goals as goal

pub returns-in-Err-clause-cause : goal.returns-in-Err-clause-cause
returns-in-Err-clause-cause g c =
    store_unrecorded c.one_reading.ensures.finished c.one_reading.ensures.damage_is_finished c.one_manifest.ensures.one_list c.one_manifest.ensures.undamaged _ g.J.Journal.tells
    (g.J.Journal.seen c.args.journal.now) c.args.profile c.in-Err.fault c.in-Err.ensures.cause

pub returns-in-Err-read_logs-clause-cause : goal.returns-in-Err-read_logs-clause-cause
returns-in-Err-read_logs-clause-cause g c =
    let d = g.J.Journal in
    let old = c.args.journal.now in
    let mid = c.read_record.new.journal in
    let found = c.in-Ok.ensures.record in
    let shape = found.1.shape in
    let seen : d.seen mid ≡ d.seen old = c.read_record.ensures.watched.seen in
    store_refused c.one_reading.ensures.finished c.one_reading.ensures.one_log c.one_reading.ensures.undamaged c.one_batch.ensures c.one_manifest.ensures.one_list _ d.tells (d.seen old) c.args.profile found.0
    c.in-Err-read_logs.fault (λ told. (found.2 told).0)
    (logs_cause_on (Rose (d.faults mid) (d.faults c.read_logs.new.journal)) _ d.tells (d.seen mid) (d.seen old) (bounds_of c.args.profile found.0) c.in-Err-read_logs.fault
    (λ rose. omega (arith, rose, c.read_record.ensures.never_falls)) seen
    (c.in-Err-read_logs.ensures.cause (bounds_of c.args.profile found.0) refl (sym (ap (λ (s : Shape). s.log) shape)) (sym (ap (λ (s : Shape). s.session) shape))))

pub returns-in-Ok-sync_below-clause-found : goal.returns-in-Ok-sync_below-clause-found
returns-in-Ok-sync_below-clause-found g c =
    let d = g.J.Journal in
    let old = c.args.journal.now in
    let mid = c.read_record.new.journal in
    let late = c.read_logs.new.journal in
    let new = c.sync_below.new.journal in
    let found = c.in-Ok.ensures.record in
    let first : c.in-Ok.recorded.shape.log ≡ first_log c.args.profile found.0 = ap (λ (s : Shape). s.log) found.1.shape in
    let logs = c.in-Ok-read_logs.ensures.read (bounds_of c.args.profile found.0) refl (sym first) (sym (ap (λ (s : Shape). s.session) found.1.shape)) in
    let counts : (image : Image) → d.may_leave new image → d.left_since new (d.moment late) image = λ image left. g.met.J.Journal.counts_now new _ image c.sync_below.ensures.watched.time.later left in
    let watched = watched_on d mid late new (λ image left. g.met.J.Journal.counts_now late _ image c.read_logs.ensures.watched.time.later left) c.read_logs.ensures.watched c.sync_below.ensures.watched in
    let counts_mid : (image : Image) → d.may_leave new image → d.left_since new (d.moment mid) image = λ image left. g.met.J.Journal.counts_now new _ image watched.time.later left in
    let seen_new : d.seen old ≡ d.seen new = sym (watched.seen ∙ c.read_record.ensures.watched.seen) in
    let seen_mid : d.seen mid ≡ d.seen new = sym watched.seen in (
      record { edits = found.0; logs = logs.0; batches = logs.1 },
      record {
        shape = found.1;
        logs = logs.2;
        unspent = c.in-Ok.ensures.unspent;
        reads = λ told. record {
          recorded = subst (λ (i : Image). HoldsRecord c.args.profile found.0 (i ManifestA)) seen_new (found.2 told).0;
          legal = found.1.legal;
          read = record {
            holds = subst (λ (i : Image). HoldsLogs (first_log c.args.profile found.0) logs.0 i) seen_mid
                (subst (λ (n : ℕ). HoldsLogs n logs.0 (d.seen mid)) first (logs.3 told));
            within = logs.2.within;
            spelled = logs.2.spelled;
            ordered = logs.2.replay.ordered;
          };
        };
        ready = λ told. ready_watched d mid new c.args.profile found.0 c.in-Ok.recorded.manifest counts_mid watched (found.2 told).1;
        record_kept = kept_file d mid new ManifestA counts_mid watched (kept_now d old mid ManifestA c.read_record.ensures.watched c.in-Ok.ensures.kept);
        other_kept = kept_file d mid new ManifestB counts_mid watched (kept_now d old mid ManifestB c.read_record.ensures.watched c.in-Ok.ensures.other_kept);
        logs_kept = subst (λ (n : ℕ). KeepsLogs d new n (c.in-Ok-read_logs.read.next + 1)) first
            (keeps_on d late new c.in-Ok.recorded.shape.log (c.in-Ok-read_logs.read.next + 1) counts c.sync_below.ensures.watched c.in-Ok-read_logs.ensures.kept);
        older_kept = subst (λ (n : ℕ). KeepsBelow d new n) first c.in-Ok-sync_below.ensures.kept;
      },
    )
