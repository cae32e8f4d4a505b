use Rattle.std.proofs.Common.{ap, subst, sym, ◌∙◌, arith}
use Rattle.disk_model.specs.declared.journal_file.JournalFile.TheVariants.{ManifestA}
use Rattle.disk_model.specs.Images.{Image, Rose}
use Rattle.recovery.specs.Record.{HoldsRecord, RecordCause}
use Rattle.recovery.proofs.Openings.{watched_on, if_ok, if_err}
use Rattle.recovery.proofs.Records.{cause_on}
use Rattle.recovery.proofs.recorded.read_record.Goals as goal

pub returns-in-Err-clause-cause : goal.returns-in-Err-clause-cause
returns-in-Err-clause-cause g c =
    subst (RecordCause (Rose (g.J.Journal.faults c.args.journal.now) (g.J.Journal.faults c.sync_file.new.journal)) g.J.Journal.tells (g.J.Journal.seen c.args.journal.now ManifestA) c.args.profile)
    (sym c.in-Err.ensures.cause.0) c.in-Err.ensures.cause.1

pub returns-clause-record : goal.returns-clause-record
returns-clause-record g c = if_ok c.replay_record.result _ _ (λ recorded is. (
  is.0,
  is.1,
  λ told. (
    subst (λ (i : Image). HoldsRecord c.args.profile is.0 (i ManifestA)) c.sync_file.ensures.watched.seen (is.2 told).0,
    (is.2 told).1,
  ),
)) c.replay_record.ensures.record

pub returns-clause-cause : goal.returns-clause-cause
returns-clause-cause g c = if_err c.replay_record.result _ _ (λ fault is.
    cause_on _ _ g.J.Journal.tells (g.J.Journal.seen c.sync_file.new.journal ManifestA) (g.J.Journal.seen c.args.journal.now ManifestA) c.args.profile fault
    (λ rose. omega (arith, rose, c.sync_file.ensures.never_falls)) (ap (λ (i : Image). i ManifestA) c.sync_file.ensures.watched.seen) is) c.replay_record.ensures.cause

pub returns-clause-kept : goal.returns-clause-kept
returns-clause-kept g c = if_ok c.replay_record.result _ _ (λ recorded is image left. is image left ∙ ap (λ (i : Image). i ManifestA) c.sync_file.ensures.watched.seen) c.replay_record.ensures.kept

pub returns-clause-other_kept : goal.returns-clause-other_kept
returns-clause-other_kept g c = if_ok c.replay_record.result _ _ (λ recorded is image left.
    c.in-Ok.ensures.kept image (c.replay_record.ensures.watched.each image (g.met.J.Journal.counts_now c.replay_record.new.journal _ image c.replay_record.ensures.watched.time.later left))) c.replay_record.ensures.kept

pub returns-clause-watched : goal.returns-clause-watched
returns-clause-watched g c = watched_on g.J.Journal c.args.journal.now c.sync_file.new.journal c.replay_record.new.journal
    (λ image left. g.met.J.Journal.counts_now c.sync_file.new.journal _ image c.sync_file.ensures.watched.time.later left)
    c.sync_file.ensures.watched c.replay_record.ensures.watched
