use Rattle.std.proofs.Common.{[], ap, Err, refl, subst, sym, inl, inr}
use Rattle.peb_base.specs.declared.profile.Profile.{Profile}
use Rattle.disk_model.specs.declared.journal_file.JournalFile.TheVariants.{ManifestA}
use Rattle.disk_model.specs.Images.{Rose}
use Rattle.manifest.specs.Manifests.{IsManifest, edits_of}
use Rattle.recovery.specs.Record.{RecordCause}
use Rattle.recovery.proofs.Openings.{watched_each, if_ok, if_err}
use Rattle.recovery.proofs.Records.{fold_cause, ok_of, replay_cause, none_ready, some_ready, unspent_if, unspent_none}
use Rattle.recovery.proofs.recorded.replay_record.Goals as goal

pub returns-in-Ok-None-clause-record : goal.returns-in-Ok-None-clause-record
returns-in-Ok-None-clause-record g c = if_ok c.no_record.result _ _ (λ recorded is. (
  [],
  is.0,
  λ told.
      let none = rw c.in-Ok-None.field-0-is at c.in-Ok-None.ensures in (
        inl (none.absent told, refl),
        none_ready g.J.Journal c.args.journal.now c.replay_front.new.journal c.args.profile recorded.manifest is.1 c.replay_front.ensures.seen (none.absent told) none.kept,
      ),
)) c.no_record.ensures.record

pub returns-in-Ok-None-clause-unspent : goal.returns-in-Ok-None-clause-unspent
returns-in-Ok-None-clause-unspent g c = if_ok c.no_record.result _ _ (λ recorded is. unspent_none recorded.manifest is.1) c.no_record.ensures.record

pub returns-in-Ok-None-clause-cause : goal.returns-in-Ok-None-clause-cause
returns-in-Ok-None-clause-cause g c = if_err c.no_record.result _ _ (λ fault is.
    subst (RecordCause (Rose (g.J.Journal.faults c.args.journal.now) (g.J.Journal.faults c.replay_front.new.journal)) g.J.Journal.tells (g.J.Journal.seen c.args.journal.now ManifestA) c.args.profile) (sym is) tt)
    c.no_record.ensures.cause

pub returns-in-Ok-None-clause-watched : goal.returns-in-Ok-None-clause-watched
returns-in-Ok-None-clause-watched g c = record {
  seen = c.replay_front.ensures.seen;
  time = c.replay_front.ensures.time;
  each = watched_each ManifestA _ _ c.replay_front.ensures.any_moment;
}

pub returns-in-Err-clause-cause : goal.returns-in-Err-clause-cause
returns-in-Err-clause-cause g c =
    subst (RecordCause (Rose (g.J.Journal.faults c.args.journal.now) (g.J.Journal.faults c.replay_front.new.journal)) g.J.Journal.tells (g.J.Journal.seen c.args.journal.now ManifestA) c.args.profile)
    (sym c.record_fault.ensures)
    (replay_cause _ g.J.Journal.tells (g.J.Journal.seen c.args.journal.now ManifestA) c.args.profile c.in-Err.fault (λ e. c.in-Err.ensures.fault (ap Err e)) c.in-Err.ensures.damaged)

pub returns-in-Err-clause-watched : goal.returns-in-Err-clause-watched
returns-in-Err-clause-watched g c = record {
  seen = c.replay_front.ensures.seen;
  time = c.replay_front.ensures.time;
  each = watched_each ManifestA _ _ c.replay_front.ensures.any_moment;
}

pub returns-clause-record : goal.returns-clause-record
returns-clause-record g c = if_ok c.record_of.result _ _ (λ recorded is.
    let found = rw c.in-Ok-Some.field-0-is at c.in-Ok-Some.ensures in
    let front = c.in-Ok-Some.front in (
      edits_of front.edits,
      is.1,
      λ told. (
        inr (subst (λ (p : Profile). IsManifest p (edits_of front.edits) (g.J.Journal.seen c.args.journal.now ManifestA)) is.0 (ok_of front.manifest is.2.0 _ is.2.1 found.found told)),
        some_ready g.J.Journal c.replay_front.new.journal c.args.profile front.profile (edits_of front.edits) recorded.manifest is.2.0 is.2.2 is.0 (ok_of front.manifest is.2.0 _ is.2.1 found.ready told),
      ),
    )) c.record_of.ensures.record

pub returns-clause-unspent : goal.returns-clause-unspent
returns-clause-unspent g c = if_ok c.record_of.result _ _ (λ recorded is.
    let found = rw c.in-Ok-Some.field-0-is at c.in-Ok-Some.ensures in
    unspent_if recorded.manifest is.2.0 is.2.2 (ok_of c.in-Ok-Some.front.manifest is.2.0 _ is.2.1 found.unspent)) c.record_of.ensures.record

pub returns-clause-cause : goal.returns-clause-cause
returns-clause-cause g c = if_err c.record_of.result _ _ (λ fault is.
    let found = rw c.in-Ok-Some.field-0-is at c.in-Ok-Some.ensures in
    let front = c.in-Ok-Some.front in
    fold_cause _ g.J.Journal.tells (g.J.Journal.seen c.args.journal.now ManifestA) c.args.profile front.profile front.edits front.manifest fault (record { whole = found.found; broken = found.broken }) found.gates is)
    c.record_of.ensures.cause

pub returns-clause-watched : goal.returns-clause-watched
returns-clause-watched g c = record {
  seen = c.replay_front.ensures.seen;
  time = c.replay_front.ensures.time;
  each = watched_each ManifestA _ _ c.replay_front.ensures.any_moment;
}
