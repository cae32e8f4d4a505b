-- Logs that are read one after another, as a record asks for them.
use Rattle.std.proofs.Common.{◌≡◌, ℕ, ◌+◌, Bool, IsTrue, List, [], ◌∷◌, ◌++◌, Some, None, Option, refl, sym, ap, ◌∙◌, subst, arith, inl, inr, length-append}
use Rattle.std.proofs.lemmas.Bool.{cases_lt}
use Rattle.peb_base.specs.Batches.{Batches}
use Rattle.peb_base.specs.declared.profile.Profile.{Profile}
use Rattle.disk_model.specs.declared.journal.Journal.{Ghosts}
use Rattle.disk_model.specs.declared.journal_file.JournalFile.{JournalFile}
use Rattle.disk_model.specs.declared.journal_file.JournalFile.TheVariants.{Log, ManifestA}
use Rattle.disk_model.specs.Images.{Image, Keeps}
use Rattle.disk_model.specs.Told.{told_by}
use Rattle.record_log.specs.declared.header.Header.{Header}
use Rattle.record_log.specs.declared.log_fault.LogFault.{LogFault}
use Rattle.record_log.specs.declared.log_fault.LogFault.TheVariants as logs
use Rattle.record_log.specs.declared.record.Record.{Record}
use Rattle.record_log.specs.Damage.{AtDamage}
use Rattle.record_log.specs.Log.{IsLog, IsUnfinished, IsDamaged, Holds}
use Rattle.record_log.specs.Records.{views}
use Rattle.record_log.specs.State.{log_file}
use Rattle.flsm_model.specs.Shape.{Record as Edits}
use Rattle.manifest.specs.declared.manifest_file.Manifest.{Manifest}
use Rattle.manifest.specs.Manifests.{manifest_log, manifest_header, edit_groups}
use Rattle.store_layout.specs.Logs.{Held, BeginsLogs, Spells}
use Rattle.store_layout.specs.Recorded.{Bounds, BeginsFrom, IsWithin}
use Rattle.store_layout.specs.RecordedLaws.{all_push}
use Rattle.store_layout.specs.SpelledLaws.{spells_next}
use Rattle.recovery.specs.declared.logs_read.LogsRead.{LogsRead}
use Rattle.recovery.specs.declared.open_fault.OpenFault.{OpenFault}
use Rattle.recovery.specs.declared.open_fault.OpenFault.TheVariants as opens
use Rattle.recovery.specs.Opening.{IsReplayOf, StopsAt, HasWatched, fault_of}
use Rattle.recovery.specs.Reading.{HasLogs, KeepsLogs, LogsCause, TakeCause}
use Rattle.recovery.specs.Record.{IsReadyRecord}

-- one log more
pub has_more : (bounds : Bounds) (old new : LogsRead) (held : List Held) (batches own : Batches) (log : Held) → HasLogs bounds old held batches → IsWithin bounds log.header → Spells log own
    → IsReplayOf new.replay (batches ++ own) → new.next ≡ old.next + 1 → new.session ≡ old.session → HasLogs bounds new (held ++ log ∷ []) (batches ++ own)
has_more bounds old new held batches own log is within spells replay next session = record {
  next = omega (arith, next, is.next, length-append held (log ∷ []));
  session = session ∙ is.session;
  within = all_push (λ (log : Held). IsWithin bounds log.header) held log is.within within;
  spelled = spells_next held log batches own spells is.spelled;
  replay = replay;
}

-- the logs that were read are those that the image begins with
begins_from : (bounds : Bounds) (seen : Image) (read : LogsRead) (held : List Held) (batches : Batches) → HasLogs bounds read held batches → BeginsLogs bounds.first held seen → BeginsFrom bounds seen held batches
begins_from bounds seen read held batches is begins = record { begins = begins; within = is.within; spelled = is.spelled; ordered = is.replay.ordered }

-- ---- causes

-- the next log wasn't read
pub open_refused : (rose : Type 0) (tells : Bool) (seen : Image) (bounds : Bounds) (read : LogsRead) (held : List Held) (batches : Batches) (fault : LogFault) → HasLogs bounds read held batches
    → (IsTrue tells → BeginsLogs bounds.first held seen) → (fault ≡ logs.Fault → rose)
    → (IsTrue tells → AtDamage fault (λ at. (bytes : List ℕ) × (seen (Log read.next) ≡ Some bytes) × IsDamaged (Log read.next) bytes at))
    → LogsCause rose tells seen bounds (fault_of read.next fault)
open_refused rose tells seen bounds read held batches logs.Fault is begins cause damage = cause refl
open_refused rose tells seen bounds read held batches (logs.Damaged at) is begins cause damage = (
  read.next,
  refl,
  λ told. record {
    logs = held;
    batches = batches;
    reads = begins_from bounds seen read held batches is (begins told);
    next = is.next;
    damage = inl (damage told);
  },
)
open_refused rose tells seen bounds read held batches logs.Memory is begins cause damage = tt

-- the next log wasn't taken in
pub take_refused : (rose : Type 0) (tells : Bool) (seen : Image) (bounds : Bounds) (read : LogsRead) (held : List Held) (batches : Batches) (header : Header) (records : List Record) (fault : OpenFault)
    → HasLogs bounds read held batches → (IsTrue tells → BeginsLogs bounds.first held seen) → (IsTrue tells → Holds (Log read.next) header (views records) (seen (Log read.next)))
    → TakeCause bounds read.next header (StopsAt header.session batches (views records)) fault → LogsCause rose tells seen bounds fault
take_refused rose tells seen bounds read held batches header records opens.Journal is begins holds cause = absurd cause
take_refused rose tells seen bounds read held batches header records (opens.Damaged file at) is begins holds cause = (
  read.next,
  cause.0,
  λ told.
      let h = holds told in
      let log : Held = record { header = header; groups = h.groups } in
      record {
        logs = held;
        batches = batches;
        reads = begins_from bounds seen read held batches is (begins told);
        next = is.next;
        damage = elim cause.1 [
          | inl foreign ↦ inr (inl ((log, h.log, foreign.0), foreign.1))
          | inr stops ↦ inr (inr (record { log = log; form = h.log; within = stops.0; stops = subst (λ (rs : List (ℕ × List ℕ)). StopsAt header.session batches rs at) h.given stops.1 }))
        ];
      },
)
take_refused rose tells seen bounds read held batches header records (opens.Profile have asked) is begins holds cause = absurd cause
take_refused rose tells seen bounds read held batches header records (opens.Limit kind n) is begins holds cause = absurd cause
take_refused rose tells seen bounds read held batches header records opens.Memory is begins holds cause = tt

-- the same of files that are read the same, and of a journal that rose for another reason
pub logs_cause_on : (P Q : Type 0) (tells : Bool) (seen seen' : Image) (bounds : Bounds) (fault : OpenFault) → (P → Q) → seen ≡ seen' → LogsCause P tells seen bounds fault → LogsCause Q tells seen' bounds fault
logs_cause_on P Q tells seen seen' bounds opens.Journal up same cause = up cause
logs_cause_on P Q tells seen seen' bounds (opens.Damaged name at) up same cause = subst (λ (i : Image). LogsCause Q tells i bounds (opens.Damaged name at)) same cause
logs_cause_on P Q tells seen seen' bounds (opens.Profile have yours) up same cause = absurd cause
logs_cause_on P Q tells seen seen' bounds (opens.Limit kind n) up same cause = absurd cause
logs_cause_on P Q tells seen seen' bounds opens.Memory up same cause = tt

-- ---- what a crash leaves

-- what was kept stays so while files are only read and synced
pub kept_file : {D : Type 0} (d : Ghosts D) (old new : D) (file : JournalFile) → ((image : Image) → d.may_leave new image → d.left_since new (d.moment old) image)
    → HasWatched (told_by d old) (told_by d new) → Keeps file (d.seen old file) (d.may_leave old) → Keeps file (d.seen new file) (d.may_leave new)
kept_file d old new file counts watched kept image left =
    kept image (watched.each image (counts image left)) ∙ ap (λ (i : Image). i file) (sym watched.seen)

-- what a call has kept as it was is kept as it is
pub kept_now : {D : Type 0} (d : Ghosts D) (old new : D) (file : JournalFile) → HasWatched (told_by d old) (told_by d new) → Keeps file (d.seen old file) (d.may_leave new) → Keeps file (d.seen new file) (d.may_leave new)
kept_now d old new file watched kept image left = kept image left ∙ ap (λ (i : Image). i file) (sym watched.seen)

pub keeps_on : {D : Type 0} (d : Ghosts D) (old new : D) (low high : ℕ) → ((image : Image) → d.may_leave new image → d.left_since new (d.moment old) image)
    → HasWatched (told_by d old) (told_by d new) → KeepsLogs d old low high → KeepsLogs d new low high
keeps_on d old new low high counts watched kept m from below = kept_file d old new (Log m) counts watched (kept m from below)

-- one log more at the end, and at the front
pub keeps_more : {D : Type 0} (d : Ghosts D) (new : D) (low n : ℕ) → Keeps (Log n) (d.seen new (Log n)) (d.may_leave new) → KeepsLogs d new low n → KeepsLogs d new low (n + 1)
keeps_more d new low n next kept m from below = elim (cases_lt m n) [
  | inl less ↦ kept m from less
  | inr last ↦ let at : n ≡ m = omega (arith, last, below) in subst (λ (k : ℕ). Keeps (Log k) (d.seen new (Log k)) (d.may_leave new)) at next
]

pub keeps_lower : {D : Type 0} (d : Ghosts D) (new : D) (n high : ℕ) → Keeps (Log n) (d.seen new (Log n)) (d.may_leave new) → KeepsLogs d new (n + 1) high → KeepsLogs d new n high
keeps_lower d new n high next kept m from below = elim (cases_lt n m) [
  | inl more ↦ kept m (omega (arith, more)) below
  | inr last ↦ let at : n ≡ m = omega (arith, last, from) in subst (λ (k : ℕ). Keeps (Log k) (d.seen new (Log k)) (d.may_leave new)) at next
]

-- a manifest that is ready stays so while files are only read and synced
pub ready_watched : {D : Type 0} (d : Ghosts D) (old new : D) (profile : Profile) (edits : Edits) (manifest : Option Manifest) → ((image : Image) → d.may_leave new image → d.left_since new (d.moment old) image)
    → HasWatched (told_by d old) (told_by d new) → IsReadyRecord d old profile edits manifest → IsReadyRecord d new profile edits manifest
ready_watched d old new profile edits None counts watched ready = (
  ready.0,
  subst (λ (i : Image). IsUnfinished (i ManifestA)) (sym watched.seen) ready.1,
  kept_file d old new ManifestA counts watched ready.2,
)
ready_watched d old new profile edits (Some manifest) counts watched ready = record {
  each = ready.each;
  file = ready.file;
  unspent = ready.unspent;
  ready = record {
    told = ready.ready.told;
    form = subst (λ (i : Image). IsLog (log_file (manifest_log manifest)) (manifest_header profile) (edit_groups edits) (i (log_file (manifest_log manifest)))) (sym watched.seen) ready.ready.form;
    place = ready.ready.place;
    kept = kept_file d old new (log_file (manifest_log manifest)) counts watched ready.ready.kept;
  };
}
