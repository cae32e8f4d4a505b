-- What the beginning of a session leaves.
use Rattle.std.proofs.Common.{◌≡◌, ◌≢◌, ℕ, refl, sym, subst}
use Rattle.std.specs.Prelude.{IfOk, IfErr, Result, Ok, Err}
use Rattle.peb_base.specs.declared.profile.Profile.{Profile}
use Rattle.disk_model.specs.declared.journal.Journal.{Ghosts}
use Rattle.disk_model.specs.declared.journal_file.JournalFile.{JournalFile}
use Rattle.disk_model.specs.declared.journal_file.JournalFile.TheVariants.{Log, ManifestA}
use Rattle.disk_model.specs.Images.{Image}
use Rattle.record_log.specs.declared.log_fault.LogFault.{LogFault}
use Rattle.record_log.specs.declared.log_fault.LogFault.TheVariants as logs
use Rattle.record_log.specs.Log.{IsLog}
use Rattle.flsm_model.specs.Shape.{Record}
use Rattle.manifest.specs.declared.manifest_file.Manifest.{Manifest}
use Rattle.manifest.specs.Manifests.{IsManifest, IsReadyManifest, manifest_header, edit_groups}
use Rattle.flsm_core.specs.declared.state.State.{State}
use Rattle.recovery.specs.declared.open_fault.OpenFault.{OpenFault}
use Rattle.recovery.specs.Record.{RecordingCause}
use Rattle.recovery.specs.Session.{creation_fault, journal_of}

pub log_no_manifest : (n : ℕ) → Log n ≢ ManifestA
log_no_manifest n e = cc

-- why a log wasn't made
pub creation_refused : (rose : Type 0) (fault : LogFault) → (fault ≡ logs.Fault → rose) → ((at : ℕ) → fault ≡ logs.Damaged at → ⊥) → RecordingCause rose (creation_fault fault)
creation_refused rose logs.Fault cause sound = cause refl
creation_refused rose (logs.Damaged at) cause sound = absurd (sound at refl)
creation_refused rose logs.Memory cause sound = tt

-- every crash leaves a manifest that is ready
pub ready_left : {D : Type 0} (d : Ghosts D) (journal : D) (manifest : Manifest) (profile : Profile) (edits : Record) → IsReadyManifest d.tells d.seen d.may_leave journal manifest profile edits
    → (image : Image) → d.may_leave journal image → IsManifest profile edits (image ManifestA)
ready_left d journal manifest profile edits ready image left =
    let here : image ManifestA ≡ d.seen journal ManifestA = subst (λ (f : JournalFile). image f ≡ d.seen journal f) ready.file (ready.ready.kept image left) in
    record {
      each = ready.each;
      log = subst (λ b. IsLog ManifestA (manifest_header profile) (edit_groups edits) b) (sym here)
          (subst (λ (f : JournalFile). IsLog f (manifest_header profile) (edit_groups edits) (d.seen journal f)) ready.file ready.ready.form);
    }

-- ---- the journal of a result

-- what holds of the journal that an opening leaves holds of its state's, and of the one that came back
pub ok_journal : {J : Type 0} (r : Result (State J) (OpenFault × J)) (P : J → Type 0) → P (journal_of r) → IfOk r (λ state. P state.journal)
ok_journal (Ok state) P holds = holds
ok_journal (Err refused) P holds = tt

pub err_journal : {J : Type 0} (r : Result (State J) (OpenFault × J)) (P : J → Type 0) → P (journal_of r) → IfErr r (λ refused. P refused.1)
err_journal (Ok state) P holds = tt
err_journal (Err refused) P holds = holds
