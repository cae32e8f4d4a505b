-- The log that an opening begins, and what it leaves of the others.
use Rattle.std.specs.Prelude.{◌≡◌, ◌≢◌, ℕ, ◌<◌, ◌≤◌, Bool, IsTrue}
use Rattle.std.proofs.Common.{sym, ◌∙◌, subst}
use Rattle.peb_base.specs.declared.profile.Profile.{Profile}
use Rattle.disk_model.specs.declared.journal_file.JournalFile.{JournalFile}
use Rattle.disk_model.specs.declared.journal_file.JournalFile.TheVariants.{Log, ManifestA}
use Rattle.disk_model.specs.Images.{Image}
use Rattle.disk_model.specs.Told.{JournalTold, TellsTheSame}
use Rattle.record_log.specs.Log.{IsUnfinished}
use Rattle.flsm_model.specs.Shape.{Record}
use Rattle.store_layout.specs.Recorded.{HoldsRecord, first_log}
use Rattle.flsm_core.specs.Touched.{HasTouched, touched_same}
use Rattle.recovery.specs.Session.{HasTouchedBoth, touched_file, touched_on_both}

-- the image has the log of this number, created to its end
abbrev pub IsFinished : ℕ → Image → Type 0
IsFinished n image = IsUnfinished (image (Log n)) → ⊥

-- Calls changed no file but the manifest and this one: the first log that wasn't there, behind those
-- that the record asks for.
pub record HasTouchedNext (tells : Bool) (profile : Profile) (file : JournalFile)
    (old new : JournalTold) : Type 0 where
  pub edits : Record
  pub number : ℕ
  pub some : 1 ≤ number
  pub named : file ≡ Log number
  pub recorded : IsTrue tells → HoldsRecord profile edits (old.seen ManifestA)
  pub absent : IsTrue tells → IsUnfinished (old.seen (Log number))
  pub first : IsTrue tells → (m : ℕ) → first_log profile edits ≤ m → m < number
      → IsFinished m old.seen
  pub touched : HasTouchedBoth tells file old new

log_no_manifest : (n : ℕ) → Log n ≢ ManifestA
log_no_manifest n e = cc

-- a log that was finished is neither of the two files
pub record IsOther (file : JournalFile) (n : ℕ) : Type 0 where
  pub record_differs : Log n ≢ ManifestA
  pub log_differs : Log n ≢ file

pub next_log_other : (tells : Bool) (profile : Profile) (file : JournalFile)
    (old new : JournalTold) → HasTouchedNext tells profile file old new → IsTrue tells → (n : ℕ)
    → IsFinished n old.seen → IsOther file n
next_log_other tells profile file old new next told n finished = record {
  record_differs = log_no_manifest n;
  log_differs = λ same. finished (subst (λ (f : JournalFile). IsUnfinished (old.seen f))
      (sym (same ∙ next.named)) (next.absent told));
}

-- a log that was begun stays the one that was changed
pub next_log_on : (tells : Bool) (profile : Profile) (file : JournalFile) (a b c d : JournalTold)
    → TellsTheSame a b → HasTouchedNext tells profile file b c → HasTouched tells file c d
    → HasTouchedNext tells profile file a d
next_log_on tells profile file a b c d first next last = record {
  edits = next.edits;
  number = next.number;
  some = next.some;
  named = next.named;
  recorded = λ told. subst (λ (i : Image). HoldsRecord profile next.edits (i ManifestA)) first.bytes
      (next.recorded told);
  absent = λ told. subst (λ (i : Image). IsUnfinished (i (Log next.number))) first.bytes
      (next.absent told);
  first = λ told m from below none. next.first told m from below
      (subst (λ (i : Image). IsUnfinished (i (Log m))) (sym first.bytes) none);
  touched = touched_on_both tells file a b d
      (touched_file tells file a b (touched_same tells file a b first))
      (touched_on_both tells file b c d next.touched (touched_file tells file c d last));
}
