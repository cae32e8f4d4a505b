-- The beginning of a session: the opening is recorded, and then its log is made.
use Rattle.std.specs.Prelude.{◌≡◌, ◌≢◌, ◌⊎◌, ℕ, ◌+◌, ◌≤◌, Bool, IsTrue, [], ◌∷◌, ◌++◌, Result, Ok, Err}
use Rattle.std.proofs.Common.{inl, inr, ◌∙◌, arith}
use Rattle.peb_base.specs.declared.profile.Profile.{Profile}
use Rattle.disk_model.specs.declared.journal_file.JournalFile.{JournalFile}
use Rattle.disk_model.specs.declared.journal_file.JournalFile.TheVariants.{Log, ManifestA}
use Rattle.disk_model.specs.Images.{Image, In}
use Rattle.disk_model.specs.Told.{JournalTold}
use Rattle.record_log.specs.declared.log_fault.LogFault.{LogFault}
use Rattle.record_log.specs.declared.log_fault.LogFault.TheVariants as logs
use Rattle.record_log.specs.Crash.{Creates}
use Rattle.record_log.specs.Header.{log_header}
use Rattle.record_log.specs.declared.header.Header.{Header}
use Rattle.flsm_core.specs.declared.state.State.{State}
use Rattle.flsm_core.specs.Place.{Start}
use Rattle.flsm_core.specs.Touched.{HasTouched}
use Rattle.flsm_model.specs.Shape.{Record}
use Rattle.manifest.specs.Manifests.{IsManifest}
use Rattle.store_layout.specs.Recorded.{session_of_record, next_opening}
use Rattle.recovery.specs.declared.open_fault.OpenFault.{OpenFault}
use Rattle.recovery.specs.declared.open_fault.OpenFault.TheVariants as opens
use Rattle.recovery.specs.Record.{Records}

-- the journal that an opening's state keeps, or that a refusal hands back
abbrev pub journal_of : {J : Type 0} → Result (State J) (OpenFault × J) → J
journal_of (Ok state) = state.journal
journal_of (Err refused) = refused.1

-- what the fault of creating a log means to an opening
abbrev pub creation_fault : LogFault → OpenFault
creation_fault logs.Fault = opens.Journal
creation_fault (logs.Damaged at) = opens.Journal
creation_fault logs.Memory = opens.Memory

-- the header of the log of an opening that begins so: of its profile, and of the next session
pub record IsNextHeader (start : Start) (header : Header) : Type 0 where
  pub profile : header.profile ≡ start.profile
  pub session : header.session ≡ session_of_record start.profile start.edits + 1

-- ---- what a crash leaves

-- an image while the next opening is recorded behind these edits, with this first log
abbrev pub IsRecording : Profile → Record → ℕ → Image → Image → Type 0
IsRecording profile edits log old new =
    In ManifestA (Records profile edits (next_opening profile edits log)) old new

-- an image while this log of the next session is made, once its opening is recorded
pub record IsMaking (profile : Profile) (edits : Record) (log : ℕ)
    (old new : Image) : Type 0 where
  pub between : Image
  pub recording : IsRecording profile edits log old between
  pub recorded : IsManifest profile (edits ++ next_opening profile edits log ∷ [])
      (between ManifestA)
  pub making : In (Log log)
      (Creates (Log log) (log_header profile log (session_of_record profile edits + 1)))
      between new

-- an image while a session begins: its opening is recorded, and then its log is made
abbrev pub IsBeginning : Profile → Record → ℕ → Image → Image → Type 0
IsBeginning profile edits log old new =
    IsRecording profile edits log old new ⊎ IsMaking profile edits log old new

-- ---- which files calls have changed

-- the images are the same but for the manifest and this file
abbrev pub AreSameButBoth : JournalFile → Image → Image → Type 0
AreSameButBoth file a b =
    (other : JournalFile) → other ≢ ManifestA → other ≢ file → b other ≡ a other

-- Calls changed the manifest and this file at most: as reads give the others they are the same, and
-- an image that was left since a time is, but for these, one left since that time before the calls.
pub record HasTouchedBoth (tells : Bool) (file : JournalFile)
    (old new : JournalTold) : Type 0 where
  pub later : old.moment ≤ new.moment
  pub reads : AreSameButBoth file old.seen new.seen
  pub images : IsTrue tells → (t : ℕ) (image : Image) → t ≤ old.moment → new.left_since t image
      → (before : Image) × old.left_since t before × AreSameButBoth file before image
  -- an image left since a time was so before the calls, or it is left since any later time before them
  pub since : (t s : ℕ) (image : Image) → t ≤ s → s ≤ old.moment → new.left_since t image
      → old.left_since t image ⊎ new.left_since s image
  pub keeps : (t : ℕ) (image : Image) → t ≤ old.moment → old.left_since t image
      → new.left_since t image

-- the manifest alone
pub touched_manifest : (tells : Bool) (file : JournalFile) (a b : JournalTold)
    → HasTouched tells ManifestA a b → HasTouchedBoth tells file a b
touched_manifest tells file a b one = record {
  later = one.later;
  reads = λ other record_differs log_differs. one.reads other record_differs;
  images = λ told t image le left.
      let first = one.images told t image le left in
      (first.0, first.1, λ other record_differs log_differs. first.2 other record_differs);
  since = one.since;
  keeps = one.keeps;
}

-- the other file alone
pub touched_file : (tells : Bool) (file : JournalFile) (a b : JournalTold)
    → HasTouched tells file a b → HasTouchedBoth tells file a b
touched_file tells file a b one = record {
  later = one.later;
  reads = λ other record_differs log_differs. one.reads other log_differs;
  images = λ told t image le left.
      let first = one.images told t image le left in
      (first.0, first.1, λ other record_differs log_differs. first.2 other log_differs);
  since = one.since;
  keeps = one.keeps;
}

-- both, and then both
pub touched_on_both : (tells : Bool) (file : JournalFile) (a b c : JournalTold)
    → HasTouchedBoth tells file a b → HasTouchedBoth tells file b c → HasTouchedBoth tells file a c
touched_on_both tells file a b c one two = record {
  later = omega (arith, one.later, two.later);
  reads = λ other record_differs log_differs. two.reads other record_differs log_differs
      ∙ one.reads other record_differs log_differs;
  images = λ told t image le left.
      let mid = two.images told t image (omega (arith, le, one.later)) left in
      let first = one.images told t mid.0 le mid.1 in (
        first.0,
        first.1,
        λ other record_differs log_differs. mid.2 other record_differs log_differs
            ∙ first.2 other record_differs log_differs,
      );
  since = λ t s image low le left.
      elim (two.since t s image low (omega (arith, le, one.later)) left) [
        | inl mid ↦ elim (one.since t s image low le mid) [
          | inl first ↦ inl first
          | inr during ↦ inr (two.keeps s image (omega (arith, le, one.later)) during)
        ]
        | inr during ↦ inr during
      ];
  keeps = λ t image le left. two.keeps t image (omega (arith, le, one.later))
      (one.keeps t image le left);
}
