-- The record that a manifest's file holds.
use Rattle.std.specs.Prelude.{◌≡◌, ◌≢◌, ◌⊎◌, ℕ, ◌+◌, ◌≤◌, Bool, true, false, IsTrue, List, [], ◌∷◌, ◌++◌, length, Option, None, Some, Result, Err, IsOk}
use Rattle.peb_base.specs.declared.file_name.FileName.TheVariants as names
use Rattle.peb_base.specs.declared.limit_kind.LimitKind.TheVariants as kinds
use Rattle.peb_base.specs.declared.profile.Profile.{Profile}
use Rattle.peb_base.specs.Profiles.{column, Column}
use Rattle.disk_model.specs.Images.{Keeps}
use Rattle.disk_model.specs.declared.journal.Journal.{Ghosts}
use Rattle.disk_model.specs.declared.journal_file.JournalFile.TheVariants.{ManifestA}
use Rattle.record_log.specs.declared.log_fault.LogFault.{LogFault}
use Rattle.record_log.specs.declared.log_fault.LogFault.TheVariants as logs
use Rattle.record_log.specs.Groups.{groups_bytes}
use Rattle.record_log.specs.Log.{HasNoHeader, IsUnfinished}
use Rattle.flsm_model.specs.declared.edit.Edit.{Edit}
use Rattle.flsm_model.specs.Fits.{is_legal_record}
use Rattle.flsm_model.specs.Shape.{Record}
use Rattle.manifest.specs.declared.append_fault.AppendFault.{AppendFault}
use Rattle.manifest.specs.declared.append_fault.AppendFault.TheVariants as appends
use Rattle.manifest.specs.declared.manifest_file.Manifest.{Manifest}
use Rattle.manifest.specs.Manifests.{IsManifest, IsDamagedBehind, IsReadyManifest, edit_groups, edits_of}
pub use Rattle.store_layout.specs.Recorded.{HoldsRecord, session_of_record}
use Rattle.recovery.specs.declared.open_fault.OpenFault.{OpenFault}
use Rattle.recovery.specs.declared.open_fault.OpenFault.TheVariants as opens

-- the file holds a manifest of a profile, whose edits fit one another
abbrev pub HoldsLegal : Profile → Record → Option (List ℕ) → Type 0
HoldsLegal profile edits found =
    IsManifest profile edits found × (is_legal_record (column profile) edits ≡ true)

-- ---- damage

-- of edits with their places this one is the first that doesn't fit those before it
pub record IsFirstMisfit (o : Column) (found : List (ℕ × Edit)) (at : ℕ) : Type 0 where
  pub before : List (ℕ × Edit)
  pub edit : Edit
  pub behind : List (ℕ × Edit)
  pub split : found ≡ before ++ (at, edit) ∷ behind
  pub legal : is_legal_record o (edits_of before) ≡ true
  pub misfit : is_legal_record o (edits_of before ++ edit ∷ []) ≡ false

-- the file begins with these edits: it holds them up to a closed gate, or is damaged behind them
abbrev pub BeginsWithEdits : Profile → Record → Option (List ℕ) → Type 0
BeginsWithEdits profile edits found = IsManifest profile edits found
    ⊎ ((at : ℕ) × IsDamagedBehind profile edits found at)

-- the file begins with edits, and the gate of the first that doesn't fit those before it stands at
-- this place
pub record HoldsMisfit (found : Option (List ℕ)) (at : ℕ) : Type 0 where
  pub profile : Profile
  pub before : Record
  pub edit : Edit
  pub behind : Record
  pub begins : BeginsWithEdits profile (before ++ edit ∷ behind) found
  pub legal : is_legal_record (column profile) before ≡ true
  pub misfit : is_legal_record (column profile) (before ++ edit ∷ []) ≡ false
  pub place : at ≡ 24 + length (groups_bytes (edit_groups before))

-- the file is damaged at this place, behind edits that fit one another
abbrev pub IsDamagedBehindLegal : Option (List ℕ) → ℕ → Type 0
IsDamagedBehindLegal found at = (profile : Profile) × (edits : Record)
    × IsDamagedBehind profile edits found at × (is_legal_record (column profile) edits ≡ true)

-- the first place that isn't in form or doesn't fit: 0 for the header, else the gate of the first
-- edit that doesn't fit those before it, or of the first group that is no edit's
abbrev pub IsDamagedRecord : Option (List ℕ) → ℕ → Type 0
IsDamagedRecord found at = ((at ≡ 0) × HasNoHeader ManifestA found)
    ⊎ (HoldsMisfit found at ⊎ IsDamagedBehindLegal found at)

-- ---- why a record isn't taken

-- why edits with their places aren't folded
abbrev pub MisfitCause : Column → List (ℕ × Edit) → OpenFault → Type 0
MisfitCause o found (opens.Damaged file at) = (file ≡ names.ManifestA) × IsFirstMisfit o found at
MisfitCause o found opens.Memory = Unit {0}
MisfitCause o found opens.Journal = ⊥
MisfitCause o found (opens.Profile have asked) = ⊥
MisfitCause o found (opens.Limit kind n) = ⊥

-- why the edits that a file of this profile begins with aren't taken by an opening in another, where
-- all of the file is a manifest, or the first damage behind them stands at a place
abbrev pub FoldCause : Profile → Profile → List (ℕ × Edit) → Result Manifest ℕ → OpenFault → Type 0
FoldCause asked have found manifest opens.Journal = ⊥
FoldCause asked have found manifest (opens.Damaged file at) =
    (file ≡ names.ManifestA) × (IsFirstMisfit (column have) found at
    ⊎ ((manifest ≡ Err at) × (is_legal_record (column have) (edits_of found) ≡ true)))
FoldCause asked have found manifest (opens.Profile mine yours) =
    (mine ≡ have) × (yours ≡ asked) × (have ≢ asked) × IsOk manifest
    × (is_legal_record (column have) (edits_of found) ≡ true)
FoldCause asked have found manifest (opens.Limit kind n) =
    (kind ≡ kinds.Openings) × (n ≡ 8388607) × (have ≡ asked) × IsOk manifest
    × (is_legal_record (column have) (edits_of found) ≡ true)
    × (8388607 ≤ session_of_record have (edits_of found))
FoldCause asked have found manifest opens.Memory = Unit {0}

-- what the fault of the manifest's file means to an opening
abbrev pub record_fault : LogFault → OpenFault
record_fault logs.Fault = opens.Journal
record_fault (logs.Damaged at) = opens.Damaged names.ManifestA at
record_fault logs.Memory = opens.Memory

-- why no record is read of the file, where the journal rose, and where it tells what it held
abbrev pub RecordCause : Type 0 → Bool → Option (List ℕ) → Profile → OpenFault → Type 0
RecordCause rose tells found asked opens.Journal = rose
RecordCause rose tells found asked (opens.Damaged file at) =
    (file ≡ names.ManifestA) × (IsTrue tells → IsDamagedRecord found at)
RecordCause rose tells found asked (opens.Profile have yours) =
    (yours ≡ asked) × (have ≢ asked)
    × (IsTrue tells → (edits : Record) × HoldsLegal have edits found)
RecordCause rose tells found asked (opens.Limit kind n) =
    (kind ≡ kinds.Openings) × (n ≡ 8388607)
    × (IsTrue tells → (edits : Record) × HoldsLegal asked edits found
    × (8388607 ≤ session_of_record asked edits))
RecordCause rose tells found asked opens.Memory = Unit {0}

-- ---- the next opening

-- The journal tells that the manifest is ready for the edit behind these, each crash leaving the file
-- so; where there is none, that none was created and no edit was made.
abbrev pub IsReadyRecord : {D : Type 0} → Ghosts D → D → Profile → Record → Option Manifest
    → Type 0
IsReadyRecord d journal profile edits None =
    (edits ≡ []) × IsUnfinished (d.seen journal ManifestA)
    × Keeps ManifestA (d.seen journal ManifestA) (d.may_leave journal)
IsReadyRecord d journal profile edits (Some manifest) =
    IsReadyManifest d.tells d.seen d.may_leave journal manifest profile edits

-- while an edit is recorded behind these: the file is as it was, or holds these, or these and it
abbrev pub Records : Profile → Record → Edit → Option (List ℕ) → Option (List ℕ) → Type 0
Records profile edits edit old new =
    (new ≡ old) ⊎ (HoldsRecord profile edits new ⊎ IsManifest profile (edits ++ edit ∷ []) new)

-- why the next opening isn't recorded, where the journal rose
abbrev pub RecordingCause : Type 0 → OpenFault → Type 0
RecordingCause rose opens.Journal = rose
RecordingCause rose opens.Memory = Unit {0}
RecordingCause rose (opens.Damaged file at) = ⊥
RecordingCause rose (opens.Profile have asked) = ⊥
RecordingCause rose (opens.Limit kind n) = ⊥

-- what the fault of an append means to an opening, whose edit is never too long
abbrev pub append_fault : AppendFault → OpenFault
append_fault appends.Fault = opens.Journal
append_fault appends.Full = opens.Journal
append_fault appends.Memory = opens.Memory
