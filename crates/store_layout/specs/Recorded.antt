-- What an image of a store has by its record: the logs that the record asks for, and their batches.
use Rattle.std.specs.Prelude.{◌≡◌, ◌≢◌, ◌⊎◌, ℕ, ◌+◌, ◌<◌, ◌≤◌, true, List, [], ◌∷◌, ◌++◌, length, Option, None}
use Rattle.std.specs.List.{AllByRecursion}
use Rattle.peb_base.specs.declared.profile.Profile.{Profile}
use Rattle.peb_base.specs.Profiles.{column}
use Rattle.peb_base.specs.Batches.{Batches, are_in_order}
use Rattle.disk_model.specs.declared.journal_file.JournalFile.TheVariants.{Log, ManifestA}
use Rattle.disk_model.specs.Images.{Image}
use Rattle.record_log.specs.declared.header.Header.{Header}
use Rattle.record_log.specs.BatchRecord.{IsBatch}
use Rattle.record_log.specs.Log.{IsUnfinished}
use Rattle.flsm_model.specs.declared.edit.Edit.{Edit}
use Rattle.flsm_model.specs.declared.edit.Edit.TheVariants.{Open, Flush, Move, Cut, Merge}
use Rattle.flsm_model.specs.Fits.{is_legal_record}
use Rattle.flsm_model.specs.Shape.{Record, shape_of}
use Rattle.manifest.specs.Manifests.{IsManifest}
use Rattle.store_layout.specs.Logs.{Held, HoldsLogs, BeginsLogs, SpellsAll}

-- ---- the record

-- the file holds the edits of this record; where no manifest was created there are none
abbrev pub HoldsRecord : Profile → Record → Option (List ℕ) → Type 0
HoldsRecord profile edits found =
    (IsUnfinished found × (edits ≡ [])) ⊎ IsManifest profile edits found

-- the session of the last opening in a record, or 0
abbrev pub session_of_record : Profile → Record → ℕ
session_of_record profile edits = (shape_of (column profile) edits).session

-- the first log in a record that isn't flushed
abbrev pub first_log : Profile → Record → ℕ
first_log profile edits = (shape_of (column profile) edits).log

-- the next opening behind these edits, whose first log is this one
abbrev pub next_opening : Profile → Record → ℕ → Edit
next_opening profile edits log = Open (session_of_record profile edits + 1) log

-- the edit is an opening
abbrev pub IsOpening : Edit → Type 0
IsOpening (Open session log) = Unit {0}
IsOpening (Flush row from to log chosen) = ⊥
IsOpening (Move level floor inputs outputs) = ⊥
IsOpening (Cut level keys inputs outputs) = ⊥
IsOpening (Merge floor whole inputs outputs) = ⊥

-- the record is of openings alone
abbrev pub AreOpenings : Record → Type 0
AreOpenings edits = AllByRecursion IsOpening edits

-- ---- the logs that it asks for

-- what a record says of the logs that are read: their profile, the number of the first one, and the
-- session that none of them passes
pub record Bounds : Type 0 where
  pub profile : Profile
  pub first : ℕ
  pub session : ℕ

-- what this record says
abbrev pub bounds_of : Profile → Record → Bounds
bounds_of profile edits = record {
  profile = profile;
  first = first_log profile edits;
  session = session_of_record profile edits;
}

-- a log that is read has such a header
abbrev pub IsWithin : Bounds → Header → Type 0
IsWithin bounds header =
    (header.profile ≡ bounds.profile) × (header.session ≤ bounds.session)

-- each of the logs has
abbrev pub AreWithin : Bounds → List Held → Type 0
AreWithin bounds logs = AllByRecursion (λ (log : Held). IsWithin bounds log.header) logs

-- the image begins with these logs, from the first one on, and they spell these batches, in order
pub record BeginsFrom (bounds : Bounds) (image : Image) (logs : List Held)
    (batches : Batches) : Type 0 where
  pub begins : BeginsLogs bounds.first logs image
  pub within : AreWithin bounds logs
  pub spelled : SpellsAll logs batches
  pub ordered : are_in_order batches ≡ true

-- these are the logs of the image, from the first one on up to the first absent one, and they spell
-- these batches, in order
pub record ReadsFrom (bounds : Bounds) (image : Image) (logs : List Held)
    (batches : Batches) : Type 0 where
  pub holds : HoldsLogs bounds.first logs image
  pub within : AreWithin bounds logs
  pub spelled : SpellsAll logs batches
  pub ordered : are_in_order batches ≡ true

-- the image has this record, which is legal, and these logs by it, which spell these batches
pub record ReadsBy (profile : Profile) (edits : Record) (image : Image) (logs : List Held)
    (batches : Batches) : Type 0 where
  pub recorded : HoldsRecord profile edits (image ManifestA)
  pub legal : is_legal_record (column profile) edits ≡ true
  pub read : ReadsFrom (bounds_of profile edits) image logs batches

-- the same record, the same logs and the same batches
pub record SameStore (d e : Record) (a b : List Held) (x y : Batches) : Type 0 where
  pub edits : d ≡ e
  pub logs : a ≡ b
  pub batches : x ≡ y

-- ---- the whole image

-- beside the logs that are read, from the first one on, the image has those from the oldest on up to
-- them, and no other
pub record Lies (first oldest : ℕ) (logs : List Held) (image : Image) : Type 0 where
  pub some : 1 ≤ oldest
  pub before : oldest ≤ first
  pub none_below : (m : ℕ) → m < oldest → image (Log m) ≡ None
  pub older : (m : ℕ) → oldest ≤ m → m < first → image (Log m) ≢ None
  pub none_above : (m : ℕ) → first + length logs < m → image (Log m) ≡ None

-- The image stands for these batches, each within its limits, and for this record in a profile, by
-- these logs: the record is read and is of openings alone, the logs spell the batches, and there is
-- no other log.
pub record StandsBy (profile : Profile) (batches : Batches) (edits : Record) (logs : List Held)
    (image : Image) : Type 0 where
  pub openings : AreOpenings edits
  pub each : AllByRecursion (λ b. IsBatch b.0 b.1) batches
  pub reads : ReadsBy profile edits image logs batches
  pub oldest : ℕ
  pub lies : Lies (first_log profile edits) oldest logs image

-- the image stands for these batches and this record, by some logs
pub record StandsFor (profile : Profile) (batches : Batches) (edits : Record)
    (image : Image) : Type 0 where
  pub logs : List Held
  pub by : StandsBy profile batches edits logs image

-- the image stands for the base, and for this record as it was or with its next opening
abbrev pub StandsBeside : Profile → Batches → Record → ℕ → Image → Type 0
StandsBeside profile base edits log image = StandsFor profile base edits image
    ⊎ StandsFor profile base (edits ++ next_opening profile edits log ∷ []) image
