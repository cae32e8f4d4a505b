-- What an opening has read of a store before it writes.
use Rattle.std.specs.Prelude.{◌≡◌, ℕ, ◌+◌, ◌≤◌, IsTrue, IfSome, List, length}
use Rattle.peb_base.specs.declared.profile.Profile.{Profile}
use Rattle.peb_base.specs.Profiles.{column}
use Rattle.peb_base.specs.Batches.{Batches}
use Rattle.disk_model.specs.declared.journal.Journal.{Ghosts}
use Rattle.disk_model.specs.declared.journal_file.JournalFile.TheVariants.{ManifestA, ManifestB}
use Rattle.disk_model.specs.Images.{Image, Keeps}
use Rattle.flsm_model.specs.Fields.{fields_of}
use Rattle.flsm_model.specs.Fits.{IsShapeOf}
use Rattle.flsm_model.specs.Shape.{Record}
use Rattle.manifest.specs.Manifests.{IsUnspent}
use Rattle.store_layout.specs.Logs.{Held, SpellsAll}
use Rattle.store_layout.specs.Recorded.{bounds_of, first_log, ReadsBy, StandsBy, StandsFor, StandsBeside}
use Rattle.flsm_core.specs.Place.{Start, opened}
use Rattle.recovery.specs.declared.looked.Looked.{Looked}
use Rattle.recovery.specs.Reading.{HasLogs, KeepsLogs, KeepsBelow}
use Rattle.recovery.specs.Record.{IsReadyRecord}

-- what a store's files hold: its record, the logs that this asks for, and the batches of these
pub record Stored : Type 0 where
  pub edits : Record
  pub logs : List Held
  pub batches : Batches

-- The journal's store was read, and so a crash leaves it: both files of the manifest, the logs up to
-- the first absent one, and those below them down to one that isn't there.
pub record HasLooked {D : Type 0} (d : Ghosts D) (journal : D) (profile : Profile) (looked : Looked)
    (stored : Stored) : Type 0 where
  pub shape : IsShapeOf (column profile) (fields_of looked.recorded.shape) stored.edits
  pub logs : HasLogs (bounds_of profile stored.edits) looked.read stored.logs stored.batches
  pub unspent : IfSome looked.recorded.manifest IsUnspent
  pub reads : IsTrue d.tells
      → ReadsBy profile stored.edits (d.seen journal) stored.logs stored.batches
  pub ready : IsTrue d.tells
      → IsReadyRecord d journal profile stored.edits looked.recorded.manifest
  pub record_kept : Keeps ManifestA (d.seen journal ManifestA) (d.may_leave journal)
  pub other_kept : Keeps ManifestB (d.seen journal ManifestB) (d.may_leave journal)
  pub logs_kept : KeepsLogs d journal (first_log profile stored.edits) (looked.read.next + 1)
  pub older_kept : KeepsBelow d journal (first_log profile stored.edits)

-- ---- the base of an opening

-- what the files hold where an opening begins so, by these logs
abbrev pub stored_of : Start → List Held → Stored
stored_of start logs = record { edits = start.edits; logs = logs; batches = start.base }

-- The base and the record of an opening that began so were read, by these logs: each crash since it
-- began left them, and now it leaves these logs.
pub record HasRead {D : Type 0} (d : Ghosts D) (journal : D) (start : Start) (logs : List Held)
    : Type 0 where
  pub began : start.moment ≤ d.moment journal
  pub counted : start.faults ≤ d.faults journal
  pub past : IsTrue d.tells → IsTrue start.honest → (image : Image)
      → d.left_since journal start.moment image
      → StandsFor start.profile start.base start.edits image
  pub stands : IsTrue d.tells → IsTrue start.honest → (image : Image) → d.may_leave journal image
      → StandsBy start.profile start.base start.edits logs image

-- The opening was recorded, with this first log behind those that spell the base: each crash since
-- it began left the base, and now it leaves the record with the opening.
pub record HasRecorded {D : Type 0} (d : Ghosts D) (journal : D) (start : Start) (logs : List Held)
    (log : ℕ) : Type 0 where
  pub began : start.moment ≤ d.moment journal
  pub counted : start.faults ≤ d.faults journal
  pub next : first_log start.profile start.edits + length logs ≡ log
  pub spelled : SpellsAll logs start.base
  pub past : IsTrue d.tells → IsTrue start.honest → (image : Image)
      → d.left_since journal start.moment image
      → StandsBeside start.profile start.base start.edits log image
  pub stands : IsTrue d.tells → IsTrue start.honest → (image : Image) → d.may_leave journal image
      → StandsBy start.profile start.base (opened start log).edits logs image
