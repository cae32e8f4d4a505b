-- What is read of a store by its record, and why it isn't.
use Rattle.std.specs.Prelude.{◌≡◌, ◌⊎◌, ℕ, ◌+◌, ◌<◌, ◌≤◌, Bool, IsTrue, List, length, None}
use Rattle.peb_base.specs.declared.file_name.FileName.TheVariants as names
use Rattle.peb_base.specs.declared.profile.Profile.{Profile}
use Rattle.peb_base.specs.Batches.{Batches}
use Rattle.disk_model.specs.declared.journal.Journal.{Ghosts}
use Rattle.disk_model.specs.declared.journal_file.JournalFile.TheVariants.{Log, ManifestA}
use Rattle.disk_model.specs.Images.{Image, Keeps}
use Rattle.record_log.specs.declared.header.Header.{Header}
use Rattle.record_log.specs.Groups.{placed}
use Rattle.record_log.specs.Log.{IsLog}
use Rattle.flsm_model.specs.Shape.{Record}
use Rattle.store_layout.specs.Logs.{Held, SpellsAll}
use Rattle.store_layout.specs.Recorded.{Bounds, bounds_of, IsWithin, AreWithin, BeginsFrom, HoldsRecord, ReadsBy}
use Rattle.recovery.specs.declared.logs_read.LogsRead.{LogsRead}
use Rattle.recovery.specs.declared.open_fault.OpenFault.{OpenFault}
use Rattle.recovery.specs.declared.open_fault.OpenFault.TheVariants as opens
use Rattle.recovery.specs.Opening.{IsOutOfForm, IsReplayOf, StopsAt}
use Rattle.recovery.specs.Record.{IsDamagedRecord, RecordCause}

-- ---- the logs

-- within bounds these logs were read, up to the next one, and they spell these batches
pub record HasLogs (bounds : Bounds) (read : LogsRead) (logs : List Held)
    (batches : Batches) : Type 0 where
  pub next : read.next ≡ bounds.first + length logs
  pub session : read.session ≡ bounds.session
  pub within : AreWithin bounds logs
  pub spelled : SpellsAll logs batches
  pub replay : IsReplayOf read.replay batches

-- a crash leaves the logs from one number on, below another, as reads give them
abbrev pub KeepsLogs : {D : Type 0} → Ghosts D → D → ℕ → ℕ → Type 0
KeepsLogs d journal low high = (m : ℕ) → low ≤ m → m < high
    → Keeps (Log m) (d.seen journal (Log m)) (d.may_leave journal)

-- a crash leaves the logs below a number as reads give them, down to one that isn't there, and that
pub record KeepsBelow {D : Type 0} (d : Ghosts D) (journal : D) (number : ℕ) : Type 0 where
  pub low : ℕ
  pub below : low ≤ number
  pub kept : KeepsLogs d journal low number
  pub ended : IsTrue d.tells → (low ≡ 0) ⊎ (d.seen journal (Log low) ≡ None)

-- ---- why logs aren't read

-- the log of this number is in form, and its header isn't within bounds
abbrev pub IsForeign : Bounds → ℕ → Image → Type 0
IsForeign bounds n image = (log : Held) × IsLog (Log n) log.header log.groups (image (Log n))
    × (IsWithin bounds log.header → ⊥)

-- The log of this number is in form, and its header within bounds. Behind the batches, its first
-- record that can't stand there has its group's gate at this place.
pub record IsMisplaced (bounds : Bounds) (batches : Batches) (n at : ℕ)
    (image : Image) : Type 0 where
  pub log : Held
  pub form : IsLog (Log n) log.header log.groups (image (Log n))
  pub within : IsWithin bounds log.header
  pub stops : StopsAt log.header.session batches (placed 24 log.groups) at

-- the logs from the first one on up to this number are read, and this one is damaged at this place:
-- it isn't in form there, its header isn't within bounds, or a record can't stand there
pub record IsDamagedLog (bounds : Bounds) (n at : ℕ) (image : Image) : Type 0 where
  pub logs : List Held
  pub batches : Batches
  pub reads : BeginsFrom bounds image logs batches
  pub next : n ≡ bounds.first + length logs
  pub damage : IsOutOfForm n at image
      ⊎ ((IsForeign bounds n image × (at ≡ 0)) ⊎ IsMisplaced bounds batches n at image)

-- why the logs within bounds weren't read, where the journal rose, and where it tells what it held
abbrev pub LogsCause : Type 0 → Bool → Image → Bounds → OpenFault → Type 0
LogsCause rose tells seen bounds opens.Journal = rose
LogsCause rose tells seen bounds (opens.Damaged file at) =
    (n : ℕ) × (file ≡ names.Log n) × (IsTrue tells → IsDamagedLog bounds n at seen)
LogsCause rose tells seen bounds (opens.Profile have asked) = ⊥
LogsCause rose tells seen bounds (opens.Limit kind n) = ⊥
LogsCause rose tells seen bounds opens.Memory = Unit {0}

-- why the next log wasn't taken in, where P says of a place that its records stop there
abbrev pub TakeCause : Bounds → ℕ → Header → (ℕ → Type 0) → OpenFault → Type 0
TakeCause bounds number header P opens.Journal = ⊥
TakeCause bounds number header P (opens.Damaged file at) = (file ≡ names.Log number)
    × (((IsWithin bounds header → ⊥) × (at ≡ 0)) ⊎ (IsWithin bounds header × P at))
TakeCause bounds number header P (opens.Profile have asked) = ⊥
TakeCause bounds number header P (opens.Limit kind n) = ⊥
TakeCause bounds number header P opens.Memory = Unit {0}

-- ---- why a store isn't read

-- nothing is read of the image in this profile
abbrev pub IsUnreadableIn : Profile → Image → Type 0
IsUnreadableIn profile image = (edits : Record) (logs : List Held) (batches : Batches)
    → ReadsBy profile edits image logs batches → ⊥

-- the manifest has a record, by which the log of this number is damaged at this place
abbrev pub HasDamagedLog : Profile → ℕ → ℕ → Image → Type 0
HasDamagedLog profile n at image = (edits : Record) × HoldsRecord profile edits (image ManifestA)
    × IsDamagedLog (bounds_of profile edits) n at image

-- why a store wasn't read: its record wasn't, or a log within it
abbrev pub StoreCause : Type 0 → Bool → Image → Profile → OpenFault → Type 0
StoreCause rose tells seen profile (opens.Damaged file at) = ((file ≡ names.ManifestA)
    × (IsTrue tells → IsUnreadableIn profile seen × IsDamagedRecord (seen ManifestA) at))
    ⊎ ((n : ℕ) × (file ≡ names.Log n)
    × (IsTrue tells → IsUnreadableIn profile seen × HasDamagedLog profile n at seen))
StoreCause rose tells seen profile opens.Journal = rose
StoreCause rose tells seen profile (opens.Profile have asked) =
    RecordCause rose tells (seen ManifestA) profile (opens.Profile have asked)
StoreCause rose tells seen profile (opens.Limit kind n) =
    RecordCause rose tells (seen ManifestA) profile (opens.Limit kind n)
StoreCause rose tells seen profile opens.Memory = Unit {0}
