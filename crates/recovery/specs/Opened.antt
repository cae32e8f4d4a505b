-- What an opening rests on, and what it leaves.
use Rattle.std.specs.Prelude.{◌≡◌, ◌⊎◌, ℕ, ◌+◌, ◌*◌, ◌^◌, ◌<◌, ◌≤◌, Bool, true, false, List, [], ◌∷◌, ◌++◌, None}
use Rattle.peb_base.specs.Batches.{Batches, last_number}
use Rattle.peb_base.specs.declared.profile.Profile.{Profile}
use Rattle.disk_model.specs.declared.journal.Journal.{Ghosts}
use Rattle.disk_model.specs.declared.journal_file.JournalFile.TheVariants.{Log, ManifestA}
use Rattle.disk_model.specs.Images.{Image}
use Rattle.disk_model.specs.Told.{JournalTold}
use Rattle.flsm_model.specs.Shape.{Record}
use Rattle.manifest.specs.Manifests.{IsManifest}
use Rattle.store_layout.specs.Logs.{Held}
use Rattle.store_layout.specs.Recorded.{HoldsRecord, session_of_record, first_log, next_opening, ReadsBy, StandsFor, StandsBeside}
use Rattle.flsm_core.specs.Place.{Start, opened}
use Rattle.flsm_core.specs.Standing.{IsAt}
use Rattle.flsm_core.specs.declared.state.State.{State}
use Rattle.flsm_core.specs.State.{state_session, state_file, state_journal}

-- what an opening rests on: each image that a crash may leave stands for the base and this record,
-- or at least they are read
abbrev pub OpensBy : Profile → Record → Bool → Batches → JournalTold → Type 0
OpensBy profile edits true base told = (image : Image) → told.may_leave image
    → StandsFor profile base edits image
OpensBy profile edits false base told =
    (logs : List Held) × ReadsBy profile edits told.seen logs base

-- each of these images stands for the base, and for this record as it was or with one next opening
abbrev pub LeavesOpening : Profile → Batches → Record → (Image → Type 0) → Type 0
LeavesOpening profile base edits images =
    (log : ℕ) × ((image : Image) → images image → StandsBeside profile base edits log image)

-- The state was opened so: it stands right behind the opening, whose first log is its own, and whose
-- session is 1 + that of the record. No number of the base is of that session.
pub record OpenedOn {D : Type 0} (d : Ghosts D) (state : State D) (start : Start) : Type 0 where
  pub log : ℕ
  pub file : state_file state ≡ Log log
  pub next : state_session state ≡ session_of_record start.profile start.edits + 1
  pub above : last_number start.base < state_session state * 2 ^ 40
  pub stands : IsAt d state (opened start log)

-- the state has this opening behind the record that was read of the journal, in each image: its
-- session is the next one, and its log the first of it
pub record HasOpened {D : Type 0} (d : Ghosts D) (journal : D) (profile : Profile)
    (state : State D) : Type 0 where
  pub edits : Record
  pub log : ℕ
  pub recorded : HoldsRecord profile edits (d.seen journal ManifestA)
  pub session : state_session state ≡ session_of_record profile edits + 1
  pub file : state_file state ≡ Log log
  pub kept : (image : Image) → d.may_leave (state_journal state) image
      → IsManifest profile (edits ++ next_opening profile edits log ∷ []) (image ManifestA)

-- the image has the logs below those that its record asks for as they were read, down to one that
-- wasn't there
pub record HasOlder (profile : Profile) (seen image : Image) : Type 0 where
  pub edits : Record
  pub recorded : HoldsRecord profile edits (seen ManifestA)
  pub low : ℕ
  pub ended : (low ≡ 0) ⊎ (seen (Log low) ≡ None)
  pub same : (m : ℕ) → low ≤ m → m < first_log profile edits → image (Log m) ≡ seen (Log m)
