-- What a state stands for.
use Rattle.std.specs.Prelude.{◌≡◌, ℕ, ◌+◌, ◌≤◌, true, false, IsTrue, List, [], ◌∷◌, ◌++◌, map, length}
use Rattle.std.specs.List.{AllByRecursion}
use Rattle.peb_base.specs.Batches.{Batches, last_number, are_in_order}
use Rattle.peb_base.specs.Map.{map_at}
use Rattle.disk_model.specs.declared.journal_file.JournalFile.TheVariants.{Log}
use Rattle.peb_base.specs.declared.profile.Profile.{Profile}
use Rattle.disk_model.specs.Images.{Image, Rose}
use Rattle.disk_model.specs.Told.{JournalTold}
use Rattle.record_log.specs.declared.log_file.LogFile.{LogFile}
use Rattle.record_log.specs.Groups.{records_bytes}
use Rattle.record_log.specs.State.{log_file, log_tail}
use Rattle.record_log.specs.Ready.{IsReady}
use Rattle.flsm_core.specs.declared.state.State.{State}
use Rattle.disk_model.specs.declared.journal.Journal.{Ghosts}
use Rattle.flsm_model.specs.Shape.{Record}
use Rattle.store_layout.specs.Logs.{Held, SpellsAll, IsBatchIn, record_of}
use Rattle.store_layout.specs.Recorded.{first_log, StandsBy, StandsFor}
use Rattle.flsm_core.specs.Place.{Place, all_of, IsRecordOf, WasRecordOf}
use Rattle.store_layout.specs.Fronts.{IsFront}

-- The image stands for first batches of these, at least for those that must be there, and for a
-- record that is so.
pub record Leaves (profile : Profile) (allowed : Record → Type 0) (least all : Batches)
    (image : Image) : Type 0 where
  pub batches : Batches
  pub edits : Record
  pub enough : IsFront least batches
  pub within : IsFront batches all
  pub recorded : allowed edits
  pub stands : StandsFor profile batches edits image

-- the log's tail has the records of the batches that wait
pub record Waits (log : LogFile) (session : ℕ) (p : Place) : Type 0 where
  pub tail : log_tail log ≡ records_bytes (map record_of p.waiting)
  pub each : AllByRecursion (IsBatchIn session) p.waiting

-- The journal has the logs of the settled batches, the last of them the state's own: each image that
-- a crash leaves stands for these batches and the record, by these logs.
pub record Rests {D : Type 0} (d : Ghosts D) (journal : D) (log : LogFile) (session : ℕ) (p : Place)
    : Type 0 where
  pub logs : List Held
  pub current : Held
  pub spelled : SpellsAll (logs ++ current ∷ []) p.settled
  pub file : log_file log ≡ Log (first_log p.start.profile p.edits + length logs)
  pub owned : current.header.session ≡ session
  pub ready : IsReady d.tells d.seen d.may_leave journal log current.header current.groups
  pub stands : IsTrue p.start.honest → (image : Image) → d.may_leave journal image
      → StandsBy p.start.profile p.settled p.edits (logs ++ current ∷ []) image

-- the state stands at this place
pub record IsAt {D : Type 0} (d : Ghosts D) (state : State D) (p : Place) : Type 0 where
  pub began : p.start.moment ≤ d.moment state.journal
  pub counted : p.start.faults ≤ d.faults state.journal
  pub grown : IsFront p.start.base p.settled
  pub ordered : are_in_order (all_of p) ≡ true
  pub last : state.last ≡ last_number (all_of p)
  pub current : state.current ≡ map_at (all_of p) (last_number (all_of p))
  pub stopped : state.stopped ≡ p.stopped
  -- it was stopped by a fault of the journal since the opening began
  pub halted : p.stopped ≡ true → Rose p.start.faults (d.faults state.journal)
  pub waits : p.stopped ≡ false → Waits state.log state.session p
  -- at each moment since the opening began a crash leaves first batches, with the base
  pub since : IsTrue d.tells → IsTrue p.start.honest → (image : Image)
      → d.left_since state.journal p.start.moment image
      → Leaves p.start.profile (WasRecordOf p) p.start.base (all_of p) image
  -- now it leaves the settled ones, and the record
  pub now : IsTrue d.tells → IsTrue p.start.honest → (image : Image)
      → d.may_leave state.journal image
      → Leaves p.start.profile (IsRecordOf p) p.settled (all_of p) image
  pub rests : IsTrue d.tells → p.stopped ≡ false → Rests d state.journal state.log state.session p

-- A journal of a store that stood at this place: a crash now leaves the record, the settled batches
-- and perhaps others, and at no moment since the opening one lost the base.
pub record IsLeftBy (p : Place) (told : JournalTold) : Type 0 where
  pub now : IsTrue p.start.honest → (image : Image) → told.may_leave image
      → Leaves p.start.profile (IsRecordOf p) p.settled (all_of p) image
  pub ever : IsTrue p.start.honest → (image : Image) → told.left_since p.start.moment image
      → Leaves p.start.profile (WasRecordOf p) p.start.base (all_of p) image
