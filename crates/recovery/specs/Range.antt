-- Openings of a journal whose images differ.
use Rattle.std.specs.Prelude.{◌≡◌, ◌≤◌, true, List, ◌++◌}
use Rattle.peb_base.specs.declared.profile.Profile.{Profile}
use Rattle.peb_base.specs.Batches.{Batches}
use Rattle.disk_model.specs.Images.{Image}
use Rattle.disk_model.specs.Told.{JournalTold}
use Rattle.disk_model.specs.declared.journal.Journal.{Ghosts}
use Rattle.flsm_core.specs.declared.state.State.{State}
use Rattle.flsm_model.specs.Shape.{Record}
use Rattle.store_layout.specs.Logs.{Held}
use Rattle.store_layout.specs.Recorded.{ReadsBy}
use Rattle.flsm_core.specs.Place.{Start}
use Rattle.store_layout.specs.Fronts.{IsFront}
use Rattle.flsm_core.specs.Standing.{Leaves}
use Rattle.recovery.specs.Opened.{OpenedOn}

-- the batches that must be there, and all that may, in a profile; and the edits that must be recorded
pub record Range : Type 0 where
  pub profile : Profile
  pub least : Batches
  pub all : Batches
  pub edits : Record

-- a record goes on from these edits, perhaps by more
abbrev pub GoesOn : Record → Record → Type 0
GoesOn edits longer = (later : Record) × (longer ≡ edits ++ later)

-- the image stands for first batches of all, at least for the least, and for a record that goes on
-- from the edits
abbrev pub IsIn : Range → Image → Type 0
IsIn range image = Leaves range.profile (GoesOn range.edits) range.least range.all image

-- each of these images does
abbrev pub AreIn : Range → (Image → Type 0) → Type 0
AreIn range images = (image : Image) → images image → IsIn range image

-- An opening that begins so opens what is told as read of such a journal: first batches of all, at
-- least the least, by a record that goes on from the edits. From its moment on a crash leaves them.
pub record StartsIn (range : Range) (told : JournalTold) (start : Start) : Type 0 where
  pub profile : start.profile ≡ range.profile
  pub sure : start.honest ≡ true
  pub enough : IsFront range.least start.base
  pub within : IsFront start.base range.all
  pub recorded : GoesOn range.edits start.edits
  pub logs : List Held
  pub reads : ReadsBy range.profile start.edits told.seen logs start.base
  pub began : told.moment ≤ start.moment
  pub counted : told.faults ≤ start.faults

-- The state was opened so; and since the journal told this a crash left images in the range.
pub record OpenedIn {D : Type 0} (d : Ghosts D) (state : State D) (told : JournalTold)
    (range : Range) : Type 0 where
  pub start : Start
  pub starts : StartsIn range told start
  pub opened : OpenedOn d state start
  pub since : AreIn range (d.left_since state.journal told.moment)
