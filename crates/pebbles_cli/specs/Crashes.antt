-- What a run leaves for the next one, whatever crash comes.
use Rattle.std.specs.Prelude.{◌≡◌, ℕ, ◌≤◌, true, IsTrue, List, Option}
use Rattle.std.proofs.Common.{inl, inr}
use Rattle.peb_base.specs.declared.profile.Profile.TheVariants.{Small}
use Rattle.peb_base.specs.Batches.{Batches}
use Rattle.disk_model.specs.declared.journal_file.JournalFile.TheVariants.{Log}
use Rattle.disk_model.specs.Images.{Image}
use Rattle.disk_model.specs.Told.{JournalTold}
use Rattle.script.specs.declared.cause.Cause.{Cause}
use Rattle.flsm_model.specs.Shape.{Record}
use Rattle.recovery.specs.Opened.{OpensBy}
use Rattle.flsm_core.specs.Place.{Start, start_at, all_of}
use Rattle.recovery.specs.Range.{Range, AreIn}
use Rattle.recovery.specs.NextLog.{IsFinished}
use Rattle.pebbles_cli.specs.Outside.{Outside}
use Rattle.pebbles_cli.specs.Top.{Asked, Ran, Plays}

-- ---- the next run's premise

-- all batches that may be there once this was played: where no store was opened, the base
abbrev pub all_after : {start : Start} {asked : Asked} {old new : Outside} {cause : Cause}
    → Plays start asked old new cause → Batches
all_after {start = start} (inl not_opened) = start.base
all_after (inr ran) = all_of ran.closed.place

-- those that must be there: where no store was opened, the base, and else the settled ones
abbrev pub least_after : {start : Start} {asked : Asked} {old new : Outside} {cause : Cause}
    → Plays start asked old new cause → Batches
least_after {start = start} (inl not_opened) = start.base
least_after (inr ran) = ran.closed.place.settled

-- the edits that must be recorded: where no store was opened, those of before
abbrev pub edits_after : {start : Start} {asked : Asked} {old new : Outside} {cause : Cause}
    → Plays start asked old new cause → Record
edits_after {start = start} (inl not_opened) = start.edits
edits_after (inr ran) = ran.closed.place.edits

-- at least these batches and at most those, behind these edits, in a small store
abbrev pub small_range : Batches → Batches → Record → Range
small_range least all edits =
    record { profile = Small; least = least; all = all; edits = edits }

-- Over a journal whose images all stood for the base and one record: after a run the images of a
-- crash lie in the range from the settled batches to all, and those of any moment since it began in
-- that from the base. So the next run has what its promise asks, whenever this one was stopped.
abbrev pub LeavesRanges : Outside → Outside → Type 0
LeavesRanges old new = (asked : Asked) (cause : Cause) (base : Batches) (edits : Record)
    → IsTrue old.devices.tells → IsTrue new.devices.tells
    → OpensBy Small edits true base old.devices.journal
    → (plays : Plays (start_at old.devices.journal Small true base edits) asked old new cause)
    → AreIn (small_range (least_after plays) (all_after plays) (edits_after plays))
    new.devices.journal.may_leave
    × AreIn (small_range base (all_after plays) edits)
    (new.devices.journal.left_since old.devices.journal.moment)

-- ---- what was there before

-- the file has this content in each image that a crash since the time might have left
abbrev pub AlwaysHas : JournalTold → ℕ → ℕ → Option (List ℕ) → Type 0
AlwaysHas told t n content =
    (image : Image) → told.left_since t image → image (Log n) ≡ content

-- A log that was finished before a run is as it was: reads give the same, and where each image since
-- a time had one content of it, each later one has it.
abbrev pub FinishedLogsStay : Outside → Outside → Type 0
FinishedLogsStay old new = (start : Start) (asked : Asked) (cause : Cause)
    → IsTrue old.devices.tells → Ran start asked old new cause
    → (n : ℕ) → IsFinished n old.devices.journal.seen
    → (new.devices.journal.seen (Log n) ≡ old.devices.journal.seen (Log n))
    × ((t : ℕ) (content : Option (List ℕ)) → t ≤ old.devices.journal.moment
    → AlwaysHas old.devices.journal t n content → AlwaysHas new.devices.journal t n content)
