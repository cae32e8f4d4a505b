-- What a run does.
use Rattle.std.specs.Prelude.{◌≡◌, ◌≢◌, ◌⊎◌, ℕ, ◌+◌, ◌*◌, ◌^◌, ◌<◌, ◌≤◌, IsTrue, Bool, true, false, List, [], ◌∷◌, ◌++◌, take, Option, Some, None, Result}
use Rattle.peb_base.specs.declared.profile.Profile.TheVariants.{Small}
use Rattle.peb_base.specs.Batches.{Batches, last_number}
use Rattle.peb_base.specs.Faults.{Rose}
use Rattle.script.specs.declared.cause.Cause.{Cause}
use Rattle.script.specs.declared.cause.Cause.TheVariants as causes
use Rattle.script.specs.declared.command.Command.{Command}
use Rattle.script.specs.Report.{report_text}
use Rattle.disk_model.specs.Directories.{after_choice, after_opening}
use Rattle.disk_model.specs.Images.{Image}
use Rattle.disk_model.specs.SinkNames.{after_client, after_return}
use Rattle.disk_model.specs.Told.{JournalTold, TablesStay}
use Rattle.disk_model.specs.declared.journal_file.JournalFile.{JournalFile}
use Rattle.flsm_core.specs.declared.sync_fault.SyncFault.{SyncFault}
use Rattle.disk_model.specs.declared.journal_file.JournalFile.TheVariants.{Log, ManifestA}
use Rattle.flsm_model.specs.Shape.{Record}
use Rattle.flsm_core.specs.Place.{Start, Place, all_of, opened, start_at, WasRecordOf, after_sync, Syncs}
use Rattle.flsm_core.specs.Touched.{HasTouched}
use Rattle.store_layout.specs.Logs.{Held}
use Rattle.store_layout.specs.Recorded.{ReadsBy, session_of_record, next_opening}
use Rattle.recovery.specs.Opened.{OpensBy, LeavesOpening}
use Rattle.recovery.specs.Opening.{HasWatched}
use Rattle.recovery.specs.NextLog.{HasTouchedNext}
use Rattle.recovery.specs.Range.{Range, IsIn, AreIn, StartsIn}
use Rattle.flsm_core.specs.Standing.{Leaves, IsLeftBy}
use Rattle.pebbles_cli.specs.declared.served.Served.{Served}
use Rattle.pebbles_cli.specs.Causes.{Says, RefusalCause, ReportCause, end_of}
use Rattle.pebbles_cli.specs.Names.{OpensAtMost, replies_label, replies_name}
use Rattle.pebbles_cli.specs.Numbers.{AreNumbered}
use Rattle.pebbles_cli.specs.Outside.{SinksTold, Outside}
use Rattle.pebbles_cli.specs.Read.{IsWithin}
use Rattle.pebbles_cli.specs.Shows.{ShowsAll}
use Rattle.pebbles_cli.specs.Tells.{Tells, TellsOne, TookMore, sync_cause}

-- what the words of a run name, the directory and the script, and the script's text where it is
-- told
pub record Asked : Type 0 where
  pub dir : List ℕ
  pub file : List ℕ
  pub text : Option (List ℕ)

-- ---- the commands

-- commands that are run from a place on in a session, and the name under which their replies go
pub record Run : Type 0 where
  pub session : ℕ
  pub start : Place
  pub name : List ℕ
  pub commands : List Command

-- how commands went: the lines of the replies, the first fault among these and whether the sink
-- failed, and where the commands led
pub record Went : Type 0 where
  pub text : List ℕ
  pub served : Served
  pub place : Place

-- a sink took this text in all, where it tells what it took
abbrev pub IsTaken : Option (List ℕ) → List ℕ → Type 0
IsTaken None text = Unit {0}
IsTaken (Some taken) text = taken ≡ text

-- the commands were run, up to the first one whose line the sink didn't take whole
pub record IsAnswered (run : Run) (old new : SinksTold) (went : Went) : Type 0 where
  pub told : Tells (TellsOne run.session) run.start run.commands went.text went.served.fault
      went.served.sink_failed went.place
  pub shown : ShowsAll went.place run.commands went.text went.served.sink_failed
  pub numbered : AreNumbered (last_number (all_of run.start)) (all_of went.place) run.commands
      went.text went.served.sink_failed
  pub taken : IsTaken new.replies went.text
  pub failed : IsTrue went.served.sink_failed → Rose 0 new.reply_faults
  pub names : new.names ≡ after_return 1 (replies_label run.name) (after_client old.names)

-- the sink of the replies couldn't be opened, and no command was run; a report's fault comes later
pub record IsUnheard (run : Run) (old new : SinksTold) (went : Went) : Type 0 where
  pub cause : Rose old.faults new.faults
  pub no_reply : new.replies ≡ old.replies
  pub no_text : went.text ≡ []
  pub served : went.served ≡ record { fault = None; sink_failed = true }
  pub place : went.place ≡ run.start
  pub names : new.names ≡ old.names

-- the commands were run, or the sink of their replies couldn't be opened
abbrev pub IsServed : Run → SinksTold → SinksTold → Went → Type 0
IsServed run old new went = IsAnswered run old new went ⊎ IsUnheard run old new went

-- later calls left what the sinks tell of replies, and counted no fewer faults
pub record RepliesStay (old new : SinksTold) : Type 0 where
  pub names : new.names ≡ old.names
  pub replies : new.replies ≡ old.replies
  pub reply_faults : new.reply_faults ≡ old.reply_faults
  pub never_falls : old.faults ≤ new.faults

-- ---- the closing

-- how a store was closed: what the closing sync answered and where it led, and why the report isn't
-- whole
pub record Closed : Type 0 where
  pub answer : Result ℕ SyncFault
  pub place : Place
  pub report : Option Cause

-- the report of a run with this last number: the profile has levels 0 to 3
unfoldable pub run_report : ℕ → List ℕ
run_report last = report_text last 3

-- the report was taken; or, where there is a fault, some first bytes of it, all or none
abbrev pub Reports : ℕ → Option Cause → Option (List ℕ) → Option (List ℕ) → Type 0
Reports last None old new = TookMore old (run_report last) new
Reports last (Some cause) old new = (k : ℕ) × TookMore old (take k (run_report last)) new

-- a store that stood at this place was synced and handed back, and then the report was written to
-- sinks that told this until then
pub record IsClosed (answered : Place) (before : SinksTold) (new : Outside) (closed : Closed)
    : Type 0 where
  -- the closing sync
  pub closes : Syncs answered closed.answer
  pub leads : closed.place ≡ after_sync answered closed.answer
  pub halted : closed.place.stopped ≡ true
      → Rose closed.place.start.faults new.devices.journal.faults
  -- the report
  pub reports : Reports (last_number (all_of closed.place)) closed.report before.report
      new.sinks.report
  pub report_cause : ReportCause (Rose before.faults new.sinks.faults) closed.report
  pub replies_stay : RepliesStay before new.sinks
  -- what a crash leaves
  pub left : IsTrue new.devices.tells → IsLeftBy closed.place new.devices.journal

-- ---- the whole

-- at status 0 each command was answered without a fault, the report is whole, and no batch waits
pub record IsDone (went : Went) (closed : Closed) : Type 0 where
  pub no_fault : went.served.fault ≡ None
  pub all_taken : went.served.sink_failed ≡ false
  pub reported : closed.report ≡ None
  pub settled : closed.place.waiting ≡ []

-- no file of the journal was changed, or the manifest and the first log that wasn't there at most
abbrev pub TouchesAtMost : Bool → JournalTold → JournalTold → Type 0
TouchesAtMost tells old new = HasWatched old new
    ⊎ ((file : JournalFile) × HasTouchedNext tells Small file old new)

-- a store was opened so, the commands of the script were run, and the store was closed
pub record Ran (start : Start) (asked : Asked) (old new : Outside) (cause : Cause) : Type 0 where
  pub session : ℕ
  pub log : ℕ
  pub commands : List Command
  pub went : Went
  pub closed : Closed
  -- what was opened
  pub short : IsWithin asked.text 16777216
  pub says : Says asked.text commands
  pub next : session ≡ session_of_record start.profile start.edits + 1
  pub above : last_number start.base < session * 2 ^ 40
  pub possible : session ≤ 8388607
  pub directory : new.devices.directories
      ≡ after_opening (after_choice asked.dir old.devices.directories)
  -- what was replied, and what the sinks told when it was
  pub replied : SinksTold
  pub served : IsServed
      (record {
        session = session;
        start = opened start log;
        name = replies_name asked.file;
        commands = commands;
      })
      old.sinks replied went
  pub unreported : replied.report ≡ old.sinks.report
  pub counted : old.sinks.faults ≤ replied.faults
  -- how it ended
  pub starts : closed.place.start ≡ start
  pub recorded : closed.place.edits
      ≡ start.edits ++ next_opening start.profile start.edits log ∷ []
  pub closing : IsClosed went.place replied new closed
  pub ends : cause
      ≡ end_of went.served.fault went.served.sink_failed (sync_cause closed.answer) closed.report
  pub done : cause ≡ causes.Done → IsDone went closed
  -- what stays
  pub touched : HasTouchedNext old.devices.tells Small (Log log) old.devices.journal
      new.devices.journal
  pub tables : TablesStay old.devices.tables new.devices.tables

-- no store was opened
pub record NotOpened (asked : Asked) (old new : Outside) (cause : Cause) : Type 0 where
  pub why : RefusalCause asked.text old.devices new.devices cause
  pub directory : OpensAtMost asked.dir old.devices.directories new.devices.directories
  -- nothing was replied or reported
  pub sinks : new.sinks ≡ old.sinks
  -- but for a fault of the journal, and want of memory, no file of it was changed; for want of
  -- memory at most the manifest was, and else that and its next log
  pub untouched : cause ≢ causes.Journal → cause ≢ causes.Memory
      → HasWatched old.devices.journal new.devices.journal
  pub memory : cause ≡ causes.Memory → HasTouched old.devices.tells ManifestA old.devices.journal
      new.devices.journal
  pub touched : TouchesAtMost old.devices.tells old.devices.journal new.devices.journal
  -- and no crash since lost what was there, nor does one now
  pub ever : IsTrue old.devices.tells → (base : Batches) (edits : Record)
      → OpensBy Small edits true base old.devices.journal
      → LeavesOpening Small base edits
      (new.devices.journal.left_since old.devices.journal.moment)
  pub now : IsTrue old.devices.tells → (base : Batches) (edits : Record)
      → OpensBy Small edits true base old.devices.journal
      → LeavesOpening Small base edits new.devices.journal.may_leave
  pub tables : TablesStay old.devices.tables new.devices.tables

-- the script was run over a store that was opened so, or no store was opened
abbrev pub Plays : Start → Asked → Outside → Outside → Cause → Type 0
Plays start asked old new cause = NotOpened asked old new cause ⊎ Ran start asked old new cause

-- each of these images lies in the range, or has first batches of those at this place, with the
-- opening's base, and a record of this place
abbrev pub AreInOrOn : Range → Place → (Image → Type 0) → Type 0
AreInOrOn range p images = (image : Image) → images image
    → IsIn range image ⊎ Leaves range.profile (WasRecordOf p) p.start.base (all_of p) image

-- Over a journal whose images lie in a range: the script was run over a store that was opened on
-- what was read, and each image left since lies in the range or goes on from there; or no store was
-- opened and each image left since lies in the range.
abbrev pub PlaysIn : Range → Asked → Outside → Outside → Cause → Type 0
PlaysIn range asked old new cause =
    (NotOpened asked old new cause
    × AreIn range (new.devices.journal.left_since old.devices.journal.moment))
    ⊎ ((start : Start) × StartsIn range old.devices.journal start
    × (ran : Ran start asked old new cause)
    × AreInOrOn range ran.closed.place
    (new.devices.journal.left_since old.devices.journal.moment))

-- the script was run over a store that was opened over some base and record, which were read where
-- reads are told, or no store was opened
abbrev pub PlaysSomehow : Asked → Outside → Outside → Cause → Type 0
PlaysSomehow asked old new cause =
    NotOpened asked old new cause
    ⊎ ((base : Batches) × ((edits : Record)
    × ((IsTrue old.devices.tells → (logs : List Held)
    × ReadsBy Small edits old.devices.journal.seen logs base)
    × Ran (start_at old.devices.journal Small false base edits) asked old new cause)))
