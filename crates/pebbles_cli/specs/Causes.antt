-- When a run ends with which cause.
use Rattle.std.specs.Prelude.{◌≡◌, ◌⊎◌, ℕ, ◌-◌, ◌^◌, Bool, if◌then◌else◌, List, Option, None, Some, Ok, Err}
use Rattle.std.specs.Option.{option_or, unwrap_or}
use Rattle.peb_base.specs.declared.limit_kind.LimitKind.{LimitKind}
use Rattle.peb_base.specs.declared.limit_kind.LimitKind.TheVariants as kinds
use Rattle.peb_base.specs.declared.profile.Profile.TheVariants.{Small}
use Rattle.peb_base.specs.Faults.{Rose}
use Rattle.script.specs.declared.cause.Cause.{Cause}
use Rattle.script.specs.declared.cause.Cause.TheVariants as causes
use Rattle.script.specs.declared.why.Why.{Why}
use Rattle.script.specs.declared.command.Command.{Command}
use Rattle.script.specs.Script.{script_of}
use Rattle.recovery.specs.declared.open_fault.OpenFault.{OpenFault}
use Rattle.recovery.specs.declared.open_fault.OpenFault.TheVariants as opens
use Rattle.recovery.specs.Reading.{StoreCause}
use Rattle.pebbles_cli.specs.Outside.{DevicesTold, SinksTold, Outside}
use Rattle.pebbles_cli.specs.Read.{IsWithin, HasMore}

-- ---- the script

-- the script says these commands, where it is told
abbrev pub Says : Option (List ℕ) → List Command → Type 0
Says None commands = Unit {0}
Says (Some text) commands = script_of text ≡ Ok commands

-- this line is the first of the script outside the grammar, where it is told
abbrev pub IsRefusedAt : Option (List ℕ) → ℕ → Why → Type 0
IsRefusedAt None line why = Unit {0}
IsRefusedAt (Some text) line why = script_of text ≡ Err (line, why)

-- the script isn't too long, and says some commands
abbrev pub IsScript : Option (List ℕ) → Type 0
IsScript text = IsWithin text 16777216 × ((commands : List Command) × Says text commands)

-- the script isn't read, or isn't one, for this cause
abbrev pub ScriptCause : Option (List ℕ) → Cause → Type 0
ScriptCause text (causes.Source i) = i ≡ 1
ScriptCause text (causes.Script i line why) =
    (i ≡ 1) × IsWithin text 16777216 × IsRefusedAt text line why
ScriptCause text (causes.Limit kind n) = (kind ≡ kinds.Script) × (n ≡ 16777216)
    × HasMore text 16777216
ScriptCause text causes.Memory = Unit {0}
ScriptCause text causes.Journal = ⊥
ScriptCause text (causes.Damaged file at) = ⊥
ScriptCause text (causes.Profile have asked) = ⊥
ScriptCause text causes.Done = ⊥
ScriptCause text causes.Usage = ⊥
ScriptCause text (causes.Sink i) = ⊥

-- ---- the opening

-- the journal failed, or the choice of its directory, or its handing out
abbrev pub JournalRose : DevicesTold → DevicesTold → Type 0
JournalRose old new = Rose old.faults new.faults ⊎ Rose old.journal.faults new.journal.faults

-- the cause that an opening's fault is told as
abbrev pub opening_cause : OpenFault → Cause
opening_cause opens.Journal = causes.Journal
opening_cause (opens.Damaged file at) = causes.Damaged file at
opening_cause (opens.Profile have asked) = causes.Profile have asked
opening_cause (opens.Limit kind n) = causes.Limit kind n
opening_cause opens.Memory = causes.Memory

-- an opening may be refused with this fault
abbrev pub OpeningCause : DevicesTold → DevicesTold → OpenFault → Type 0
OpeningCause old new fault =
    StoreCause (JournalRose old new) old.tells old.journal.seen Small fault

-- no store is opened for this cause alone
pub record IsOpeningCause (old new : DevicesTold) (cause : Cause) : Type 0 where
  pub fault : OpenFault
  pub tells : cause ≡ opening_cause fault
  pub when : OpeningCause old new fault

-- no command is run for this cause: the script gives none, or no store is opened
abbrev pub RefusalCause : Option (List ℕ) → DevicesTold → DevicesTold → Cause → Type 0
RefusalCause text old new cause = ScriptCause text cause
    ⊎ (IsScript text × IsOpeningCause old new cause)

-- the cause is told before anything is opened
abbrev pub IsBeforeOpening : Cause → Type 0
IsBeforeOpening causes.Usage = Unit {0}
IsBeforeOpening (causes.Source i) = Unit {0}
IsBeforeOpening (causes.Script i line why) = Unit {0}
IsBeforeOpening (causes.Limit kind n) = kind ≡ kinds.Script
IsBeforeOpening causes.Done = ⊥
IsBeforeOpening causes.Journal = ⊥
IsBeforeOpening (causes.Damaged file at) = ⊥
IsBeforeOpening (causes.Profile have asked) = ⊥
IsBeforeOpening (causes.Sink i) = ⊥
IsBeforeOpening causes.Memory = ⊥

-- ---- where commands are run

-- the cause that a fault of the client's sink is told as
abbrev pub sink_cause : Bool → Option Cause
sink_cause failed = if failed then Some (causes.Sink 1) else None

-- how a run ends: with the first fault that a line told, else that of the client's sink, of the
-- closing sync, of the report
abbrev pub end_of : Option Cause → Bool → Option Cause → Option Cause → Cause
end_of fault failed closing report =
    unwrap_or
    (option_or fault (option_or (sink_cause failed) (option_or closing report))) causes.Done

-- a write tells these limits
abbrev pub IsWriteLimit : LimitKind → ℕ → Type 0
IsWriteLimit kind n = ((kind ≡ kinds.Operations) × (n ≡ 2 ^ 40 - 1))
    ⊎ ((kind ≡ kinds.Tail) × (n ≡ 2 ^ 31))

-- a line, or the closing sync, tells no other faults, and one of the journal only where this holds
abbrev pub LineCause : Type 0 → Option Cause → Type 0
LineCause failed None = Unit {0}
LineCause failed (Some causes.Journal) = failed
LineCause failed (Some causes.Memory) = Unit {0}
LineCause failed (Some (causes.Limit kind n)) = IsWriteLimit kind n
LineCause failed (Some causes.Done) = ⊥
LineCause failed (Some causes.Usage) = ⊥
LineCause failed (Some (causes.Script i line why)) = ⊥
LineCause failed (Some (causes.Damaged file at)) = ⊥
LineCause failed (Some (causes.Profile have asked)) = ⊥
LineCause failed (Some (causes.Sink i)) = ⊥
LineCause failed (Some (causes.Source i)) = ⊥

-- the report is cut short by nothing else, and by its sink only where this holds
abbrev pub ReportCause : Type 0 → Option Cause → Type 0
ReportCause failed None = Unit {0}
ReportCause failed (Some causes.Memory) = Unit {0}
ReportCause failed (Some (causes.Sink i)) = (i ≡ 0) × failed
ReportCause failed (Some causes.Done) = ⊥
ReportCause failed (Some causes.Usage) = ⊥
ReportCause failed (Some (causes.Script i line why)) = ⊥
ReportCause failed (Some causes.Journal) = ⊥
ReportCause failed (Some (causes.Damaged file at)) = ⊥
ReportCause failed (Some (causes.Profile have asked)) = ⊥
ReportCause failed (Some (causes.Limit kind n)) = ⊥
ReportCause failed (Some (causes.Source i)) = ⊥

-- ---- whatever happened

-- a sink failed, the report's or that of the replies, or couldn't be opened
abbrev pub SinkCause : SinksTold → SinksTold → ℕ → Type 0
SinkCause old new i =
    ((i ≡ 0) × Rose old.faults new.faults)
    ⊎ ((i ≡ 1) × (Rose old.faults new.faults ⊎ Rose 0 new.reply_faults))

-- what holds where a call whose words name a run ends with this cause
abbrev pub PlayCause : Option (List ℕ) → Outside → Outside → Cause → Type 0
PlayCause text old new (causes.Source i) = i ≡ 1
PlayCause text old new (causes.Script i line why) =
    (i ≡ 1) × IsWithin text 16777216 × IsRefusedAt text line why
PlayCause text old new (causes.Limit kind n) =
    ((kind ≡ kinds.Script) × (n ≡ 16777216) × HasMore text 16777216)
    ⊎ (IsScript text
    × (IsWriteLimit kind n ⊎ OpeningCause old.devices new.devices (opens.Limit kind n)))
PlayCause text old new causes.Journal = IsScript text × JournalRose old.devices new.devices
PlayCause text old new (causes.Damaged file at) =
    IsScript text × OpeningCause old.devices new.devices (opens.Damaged file at)
PlayCause text old new (causes.Profile have asked) =
    IsScript text × OpeningCause old.devices new.devices (opens.Profile have asked)
PlayCause text old new (causes.Sink i) = IsScript text × SinkCause old.sinks new.sinks i
PlayCause text old new causes.Done = IsScript text
PlayCause text old new causes.Memory = Unit {0}
PlayCause text old new causes.Usage = ⊥
