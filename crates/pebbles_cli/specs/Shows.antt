-- What the replies of a run show of all its batches.
use Rattle.std.specs.Prelude.{◌≡◌, ◌⊎◌, ℕ, ◌≤◌, Bool, true, false, if◌then◌else◌, List, [], ◌∷◌, ◌++◌, take, Option, Result, Ok, Err}
use Rattle.peb_base.specs.declared.op.Op.{Op}
use Rattle.peb_base.specs.Keys.{Bytes}
use Rattle.peb_base.specs.Batches.{Batches, last_number}
use Rattle.peb_base.specs.Map.{value_at}
use Rattle.script.specs.declared.cause.Cause.{Cause}
use Rattle.script.specs.declared.command.Command.{Command}
use Rattle.script.specs.declared.command.Command.TheVariants as commands
use Rattle.flsm_core.specs.Place.{Place, all_of, put_op}
use Rattle.pebbles_cli.specs.declared.write_fault.WriteFault.{WriteFault}
use Rattle.pebbles_cli.specs.declared.write_fault.WriteFault.TheVariants as writes
use Rattle.pebbles_cli.specs.Tells.{write_line, value_line, Tells, TellsOne}

-- the batch is among these
abbrev pub Has : Batches → ℕ × List Op → Type 0
Has batches batch = (before : Batches) × (after : Batches) × (batches ≡ before ++ batch ∷ after)

-- what was written is there: where it was synced, among the batches that every crash leaves
abbrev pub IsKept : Place → List Op → Bool → Result ℕ WriteFault → Type 0
IsKept last ops sync (Ok n) = Has (if sync then last.settled else all_of last) (n, ops)
IsKept last ops sync (Err (writes.Unsynced n)) = Has (all_of last) (n, ops)
IsKept last ops sync (Err writes.Stopped) = Unit {0}
IsKept last ops sync (Err (writes.Limit kind n)) = Unit {0}
IsKept last ops sync (Err writes.Memory) = Unit {0}

-- a put with a number shows that its batch is kept
pub record ShowsPut (last : Place) (key value : Bytes) (sync : Bool) (text : List ℕ) : Type 0 where
  pub answer : Result ℕ WriteFault
  pub line : text ≡ write_line sync answer
  pub kept : IsKept last (put_op key value ∷ []) sync answer

-- a read with a number shows what its key has in the map at that number
pub record ShowsGet (last : Place) (key : Bytes) (text : List ℕ) : Type 0 where
  pub number : ℕ
  pub within : number ≤ last_number (all_of last)
  pub line : text ≡ value_line number (value_at (all_of last) number key)

-- what the line of a command shows
abbrev pub Shows : Place → Command → List ℕ → Type 0
Shows last (commands.Put key value sync) text = ShowsPut last key value sync text
Shows last (commands.Get key) text = ShowsGet last key text

-- one line for each command, in order, or up to where the sink failed
abbrev pub ShowsAll : Place → List Command → List ℕ → Bool → Type 0
ShowsAll last [] text failed = (text ≡ []) × (failed ≡ false)
ShowsAll last (command ∷ commands) text failed =
    (first : List ℕ) × (Shows last command first
    × (((rest : List ℕ) × ((text ≡ first ++ rest) × ShowsAll last commands rest failed))
    ⊎ ((k : ℕ) × ((text ≡ take k first) × (failed ≡ true)))))

-- the lines of a run show this of where the run ended
abbrev pub RunsShow : Type 0
RunsShow = (session : ℕ) (old : Place) (commands : List Command) (text : List ℕ)
    (cause : Option Cause) (failed : Bool) (new : Place)
    → Tells (TellsOne session) old commands text cause failed new
    → ShowsAll new commands text failed

-- once the journal has failed each write replies `stopped` and changes nothing
abbrev pub StoppedStays : Type 0
StoppedStays = (session : ℕ) (old : Place) (key value : Bytes) (sync : Bool) (text : List ℕ)
    (cause : Option Cause) (new : Place)
    → old.stopped ≡ true → TellsOne session old (commands.Put key value sync) text cause new
    → (text ≡ write_line sync (Err writes.Stopped)) × (new ≡ old)
