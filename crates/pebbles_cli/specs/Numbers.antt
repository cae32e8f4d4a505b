-- The numbers that the replies of a run name.
use Rattle.std.specs.Prelude.{◌≡◌, ◌⊎◌, ℕ, ◌<◌, ◌≤◌, Bool, true, false, List, [], ◌∷◌, ◌++◌, take, Option, Result, Ok, Err}
use Rattle.peb_base.specs.declared.op.Op.{Op}
use Rattle.peb_base.specs.Keys.{Bytes}
use Rattle.peb_base.specs.Batches.{Batches, last_number}
use Rattle.script.specs.declared.cause.Cause.{Cause}
use Rattle.script.specs.declared.command.Command.{Command}
use Rattle.script.specs.declared.command.Command.TheVariants as commands
use Rattle.flsm_core.specs.Place.{Place, all_of, put_op}
use Rattle.store_layout.specs.Fronts.{IsFront}
use Rattle.pebbles_cli.specs.declared.write_fault.WriteFault.{WriteFault}
use Rattle.pebbles_cli.specs.declared.write_fault.WriteFault.TheVariants as writes
use Rattle.pebbles_cli.specs.Shows.{Has}
use Rattle.pebbles_cli.specs.Tells.{write_line, value_line, Tells, TellsOne}

-- it is the last number after some first batches of these, which is 0 after none
abbrev pub IsEndOf : Batches → ℕ → Type 0
IsEndOf all n = (front : Batches) × IsFront front all × (n ≡ last_number front)

-- a write that names a number names one above all before it, and its batch is there
abbrev pub NumbersWrite : ℕ → Batches → List Op → Result ℕ WriteFault → ℕ → Type 0
NumbersWrite low all ops (Ok n) next = (low < n) × Has all (n, ops) × (next ≡ n)
NumbersWrite low all ops (Err (writes.Unsynced n)) next = (low < n) × Has all (n, ops) × (next ≡ n)
NumbersWrite low all ops (Err writes.Stopped) next = next ≡ low
NumbersWrite low all ops (Err (writes.Limit kind n)) next = next ≡ low
NumbersWrite low all ops (Err writes.Memory) next = next ≡ low

-- after a number was named, the line of a command names the next one or none; a read's is no older
abbrev pub NumbersOne : ℕ → Batches → Command → List ℕ → ℕ → Type 0
NumbersOne low all (commands.Put key value sync) text next =
    (answer : Result ℕ WriteFault) × (text ≡ write_line sync answer)
    × NumbersWrite low all (put_op key value ∷ []) answer next
NumbersOne low all (commands.Get key) text next =
    (value : Option Bytes) × (text ≡ value_line next value) × (low ≤ next) × IsEndOf all next

-- the lines of commands, from a number on, or those up to where the sink failed
abbrev pub AreNumbered : ℕ → Batches → List Command → List ℕ → Bool → Type 0
AreNumbered low all [] text failed = (text ≡ []) × (failed ≡ false)
AreNumbered low all (command ∷ commands) text failed =
    (first : List ℕ) × (next : ℕ) × (NumbersOne low all command first next
    × (((rest : List ℕ) × ((text ≡ first ++ rest) × AreNumbered next all commands rest failed))
    ⊎ ((k : ℕ) × ((text ≡ take k first) × (failed ≡ true)))))

-- along a run no number falls, a write's is above all before it, and each is that of some first
-- batches of the run, among them all that were there before
abbrev pub RunsNumber : Type 0
RunsNumber =
    (session : ℕ) (old : Place) (commands : List Command) (text : List ℕ) (cause : Option Cause)
    (failed : Bool) (new : Place)
    → Tells (TellsOne session) old commands text cause failed new
    → AreNumbered (last_number (all_of old)) (all_of new) commands text failed
