-- What the lines of replies tell.
use Rattle.std.specs.Prelude.{◌≡◌, ◌⊎◌, ℕ, Bool, true, false, if◌then◌else◌, List, [], ◌∷◌, ◌++◌, take, Option, Some, None, Result, Ok, Err, codes}
use Rattle.std.specs.Option.{option_or}
use Rattle.peb_base.specs.Keys.{Bytes}
use Rattle.peb_base.specs.Batches.{Batches, last_number}
use Rattle.peb_base.specs.Map.{value_at}
use Rattle.peb_base.specs.Texts.{number_text}
use Rattle.script.specs.declared.cause.Cause.{Cause}
use Rattle.script.specs.declared.cause.Cause.TheVariants as causes
use Rattle.script.specs.declared.command.Command.{Command}
use Rattle.script.specs.declared.command.Command.TheVariants as commands
use Rattle.script.specs.declared.reply.Reply.TheVariants as replies
use Rattle.script.specs.Token.{token_text}
use Rattle.script.specs.Reply.{reply_text}
use Rattle.flsm_core.specs.declared.sync_fault.SyncFault.{SyncFault}
use Rattle.flsm_core.specs.declared.sync_fault.SyncFault.TheVariants as syncs
use Rattle.flsm_core.specs.Place.{Place, all_of, put_op}
use Rattle.pebbles_cli.specs.declared.write_fault.WriteFault.{WriteFault}
use Rattle.pebbles_cli.specs.declared.write_fault.WriteFault.TheVariants as writes
use Rattle.pebbles_cli.specs.Writes.{Writes, after_write}

-- the line for what a write answered
abbrev pub write_line : Bool → Result ℕ WriteFault → List ℕ
write_line sync (Ok n) =
    if sync then reply_text (replies.Synced n) else reply_text (replies.Written n)
write_line sync (Err (writes.Unsynced n)) = reply_text (replies.UnsyncedFault n)
write_line sync (Err writes.Stopped) = reply_text replies.Stopped
write_line sync (Err (writes.Limit kind n)) = reply_text (replies.Limit kind n)
write_line sync (Err writes.Memory) = reply_text replies.Memory

-- the line for what a key has at a number
abbrev pub value_line : ℕ → Option Bytes → List ℕ
value_line n (Some value) = (number_text n ++ codes " value " ++ token_text value) ++ 10 ∷ []
value_line n None = reply_text (replies.Nothing n)

-- the line for a read after all these batches
abbrev pub get_line : Batches → Bytes → List ℕ
get_line batches key = value_line (last_number batches) (value_at batches (last_number batches) key)

-- the fault that the line of a write tells: a store that stopped before is none
abbrev pub write_cause : Result ℕ WriteFault → Option Cause
write_cause (Ok n) = None
write_cause (Err (writes.Unsynced n)) = Some causes.Journal
write_cause (Err writes.Stopped) = None
write_cause (Err (writes.Limit kind n)) = Some (causes.Limit kind n)
write_cause (Err writes.Memory) = Some causes.Memory

-- the fault of the closing sync
abbrev pub sync_cause : Result ℕ SyncFault → Option Cause
sync_cause (Ok n) = None
sync_cause (Err syncs.Stopped) = None
sync_cause (Err syncs.Journal) = Some causes.Journal

-- a put may have this line, which tells this fault, and leads there
pub record TellsPut (session : ℕ) (old : Place) (key value : Bytes) (sync : Bool) (text : List ℕ)
    (cause : Option Cause) (new : Place) : Type 0 where
  pub answer : Result ℕ WriteFault
  pub answers : Writes session old (put_op key value ∷ []) sync answer
  pub line : text ≡ write_line sync answer
  pub tells : cause ≡ write_cause answer
  pub leads : new ≡ after_write session old (put_op key value ∷ []) sync answer

-- a read has this line, tells no fault, and changes nothing
pub record TellsGet (old : Place) (key : Bytes) (text : List ℕ) (cause : Option Cause) (new : Place)
    : Type 0 where
  pub line : text ≡ get_line (all_of old) key
  pub tells : cause ≡ None
  pub leads : new ≡ old

-- from a place on, a store of this session may have this line for the command, which leads there
abbrev pub TellsOne : ℕ → Place → Command → List ℕ → Option Cause → Place → Type 0
TellsOne session old (commands.Put key value sync) text cause new =
    TellsPut session old key value sync text cause new
TellsOne session old (commands.Get key) text cause new = TellsGet old key text cause new

-- what one command may do: from a place, with a line that tells a fault, to a place
abbrev pub Steps : Type 0 → Type 1
Steps P = P → Command → List ℕ → Option Cause → P → Type 0

-- the lines of the commands in order, and the first fault that one tells; where the sink failed,
-- the lines of some first commands and a front of the next one's, and the commands after that one
-- weren't run
unfoldable pub Tells : {P : Type 0} → Steps P → P → List Command → List ℕ → Option Cause → Bool → P
    → Type 0
Tells one old [] text cause failed new = (text ≡ []) × (cause ≡ None) × (failed ≡ false)
    × (new ≡ old)
Tells {P} one old (command ∷ commands) text cause failed new =
    (first : List ℕ) × (told : Option Cause) × (mid : P) × (one old command first told mid
    × (((rest : List ℕ) × (later : Option Cause)
    × ((text ≡ first ++ rest) × (cause ≡ option_or told later)
    × Tells one mid commands rest later failed new))
    ⊎ ((k : ℕ) × ((text ≡ take k first) × (cause ≡ told) × (failed ≡ true) × (new ≡ mid)))))

-- what was run so far, whatever those commands that are left tell
abbrev pub Since : {P : Type 0} → Steps P → P → List Command → List ℕ → Option Cause → P
    → List Command → Type 0
Since {P} one old all sofar cause now left =
    (rest : List ℕ) (later : Option Cause) (failed : Bool) (new : P)
    → Tells one now left rest later failed new
    → Tells one old all (sofar ++ rest) (option_or cause later) failed new

-- a sink took these bytes more, where it tells them
abbrev pub TookMore : Option (List ℕ) → List ℕ → Option (List ℕ) → Type 0
TookMore None bytes new = new ≡ None
TookMore (Some old) bytes new = new ≡ Some (old ++ bytes)
