-- A script that is read and run.
use Rattle.std.proofs.Common.{◌≡◌, ℕ, List, Option, Some, None, Ok, subst}
use Rattle.script.specs.declared.cause.Cause.{Cause}
use Rattle.script.specs.declared.cause.Cause.TheVariants as causes
use Rattle.script.specs.declared.command.Command.{Command}
use Rattle.script.specs.Script.{script_of}
use Rattle.pebbles_cli.specs.Read.{IsWhole}
use Rattle.pebbles_cli.specs.Causes.{Says, PlayCause}
use Rattle.pebbles_cli.specs.Outside.{Outside}

pub says_all : (text : Option (List ℕ)) (bytes : List ℕ) (commands : List Command) → IsWhole text bytes → script_of bytes ≡ Ok commands → Says text commands
says_all None bytes commands whole said = tt
says_all (Some text) bytes commands whole said = subst (λ (t : List ℕ). script_of t ≡ Ok commands) whole said

pub play_not_usage : (text : Option (List ℕ)) (old new : Outside) (cause : Cause) → PlayCause text old new cause → cause ≡ causes.Usage → ⊥
play_not_usage text old new cause play e = subst (PlayCause text old new) e play
