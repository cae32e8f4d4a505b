-- What the laws of scripts say.
use Rattle.std.specs.Prelude.{◌≡◌, ℕ, true, List, ◌∷◌, ◌++◌, Ok, codes}
use Rattle.std.specs.List.{AllByRecursion}
use Rattle.script.specs.declared.command.Command.{Command}
use Rattle.script.specs.declared.command.Command.TheVariants as commands
use Rattle.script.specs.Line.{line_at}
use Rattle.script.specs.Script.{script_of}
use Rattle.script.specs.Token.{string_of, SpellsToken}
use Rattle.script.specs.Written.{IsKey, IsValue, IsCommand, script_text}

-- the lines of commands say these commands
abbrev pub WrittenIsRead : Type 0
WrittenIsRead = (commands : List Command) → AllByRecursion IsCommand commands
    → script_of (script_text commands) ≡ Ok commands

-- a token is read exactly as the strings that it spells
abbrev pub TokensAreExact : Type 0
TokensAreExact = (text bytes : List ℕ)
    → (string_of text ≡ Ok bytes → SpellsToken text bytes)
    × (SpellsToken text bytes → string_of text ≡ Ok bytes)

-- a line spells a command: a first word, and a space and a token for each field, in its range
abbrev pub SpellsCommand : List ℕ → Command → Type 0
SpellsCommand line (commands.Put key value sync) =
    (k v : List ℕ) × (line ≡ codes "put! " ++ k ++ 32 ∷ v) × SpellsToken k key × SpellsToken v value
    × IsKey key × IsValue value × (sync ≡ true)
SpellsCommand line (commands.Get key) = (k : List ℕ) × (line ≡ codes "get " ++ k)
    × SpellsToken k key × IsKey key

-- a line is read exactly as the commands that it spells
abbrev pub LinesAreExact : Type 0
LinesAreExact = (line : List ℕ) (command : Command)
    → (line_at line ≡ Ok command → SpellsCommand line command)
    × (SpellsCommand line command → line_at line ≡ Ok command)

-- each command that a script says can be written; so every put asks for sync
abbrev pub ReadIsCommand : Type 0
ReadIsCommand = (bytes : List ℕ) (commands : List Command) → script_of bytes ≡ Ok commands
    → AllByRecursion IsCommand commands
