-- The one text of each command that is written.
use Rattle.std.specs.Prelude.{◌≡◌, ℕ, ◌≤◌, ◌<◌, true, if◌then◌else◌, List, [], ◌∷◌, ◌++◌, length, codes}
use Rattle.std.specs.List.{flat_map, join_with_byte}
use Rattle.peb_base.specs.Keys.{AreBytes}
use Rattle.script.specs.declared.command.Command.{Command}
use Rattle.script.specs.declared.command.Command.TheVariants as commands
use Rattle.script.specs.Token.{token_text}

-- words, separated by one space each, and LF
abbrev pub line_text : List (List ℕ) → List ℕ
line_text words = join_with_byte 32 words ++ 10 ∷ []

-- the words of a command
abbrev pub command_words : Command → List (List ℕ)
command_words (commands.Put key value sync) =
    (if sync then codes "put!" else codes "put") ∷ token_text key ∷ token_text value ∷ []
command_words (commands.Get key) = codes "get" ∷ token_text key ∷ []

-- the line of a command
abbrev pub command_text : Command → List ℕ
command_text command = line_text (command_words command)

-- the lines of commands
abbrev pub script_text : List Command → List ℕ
script_text commands = flat_map command_text commands

-- a key that can be written: 1 to 1024 bytes
pub record IsKey (key : List ℕ) : Type 0 where
  pub some : 0 < length key
  pub short : length key ≤ 1024
  pub bytes : AreBytes key

-- a value that can be written: at most 32768 bytes
pub record IsValue (value : List ℕ) : Type 0 where
  pub short : length value ≤ 32768
  pub bytes : AreBytes value

-- a command that a line of a script can say
abbrev pub IsCommand : Command → Type 0
IsCommand (commands.Put key value sync) = IsKey key × IsValue value × (sync ≡ true)
IsCommand (commands.Get key) = IsKey key
