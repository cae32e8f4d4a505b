-- The lines of a script, by their words.
use Rattle.std.specs.Prelude.{ℕ, Bool, true, ◌||◌, ◌==◌, nat_lt, if◌then◌else◌, List, [], ◌∷◌, length, Result, Ok, Err, codes}
use Rattle.std.specs.Str.{bytes_eq}
use Rattle.std.specs.List.{slice_split}
use Rattle.script.specs.declared.why.Why.{Why}
use Rattle.script.specs.declared.why.Why.TheVariants as whys
use Rattle.script.specs.declared.command.Command.{Command}
use Rattle.script.specs.declared.command.Command.TheVariants as commands
use Rattle.script.specs.Gives.{◌>>=◌}
use Rattle.script.specs.Token.{string_of}

-- the word for a reason
abbrev pub why_text : Why → List ℕ
why_text whys.Command = codes "command"

-- the words of a line; two spaces in a row, or one at an end, make an empty word
abbrev pub words_of : List ℕ → List (List ℕ)
words_of line = slice_split (λ b. b == 32) line

-- a key has 1 to 1024 bytes
abbrev pub key_of : List ℕ → Result (List ℕ) Why
key_of bytes =
    if (length bytes == 0) || nat_lt 1024 (length bytes) then Err whys.Command else Ok bytes

-- a value has at most 32768 bytes
abbrev pub value_of : List ℕ → Result (List ℕ) Why
value_of bytes = if nat_lt 32768 (length bytes) then Err whys.Command else Ok bytes

-- the words after `put!`
unfoldable pub put_at : List (List ℕ) → Bool → Result Command Why
put_at (key ∷ value ∷ []) sync = do
  k ← string_of key
  v ← string_of value
  k ← key_of k
  v ← value_of v
  Ok (commands.Put k v sync)
put_at _ sync = Err whys.Command

-- the words after `get`
unfoldable pub get_at : List (List ℕ) → Result Command Why
get_at (key ∷ []) = do
  k ← string_of key
  k ← key_of k
  Ok (commands.Get k)
get_at _ = Err whys.Command

-- a command by its first word
abbrev pub command_at : List ℕ → List (List ℕ) → Result Command Why
command_at word args =
    if bytes_eq word (codes "put!") then put_at args true
    else if bytes_eq word (codes "get") then get_at args
    else Err whys.Command

-- a command by its words
abbrev pub of_words : List (List ℕ) → Result Command Why
of_words [] = Err whys.Command
of_words (word ∷ args) = command_at word args

-- what a line says
unfoldable pub line_at : List ℕ → Result Command Why
line_at line = of_words (words_of line)
