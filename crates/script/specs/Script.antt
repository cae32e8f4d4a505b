-- Scripts: lines, and what they say one after another.
use Rattle.std.specs.Prelude.{◌≡◌, ℕ, ◌+◌, ◌==◌, if◌then◌else◌, List, [], ◌∷◌, length, Result, Ok, Err}
use Rattle.std.specs.List.{slice_split}
use Rattle.script.specs.declared.why.Why.{Why}
use Rattle.script.specs.declared.parse_fault.ParseFault.{ParseFault}
use Rattle.script.specs.declared.parse_fault.ParseFault.TheVariants as faults
use Rattle.script.specs.declared.line_fault.LineFault.{LineFault}
use Rattle.script.specs.declared.line_fault.LineFault.TheVariants as lines
use Rattle.script.specs.declared.command.Command.{Command}
use Rattle.script.specs.Line.{line_at}

-- the parts between the ends of lines, without an empty last one
abbrev pub whole_lines : List (List ℕ) → List (List ℕ)
whole_lines [] = []
whole_lines (line ∷ []) = if length line == 0 then [] else line ∷ []
whole_lines (line ∷ next ∷ more) = line ∷ whole_lines (next ∷ more)

-- a script's lines end with LF, and the last LF may be missing
abbrev pub lines_of : List ℕ → List (List ℕ)
lines_of bytes = whole_lines (slice_split (λ b. b == 10) bytes)

-- the first refused line, and why
abbrev pub Refusal : Type 0
Refusal = ℕ × Why

-- a command before those that follow
abbrev pub front : Command → Result (List Command) Refusal → Result (List Command) Refusal
front command (Ok commands) = Ok (command ∷ commands)
front command (Err refusal) = Err refusal

-- what the line with this number says, before what the lines after it say
abbrev pub taken : ℕ → Result Command Why → Result (List Command) Refusal
    → Result (List Command) Refusal
taken line (Ok command) rest = front command rest
taken line (Err why) rest = Err (line, why)

-- what lines say, numbered from a number on, or the first that is refused
unfoldable pub read : ℕ → List (List ℕ) → Result (List Command) Refusal
read line [] = Ok []
read line (text ∷ texts) = taken line (line_at text) (read (line + 1) texts)

-- what a script says
abbrev pub script_of : List ℕ → Result (List Command) Refusal
script_of bytes = read 1 (lines_of bytes)

-- a fault tells the line that the script is refused for, unless memory ran out
abbrev pub Refused : ParseFault → Result (List Command) Refusal → Type 0
Refused faults.Memory said = Unit {0}
Refused (faults.Bad line why) said = said ≡ Err (line, why)

-- the fault of a line, with its number
abbrev pub at_line : ℕ → LineFault → ParseFault
at_line line (lines.Bad why) = faults.Bad line why
at_line line lines.Memory = faults.Memory
