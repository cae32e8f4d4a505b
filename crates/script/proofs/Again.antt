-- Written scripts are read again, and what is read can be written.
use Rattle.std.proofs.Common.{◌≡◌, ℕ, ◌+◌, ◌<◌, true, false, eqb, List, [], ◌∷◌, ◌++◌, length, Result, Ok, Err, refl, sym, ap, ◌∙◌, subst, append_assoc, arith}
use Rattle.std.proofs.lemmas.Bool.{false≢true}
use Rattle.std.specs.List.{slice_split, join_with_byte, AllByRecursion}
use Rattle.std.proofs.lemmas.List.Concat.{flat_map-cons}
use Rattle.std.proofs.lemmas.List.Splits.{length-slice_split}
use Rattle.script.specs.declared.why.Why.{Why}
use Rattle.script.specs.declared.command.Command.{Command}
use Rattle.script.specs.declared.command.Command.TheVariants as commands
use Rattle.script.specs.Token.{token_text}
use Rattle.script.specs.Line.{line_at}
use Rattle.script.specs.Script.{whole_lines, lines_of, Refusal, front, taken, read}
use Rattle.script.specs.Written.{IsCommand, command_words, command_text, script_text}
use Rattle.script.specs.Laws.{SpellsCommand, WrittenIsRead, ReadIsCommand}
use Rattle.script.proofs.Lines.{lines_are_exact}
use Rattle.script.proofs.Scripts.{more_lines}
use Rattle.script.proofs.Spelled.{Lacks, lacks_append, cut_at, token_lacks, token_spells}

-- the line of a command spells it
line_spells : (command : Command) → IsCommand command → SpellsCommand (join_with_byte 32 (command_words command)) command
line_spells (commands.Put key value true) is =
    (token_text key, token_text value, refl, token_spells key is.0.bytes, token_spells value is.1.bytes, is.0, is.1, refl)
line_spells (commands.Put key value false) is = absurd (false≢true is.2)
line_spells (commands.Get key) is = (token_text key, refl, token_spells key is.bytes, is)

-- no end of a line stands in a line that spells a command
spelled_lacks : (text : List ℕ) (command : Command) → SpellsCommand text command → Lacks 10 text
spelled_lacks text (commands.Put key value sync) s =
    rw s.2 (refl, (refl, (refl, (refl, (refl, lacks_append 10 s.0 (32 ∷ s.1) (token_lacks 10 key s.0 (omega arith) s.3) (refl, token_lacks 10 value s.1 (omega arith) s.4))))))
spelled_lacks text (commands.Get key) s = rw s.1 (refl, (refl, (refl, (refl, token_lacks 10 key s.0 (omega arith) s.2))))

line_first : (line rest : List ℕ) → Lacks 10 line → lines_of (line ++ 10 ∷ rest) ≡ line ∷ lines_of rest
line_first line rest h =
    let more : 0 < length (slice_split (λ b. eqb b 10) rest) = omega (arith, length-slice_split (λ b. eqb b 10) rest) in
    ap whole_lines (cut_at 10 line rest h) ∙ more_lines line (slice_split (λ b. eqb b 10) rest) more

all_read : (n : ℕ) (cs : List Command) → AllByRecursion IsCommand cs → read n (lines_of (script_text cs)) ≡ Ok cs
unfolding read
all_read n [] is = refl
all_read n (c ∷ cs) is =
    let line = join_with_byte 32 (command_words c) in
    let spells : SpellsCommand line c = line_spells c is.0 in
    let text : script_text (c ∷ cs) ≡ line ++ 10 ∷ script_text cs = flat_map-cons command_text c cs ∙ append_assoc line (10 ∷ []) (script_text cs) in
    let cut : lines_of (script_text (c ∷ cs)) ≡ line ∷ lines_of (script_text cs) = ap lines_of text ∙ line_first line (script_text cs) (spelled_lacks line c spells) in
    ap (read n) cut ∙ ap (λ (said : Result Command Why). taken n said (read (n + 1) (lines_of (script_text cs)))) ((lines_are_exact line c).1 spells)
    ∙ ap (front c) (all_read (n + 1) cs is.1)

pub written_is_read : WrittenIsRead
written_is_read cs is = all_read 1 cs is

-- ---- what is read can be written

spelled_is : (text : List ℕ) (command : Command) → SpellsCommand text command → IsCommand command
spelled_is text (commands.Put key value sync) s = (s.5, s.6, s.7)
spelled_is text (commands.Get key) s = s.3

read_is : (n : ℕ) (lines : List (List ℕ)) (cs : List Command) → read n lines ≡ Ok cs → AllByRecursion IsCommand cs
unfolding read
read_is n [] cs e =
    let none : cs ≡ [] = cc in
    subst (AllByRecursion IsCommand) (sym none) tt
read_is n (text ∷ texts) cs e = by (line_at text) (read (n + 1) texts) refl refl e (λ rest. read_is (n + 1) texts rest)
  where
    by : (r : Result Command Why) (more : Result (List Command) Refusal) → line_at text ≡ r → read (n + 1) texts ≡ more → taken n r more ≡ Ok cs
        → ((rest : List Command) → read (n + 1) texts ≡ Ok rest → AllByRecursion IsCommand rest) → AllByRecursion IsCommand cs
    by (Err why) more f g e after = absurd cc
    by (Ok c) (Err refusal) f g e after = absurd cc
    by (Ok c) (Ok rest) f g e after =
        let is : cs ≡ c ∷ rest = cc in
        subst (AllByRecursion IsCommand) (sym is) (spelled_is text c ((lines_are_exact text c).0 f), after rest g)

pub read_is_command : ReadIsCommand
read_is_command bytes cs e = read_is 1 (lines_of bytes) cs e
