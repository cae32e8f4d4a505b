-- Reading a script line by line.
use Rattle.std.proofs.Common.{◌≡◌, ℕ, suc, ◌+◌, ◌<◌, ◌≤◌, Bool, true, false, not, cond, eqb, ltb, List, [], ◌∷◌, ◌++◌, length, take, drop, Some, None, Result, Ok, Err, refl, sym, ap, ◌∙◌, append_assoc, arith}
use Rattle.std.specs.List.{slice_split, onto_first, position_or_len, position}
use Rattle.std.proofs.lemmas.List.{append-nil}
use Rattle.std.proofs.lemmas.List.Splits.{slice_split_first, length-slice_split}
use Rattle.script.specs.declared.command.Command.{Command}
use Rattle.script.specs.Line.{line_at}
use Rattle.script.specs.Script.{lines_of, whole_lines, Refusal, front, read, at_line, Refused}
use Rattle.script.specs.declared.line_fault.LineFault.{LineFault}
use Rattle.script.specs.declared.line_fault.LineFault.TheVariants as errors
use Rattle.script.specs.Gives.{Fails}
use Rattle.std.proofs.lemmas.Bool.Decides.{nat_tests}
use Rattle.std.proofs.lemmas.Bool.{ltb-true, ltb-false}

none_split : (p : ℕ → Bool) (xs : List ℕ) → length xs ≤ position_or_len p xs → slice_split p xs ≡ xs ∷ []
none_split p [] h = refl
none_split p (x ∷ xs) h =
    elim (p x) as (λ b. suc (length xs) ≤ cond (not b) (1 + position_or_len p xs) 0 → cond b ([] ∷ slice_split p xs) (onto_first x (slice_split p xs)) ≡ (x ∷ xs) ∷ []) [
      | true ↦ λ le. absurd (omega arith)
      | false ↦ λ le. ap (onto_first x) (none_split p xs (omega arith))
    ] h

pub more_lines : (line : List ℕ) (parts : List (List ℕ)) → 0 < length parts → whole_lines (line ∷ parts) ≡ line ∷ whole_lines parts
more_lines line [] h = absurd (omega arith)
more_lines line (part ∷ parts) h = refl

chosen : (b : Bool) (n m : ℕ) → cond b (Some n) None ≡ Some m → (b ≡ true) × (n ≡ m)
chosen true n m e = (refl, cc)
chosen false n m e = absurd cc

not_chosen : (b : Bool) (n : ℕ) → cond b (Some n) None ≡ None → b ≡ false
not_chosen true n e = absurd cc
not_chosen false n e = refl

one_line : (bytes : List ℕ) → 0 < length bytes → whole_lines (bytes ∷ []) ≡ bytes ∷ []
one_line [] h = absurd (omega arith)
one_line (b ∷ bs) h =
    let some : eqb (length (b ∷ bs)) 0 ≡ false = grind (arith, nat_tests) in
    rw some refl

pub line_cut : (bytes : List ℕ) (end : ℕ) → position (λ b. eqb b 10) bytes ≡ Some end → lines_of bytes ≡ take end bytes ∷ lines_of (drop (end + 1) bytes)
line_cut bytes end e =
    let at = chosen (ltb (position_or_len (λ b. eqb b 10) bytes) (length bytes)) (position_or_len (λ b. eqb b 10) bytes) end e in
    let lt : position_or_len (λ b. eqb b 10) bytes < length bytes = ltb-true _ _ at.0 in
    let cut = slice_split_first (λ b. eqb b 10) bytes 0 lt in
    let more : 0 < length (slice_split (λ b. eqb b 10) (drop (end + 1) bytes)) = omega (arith, length-slice_split (λ b. eqb b 10) (drop (end + 1) bytes)) in
    rw (cut, at.1) (more_lines (take end bytes) (slice_split (λ b. eqb b 10) (drop (end + 1) bytes)) more)

pub line_last : (bytes : List ℕ) → 0 < length bytes → position (λ b. eqb b 10) bytes ≡ None → lines_of bytes ≡ bytes ∷ []
line_last bytes h e =
    let absent = not_chosen (ltb (position_or_len (λ b. eqb b 10) bytes) (length bytes)) (position_or_len (λ b. eqb b 10) bytes) e in
    rw (none_split (λ b. eqb b 10) bytes (ltb-false _ _ absent)) (one_line bytes h)

-- the commands so far, before those that are still to come
abbrev pub with_front : List Command → Result (List Command) Refusal → Result (List Command) Refusal
with_front before (Ok commands) = Ok (before ++ commands)
with_front before (Err refusal) = Err refusal

front_moves : (before : List Command) (command : Command) (said : Result (List Command) Refusal) → with_front before (front command said) ≡ with_front (before ++ command ∷ []) said
front_moves before command (Ok commands) = ap Ok (sym (append_assoc before (command ∷ []) commands))
front_moves before command (Err refusal) = refl

pub goes_on : (before : List Command) (line : ℕ) (command : Command) (text : List ℕ) (lines texts : List (List ℕ)) (total : Result (List Command) Refusal)
    → lines ≡ text ∷ texts → line_at text ≡ Ok command → with_front before (read line lines) ≡ total → with_front (before ++ command ∷ []) (read (line + 1) texts) ≡ total
unfolding read
goes_on before line command text lines texts total cut e so_far =
    sym (front_moves before command (read (line + 1) texts)) ∙ sym (ap (with_front before) (rw (cut, e) refl)) ∙ so_far

pub is_refused : (before : List Command) (line : ℕ) (fault : LineFault) (text : List ℕ) (lines texts : List (List ℕ)) (total : Result (List Command) Refusal)
    → lines ≡ text ∷ texts → Fails fault (line_at text) → with_front before (read line lines) ≡ total → Refused (at_line line fault) total
unfolding read
is_refused before line errors.Memory text lines texts total cut e so_far = tt
is_refused before line (errors.Bad why) text lines texts total cut e so_far =
    let one : with_front before (read line lines) ≡ Err (line, why) = rw (cut, e) refl in
    sym so_far ∙ one

pub is_read : (before : List Command) (line : ℕ) (rest : List ℕ) (total : Result (List Command) Refusal)
    → length rest ≡ 0 → with_front before (read line (lines_of rest)) ≡ total → total ≡ Ok before
unfolding read
is_read before line [] total len so_far = sym so_far ∙ ap Ok (append-nil before)
is_read before line (b ∷ bs) total len so_far = absurd (omega arith)
