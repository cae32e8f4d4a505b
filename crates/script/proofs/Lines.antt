-- A line is read exactly as the commands that it spells.
use Rattle.std.proofs.Common.{◌≡◌, ℕ, ◌<◌, ◌≤◌, Bool, true, false, ◌||◌, cond, eqb, ltb, List, [], ◌∷◌, length, Result, Ok, Err, refl, sym, ap, ◌∙◌, subst, arith}
use Rattle.std.specs.Prelude.{codes}
use Rattle.std.specs.Str.{bytes_eq}
use Rattle.std.specs.List.{join_with_byte}
use Rattle.std.proofs.lemmas.Bool.Decides.{nat_tests}
use Rattle.std.proofs.lemmas.Slice.Eq.{bytes_eq-Decides}
use Rattle.std.proofs.lemmas.List.Splits.{join_with_byte-slice_split}
use Rattle.script.specs.declared.why.Why.{Why}
use Rattle.script.specs.declared.why.Why.TheVariants as whys
use Rattle.script.specs.declared.command.Command.{Command}
use Rattle.script.specs.declared.command.Command.TheVariants as commands
use Rattle.script.specs.Gives.{◌>>=◌}
use Rattle.script.specs.Token.{string_of, SpellsToken}
use Rattle.script.specs.Line.{words_of, key_of, value_of, put_at, get_at, of_words, line_at}
use Rattle.script.specs.Written.{IsKey, IsValue}
use Rattle.script.specs.Laws.{SpellsCommand, LinesAreExact}
use Rattle.script.proofs.Exact.{tokens_are_exact}
use Rattle.script.proofs.Spelled.{words_again, token_lacks, token_bytes}

-- ---- what is spelled is read

key_again : (key : List ℕ) → IsKey key → key_of key ≡ Ok key
key_again key h =
    let none : eqb (length key) 0 ≡ false = grind (arith, nat_tests, h.some) in
    let short : ltb 1024 (length key) ≡ false = grind (arith, nat_tests, h.short) in
    rw (none, short) refl

value_again : (value : List ℕ) → IsValue value → value_of value ≡ Ok value
value_again value h =
    let short : ltb 32768 (length value) ≡ false = grind (arith, nat_tests, h.short) in
    rw short refl

put_again : (k v key value : List ℕ) → SpellsToken k key → SpellsToken v value → IsKey key → IsValue value → put_at (k ∷ v ∷ []) true ≡ Ok (commands.Put key value true)
unfolding put_at
put_again k v key value sk sv ik iv = rw ((tokens_are_exact k key).1 sk, (tokens_are_exact v value).1 sv, key_again key ik, value_again value iv) refl

get_again : (k key : List ℕ) → SpellsToken k key → IsKey key → get_at (k ∷ []) ≡ Ok (commands.Get key)
unfolding get_at
get_again k key sk ik = rw ((tokens_are_exact k key).1 sk, key_again key ik) refl

spelled : (line : List ℕ) (command : Command) → SpellsCommand line command → line_at line ≡ Ok command
unfolding line_at
spelled line (commands.Put key value sync) s =
    let words : words_of line ≡ codes "put!" ∷ s.0 ∷ s.1 ∷ [] =
    ap words_of s.2 ∙ words_again (codes "put!") (s.0 ∷ s.1 ∷ [])
    ((refl, (refl, (refl, (refl, tt)))), (token_lacks 32 key s.0 (omega arith) s.3, (token_lacks 32 value s.1 (omega arith) s.4, tt))) in
    ap of_words words ∙ put_again s.0 s.1 key value s.3 s.4 s.5 s.6 ∙ ap (λ (b : Bool). Ok (commands.Put key value b)) (sym s.7)
spelled line (commands.Get key) s =
    let words : words_of line ≡ codes "get" ∷ s.0 ∷ [] =
    ap words_of s.1 ∙ words_again (codes "get") (s.0 ∷ []) ((refl, (refl, (refl, tt))), (token_lacks 32 key s.0 (omega arith) s.2, tt)) in
    ap of_words words ∙ get_again s.0 key s.2 s.3

-- ---- what is read is spelled

-- the first of two steps answered, and then the second
abbrev Steps : {A B : Type 0} → Result A Why → (A → Result B Why) → B → Type 0
Steps {A} r f y = (x : A) × (r ≡ Ok x) × (f x ≡ Ok y)

steps : {A B : Type 0} (r : Result A Why) (f : A → Result B Why) (y : B) → (r >>= f) ≡ Ok y → Steps r f y
steps (Ok x) f y e = (x, refl, e)
steps (Err why) f y e = absurd cc

-- a key that is taken is the string itself, in its range
record Taken (key bytes : List ℕ) : Type 0 where
  same : key ≡ bytes
  some : 0 < length bytes
  short : length bytes ≤ 1024

key_taken : (bytes key : List ℕ) → key_of bytes ≡ Ok key → Taken key bytes
key_taken bytes key e = by (eqb (length bytes) 0) (ltb 1024 (length bytes)) refl refl e
  where
    by : (p q : Bool) → eqb (length bytes) 0 ≡ p → ltb 1024 (length bytes) ≡ q → cond (p || q) (Err whys.Command) (Ok bytes) ≡ Ok key → Taken key bytes
    by true q f g e = absurd cc
    by false true f g e = absurd cc
    by false false f g e = record { same = cc; some = grind (arith, nat_tests); short = grind (arith, nat_tests) }

value_taken : (bytes value : List ℕ) → value_of bytes ≡ Ok value → (value ≡ bytes) × (length bytes ≤ 32768)
value_taken bytes value e = by (ltb 32768 (length bytes)) refl e
  where
    by : (p : Bool) → ltb 32768 (length bytes) ≡ p → cond p (Err whys.Command) (Ok bytes) ≡ Ok value → (value ≡ bytes) × (length bytes ≤ 32768)
    by true f e = absurd cc
    by false f e = (cc, grind (arith, nat_tests))

put_said : (args line : List (List ℕ)) (text : List ℕ) (command : Command) → line ≡ codes "put!" ∷ args → join_with_byte 32 line ≡ text → put_at args true ≡ Ok command → SpellsCommand text command
unfolding put_at
put_said [] line text command w j e = absurd cc
put_said (k ∷ []) line text command w j e = absurd cc
put_said (k ∷ v ∷ []) line text command w j e =
    let a = steps (string_of k) _ command e in
    let b = steps (string_of v) _ command a.2 in
    let c = steps (key_of a.0) _ command b.2 in
    let d = steps (value_of b.0) _ command c.2 in
    let sk : SpellsToken k a.0 = (tokens_are_exact k a.0).0 a.1 in
    let sv : SpellsToken v b.0 = (tokens_are_exact v b.0).0 b.1 in
    let key = key_taken a.0 c.0 c.1 in
    let value = value_taken b.0 d.0 d.1 in
    let is : command ≡ commands.Put a.0 b.0 true = cc in
    subst (SpellsCommand text) (sym is) (
      k,
      v,
      sym j ∙ ap (join_with_byte 32) w,
      sk,
      sv,
      record { some = key.some; short = key.short; bytes = token_bytes a.0 k sk },
      record { short = value.1; bytes = token_bytes b.0 v sv },
      refl,
    )
put_said (k ∷ v ∷ x ∷ xs) line text command w j e = absurd cc

get_said : (args line : List (List ℕ)) (text : List ℕ) (command : Command) → line ≡ codes "get" ∷ args → join_with_byte 32 line ≡ text → get_at args ≡ Ok command → SpellsCommand text command
unfolding get_at
get_said [] line text command w j e = absurd cc
get_said (k ∷ []) line text command w j e =
    let a = steps (string_of k) _ command e in
    let c = steps (key_of a.0) _ command a.2 in
    let sk : SpellsToken k a.0 = (tokens_are_exact k a.0).0 a.1 in
    let key = key_taken a.0 c.0 c.1 in
    let is : command ≡ commands.Get a.0 = cc in
    subst (SpellsCommand text) (sym is) (k, sym j ∙ ap (join_with_byte 32) w, sk, record { some = key.some; short = key.short; bytes = token_bytes a.0 k sk })
get_said (k ∷ x ∷ xs) line text command w j e = absurd cc

words_said : (words : List (List ℕ)) (text : List ℕ) (command : Command) → join_with_byte 32 words ≡ text → of_words words ≡ Ok command → SpellsCommand text command
words_said [] text command j e = absurd cc
words_said (word ∷ args) text command j e = by (bytes_eq word (codes "put!")) (bytes_eq word (codes "get")) refl refl e
  where
    by : (p q : Bool) → bytes_eq word (codes "put!") ≡ p → bytes_eq word (codes "get") ≡ q → cond p (put_at args true) (cond q (get_at args) (Err whys.Command)) ≡ Ok command
        → SpellsCommand text command
    by true q f g e = put_said args (word ∷ args) text command (ap (λ (w : List ℕ). w ∷ args) ((bytes_eq-Decides word (codes "put!")).0 f)) j e
    by false true f g e = get_said args (word ∷ args) text command (ap (λ (w : List ℕ). w ∷ args) ((bytes_eq-Decides word (codes "get")).0 g)) j e
    by false false f g e = absurd cc

said : (line : List ℕ) (command : Command) → line_at line ≡ Ok command → SpellsCommand line command
unfolding line_at
said line command e = words_said (words_of line) line command (join_with_byte-slice_split 32 line) e

pub lines_are_exact : LinesAreExact
lines_are_exact line command = (said line command, spelled line command)
