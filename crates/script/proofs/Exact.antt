-- A token is read exactly as the strings that it spells.
use Rattle.std.proofs.Common.{◌≡◌, ℕ, ◌+◌, ◌*◌, ◌<◌, Bool, true, false, cond, eqb, List, [], ◌∷◌, ◌++◌, length, Option, Some, None, Ok, Err, refl, sym, ap, ◌∙◌, subst, arith}
use Rattle.std.specs.Prelude.{codes, option_map, option_and_then}
use Rattle.std.specs.Str.{bytes_eq}
use Rattle.std.proofs.lemmas.Bool.Decides.{nat_tests}
use Rattle.std.proofs.lemmas.Bool.{eqb-true}
use Rattle.std.proofs.lemmas.Slice.Eq.{bytes_eq-Decides}
use Rattle.script.specs.declared.why.Why.TheVariants as whys
use Rattle.script.specs.Gives.{or_why}
use Rattle.script.specs.Token.{is_plain_byte, hex_value, escape_at, byte_at, onto, bytes_in, string_of, SpellsByte, SpellsBytes, SpellsToken}
use Rattle.script.specs.Laws.{TokensAreExact}
use Rattle.script.proofs.Tokens.{bytes_in_step, then_bytes}

-- ---- what is read is spelled

abbrev one : ℕ × List ℕ → Option (ℕ × List ℕ)
one x = Some x

some_is : (x y : ℕ × List ℕ) → one x ≡ one y → x ≡ y
some_is x y e = cc

-- the front of a text that spells its first byte
abbrev pub Front : List ℕ → ℕ → List ℕ → Type 0
Front text b rest = (front : List ℕ) × ((text ≡ front ++ rest) × SpellsByte front b)

abbrev escape_of : Option ℕ → Option ℕ → List ℕ → Option (ℕ × List ℕ)
escape_of o p cs = option_and_then (λ high. option_map (λ low. (high * 16 + low, cs)) p) o

escape_front : (h l : ℕ) (cs : List ℕ) (o p : Option ℕ) (b : ℕ) (rest : List ℕ) → hex_value h ≡ o → hex_value l ≡ p
    → escape_of o p cs ≡ Some (b, rest) → Front (37 ∷ h ∷ l ∷ cs) b rest
escape_front h l cs None p b rest eh el e = absurd cc
escape_front h l cs (Some high) None b rest eh el e = absurd cc
escape_front h l cs (Some high) (Some low) b rest eh el e =
    let pair = some_is (high * 16 + low, cs) (b, rest) e in
    let is-b : b ≡ high * 16 + low = sym (ap (λ (x : ℕ × List ℕ). x.0) pair) in
    let is-rest : cs ≡ rest = ap (λ (x : ℕ × List ℕ). x.1) pair in
    (37 ∷ h ∷ l ∷ [], (ap (λ (r : List ℕ). 37 ∷ h ∷ l ∷ r) is-rest, (refl, high, low, eh, el, is-b)))

marked_front : (c : ℕ) (cs : List ℕ) (b : ℕ) (rest : List ℕ) (q : Bool) → eqb c 37 ≡ q → cond q (escape_at cs) None ≡ Some (b, rest) → Front (c ∷ cs) b rest
unfolding escape_at
marked_front c cs b rest false f e = absurd cc
marked_front c [] b rest true f e = absurd cc
marked_front c (h ∷ []) b rest true f e = absurd cc
marked_front c (h ∷ l ∷ cs) b rest true f e =
    subst (λ (m : ℕ). Front (m ∷ h ∷ l ∷ cs) b rest) (sym (eqb-true c 37 f)) (escape_front h l cs (hex_value h) (hex_value l) b rest refl refl e)

first_front : (c : ℕ) (cs : List ℕ) (b : ℕ) (rest : List ℕ) (p : Bool) → is_plain_byte c ≡ p → cond p (Some (c, cs)) (cond (eqb c 37) (escape_at cs) None) ≡ Some (b, rest) → Front (c ∷ cs) b rest
first_front c cs b rest true f e =
    let pair = some_is (c, cs) (b, rest) e in
    let is-b : b ≡ c = sym (ap (λ (x : ℕ × List ℕ). x.0) pair) in
    let is-rest : cs ≡ rest = ap (λ (x : ℕ × List ℕ). x.1) pair in
    (c ∷ [], (ap (λ (r : List ℕ). c ∷ r) is-rest, (f, is-b)))
first_front c cs b rest false f e = marked_front c cs b rest (eqb c 37) refl e

byte_front : (text : List ℕ) (b : ℕ) (rest : List ℕ) → byte_at text ≡ Some (b, rest) → Front text b rest
unfolding byte_at
byte_front [] b rest e = absurd cc
byte_front (c ∷ cs) b rest e = first_front c cs b rest (is_plain_byte c) refl e

-- the first byte and the rest of what a text spells
abbrev Parts : List ℕ → ℕ → List ℕ → Type 0
Parts text b bs = (rest : List ℕ) × ((byte_at text ≡ Some (b, rest)) × (bytes_in rest ≡ Some bs))

onto_parts : (x : ℕ) (o : Option (List ℕ)) (b : ℕ) (bs : List ℕ) → onto x o ≡ Some (b ∷ bs) → (x ≡ b) × (o ≡ Some bs)
onto_parts x None b bs e = absurd cc
onto_parts x (Some xs) b bs e = (cc, cc)

onto_some : (x : ℕ) (o : Option (List ℕ)) → onto x o ≡ Some [] → ⊥
onto_some x None e = cc
onto_some x (Some xs) e = cc

read_parts : (text : List ℕ) (o : Option (ℕ × List ℕ)) (b : ℕ) (bs : List ℕ) → byte_at text ≡ o → option_and_then then_bytes o ≡ Some (b ∷ bs) → Parts text b bs
read_parts text None b bs f e = absurd cc
read_parts text (Some x) b bs f e =
    let p = onto_parts x.0 (bytes_in x.1) b bs e in
    (x.1, (f ∙ ap (λ (n : ℕ). Some (n, x.1)) p.0, p.1))

read_some : (o : Option (ℕ × List ℕ)) → option_and_then then_bytes o ≡ Some [] → ⊥
read_some None e = cc
read_some (Some x) e = onto_some x.0 (bytes_in x.1) e

bytes_spelled : (bs text : List ℕ) → bytes_in text ≡ Some bs → SpellsBytes text bs
unfolding bytes_in
bytes_spelled [] [] e = refl
bytes_spelled [] (c ∷ cs) e =
    let some : 0 < length (c ∷ cs) = omega arith in
    absurd (read_some (byte_at (c ∷ cs)) (sym (bytes_in_step (c ∷ cs) some) ∙ e))
bytes_spelled (b ∷ bs) [] e = absurd cc
bytes_spelled (b ∷ bs) (c ∷ cs) e =
    let some : 0 < length (c ∷ cs) = omega arith in
    let p = read_parts (c ∷ cs) (byte_at (c ∷ cs)) b bs refl (sym (bytes_in_step (c ∷ cs) some) ∙ e) in
    let f = byte_front (c ∷ cs) b p.0 p.1.0 in
    (f.0, p.0, f.1.0, f.1.1, bytes_spelled bs p.0 p.1.1)

-- ---- what is spelled is read

byte_read : (front : List ℕ) (b : ℕ) (rest : List ℕ) → SpellsByte front b → byte_at (front ++ rest) ≡ Some (b, rest)
unfolding byte_at escape_at
byte_read [] b rest h = absurd h
byte_read (c ∷ []) b rest h = rw h.0 (ap (λ (n : ℕ). Some (n, rest)) (sym h.1))
byte_read (p ∷ h ∷ []) b rest s = absurd s
byte_read (p ∷ h ∷ l ∷ []) b rest s =
    ap (λ (m : ℕ). byte_at (m ∷ h ∷ l ∷ rest)) s.0 ∙ rw (s.3, s.4) (ap (λ (n : ℕ). Some (n, rest)) (sym s.5))
byte_read (p ∷ h ∷ l ∷ c ∷ cs) b rest s = absurd s

some_front : (front : List ℕ) (b : ℕ) (rest : List ℕ) → SpellsByte front b → 0 < length (front ++ rest)
some_front [] b rest h = absurd h
some_front (c ∷ cs) b rest h = omega arith

bytes_read : (bs text : List ℕ) → SpellsBytes text bs → bytes_in text ≡ Some bs
unfolding bytes_in
bytes_read [] text h = ap bytes_in h
bytes_read (b ∷ bs) text h =
    ap bytes_in h.2 ∙ bytes_in_step (h.0 ++ h.1) (some_front h.0 b h.1 h.3) ∙ rw (byte_read h.0 b h.1 h.3) (ap (onto b) (bytes_read bs h.1 h.4))

-- ---- tokens

or_why_ok : (o : Option (List ℕ)) (bytes : List ℕ) → or_why whys.Command o ≡ Ok bytes → o ≡ Some bytes
or_why_ok None bytes e = absurd cc
or_why_ok (Some x) bytes e = cc

-- no text but the empty one spells no bytes
not_empty : (text bytes : List ℕ) → eqb (length text) 0 ≡ false → SpellsBytes text bytes → SpellsToken text bytes
not_empty text [] e h = let z : length text ≡ 0 = ap length h in absurd (grind (arith, nat_tests))
not_empty text (b ∷ bs) e h = h

empty_token : (text bytes : List ℕ) → text ≡ codes "\"\"" → bytes ≡ [] → SpellsToken text bytes
empty_token text [] e h = e
empty_token text (b ∷ bs) e h = absurd cc

found : (text bytes : List ℕ) (p q : Bool) → bytes_eq text (codes "\"\"") ≡ p → eqb (length text) 0 ≡ q → cond p (Ok []) (cond q (Err whys.Command) (or_why whys.Command (bytes_in text))) ≡ Ok bytes → SpellsToken text bytes
found text bytes true q f g e =
    let none : bytes ≡ [] = cc in
    empty_token text bytes ((bytes_eq-Decides text (codes "\"\"")).0 f) none
found text bytes false true f g e = absurd cc
found text bytes false false f g e = not_empty text bytes g (bytes_spelled bytes text (or_why_ok (bytes_in text) bytes e))

-- a text that spells some bytes isn't that of the empty string
quote_spells : (b : ℕ) (bs : List ℕ) → bytes_in (codes "\"\"") ≡ Some (b ∷ bs) → ⊥
unfolding bytes_in
quote_spells b bs e = cc

apart : (text : List ℕ) (b : ℕ) (bs : List ℕ) (p : Bool) → bytes_eq text (codes "\"\"") ≡ p → bytes_in text ≡ Some (b ∷ bs) → bytes_eq text (codes "\"\"") ≡ false
apart text b bs true f e = absurd (quote_spells b bs (ap bytes_in (sym ((bytes_eq-Decides text (codes "\"\"")).0 f)) ∙ e))
apart text b bs false f e = f

only : (bytes text : List ℕ) → SpellsToken text bytes → string_of text ≡ Ok bytes
unfolding string_of
only [] text h = ap string_of h
only (b ∷ bs) text h =
    let read = bytes_read (b ∷ bs) text h in
    let some : eqb (length text) 0 ≡ false = rw h.2 (grind (arith, nat_tests, some_front h.0 b h.1 h.3)) in
    let unquoted = apart text b bs (bytes_eq text (codes "\"\"")) refl read in
    rw (unquoted, some, read) refl

pub tokens_are_exact : TokensAreExact
unfolding string_of
tokens_are_exact text bytes = (λ e. found text bytes (bytes_eq text (codes "\"\"")) (eqb (length text) 0) refl refl e, only bytes text)
