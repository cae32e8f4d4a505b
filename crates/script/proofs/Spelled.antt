-- What a token has in it, and the token that is written.
use Rattle.std.proofs.Common.{◌≡◌, ℕ, ◌+◌, ◌*◌, ◌/◌, ◌%◌, ◌<◌, Bool, true, false, cond, eqb, List, [], ◌∷◌, ◌++◌, length, Some, refl, ap, ◌∙◌, arith}
use Rattle.std.specs.List.{slice_split, flat_map, join_with_byte}
use Rattle.std.proofs.lemmas.List.Concat.{flat_map-cons}
use Rattle.std.proofs.lemmas.Bool.Decides.{nat_tests}
use Rattle.peb_base.specs.Keys.{AreBytes}
use Rattle.script.specs.Token.{is_plain_byte, hex_value, hex_digit, byte_text, token_text, SpellsByte, SpellsBytes, SpellsToken}
use Rattle.script.specs.Line.{words_of}

-- ---- cutting at a byte

-- no byte is c
abbrev pub Lacks : ℕ → List ℕ → Type 0
Lacks c [] = Unit {0}
Lacks c (b ∷ bs) = (eqb b c ≡ false) × Lacks c bs

abbrev pub AllLack : ℕ → List (List ℕ) → Type 0
AllLack c [] = Unit {0}
AllLack c (w ∷ ws) = Lacks c w × AllLack c ws

pub lacks_append : (c : ℕ) (xs ys : List ℕ) → Lacks c xs → Lacks c ys → Lacks c (xs ++ ys)
lacks_append c [] ys h k = k
lacks_append c (x ∷ xs) ys h k = (h.0, lacks_append c xs ys h.1 k)

same_byte : (c : ℕ) → eqb c c ≡ true
same_byte c = grind (arith, nat_tests)

cut_none : (c : ℕ) (xs : List ℕ) → Lacks c xs → slice_split (λ b. eqb b c) xs ≡ xs ∷ []
cut_none c [] h = refl
cut_none c (x ∷ xs) h = rw (h.0, cut_none c xs h.1) refl

pub cut_at : (c : ℕ) (xs ys : List ℕ) → Lacks c xs → slice_split (λ b. eqb b c) (xs ++ c ∷ ys) ≡ xs ∷ slice_split (λ b. eqb b c) ys
cut_at c [] ys h = rw (same_byte c) refl
cut_at c (x ∷ xs) ys h = rw (h.0, cut_at c xs ys h.1) refl

-- words without spaces, joined by spaces, are these words
pub words_again : (word : List ℕ) (words : List (List ℕ)) → AllLack 32 (word ∷ words) → words_of (join_with_byte 32 (word ∷ words)) ≡ word ∷ words
words_again word [] h = cut_none 32 word h.0
words_again word (next ∷ words) h = cut_at 32 word (join_with_byte 32 (next ∷ words)) h.0 ∙ ap (λ (ws : List (List ℕ)). word ∷ ws) (words_again next words h.1)

-- ---- what a token has in it

hex_small : (h v : ℕ) → hex_value h ≡ Some v → v < 16
unfolding hex_value
hex_small h v e = grind (arith, nat_tests)

hex_lacks : (c h v : ℕ) → c < 33 → hex_value h ≡ Some v → eqb h c ≡ false
unfolding hex_value
hex_lacks c h v small e = grind (arith, nat_tests)

plain_lacks : (c b : ℕ) → c < 33 → is_plain_byte b ≡ true → eqb b c ≡ false
plain_lacks c b small e = grind (arith, nat_tests)

plain_small : (b : ℕ) → is_plain_byte b ≡ true → b < 256
plain_small b e = grind (arith, nat_tests)

mark_lacks : (c m p : ℕ) → c < 33 → 33 < m → p ≡ m → eqb p c ≡ false
mark_lacks c m p small h e = grind (arith, nat_tests)

spells_small : (front : List ℕ) (b : ℕ) → SpellsByte front b → b < 256
spells_small [] b h = absurd h
spells_small (c ∷ []) b h = let small : c < 256 = plain_small c h.0 in omega (arith, small, h.1)
spells_small (p ∷ h ∷ []) b s = absurd s
spells_small (p ∷ h ∷ l ∷ []) b s =
    let high = hex_small h s.1 s.3 in
    let low = hex_small l s.2 s.4 in
    omega (arith, high, low, s.5)
spells_small (p ∷ h ∷ l ∷ c ∷ cs) b s = absurd s

byte_lacks : (c : ℕ) (front : List ℕ) (b : ℕ) → c < 33 → SpellsByte front b → Lacks c front
byte_lacks c [] b small h = absurd h
byte_lacks c (x ∷ []) b small h = (plain_lacks c x small h.0, tt)
byte_lacks c (p ∷ h ∷ []) b small s = absurd s
byte_lacks c (p ∷ h ∷ l ∷ []) b small s = (mark_lacks c 37 p small (omega arith) s.0, (hex_lacks c h s.1 small s.3, (hex_lacks c l s.2 small s.4, tt)))
byte_lacks c (p ∷ h ∷ l ∷ x ∷ xs) b small s = absurd s

bytes_lack : (c : ℕ) (bytes text : List ℕ) → c < 33 → SpellsBytes text bytes → Lacks c text
bytes_lack c [] text small h = rw h tt
bytes_lack c (b ∷ bs) text small h = rw h.2 (lacks_append c h.0 h.1 (byte_lacks c h.0 b small h.3) (bytes_lack c bs h.1 small h.4))

-- no space and no end of a line stand in a token
pub token_lacks : (c : ℕ) (bytes text : List ℕ) → c < 33 → SpellsToken text bytes → Lacks c text
token_lacks c [] text small h = rw h (mark_lacks c 34 34 small (omega arith) refl, (mark_lacks c 34 34 small (omega arith) refl, tt))
token_lacks c (b ∷ bs) text small h = bytes_lack c (b ∷ bs) text small h

spelled_bytes : (bytes text : List ℕ) → SpellsBytes text bytes → AreBytes bytes
spelled_bytes [] text h = tt
spelled_bytes (b ∷ bs) text h = (spells_small h.0 b h.3, spelled_bytes bs h.1 h.4)

-- a token spells bytes
pub token_bytes : (bytes text : List ℕ) → SpellsToken text bytes → AreBytes bytes
token_bytes [] text h = tt
token_bytes (b ∷ bs) text h = spelled_bytes (b ∷ bs) text h

-- ---- the token that is written

hex_again : (n : ℕ) → n < 16 → hex_value (hex_digit n) ≡ Some n
unfolding hex_value hex_digit
hex_again n h = grind (arith, nat_tests)

byte_spells : (b : ℕ) → b < 256 → (p : Bool) → is_plain_byte b ≡ p → SpellsByte (cond p (b ∷ []) (37 ∷ hex_digit (b / 16) ∷ hex_digit (b % 16) ∷ [])) b
byte_spells b h true e = (e, refl)
byte_spells b h false e =
    let whole : b ≡ (b / 16) * 16 + b % 16 = omega arith in
    (refl, b / 16, b % 16, hex_again (b / 16) (omega arith), hex_again (b % 16) (omega arith), whole)

bytes_spell : (bytes : List ℕ) → AreBytes bytes → SpellsBytes (flat_map byte_text bytes) bytes
bytes_spell [] h = refl
bytes_spell (b ∷ bs) h = (byte_text b, flat_map byte_text bs, flat_map-cons byte_text b bs, byte_spells b h.0 (is_plain_byte b) refl, bytes_spell bs h.1)

some_length : (b : ℕ) (bs : List ℕ) → eqb (length (b ∷ bs)) 0 ≡ false
some_length b bs = grind (arith, nat_tests)

-- it spells its string
pub token_spells : (bytes : List ℕ) → AreBytes bytes → SpellsToken (token_text bytes) bytes
token_spells [] h = refl
token_spells (b ∷ bs) h = rw (some_length b bs) (bytes_spell (b ∷ bs) h)
