-- Tokens: a string of bytes as a text of printable bytes without spaces.
use Rattle.std.specs.Prelude.{◌≡◌, ℕ, ◌+◌, ◌-◌, ◌*◌, ◌/◌, ◌%◌, Bool, true, not, ◌&&◌, ◌==◌, nat_le, nat_lt, if◌then◌else◌, List, [], ◌∷◌, ◌++◌, length, Option, Some, None, option_map, option_and_then, Result, Ok, Err, codes}
use Rattle.std.specs.Str.{bytes_eq}
use Rattle.std.specs.List.{flat_map}
use Rattle.script.specs.declared.why.Why.{Why}
use Rattle.script.specs.declared.why.Why.TheVariants as whys
use Rattle.script.specs.Gives.{or_why}

-- a printable byte but for the percent sign and the quotation mark
abbrev pub is_plain_byte : ℕ → Bool
is_plain_byte b = nat_le 33 b && nat_le b 126 && not (b == 37) && not (b == 34)

-- the value of a hexadecimal digit of either case
unfoldable pub hex_value : ℕ → Option ℕ
hex_value c =
    if nat_le 48 c && nat_le c 57 then Some (c - 48)
    else if nat_le 65 c && nat_le c 70 then Some (c - 65 + 10)
    else if nat_le 97 c && nat_le c 102 then Some (c - 97 + 10)
    else None

-- the digit of a number below 16, in upper case
unfoldable pub hex_digit : ℕ → ℕ
hex_digit n = if nat_lt n 10 then n + 48 else n - 10 + 65

-- ---- what a text spells, as a relation

-- this text spells this one byte: the byte itself where it is plain, or a percent sign and two
-- digits of either case
abbrev pub SpellsByte : List ℕ → ℕ → Type 0
SpellsByte [] b = ⊥
SpellsByte (c ∷ []) b = (is_plain_byte c ≡ true) × (b ≡ c)
SpellsByte (p ∷ h ∷ []) b = ⊥
SpellsByte (p ∷ h ∷ l ∷ []) b = (p ≡ 37) × (high : ℕ) × (low : ℕ) × (hex_value h ≡ Some high)
    × (hex_value l ≡ Some low) × (b ≡ high * 16 + low)
SpellsByte (p ∷ h ∷ l ∷ c ∷ cs) b = ⊥

-- this text spells these bytes, one after another
abbrev pub SpellsBytes : List ℕ → List ℕ → Type 0
SpellsBytes text [] = text ≡ []
SpellsBytes text (b ∷ bs) = (front : List ℕ) × (rest : List ℕ) × (text ≡ front ++ rest)
    × SpellsByte front b × SpellsBytes rest bs

-- a token spells a string: two quotation marks spell the empty one
abbrev pub SpellsToken : List ℕ → List ℕ → Type 0
SpellsToken text [] = text ≡ codes "\"\""
SpellsToken text (b ∷ bs) = SpellsBytes text (b ∷ bs)

-- ---- the one spelling that is written

-- the text of one byte
abbrev pub byte_text : ℕ → List ℕ
byte_text b = if is_plain_byte b then b ∷ [] else 37 ∷ hex_digit (b / 16) ∷ hex_digit (b % 16) ∷ []

-- the token of a string
abbrev pub token_text : List ℕ → List ℕ
token_text bytes = if length bytes == 0 then codes "\"\"" else flat_map byte_text bytes

-- ---- reading

-- the byte that two digits spell, and the rest
unfoldable pub escape_at : List ℕ → Option (ℕ × List ℕ)
escape_at [] = None
escape_at (h ∷ []) = None
escape_at (h ∷ l ∷ rest) = option_and_then
    (λ high. option_map (λ low. (high * 16 + low, rest)) (hex_value l)) (hex_value h)

-- the byte that the front of a text spells, and the rest
unfoldable pub byte_at : List ℕ → Option (ℕ × List ℕ)
byte_at [] = None
byte_at (c ∷ cs) = if is_plain_byte c then Some (c, cs) else if c == 37 then escape_at cs else None

-- a byte before those that follow, if they can be read
abbrev pub onto : ℕ → Option (List ℕ) → Option (List ℕ)
onto b o = option_map (λ bs. b ∷ bs) o

-- the bytes that a text spells, one after another
unfoldable pub bytes_in : List ℕ → Option (List ℕ)
bytes_in [] = Some []
bytes_in (c ∷ []) = if is_plain_byte c then Some (c ∷ []) else None
bytes_in (c ∷ h ∷ []) = if is_plain_byte c then onto c (bytes_in (h ∷ [])) else None
bytes_in (c ∷ h ∷ l ∷ cs) =
    if is_plain_byte c then onto c (bytes_in (h ∷ l ∷ cs))
    else if c == 37 then option_and_then
    (λ high. option_and_then (λ low. onto (high * 16 + low) (bytes_in cs)) (hex_value l))
    (hex_value h)
    else None

-- the string that a token spells
unfoldable pub string_of : List ℕ → Result (List ℕ) Why
string_of text =
    if bytes_eq text (codes "\"\"") then Ok []
    else if length text == 0 then Err whys.Command
    else or_why whys.Command (bytes_in text)
