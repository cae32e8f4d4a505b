-- Strings of bytes, and the order of keys.
use Rattle.std.specs.Prelude.{ℕ, ◌<◌, Bool, not, List, nat_eq}
use Rattle.std.specs.List.{AllByRecursion}
use Rattle.std.specs.Ordering.{nat_cmp, is_lt}
use Rattle.std.specs.Cmp.Lexicographic.{slice_cmp, pointwise}

-- a key or a value, as the list of its bytes
abbrev pub Bytes : Type 0
Bytes = List ℕ

-- each is a byte
abbrev pub AreBytes : Bytes → Type 0
AreBytes bytes = AllByRecursion (λ b. b < 256) bytes

-- a comes before b, byte by byte, a beginning before what it begins
abbrev pub key_lt : Bytes → Bytes → Bool
key_lt a b = is_lt (slice_cmp nat_cmp a b)

-- a doesn't come after b
abbrev pub key_le : Bytes → Bytes → Bool
key_le a b = not (key_lt b a)

-- the same bytes
abbrev pub key_eq : Bytes → Bytes → Bool
key_eq a b = pointwise nat_eq a b
