-- Which keys may be guards: the hash of a key, the one bits that it ends in, and the need of each level.
use Rattle.std.specs.Prelude.{ℕ, zero, suc, length, slice_index, ◌-◌, ◌*◌, ◌/◌, ◌%◌, ◌^◌, Bool, if◌then◌else◌, [], ◌∷◌, nat_le, Option, Some, None, bit_xor}
use Rattle.std.specs.Int.{trailing_ones, w8, w64}
use Rattle.peb_base.specs.Keys.{Bytes}
use Rattle.peb_base.specs.Profiles.{Column}
use Rattle.peb_base.specs.declared.hash_kind.HashKind.{HashKind}
use Rattle.peb_base.specs.declared.hash_kind.HashKind.TheVariants.{Mixed, LastByte}

-- the last byte of a key
abbrev pub last_byte : Bytes → ℕ
last_byte key = slice_index key (length key - 1)

-- where FNV-1a begins
abbrev pub fnv_start : ℕ
fnv_start = 14695981039346656037

-- 64-bit FNV-1a of the bytes behind those that gave h
abbrev pub fnv1a : ℕ → Bytes → ℕ
fnv1a h [] = h
fnv1a h (b ∷ bs) = fnv1a (bit_xor h b * 1099511628211 % 2 ^ 64) bs

-- x ^ (x >> s)
abbrev pub folded : ℕ → ℕ → ℕ
folded s x = bit_xor x (x / 2 ^ s)

-- FNV-1a and then the finalizer of SplitMix64
unfoldable pub mixed : Bytes → ℕ
mixed key =
    folded 31 (folded 27 (folded 30 (fnv1a fnv_start key) * 0xBF58476D1CE4E5B9 % 2 ^ 64)
    * 0x94D049BB133111EB % 2 ^ 64)

-- how many one bits the hash of a key ends in
unfoldable pub bits : HashKind → Bytes → ℕ
bits Mixed key = trailing_ones w64 (mixed key)
bits LastByte key = trailing_ones w8 (last_byte key)

-- the bits that a level from 1 on asks of its guards
abbrev pub need : Column → ℕ → ℕ
need o level = o.top_bits - o.decrement * (level - 1)

-- the key may be a guard of the level
abbrev pub meets : Column → ℕ → Bytes → Bool
meets o level key = nat_le (need o level) (bits o.hash key)

-- the shallowest of so many levels from this one on whose need the key meets
abbrev pub level_from : Column → Bytes → ℕ → ℕ → Option ℕ
level_from o key level zero = None
level_from o key level (suc count) =
    if meets o level key then Some level else level_from o key (suc level) count

-- the shallowest level whose need the key meets
abbrev pub level_of : Column → Bytes → Option ℕ
level_of o key = level_from o key 1 o.last_level
