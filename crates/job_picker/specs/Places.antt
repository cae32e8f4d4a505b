-- Where a key belongs among ascending ones.
use Rattle.std.specs.Prelude.{ℕ, suc, if◌then◌else◌, List, [], ◌∷◌, length, Option, Some, None}
use Rattle.peb_base.specs.Keys.{Bytes, key_lt}

-- how many of the first keys come before this one
abbrev pub place_in : Bytes → List Bytes → ℕ
place_in key [] = 0
place_in key (k ∷ ks) = if key_lt k key then suc (place_in key ks) else 0

-- how many of the first keys come before the end of a range, if it has one
abbrev pub end_in : Option Bytes → List Bytes → ℕ
end_in None ks = length ks
end_in (Some hi) ks = place_in hi ks
