-- The definitions on worked examples.
use Rattle.std.proofs.Common.{◌≡◌, true, false, [], ◌∷◌, refl}
use Rattle.peb_base.specs.Tables.{filter_length}
use Rattle.bloom.specs.Bits.{number_of, bytes_of}
use Rattle.bloom.specs.Filter.{is_probe, are_set, may_hold, filter_of}

least : filter_length 1 ≡ 8
least = refl

ten : filter_length 10 ≡ 13
ten = refl

most : filter_length 1717986918 ≡ 2147483648
most = refl

-- the hash of the key a, and the six bits that it sets among 64
one : filter_of 1 (198367012849983736 ∷ []) ≡ 0 ∷ 0 ∷ 0 ∷ 0 ∷ 0 ∷ 0 ∷ 248 ∷ 1 ∷ []
unfolding is_probe number_of bytes_of
one = refl

held : may_hold (0 ∷ 0 ∷ 0 ∷ 0 ∷ 0 ∷ 0 ∷ 248 ∷ 1 ∷ []) 198367012849983736 ≡ true
unfolding are_set
held = refl

denied : may_hold (0 ∷ 0 ∷ 0 ∷ 0 ∷ 0 ∷ 0 ∷ 240 ∷ 1 ∷ []) 198367012849983736 ≡ false
unfolding are_set
denied = refl
