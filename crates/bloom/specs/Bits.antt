-- Bytes as bits.
use Rattle.std.specs.Prelude.{ℕ, zero, suc, ◌+◌, ◌*◌, ◌/◌, ◌%◌, Bool, ◌==◌, cond, List, [], ◌∷◌, slice_index}
use Rattle.std.specs.Int.{bit_at}

-- bit j stands in byte j / 8 at weight 2 ^ (j % 8)
abbrev pub bit : List ℕ → ℕ → Bool
bit bytes j = bit_at (slice_index bytes (j / 8)) (j % 8) == 1

-- the number of so many bits that are set where the test says
unfoldable pub number_of : ℕ → (ℕ → Bool) → ℕ
number_of zero test = 0
number_of (suc n) test = cond (test 0) 1 0 + 2 * number_of n (λ i. test (suc i))

-- so many bytes, whose bits are set where the test says
unfoldable pub bytes_of : ℕ → (ℕ → Bool) → List ℕ
bytes_of zero test = []
bytes_of (suc n) test = number_of 8 test ∷ bytes_of n (λ j. test (8 + j))
