use Rattle.std.proofs.Common.{◌≡◌, ℕ, List, [], ◌∷◌, ◌<◌, length, refl, arith}
use Rattle.std.specs.Int.{trailing_ones, w8}
use Rattle.peb_base.specs.Choice.{last_byte}
use Rattle.peb_base.specs.Choice.{bits}
use Rattle.peb_base.proofs.hashing.bits.Goals as goal

pub returns-in-empty-clause-bits : goal.returns-in-empty-clause-bits
unfolding bits lib.Count.count_trailing_zeros
returns-in-empty-clause-bits c = rw (c.in-LastByte.is) (of c.args.key.now c.in-empty.len_below)
  where
    of : (key : List ℕ) → length key < 1 → 0 ≡ trailing_ones w8 (last_byte key)
    of [] h = refl
    of (b ∷ bs) h = absurd (omega (arith, h))
