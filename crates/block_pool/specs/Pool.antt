-- What contracts see of a pool.
use Rattle.std.specs.Prelude.{ℕ}

-- how many buffers are in, and how many are out
pub record Buffers : Type 0 where
  pub free : ℕ
  pub out : ℕ
