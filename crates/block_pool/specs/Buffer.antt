-- What is written through a buffer.
use Rattle.std.specs.Prelude.{ℕ, List, ◌++◌, length, take, drop}
use Rattle.std.specs.Borrow.{Lends, MutBor, Fml, Array, u8}
use Rattle.block_pool.specs.contracts.buffer.Buffer.{the_row}

-- the old bytes with others written over them; as a lent slice keeps its length, these are all of them
abbrev pub written : List ℕ → List ℕ → List ℕ
written old bytes = take (length old) (bytes ++ drop (length bytes) old)

-- the buffer ends with the bytes that were left behind the result
abbrev pub LendsBytes : MutBor (List ℕ) → MutBor (List ℕ) → Fml
LendsBytes buffer result = Lends the_row (Array u8 0) buffer result (written buffer.now)
