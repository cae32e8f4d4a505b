-- What is written through a loan.
use Rattle.std.specs.Prelude.{ℕ, List}
use Rattle.std.specs.Borrow.{Lends, MutBor, Fml, Array, u8}
use Rattle.block_pool.specs.Buffer.{written}
use Rattle.block_pool.specs.contracts.loan.Loan.{the_row}

-- the loan ends with the bytes that were left behind the result
abbrev pub LendsBytes : MutBor (List ℕ) → MutBor (List ℕ) → Fml
LendsBytes loan result = Lends the_row (Array u8 0) loan result (written loan.now)
