-- What there is beside the words, the slot and the views of a lock.
use Rattle.std.specs.Prelude.{ℕ, List}

-- the tickets that were served and drawn, without bound, and the seat that drew each
pub record Queue : Type 0 where
  pub served : ℕ
  pub drawn : ℕ
  pub taker : ℕ → ℕ

-- how long the history was at first, how many seats there were, and whose each number and place is
pub record Roll : Type 0 where
  pub base : ℕ
  pub seats : ℕ
  pub owner : ℕ → ℕ
  pub giver : ℕ → ℕ

-- the one history, the turns, the seats, and one that has seen all
pub record Account (E : Type 0) : Type 0 where
  pub history : List E
  pub queue : Queue
  pub roll : Roll
  pub top : ℕ
