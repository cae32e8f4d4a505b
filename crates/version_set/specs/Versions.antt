-- What a version set holds.
use Rattle.std.specs.Prelude.{ℕ, List}
use Rattle.version.specs.Levels.{Levels}

-- the current version, and the held numbers, each with its client, the one that was taken last
-- first
pub record Versions (T : Type 0) : Type 0 where
  pub current : Levels T
  pub held : List (ℕ × ℕ)

-- a staged version: the next one, the tables that go, and those that were handed in
pub record StagedVersion (T : Type 0) : Type 0 where
  pub next : Levels T
  pub gone : List T
  pub given : List T
