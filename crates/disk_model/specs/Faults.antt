-- Counts of faults, where not each error is a fault.
use Rattle.std.specs.Prelude.{ℕ, ◌≤◌}
pub use Rattle.peb_base.specs.Faults.{Rose}

-- a count of faults never falls, and rose where the call failed so
pub record RoseWhere (failed : Type 0) (before now : ℕ) : Type 0 where
  pub later : before ≤ now
  pub cause : failed → Rose before now
