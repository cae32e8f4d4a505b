-- Steps through the levels.
use Rattle.std.proofs.Common.{◌≡◌, ℕ, suc, ◌+◌, ◌-◌, ◌≤◌, true, false, refl, arith}
use Rattle.std.specs.Prelude.{nat_le, Some}
use Rattle.peb_base.specs.Keys.{Bytes}
use Rattle.peb_base.specs.Profiles.{Column}
use Rattle.peb_base.specs.Choice.{need, bits, level_from}

-- a level whose need isn't met is passed
pub passed : (o : Column) (key : Bytes) (level last : ℕ) → level ≤ last → nat_le (need o level) (bits o.hash key) ≡ false
    → level_from o key level (last + 1 - level) ≡ level_from o key (level + 1) (last + 1 - (level + 1))
passed o key level last le not_met =
    let left : last + 1 - level ≡ suc (last - level) = omega (arith, le) in
    let behind : last + 1 - (level + 1) ≡ last - level = omega (arith, le) in
    let next : level + 1 ≡ suc level = omega arith in
    rw (left, behind, next, not_met) refl

-- the first level whose need is met
pub met : (o : Column) (key : Bytes) (level last : ℕ) → level ≤ last → nat_le (need o level) (bits o.hash key) ≡ true
    → level_from o key level (last + 1 - level) ≡ Some level
met o key level last le is_met =
    let left : last + 1 - level ≡ suc (last - level) = omega (arith, le) in
    rw (left, is_met) refl
