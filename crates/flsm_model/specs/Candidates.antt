-- What candidates are by the bits of their keys.
use Rattle.std.specs.Prelude.{◌≡◌, ℕ, ◌≤◌, ◌&&◌, List, Some}
use Rattle.std.specs.List.{AllByRecursion}
use Rattle.peb_base.specs.Keys.{Bytes}
use Rattle.peb_base.specs.Choice.{meets, level_of}
use Rattle.peb_base.specs.Profiles.{Column}
use Rattle.flsm_model.specs.Fits.{is_chosen, is_candidate}
use Rattle.flsm_model.specs.declared.chosen.Chosen.{Chosen}

-- each key stands with the shallowest level whose need it meets
abbrev pub StandAtTheirLevels : Column → List Chosen → Type 0
StandAtTheirLevels o cs = AllByRecursion (λ c. level_of o c.key ≡ Some c.level) cs

-- the candidates of a level are the chosen keys that meet its need
abbrev pub CandidatesMeet : Type 0
CandidatesMeet =
    (o : Column) (cs : List Chosen) (level : ℕ) (key : Bytes) → StandAtTheirLevels o cs → 1 ≤ level
    → is_candidate cs level key ≡ (is_chosen cs key && meets o level key)
