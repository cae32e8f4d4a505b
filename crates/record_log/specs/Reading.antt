-- What is read from the first gate on.
use Rattle.std.specs.Prelude.{◌≡◌, ◌≢◌, ℕ, ◌+◌, Bool, true, false, List, ◌∷◌, ◌++◌, length}
use Rattle.record_log.specs.Groups.{groups_bytes, AreGroups, IsNoGroup, placed}

-- what ends the groups: a closed gate, or an open one without a group
abbrev pub EndsGroups : Bool → ℕ → List ℕ → Type 0
EndsGroups true gate rest = gate ≢ 1
EndsGroups false gate rest = (gate ≡ 1) × IsNoGroup (1 ∷ rest)

-- groups behind open gates, with these records, and what ends them, at this place of the file
pub record ReadsGroups (bytes : List ℕ) (records : List (ℕ × List ℕ)) (place : ℕ)
    (closed : Bool) : Type 0 where
  pub groups : List (List (List ℕ))
  pub gate : ℕ
  pub rest : List ℕ
  pub each : AreGroups groups
  pub spelled : bytes ≡ groups_bytes groups ++ gate ∷ rest
  pub ends : EndsGroups closed gate rest
  pub given : records ≡ placed 24 groups
  pub behind : place ≡ 24 + length (groups_bytes groups)
