-- The claims that actors keep, and the jobs in flight that they are of.
use Rattle.std.specs.Prelude.{◌≡◌, ℕ, Bool, true, false, List, map, get_or, Option, Some, None, option_map}
use Rattle.std.specs.List.{list_any, position}
use Rattle.flsm_model.specs.declared.claim.Claim.{Claim}
use Rattle.flsm_model.specs.Claims.{claims_conflict, claims_of}
use Rattle.flsm_model.specs.Events.{Running}
use Rattle.flsm_model.specs.Fits.{numbers_differ}
use Rattle.flsm_model.specs.Steps.{job_of}

-- at the number of each actor the claims that it keeps, if it keeps any
abbrev pub Kept : Type 0
Kept = List (Option (List Claim))

-- the claims of an actor
abbrev pub kept_by : Kept → ℕ → Option (List Claim)
kept_by kept actor = get_or kept actor None

-- one of these claims conflicts with one that an actor keeps
abbrev pub meets_kept : List Claim → Option (List Claim) → Bool
meets_kept claims None = false
meets_kept claims (Some kept) = list_any (λ c. list_any (claims_conflict c) kept) claims

-- the first actor that keeps a claim with which one of these conflicts
abbrev pub first_conflict : Kept → List Claim → Option ℕ
first_conflict kept claims = position (meets_kept claims) kept

-- each actor keeps the claims of its job in flight, and has one job at most
pub record AreClaimsOf (kept : Kept) (rs : List Running) : Type 0 where
  pub each : (actor : ℕ) → kept_by kept actor ≡ option_map claims_of (job_of rs actor)
  pub differ : numbers_differ (map (λ r. r.0) rs) ≡ true
