-- The claims of a job: on which ranges of which levels it works, and with what it conflicts.
use Rattle.std.specs.Prelude.{◌≡◌, ℕ, suc, Bool, true, false, ◌&&◌, not, List, [], ◌∷◌, ◌==◌}
use Rattle.std.specs.List.{list_any, list_all}
use Rattle.flsm_model.specs.declared.job_kind.JobKind.{JobKind}
use Rattle.flsm_model.specs.declared.job_kind.JobKind.TheVariants.{Flush as FlushJob, Move as MoveJob, Cut as CutJob, Merge as MergeJob}
use Rattle.flsm_model.specs.declared.job.Job.{Job}
use Rattle.flsm_model.specs.declared.mode.Mode.{Mode}
use Rattle.flsm_model.specs.declared.mode.Mode.TheVariants.{Take, Append, Cut as CutClaim}
use Rattle.flsm_model.specs.declared.claim.Claim.{Claim}
use Rattle.flsm_model.specs.Ranges.{ranges_meet}
use Rattle.flsm_model.specs.Events.{Running}

-- a claim over the job's range
abbrev pub claim : Job → ℕ → Mode → Claim
claim j level mode = record { level = level; lo = j.lo; hi = j.hi; mode = mode }

-- a job has two claims; where it needs one, that one is given twice; a Flush has a level of its own
abbrev pub claims_at : JobKind → Job → List Claim
claims_at FlushJob j = claim j 255 Take ∷ claim j 255 Take ∷ []
claims_at MoveJob j = claim j j.level Take ∷ claim j (suc j.level) Append ∷ []
claims_at CutJob j = claim j j.level CutClaim ∷ claim j j.level CutClaim ∷ []
claims_at MergeJob j = claim j j.level Take ∷ claim j j.level Take ∷ []

-- the claims of a job
abbrev pub claims_of : Job → List Claim
claims_of j = claims_at j.kind j

-- a Cut bears nothing beside it, and two don't take from one range; tables may be appended while
-- others are taken
abbrev pub modes_conflict : Mode → Mode → Bool
modes_conflict CutClaim m = true
modes_conflict Take Take = true
modes_conflict Take Append = false
modes_conflict Take CutClaim = true
modes_conflict Append CutClaim = true
modes_conflict Append Take = false
modes_conflict Append Append = false

-- claims conflict where a level and a key are common, and the modes conflict
abbrev pub claims_conflict : Claim → Claim → Bool
claims_conflict a b =
    a.level == b.level && ranges_meet a.lo a.hi b.lo b.hi && modes_conflict a.mode b.mode

-- some claim of the one conflicts with one of the other
abbrev pub jobs_conflict : Job → Job → Bool
jobs_conflict j k = list_any (λ a. list_any (claims_conflict a) (claims_of k)) (claims_of j)

-- the job conflicts with none of these
abbrev pub is_free : Job → List Running → Bool
is_free j rs = list_all (λ r. not (jobs_conflict j r.1)) rs

-- the claim conflicts with no claim of these jobs
abbrev pub is_claim_free : Claim → List Running → Bool
is_claim_free c rs = list_all (λ r. not (list_any (claims_conflict c) (claims_of r.1))) rs

-- a job is free exactly where each of its claims is
abbrev pub FreeByClaims : Type 0
FreeByClaims =
    (j : Job) (rs : List Running) → is_free j rs ≡ list_all (λ c. is_claim_free c rs) (claims_of j)
