-- Plans of failing calls.
use Rattle.std.specs.Prelude.{◌≡◌, ℕ, Bool, false, ◌||◌, nat_le, Option, [], None, Some}
use Rattle.disk_model.specs.declared.fail_plan.FailPlan.{FailPlan}
use Rattle.disk_model.specs.declared.plans.Plans.{Plans}
use Rattle.disk_model.specs.Tables.{is_among}

-- no call fails by the plan
abbrev pub IsEmptyPlan : FailPlan → Type 0
IsEmptyPlan plan = (plan.calls.items ≡ []) × (plan.from ≡ None)

-- the count is this one or a later one
abbrev pub is_from : Option ℕ → ℕ → Bool
is_from None call = false
is_from (Some first) call = nat_le first call

-- the call that is counted so fails by the plan
abbrev pub fails_at : FailPlan → ℕ → Bool
fails_at plan call = is_from plan.from call || is_among plan.calls.items call

-- no call fails by these plans
pub record AreEmptyPlans (plans : Plans) : Type 0 where
  pub journal : IsEmptyPlan plans.journal
  pub port : IsEmptyPlan plans.port
  pub maker : IsEmptyPlan plans.maker
