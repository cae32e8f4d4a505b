use Rattle.std.proofs.Common.{◌≡◌, ◌∙◌, ℕ, Bool, true, false, not, refl}
use Rattle.std.specs.Prelude.{Option, Some, None, is_none, is_some}
use Rattle.job_picker.proofs.picking.is_free.Goals as goal

none_is : (o : Option ℕ) (b : Bool) → is_some o ≡ not b → b ≡ is_none o
none_is None true e = refl
none_is None false e = cc
none_is (Some n) true e = cc
none_is (Some n) false e = refl

pub returns : goal.returns
returns c = λ rs are. none_is c.conflict.result c.is_none.result c.is_none.ensures ∙ c.conflict.ensures.jobs rs c.args.job.now are c.in_ok-own.ensures
