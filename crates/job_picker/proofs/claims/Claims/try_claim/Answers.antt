use Rattle.std.proofs.Common.{◌≡◌, ◌<◌, length, sym, subst, ap, ◌∙◌, set, Some, None, rules}
use Rattle.flsm_model.specs.declared.claim.Claim.{Claim}
use Rattle.std.specs.Prelude.{List, ◌∷◌}
use Rattle.job_picker.specs.Kept.{Kept, kept_by, AreClaimsOf}
use Rattle.job_picker.proofs.InFlight.{kept_more}
use Rattle.job_picker.proofs.claims.Claims.try_claim.Goals as goal

pub returns-clause-jobs : goal.returns-clause-jobs
returns-clause-jobs c = λ rs j are is.
    let kept = c.self.inside.kept.items in
    let within : c.args.worker < length kept = search rules in
    let none : kept_by kept c.args.worker ≡ None = ap (λ (k : Kept). kept_by k c.args.worker) c.self.view_is ∙ c.requires.none in
    subst (λ (claims : List Claim). AreClaimsOf (set kept c.args.worker (Some claims)) ((c.args.worker, j) ∷ rs)) (sym is)
    (kept_more kept rs c.args.worker j (subst (λ (k : Kept). AreClaimsOf k rs) (sym c.self.view_is) are) within none)
