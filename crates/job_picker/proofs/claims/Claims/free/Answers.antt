use Rattle.std.proofs.Common.{◌≤◌, length, sym, subst, ◌∙◌, None, rules}
use Rattle.std.proofs.lemmas.List.{set_past}
use Rattle.flsm_model.specs.Steps.{without_job}
use Rattle.job_picker.specs.Kept.{Kept, AreClaimsOf}
use Rattle.job_picker.proofs.InFlight.{kept_fewer}
use Rattle.job_picker.proofs.claims.Claims.free.Goals as goal

pub returns-then-worker-len-clause-jobs : goal.returns-then-worker-len-clause-jobs
returns-then-worker-len-clause-jobs c = λ rs are.
    kept_fewer c.self.inside.kept.items rs c.args.worker (subst (λ (kept : Kept). AreClaimsOf kept rs) (sym c.self.view_is) are)

pub returns-else-worker-len-clause-jobs : goal.returns-else-worker-len-clause-jobs
returns-else-worker-len-clause-jobs c = λ rs are.
    let past : length c.self.inside.kept.items ≤ c.args.worker = search rules in
    let same = set_past c.self.inside.kept.items c.args.worker None past in
    subst (λ (kept : Kept). AreClaimsOf kept (without_job rs c.args.worker)) (same ∙ c.self.view_is)
    (kept_fewer c.self.inside.kept.items rs c.args.worker (subst (λ (kept : Kept). AreClaimsOf kept rs) (sym c.self.view_is) are))
