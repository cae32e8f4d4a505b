use Rattle.std.proofs.Common.{ap, ◌∙◌, rules}
use Rattle.std.specs.Prelude.{is_none}
use Rattle.job_picker.specs.Kept.{first_conflict}
use Rattle.job_picker.proofs.InFlight.{conflict_free}
use Rattle.job_picker.proofs.claims.Claims.conflict.Goals as goal

pub returns-in-Some-clause-first : goal.returns-in-Some-clause-first
returns-in-Some-clause-first c = search rules

pub returns-in-None-clause-first : goal.returns-in-None-clause-first
returns-in-None-clause-first c = search rules

pub returns-in-Some-clause-jobs : goal.returns-in-Some-clause-jobs
returns-in-Some-clause-jobs c = λ rs j are is.
    let first = returns-in-Some-clause-first c in
    ap is_none (first ∙ ap (first_conflict c.args.self.now) is) ∙ conflict_free c.args.self.now rs j are

pub returns-in-None-clause-jobs : goal.returns-in-None-clause-jobs
returns-in-None-clause-jobs c = λ rs j are is.
    let first = returns-in-None-clause-first c in
    ap is_none (first ∙ ap (first_conflict c.args.self.now) is) ∙ conflict_free c.args.self.now rs j are
