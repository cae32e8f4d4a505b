use Rattle.std.proofs.Common.{◌≡◌, ◌<◌, ◌-◌, suc, ap, ◌∙◌, sym, arith}
use Rattle.std.proofs.lemmas.Result.{IfOk-weaker}
use Rattle.std.specs.Prelude.{Option, unwrap_or}
use Rattle.peb_base.specs.Keys.{Bytes}
use Rattle.peb_base.specs.Profiles.{column, Column}
use Rattle.flsm_model.specs.declared.job.Job.{Job}
use Rattle.flsm_model.specs.GuardRanges.{range_at}
use Rattle.flsm_model.specs.Picking.{job_at, move_job}
use Rattle.job_picker.specs.Seen.{keys_at}
use Rattle.job_picker.proofs.Wanted.{target_is, last_is}
use Rattle.job_picker.proofs.jobs.job_of.Goals as goal

pub returns-then-level-options-clause-job : goal.returns-then-level-options-clause-job
returns-then-level-options-clause-job g c =
    let o : Column = column c.args.options.now.profile in
    let last : c.args.level ≡ o.last_level = c.if-level-options.true ∙ c.args.options.now.last_level_of in
    IfOk-weaker c.merge_job.result _ _ (λ job merged s is candidates. merged o s is ∙ sym (last_is o s (range_at (keys_at c.args.version.now c.args.level) c.args.guard) c.args.level last)) c.merge_job.ensures.job

pub returns-in-Some-clause-job : goal.returns-in-Some-clause-job
returns-in-Some-clause-job g c = λ s is candidates.
    let o : Column = column c.args.options.now.profile in
    let level = c.args.level in
    let at : Bytes × Option Bytes = range_at (keys_at c.args.version.now level) c.args.guard in
    let last : c.args.options.now.last_level ≡ o.last_level = c.args.options.now.last_level_of in
    let less : level < o.last_level = omega (arith, c.if-level-options.false, c.requires.level, last) in
    let move : Job = move_job s level at in
    sym (target_is o s at level less ∙ ap (λ n. job_at o s (suc level) at (n - level) move) (sym last) ∙ c.in_ok-cut.ensures.job s move is candidates ∙ ap (λ (f : Option Job). unwrap_or f move) c.in-Some.is)

pub returns-in-None-clause-job : goal.returns-in-None-clause-job
returns-in-None-clause-job g c =
    let o : Column = column c.args.options.now.profile in
    let level = c.args.level in
    let at : Bytes × Option Bytes = range_at (keys_at c.args.version.now level) c.args.guard in
    let last : c.args.options.now.last_level ≡ o.last_level = c.args.options.now.last_level_of in
    let less : level < o.last_level = omega (arith, c.if-level-options.false, c.requires.level, last) in
    IfOk-weaker c.move_job.result _ _ (λ job moved s is candidates.
    let move : Job = move_job s level at in
    moved o s is
    ∙ sym (target_is o s at level less ∙ ap (λ n. job_at o s (suc level) at (n - level) move) (sym last) ∙ c.in_ok-cut.ensures.job s move is candidates ∙ ap (λ (f : Option Job). unwrap_or f move) c.in-None.is))
    c.move_job.ensures.job
