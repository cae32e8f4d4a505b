use Rattle.std.proofs.Common.{◌≡◌, ◌∙◌, sym, arith}
use Rattle.peb_base.specs.Profiles.{column}
use Rattle.flsm_model.specs.Claims.{is_free}
use Rattle.flsm_model.specs.GuardRanges.{range_at}
use Rattle.job_picker.specs.Seen.{keys_at}
use Rattle.job_picker.proofs.Walks.{one_found, one_kept, few_levels}
use Rattle.job_picker.proofs.picking.free_at.Goals as goal

pub is_free-requires : goal.is_free-requires
is_free-requires g c =
    let few = few_levels c.args.options.now.profile in
    let last : c.args.options.now.last_level ≡ (column c.args.options.now.profile).last_level = c.args.options.now.last_level_of in
    omega (arith, c.in_ok-job.ensures.level, few, last)

pub returns-then-branch : goal.returns-then-branch
returns-then-branch g c = λ s rs is candidates are.
    one_found (column c.args.options.now.profile) s c.args.level (range_at (keys_at c.args.version.now c.args.level) c.args.guard) (λ j. is_free j rs) c.in_ok-job.job
    (c.in_ok-job.ensures.job s is candidates) (sym (c.in_ok-is_free.ensures rs are) ∙ c.if-branch.true)

pub returns : goal.returns
returns g c = λ s rs is candidates are.
    one_kept (column c.args.options.now.profile) s c.args.level (range_at (keys_at c.args.version.now c.args.level) c.args.guard) (λ j. is_free j rs) c.in_ok-job.job
    (c.in_ok-job.ensures.job s is candidates) (sym (c.in_ok-is_free.ensures rs are) ∙ c.if-branch.false)
