use Rattle.std.proofs.Common.{◌||◌, ap, ◌∙◌, sym}
use Rattle.peb_base.specs.Profiles.{column, Column}
use Rattle.flsm_model.specs.Fits.{is_some_list}
use Rattle.job_picker.specs.Seen.{jobs_from}
use Rattle.job_picker.proofs.Walks.{some_wanted}
use Rattle.job_picker.proofs.picking.due.Goals as goal

pub returns-then-frozen : goal.returns-then-frozen
returns-then-frozen g c = λ s to is e.
    let o : Column = column c.args.options.now.profile in
    c.if-frozen.true ∙ sym (some_wanted o s to ∙ ap (λ b. b || is_some_list (jobs_from o s 0)) (sym e ∙ c.if-frozen.true))

pub returns-else-frozen : goal.returns-else-frozen
returns-else-frozen g c = λ s to is e.
    let o : Column = column c.args.options.now.profile in
    c.is_any_over.ensures s is ∙ sym (some_wanted o s to ∙ ap (λ b. b || is_some_list (jobs_from o s 0)) (sym e ∙ c.if-frozen.false))
