use Rattle.std.proofs.Common.{◌≡◌, ap, ◌∙◌, sym}
use Rattle.std.proofs.lemmas.Result.{IfOk-weaker}
use Rattle.std.specs.Prelude.{Some}
use Rattle.peb_base.specs.Profiles.{column, Column}
use Rattle.flsm_model.specs.Claims.{is_free}
use Rattle.flsm_model.specs.Picking.{flush_job}
use Rattle.job_picker.proofs.Walks.{flush_found, flush_kept, none_frozen}
use Rattle.job_picker.proofs.picking.pick.Goals as goal

pub returns-then-not-frozen : goal.returns-then-not-frozen
returns-then-not-frozen g c =
    let o : Column = column c.args.options.now.profile in
    IfOk-weaker c.pick_below.result _ _ (λ found first s to rs is candidates e are.
    first s rs is candidates are ∙ none_frozen o s (λ j. is_free j rs) to (sym c.if-not-frozen.true ∙ e))
    c.pick_below.ensures

pub returns-then-branch : goal.returns-then-branch
returns-then-branch g c = λ s to rs is candidates e are.
    let o : Column = column c.args.options.now.profile in
    let flush : c.in_ok-job.job ≡ flush_job = c.in_ok-job.ensures in
    ap (λ j. Some j) flush
    ∙ flush_found o s (λ j. is_free j rs) to (sym c.if-not-frozen.false ∙ e)
    (ap (λ j. is_free j rs) (sym flush) ∙ sym (c.in_ok-is_free.ensures rs are) ∙ c.if-branch.true)

pub returns : goal.returns
returns g c =
    let o : Column = column c.args.options.now.profile in
    let flush : c.in_ok-job.job ≡ flush_job = c.in_ok-job.ensures in
    IfOk-weaker c.pick_below-2.result _ _ (λ found first s to rs is candidates e are.
    first s rs is candidates are
    ∙ flush_kept o s (λ j. is_free j rs) to (ap (λ j. is_free j rs) (sym flush) ∙ sym (c.in_ok-is_free.ensures rs are) ∙ c.if-branch.false))
    c.pick_below-2.ensures
