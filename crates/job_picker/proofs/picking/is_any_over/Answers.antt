use Rattle.std.proofs.Common.{◌≡◌, ◌<◌, ℕ, true, false, ap, ◌∙◌, sym, arith}
use Rattle.peb_base.specs.Profiles.{column, Column}
use Rattle.flsm_model.specs.Fits.{is_some_list}
use Rattle.flsm_model.specs.Picking.{over_at}
use Rattle.job_picker.specs.Seen.{jobs_from}
use Rattle.job_picker.proofs.Walks.{some_more, some_last, next_is}
use Rattle.job_picker.proofs.picking.is_any_over.Goals as goal

pub loop-level-preserved : goal.loop-level-preserved
loop-level-preserved g c = λ s is.
    let o : Column = column c.args.options.now.profile in
    let level : ℕ = c.loop-level.level in
    let last : c.args.options.now.last_level ≡ o.last_level = c.args.options.now.last_level_of in
    let less : level < o.last_level = omega (arith, last, c.loop-level-test.true) in
    c.loop-level.invariant s is ∙ some_more o s level false less (sym c.if-is_over.false ∙ c.is_over.ensures s is) ∙ ap (λ n. is_some_list (jobs_from o s n)) (sym (next_is level))

pub returns-then-is_over : goal.returns-then-is_over
returns-then-is_over g c = λ s is.
    let o : Column = column c.args.options.now.profile in
    let level : ℕ = c.loop-level.level in
    let last : c.args.options.now.last_level ≡ o.last_level = c.args.options.now.last_level_of in
    let less : level < o.last_level = omega (arith, last, c.loop-level-test.true) in
    sym (c.loop-level.invariant s is ∙ some_more o s level true less (sym c.if-is_over.true ∙ c.is_over.ensures s is))

pub returns : goal.returns
returns g c = λ s is.
    let o : Column = column c.args.options.now.profile in
    let level : ℕ = c.loop-level.level in
    let last : c.args.options.now.last_level ≡ o.last_level = c.args.options.now.last_level_of in
    let at : level ≡ c.args.options.now.last_level = omega (arith, c.loop-level-test.false, c.loop-level.auto.level-end) in
    c.is_over-2.ensures s is ∙ ap (λ l. is_some_list (over_at o s l)) (sym at) ∙ sym (some_last o s level (at ∙ last)) ∙ sym (c.loop-level.invariant s is)
