use Rattle.std.proofs.Common.{◌≡◌, ◌<◌, ℕ, ap, ◌∙◌, sym, arith}
use Rattle.std.proofs.lemmas.Result.{IfOk-weaker}
use Rattle.std.specs.Prelude.{find}
use Rattle.peb_base.specs.Profiles.{column, Column}
use Rattle.flsm_model.specs.Claims.{is_free}
use Rattle.flsm_model.specs.Picking.{ranges_at}
use Rattle.job_picker.specs.Seen.{jobs_in, jobs_from}
use Rattle.job_picker.proofs.Walks.{level_behind, level_found, level_last, next_is}
use Rattle.job_picker.proofs.picking.pick_below.Goals as goal

pub loop-level-preserved : goal.loop-level-preserved
loop-level-preserved g c = λ s rs is candidates are.
    let o : Column = column c.args.options.now.profile in
    let level : ℕ = c.loop-level.level in
    let last : c.args.options.now.last_level ≡ o.last_level = c.args.options.now.last_level_of in
    let less : level < o.last_level = omega (arith, last, c.loop-level-test.true) in
    c.loop-level.invariant s rs is candidates are
    ∙ level_behind o s (λ j. is_free j rs) level less (sym c.in_default.is ∙ c.in_ok-found.ensures s rs is candidates are)
    ∙ ap (λ n. find (λ j. is_free j rs) (jobs_from o s n)) (sym (next_is level))

pub returns-in-Some : goal.returns-in-Some
returns-in-Some g c = λ s rs is candidates are.
    let o : Column = column c.args.options.now.profile in
    let level : ℕ = c.loop-level.level in
    let last : c.args.options.now.last_level ≡ o.last_level = c.args.options.now.last_level_of in
    let less : level < o.last_level = omega (arith, last, c.loop-level-test.true) in
    sym (c.loop-level.invariant s rs is candidates are
    ∙ level_found o s (λ j. is_free j rs) level c.in-Some.job less (sym c.in-Some.is ∙ c.in_ok-found.ensures s rs is candidates are))

pub returns : goal.returns
returns g c =
    let o : Column = column c.args.options.now.profile in
    let level : ℕ = c.loop-level.level in
    let last : c.args.options.now.last_level ≡ o.last_level = c.args.options.now.last_level_of in
    let at : level ≡ c.args.options.now.last_level = omega (arith, c.loop-level-test.false, c.loop-level.auto.level-end) in
    IfOk-weaker c.pick_at-2.result _ _ (λ found first s rs is candidates are.
    first s rs is candidates are
    ∙ ap (λ l. find (λ j. is_free j rs) (jobs_in o s l (ranges_at s l))) (sym at)
    ∙ sym (ap (find (λ j. is_free j rs)) (level_last o s level (at ∙ last)))
    ∙ sym (c.loop-level.invariant s rs is candidates are))
    c.pick_at-2.ensures
