use Rattle.std.proofs.Common.{◌≡◌, List, ap, ◌∙◌, sym, not}
use Rattle.std.specs.Option.{option_copied}
use Rattle.std.specs.Prelude.{find, Some, None}
use Rattle.peb_base.specs.Keys.{Bytes}
use Rattle.peb_base.specs.Profiles.{column, Column}
use Rattle.flsm_model.specs.Picking.{cut_job}
use Rattle.flsm_model.specs.Ranges.{has_key, range_of}
use Rattle.flsm_model.specs.Shape.{guards_at}
use Rattle.job_picker.specs.Seen.{keys_at}
use Rattle.job_picker.proofs.Wanted.{cond_key, cut_or_is}
use Rattle.job_picker.proofs.jobs.cut_at.Goals as goal

pub returns-clause-job : goal.returns-clause-job
returns-clause-job g c = λ s other is candidates.
    let o : Column = column c.args.options.now.profile in
    let level = c.args.level in
    let wanted : List Bytes = c.args.wanted.now in
    let key : Bytes = c.in-Some.key.now in
    let first : Some key ≡ find (λ k. not (has_key k (keys_at c.args.version.now level))) wanted =
    ap option_copied (sym c.in-Some.is) ∙ c.first_missing.ensures ∙ ap (λ (ks : List Bytes). find (λ k. not (has_key k ks)) wanted) c.keys_of.ensures.keys in
    cut_or_is o s level (λ k. not (has_key k (keys_at c.args.version.now level))) wanted other
    ∙ ap (λ k. cond_key o s level k other) (sym first)
    ∙ ap (λ k. cut_job o s level (range_of (guards_at s level) k)) (sym c.bytes.ensures.value)
    ∙ sym (c.in_ok-job.ensures.job s is candidates)

pub returns-in_default-clause-job : goal.returns-in_default-clause-job
returns-in_default-clause-job g c = λ s other is candidates.
    let o : Column = column c.args.options.now.profile in
    let level = c.args.level in
    let wanted : List Bytes = c.args.wanted.now in
    let first : None ≡ find (λ k. not (has_key k (keys_at c.args.version.now level))) wanted =
    ap option_copied (sym c.in_default.is) ∙ c.first_missing.ensures ∙ ap (λ (ks : List Bytes). find (λ k. not (has_key k ks)) wanted) c.keys_of.ensures.keys in
    cut_or_is o s level (λ k. not (has_key k (keys_at c.args.version.now level))) wanted other
    ∙ ap (λ k. cond_key o s level k other) (sym first)
