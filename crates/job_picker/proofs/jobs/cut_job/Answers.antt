use Rattle.std.proofs.Common.{◌≡◌, ◌≤◌, length, map, ap, ◌∙◌, arith}
use Rattle.std.proofs.lemmas.Result.{IfOk-weaker}
use Rattle.std.specs.List.{list_any}
use Rattle.std.specs.Option.{option_copied}
use Rattle.std.specs.Prelude.{filter, Option}
use Rattle.peb_base.specs.Keys.{Bytes}
use Rattle.peb_base.specs.Profiles.{column, Column}
use Rattle.flsm_model.specs.Compaction.{straddles}
use Rattle.flsm_model.specs.GuardRanges.{range_at}
use Rattle.flsm_model.specs.Picking.{numbers_of}
use Rattle.job_picker.specs.Seen.{keys_at, tables_at, is_new_guard}
use Rattle.job_picker.proofs.Wanted.{cut_is}
use Rattle.job_picker.proofs.jobs.cut_job.Goals as goal

pub returns-clause-job : goal.returns-clause-job
returns-clause-job g c =
    let row = g.T.HasRow.the_row in
    let o : Column = column c.args.options.now.profile in
    let v = c.args.version.now in
    let level = c.args.level in
    let key = c.args.key.now in
    let guard = c.guard_of-guard.result in
    let range : Bytes × Option Bytes = (c.of-range.result.lo.now, option_copied c.of-range.result.hi) in
    let le : level ≤ length v.levels = omega (arith, c.requires.levels, c.requires.level) in
    let range_is : range ≡ range_at (keys_at v level) guard = c.of-range.ensures ∙ ap (λ ks. range_at ks guard) c.keys_of.ensures.keys in
    let keys_are : c.in_ok-keys.keys.items ≡ filter (is_new_guard v o.last_level level) c.in_ok-found.found.items =
    c.in_ok-keys.ensures ∙ ap (λ last. filter (is_new_guard v last level) c.in_ok-found.found.items) c.args.options.now.last_level_of in
    let inputs_are : c.in_ok-inputs.inputs.items ≡ numbers_of (filter (λ r. list_any (straddles r) c.in_ok-keys.keys.items) (map row (tables_at v level guard))) =
    c.in_ok-inputs.ensures ∙ ap (λ ks. numbers_of (filter (λ r. list_any (straddles r) ks) (map row c.tables_of.result.now))) c.deref.ensures.value
    ∙ ap (λ ts. numbers_of (filter (λ r. list_any (straddles r) c.in_ok-keys.keys.items) (map row ts))) c.tables_of.ensures in
    IfOk-weaker c.job_over.result _ _ (λ job job_is s is candidates.
    job_is ∙ cut_is row o v s c.args.candidates.now level guard key range c.in_ok-found.found.items c.in_ok-keys.keys.items c.in_ok-inputs.inputs.items
    c.law_candidates.ensures.ascend c.law_candidates.ensures.equal is candidates le c.keys_of.ensures.ascend
    c.guard_of-guard.ensures.guard c.guard_of-guard.ensures.within range_is c.in_ok-found.ensures.ascend c.in_ok-found.ensures.keys keys_are inputs_are)
    c.job_over.ensures
