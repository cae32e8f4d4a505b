use Rattle.std.proofs.Common.{◌≡◌, true, map, ap, ◌∙◌}
use Rattle.std.specs.Option.{option_copied}
use Rattle.std.specs.Prelude.{Option}
use Rattle.peb_base.specs.Keys.{Bytes}
use Rattle.flsm_model.specs.declared.job.Job.{Job}
use Rattle.flsm_model.specs.GuardRanges.{range_at}
use Rattle.flsm_model.specs.Picking.{numbers_of}
use Rattle.job_picker.specs.Seen.{keys_at, tables_at}
use Rattle.job_picker.proofs.Wanted.{merge_is}
use Rattle.job_picker.proofs.jobs.merge_job.Goals as goal

pub returns-clause-job : goal.returns-clause-job
returns-clause-job g c = λ o s is.
    let row = g.T.HasRow.the_row in
    let v = c.args.version.now in
    let level = c.args.level in
    let guard = c.args.guard in
    let range : Bytes × Option Bytes = (c.of-range.result.lo.now, option_copied c.of-range.result.hi) in
    let range_is : range ≡ range_at (keys_at v level) guard = c.of-range.ensures ∙ ap (λ ks. range_at ks guard) c.keys_of.ensures.keys in
    let inputs_are : c.in_ok-inputs.inputs.items ≡ numbers_of (map row (tables_at v level guard)) = c.in_ok-inputs.ensures ∙ ap (λ ts. numbers_of (map row ts)) c.tables_of.ensures in
    let whole : Job → Job = λ job. record job { whole = true } in
    ap whole c.in_ok-job.ensures
    ∙ merge_is row o v s level guard range c.in_ok-inputs.inputs.items c.new.result.items is c.requires.level c.keys_of.ensures.ascend c.requires.guard range_is inputs_are c.new.ensures.items
