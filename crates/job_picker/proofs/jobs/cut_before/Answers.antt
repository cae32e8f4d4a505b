use Rattle.std.proofs.Common.{◌≡◌, ◌≤◌, ◌-◌, suc, List, length, ap, ◌∙◌, not, arith}
use Rattle.std.specs.Option.{option_copied}
use Rattle.std.specs.Prelude.{filter, Option, unwrap_or}
use Rattle.peb_base.specs.Keys.{Bytes}
use Rattle.peb_base.specs.Profiles.{column, Column}
use Rattle.flsm_model.specs.declared.job.Job.{Job}
use Rattle.flsm_model.specs.GuardRanges.{range_at}
use Rattle.flsm_model.specs.Picking.{job_at}
use Rattle.flsm_model.specs.Ranges.{has_key}
use Rattle.job_picker.specs.Seen.{keys_at}
use Rattle.job_picker.proofs.Wanted.{missing_here, cut_step, no_deeper}
use Rattle.job_picker.proofs.jobs.cut_before.Goals as goal

pub loop-deeper-preserved : goal.loop-deeper-preserved
loop-deeper-preserved g c =
    let deeper = c.loop-deeper.deeper in
    let level = c.args.level in
    record {
      above = omega (arith, c.loop-deeper-test.true);
      upto = omega (arith, c.loop-deeper.invariant.upto);
      job = λ s other is candidates.
          let o : Column = column c.args.options.now.profile in
          let v = c.args.version.now in
          let at : Bytes × Option Bytes = range_at (keys_at v level) c.args.guard in
          let range : Bytes × Option Bytes = (c.of-range.result.lo.now, option_copied c.of-range.result.hi) in
          let range_is : range ≡ at = c.of-range.ensures ∙ ap (λ ks. range_at ks c.args.guard) c.keys_of.ensures.keys in
          let wanted : List Bytes = c.in_ok-wanted.wanted.items in
          let le : deeper ≤ length v.levels = omega (arith, c.loop-deeper.invariant.upto, c.requires.levels) in
          let keys = missing_here g.T.HasRow.the_row o v s c.args.candidates.now level deeper range at wanted c.law_candidates.ensures.ascend c.law_candidates.ensures.equal is candidates le range_is c.in_ok-wanted.ensures.ascend c.in_ok-wanted.ensures.keys in
          let rest : Job = job_at o s (suc level) at (deeper - 1 - level) other in
          let lent : filter (λ k. not (has_key k (keys_at v deeper))) c.deref.result.now ≡ filter (λ k. not (has_key k (keys_at v deeper))) wanted = ap (λ (ks : List Bytes). filter (λ k. not (has_key k (keys_at v deeper))) ks) c.deref.ensures.value in
          c.loop-deeper.invariant.job s other is candidates
          ∙ cut_step o s at level deeper other (filter (λ k. not (has_key k (keys_at v deeper))) c.deref.result.now) c.in_ok-cut.field-0 c.loop-deeper-test.true (lent ∙ keys) (c.in_ok-cut.ensures.job s rest is candidates)
          ∙ ap (λ (f : Option Job). unwrap_or f rest) c.in_default.is;
    }

pub returns-in-Some-clause-job : goal.returns-in-Some-clause-job
returns-in-Some-clause-job g c = λ s other is candidates.
    let deeper = c.loop-deeper.deeper in
    let level = c.args.level in
    let o : Column = column c.args.options.now.profile in
    let v = c.args.version.now in
    let at : Bytes × Option Bytes = range_at (keys_at v level) c.args.guard in
    let range : Bytes × Option Bytes = (c.of-range.result.lo.now, option_copied c.of-range.result.hi) in
    let range_is : range ≡ at = c.of-range.ensures ∙ ap (λ ks. range_at ks c.args.guard) c.keys_of.ensures.keys in
    let wanted : List Bytes = c.in_ok-wanted.wanted.items in
    let le : deeper ≤ length v.levels = omega (arith, c.loop-deeper.invariant.upto, c.requires.levels) in
    let keys = missing_here g.T.HasRow.the_row o v s c.args.candidates.now level deeper range at wanted c.law_candidates.ensures.ascend c.law_candidates.ensures.equal is candidates le range_is c.in_ok-wanted.ensures.ascend c.in_ok-wanted.ensures.keys in
    let rest : Job = job_at o s (suc level) at (deeper - 1 - level) other in
    let lent : filter (λ k. not (has_key k (keys_at v deeper))) c.deref.result.now ≡ filter (λ k. not (has_key k (keys_at v deeper))) wanted = ap (λ (ks : List Bytes). filter (λ k. not (has_key k (keys_at v deeper))) ks) c.deref.ensures.value in
    c.loop-deeper.invariant.job s other is candidates
    ∙ cut_step o s at level deeper other (filter (λ k. not (has_key k (keys_at v deeper))) c.deref.result.now) c.in_ok-cut.field-0 c.loop-deeper-test.true (lent ∙ keys) (c.in_ok-cut.ensures.job s rest is candidates)
    ∙ ap (λ (f : Option Job). unwrap_or f rest) c.in-Some.is

pub returns-clause-job : goal.returns-clause-job
returns-clause-job g c = λ s other is candidates.
    let o : Column = column c.args.options.now.profile in
    let at : Bytes × Option Bytes = range_at (keys_at c.args.version.now c.args.level) c.args.guard in
    c.loop-deeper.invariant.job s other is candidates ∙ no_deeper o s at c.args.level c.loop-deeper.deeper other c.loop-deeper-test.false
