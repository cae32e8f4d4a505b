use Rattle.std.proofs.Common.{◌≡◌, ◌≤◌, ◌-◌, suc}
use Rattle.peb_base.specs.Profiles.{column}
use Rattle.flsm_model.specs.declared.job.Job.{Job}
use Rattle.flsm_model.specs.GuardRanges.{range_at}
use Rattle.flsm_model.specs.Picking.{job_at}
use Rattle.flsm_model.specs.Shape.{Shape}
use Rattle.job_picker.specs.Seen.{keys_at, IsVersion, AreCandidates}
use Rattle.job_picker.proofs.jobs.cut_before.Given as goal

abbrev pub invariant-loop-deeper : goal.invariant-loop-deeper
invariant-loop-deeper g l = record {
  above : l.level ≤ l.deeper;
  upto : l.deeper ≤ l.options.last_level;
  job : (s : Shape) (other : Job) → IsVersion g.T.HasRow.the_row (column l.options.profile) l.version s → AreCandidates l.candidates s
      → job_at (column l.options.profile) s (suc l.level) (range_at (keys_at l.version l.level) l.guard) (l.options.last_level - l.level) other
      ≡ job_at (column l.options.profile) s (suc l.level) (range_at (keys_at l.version l.level) l.guard) (l.deeper - l.level) other;
}

abbrev pub decreases-loop-deeper : goal.decreases-loop-deeper
decreases-loop-deeper g l = l.deeper
