use Rattle.std.proofs.Common.{◌≡◌}
use Rattle.peb_base.specs.Profiles.{column}
use Rattle.flsm_model.specs.Fits.{is_some_list}
use Rattle.flsm_model.specs.Shape.{Shape}
use Rattle.job_picker.specs.Seen.{IsVersion, jobs_from}
use Rattle.job_picker.proofs.picking.is_any_over.Given as goal

abbrev pub invariant-loop-level : goal.invariant-loop-level
invariant-loop-level g l = (s : Shape) → IsVersion g.T.HasRow.the_row (column l.options.profile) l.version s
    → is_some_list (jobs_from (column l.options.profile) s 0) ≡ is_some_list (jobs_from (column l.options.profile) s l.level)
