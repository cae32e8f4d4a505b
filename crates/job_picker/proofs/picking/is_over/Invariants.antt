use Rattle.std.proofs.Common.{◌≡◌}
use Rattle.std.specs.Prelude.{filter}
use Rattle.peb_base.specs.Profiles.{column}
use Rattle.flsm_model.specs.Picking.{over_at}
use Rattle.flsm_model.specs.Shape.{Shape}
use Rattle.job_picker.specs.Seen.{IsVersion}
use Rattle.job_picker.proofs.Walks.{is_over, left_from}
use Rattle.job_picker.proofs.picking.is_over.Given as goal

abbrev pub invariant-loop-guard : goal.invariant-loop-guard
invariant-loop-guard g l = (s : Shape) → IsVersion g.T.HasRow.the_row (column l.options.profile) l.version s
    → over_at (column l.options.profile) s l.level ≡ filter (is_over (column l.options.profile) s l.level) (left_from l.version l.level l.guard)
