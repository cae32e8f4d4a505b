use Rattle.std.proofs.Common.{◌≡◌, List}
use Rattle.std.specs.Prelude.{find}
use Rattle.peb_base.specs.Profiles.{column}
use Rattle.flsm_model.specs.Claims.{is_free}
use Rattle.flsm_model.specs.Events.{Running}
use Rattle.flsm_model.specs.Picking.{ranges_at}
use Rattle.flsm_model.specs.Shape.{Shape}
use Rattle.job_picker.specs.Kept.{AreClaimsOf}
use Rattle.job_picker.specs.Seen.{IsVersion, AreCandidates, jobs_in}
use Rattle.job_picker.proofs.Walks.{left_from}
use Rattle.job_picker.proofs.picking.pick_at.Given as goal

abbrev pub invariant-loop-guard : goal.invariant-loop-guard
invariant-loop-guard g l = (s : Shape) (rs : List Running) → IsVersion g.T.HasRow.the_row (column l.options.profile) l.version s → AreCandidates l.candidates s → AreClaimsOf l.claims rs
    → find (λ j. is_free j rs) (jobs_in (column l.options.profile) s l.level (ranges_at s l.level))
    ≡ find (λ j. is_free j rs) (jobs_in (column l.options.profile) s l.level (left_from l.version l.level l.guard))
