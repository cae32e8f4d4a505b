use Rattle.std.proofs.Common.{◌≡◌, List}
use Rattle.std.specs.Prelude.{find}
use Rattle.peb_base.specs.Profiles.{column}
use Rattle.flsm_model.specs.Claims.{is_free}
use Rattle.flsm_model.specs.Events.{Running}
use Rattle.flsm_model.specs.Shape.{Shape}
use Rattle.job_picker.specs.Kept.{AreClaimsOf}
use Rattle.job_picker.specs.Seen.{IsVersion, AreCandidates, jobs_from}
use Rattle.job_picker.proofs.picking.pick_below.Given as goal

abbrev pub invariant-loop-level : goal.invariant-loop-level
invariant-loop-level g l = (s : Shape) (rs : List Running) → IsVersion g.T.HasRow.the_row (column l.options.profile) l.version s → AreCandidates l.candidates s → AreClaimsOf l.claims rs
    → find (λ j. is_free j rs) (jobs_from (column l.options.profile) s 0) ≡ find (λ j. is_free j rs) (jobs_from (column l.options.profile) s l.level)
