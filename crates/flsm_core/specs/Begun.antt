-- What an opening hands over.
use Rattle.std.specs.Prelude.{◌≡◌, ℕ, ◌≤◌, true, IsTrue, []}
use Rattle.peb_base.specs.Batches.{last_number, are_in_order}
use Rattle.peb_base.specs.Map.{map_at}
use Rattle.disk_model.specs.Images.{Image}
use Rattle.disk_model.specs.declared.journal.Journal.{Ghosts}
use Rattle.record_log.specs.State.{log_tail}
use Rattle.store_layout.specs.Recorded.{StandsBeside}
use Rattle.flsm_core.specs.declared.parts.Parts.{Parts}
use Rattle.flsm_core.specs.Place.{Start, opened}
use Rattle.flsm_core.specs.Standing.{Rests}

-- The parts have the base of an opening that began so, whose first log is this one: the map of its
-- batches, their last number, and a log in which nothing waits, behind those that spell them. Each
-- crash since it began has left the base, and the record as it was or with the opening.
pub record IsBegun {D : Type 0} (d : Ghosts D) (parts : Parts D) (start : Start)
    (log : ℕ) : Type 0 where
  pub began : start.moment ≤ d.moment parts.journal
  pub counted : start.faults ≤ d.faults parts.journal
  pub ordered : are_in_order start.base ≡ true
  pub last : parts.last ≡ last_number start.base
  pub current : parts.current ≡ map_at start.base (last_number start.base)
  pub tail : log_tail parts.log ≡ []
  pub past : IsTrue d.tells → IsTrue start.honest → (image : Image)
      → d.left_since parts.journal start.moment image
      → StandsBeside start.profile start.base start.edits log image
  pub rests : IsTrue d.tells → Rests d parts.journal parts.log parts.session (opened start log)
