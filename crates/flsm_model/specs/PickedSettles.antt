-- A job that is picked settles the store.
use Rattle.std.specs.Prelude.{◌≡◌, ◌<◌, ℕ, Some}
use Rattle.peb_base.specs.Profiles.{Column}
use Rattle.flsm_model.specs.declared.edit.Edit.{Edit}
use Rattle.flsm_model.specs.declared.job.Job.{Job}
use Rattle.flsm_model.specs.declared.job_kind.JobKind.TheVariants.{Flush as FlushJob}
use Rattle.flsm_model.specs.Events.{Session, Standing}
use Rattle.flsm_model.specs.Outcomes.{IsFormed, IsOutcome}
use Rattle.flsm_model.specs.Picking.{picked}
use Rattle.flsm_model.specs.Settling.{HasWork, LeavesLess}

-- what the job that is picked would make now leaves less to do
abbrev pub PickedSettles : Column → Standing → Type 0
PickedSettles o w =
    (n : Session) → w.session ≡ Some n → (j : Job) → picked o w n ≡ Some j → (e : Edit)
    → IsOutcome o w n j e
    → LeavesLess o w n e

-- each edit that the picked job may make has work, a Flush where it has entries
abbrev pub PickedHasWork : Column → Standing → Type 0
PickedHasWork o w =
    (n : Session) → w.session ≡ Some n → (j : Job) → picked o w n ≡ Some j
    → (frozen : ℕ) → (j.kind ≡ FlushJob → 0 < frozen)
    → (e : Edit) → IsFormed o w.tree.shape n j e → HasWork o w.tree.shape frozen e
