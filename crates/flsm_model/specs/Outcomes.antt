-- What a job makes.
use Rattle.std.specs.Prelude.{◌≡◌, ℕ, suc, ◌+◌, true, ◌&&◌, List, [], ◌∷◌, nat_lt, nat_le, Option, Some, None}
use Rattle.std.specs.List.{list_all, AllZip}
use Rattle.peb_base.specs.Batches.{Batches, entries_of}
use Rattle.peb_base.specs.Entries.{entries_between, in_order}
use Rattle.flsm_model.specs.Trees.{Describes, contents}
use Rattle.peb_base.specs.declared.entry.Entry.{Entry}
use Rattle.peb_base.specs.Profiles.{Column}
use Rattle.flsm_model.specs.declared.edit.Edit.{Edit}
use Rattle.flsm_model.specs.declared.edit.Edit.TheVariants.{Flush, Move, Cut, Merge}
use Rattle.flsm_model.specs.declared.job_kind.JobKind.{JobKind}
use Rattle.flsm_model.specs.declared.job_kind.JobKind.TheVariants.{Flush as FlushJob, Move as MoveJob, Cut as CutJob, Merge as MergeJob}
use Rattle.flsm_model.specs.declared.job.Job.{Job}
use Rattle.flsm_model.specs.Shape.{Shape, outputs_of}
use Rattle.flsm_model.specs.Fits.{fits, lies_in}
use Rattle.flsm_model.specs.Choices.{Chooses}
use Rattle.flsm_model.specs.Events.{Running, Session, Attempt, Standing}
use Rattle.flsm_model.specs.Jobs.{numbers_needed, job_range}

-- the level into which a job of the kind writes
abbrev pub into_at : JobKind → Job → ℕ
into_at FlushJob j = 0
into_at MoveJob j = suc j.level
into_at CutJob j = j.level
into_at MergeJob j = j.level

-- the level into which a job writes
abbrev pub level_into : Job → ℕ
level_into j = into_at j.kind j

-- ---- contents

-- what is frozen: the entries above the last flush
abbrev pub frozen_entries : Batches → ℕ → Option ℕ → List (List Entry)
frozen_entries bs from None = []
frozen_entries bs from (Some to) = in_order (entries_between from to (entries_of bs)) ∷ []

-- the contents of the tables that a job of the kind makes now
abbrev pub outcome_at : JobKind → Column → Standing → Session → Job → List (List Entry)
outcome_at FlushJob o w n j = frozen_entries w.batches w.tree.shape.to n.frozen
outcome_at MoveJob o w n j = contents o w.batches w.tree (Move j.level j.floor j.inputs [])
outcome_at CutJob o w n j = contents o w.batches w.tree (Cut j.level j.keys j.inputs [])
outcome_at MergeJob o w n j = contents o w.batches w.tree (Merge j.floor j.whole j.inputs [])

-- the contents of the tables that a job makes now
abbrev pub outcome : Column → Standing → Session → Job → List (List Entry)
outcome o w n j = outcome_at j.kind o w n j

-- the job as an attempt
abbrev pub attempt : Column → Standing → Session → Job → Attempt
attempt o w n j = (level_into j, outcome o w n j)

-- each job as an attempt
abbrev pub attempts_of : Column → Standing → Session → List Running → List Attempt
attempts_of o w n [] = []
attempts_of o w n (r ∷ rs) = attempt o w n r.1 ∷ attempts_of o w n rs

-- ---- edits

-- the edit has the job's kind, level, keys, inputs, floor and `whole`; a flush goes up to the
-- frozen mark and names the log in use
abbrev pub IsEditOf : JobKind → Session → Job → Edit → Type 0
IsEditOf FlushJob n j (Flush row from to log chosen) =
    (n.frozen ≡ Some to) × (log ≡ n.log + n.freezes)
IsEditOf MoveJob n j (Move level floor inputs outputs) =
    (level ≡ j.level) × (floor ≡ j.floor) × (inputs ≡ j.inputs)
IsEditOf CutJob n j (Cut level keys inputs outputs) =
    (level ≡ j.level) × (keys ≡ j.keys) × (inputs ≡ j.inputs)
IsEditOf MergeJob n j (Merge floor whole inputs outputs) =
    (floor ≡ j.floor) × (whole ≡ j.whole) × (inputs ≡ j.inputs)
IsEditOf k n j e = ⊥

-- the edit is one that the job may have made: it fits, its outputs lie in the job's range, and
-- their numbers are the job's
pub record IsFormed (o : Column) (s : Shape) (n : Session) (j : Job) (e : Edit) : Type 0 where
  pub same : IsEditOf j.kind n j e
  pub fit : fits o s e ≡ true
  pub inside : list_all (lies_in (job_range j)) (outputs_of e) ≡ true
  pub numbers : list_all (λ r. nat_le j.numbers r.number
      && nat_lt r.number (j.numbers + numbers_needed j)) (outputs_of e) ≡ true

-- the edit is what the job has made: where contents are known, its rows describe them, and a flush
-- chooses their keys
pub record IsOutcome (o : Column) (w : Standing) (n : Session) (j : Job) (e : Edit) : Type 0 where
  pub formed : IsFormed o w.tree.shape n j e
  pub holds : w.told ≡ true → AllZip (Describes o) (outputs_of e) (contents o w.batches w.tree e)
  pub chooses : w.told ≡ true → Chooses o w.batches w.tree e
