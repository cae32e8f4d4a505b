-- What holds of each job in flight until it ends, whatever other jobs do.
use Rattle.std.specs.Prelude.{◌≡◌, ◌≢◌, ℕ, suc, ◌+◌, ◌<◌, ◌≤◌, true, false, ◌&&◌, not, [], ◌==◌, Some, None}
use Rattle.std.specs.List.{list_any, list_all}
use Rattle.flsm_model.specs.Compaction.{straddles}
use Rattle.peb_base.specs.Profiles.{Column}
use Rattle.flsm_model.specs.declared.job_kind.JobKind.{JobKind}
use Rattle.flsm_model.specs.declared.job_kind.JobKind.TheVariants.{Flush as FlushJob, Move as MoveJob, Cut as CutJob, Merge as MergeJob}
use Rattle.flsm_model.specs.declared.job.Job.{Job}
use Rattle.flsm_model.specs.Ranges.{keys_ascend}
use Rattle.flsm_model.specs.Shape.{Shape, has_number, rows_numbered, rows_without}
use Rattle.flsm_model.specs.Fits.{lies_in, numbers_ascend, is_some_list, is_live, is_straddled, is_of_session, may_be_cut}
use Rattle.peb_base.specs.Members.{IsIn}
use Rattle.flsm_model.specs.Events.{Session, Standing, Running}
use Rattle.flsm_model.specs.Claims.{jobs_conflict}
use Rattle.flsm_model.specs.Jobs.{numbers_needed, IsRange, guards_in, job_range}

-- the job's block of table numbers is of the session, and no row has one of them
pub record NumbersFree (s : Shape) (j : Job) : Type 0 where
  pub own :
      (m : ℕ) → j.numbers ≤ m → m < j.numbers + numbers_needed j → is_of_session s.session m ≡ true
  pub unused :
      (m : ℕ) → j.numbers ≤ m → m < j.numbers + numbers_needed j → has_number m s.used ≡ false

-- of a Flush: no inputs, and all keys
pub record KeepsFlush (j : Job) : Type 0 where
  pub level : j.level ≡ 0
  pub inputs : j.inputs ≡ []
  pub whole : (j.lo ≡ []) × (j.hi ≡ None)

-- of a Move: its keys are the next level's guards in its range
pub record KeepsMove (o : Column) (s : Shape) (j : Job) : Type 0 where
  pub above : j.level < o.last_level
  pub some : is_some_list j.inputs ≡ true
  pub keys : j.keys ≡ guards_in s (suc j.level) (job_range j)

-- of a Cut: its keys are candidates of its range and no guards yet, and its inputs are the tables
-- that they split
pub record KeepsCut (o : Column) (s : Shape) (j : Job) : Type 0 where
  pub from : 1 ≤ j.level
  pub upto : j.level ≤ o.last_level
  pub ascend : keys_ascend j.keys ≡ true
  pub some : is_some_list j.keys ≡ true
  pub keys : list_all (may_be_cut o s j.level (job_range j)) j.keys ≡ true
  pub straddled :
      list_all (λ r. list_any (straddles r) j.keys) (rows_numbered j.inputs s.live) ≡ true
  pub others : list_all (λ r. not (is_straddled j.level (job_range j) j.keys r))
      (rows_without j.inputs s.live) ≡ true

-- of a Merge: it has inputs, at the last level
pub record KeepsMerge (o : Column) (j : Job) : Type 0 where
  pub level : j.level ≡ o.last_level
  pub some : is_some_list j.inputs ≡ true

-- what its kind asks
abbrev pub KeepsKind : JobKind → Column → Shape → Job → Type 0
KeepsKind FlushJob o s j = KeepsFlush j
KeepsKind MoveJob o s j = KeepsMove o s j
KeepsKind CutJob o s j = KeepsCut o s j
KeepsKind MergeJob o s j = KeepsMerge o j

-- the job's range is still a guard's, its inputs are live tables of it, and its numbers are free
pub record Undisturbed (o : Column) (s : Shape) (j : Job) : Type 0 where
  pub range : IsRange s j.level j
  pub ascend : numbers_ascend j.inputs ≡ true
  pub live : list_all (is_live s) j.inputs ≡ true
  pub placed :
      list_all (λ r. r.level == j.level && lies_in (job_range j) r) (rows_numbered j.inputs s.live)
      ≡ true
  pub numbers : NumbersFree s j
  pub kind : KeepsKind j.kind o s j

-- no claims of two jobs in flight conflict, and none of the jobs is disturbed
pub record JobsStand (o : Column) (w : Standing) (n : Session) : Type 0 where
  pub apart : (r t : Running) → IsIn r n.running → IsIn t n.running → r.0 ≢ t.0
      → jobs_conflict r.1 t.1 ≡ false
  pub each : (r : Running) → IsIn r n.running → Undisturbed o w.tree.shape r.1

-- so it is while a session is open
abbrev pub JobsUndisturbed : Column → Standing → Type 0
JobsUndisturbed o w = (n : Session) → w.session ≡ Some n → JobsStand o w n
