-- The shape of a record, as the version and the candidates show it.
use Rattle.std.specs.Prelude.{◌≡◌, ℕ, zero, suc, ◌-◌, ◌++◌, List, [], length, map, filter, if◌then◌else◌, nat_lt, Option, Bool, ◌+◌, ◌==◌, ◌&&◌, ◌||◌, not}
use Rattle.peb_base.specs.Keys.{Bytes}
use Rattle.peb_base.specs.Profiles.{Column}
use Rattle.peb_base.specs.declared.table_row.TableRow.{TableRow}
use Rattle.flsm_model.specs.declared.chosen.Chosen.{Chosen}
use Rattle.flsm_model.specs.declared.job.Job.{Job}
use Rattle.flsm_model.specs.Fits.{is_candidate}
use Rattle.flsm_model.specs.Picking.{rows_in, room_at, over_at, job_at, move_job, merge_job, target_jobs}
use Rattle.flsm_model.specs.Ranges.{has_key}
use Rattle.flsm_model.specs.Shape.{Shape}
use Rattle.flsm_model.specs.Sound.{IsSound}
use Rattle.guard_level.specs.Guards.{tables_of}
use Rattle.version.specs.Levels.{Levels, level_at}
use Rattle.version_set.specs.Shapes.{IsVersionOf}

-- the guard keys of a level; level 0 has none
abbrev pub keys_at : {T : Type 0} → Levels T → ℕ → List Bytes
keys_at v zero = []
keys_at v (suc n) = (level_at v n).keys

-- the tables of a guard of a level; level 0 has one
abbrev pub tables_at : {T : Type 0} → Levels T → ℕ → ℕ → List T
tables_at v zero guard = v.top
tables_at v (suc n) guard = tables_of (level_at v n) guard

-- the version stands for the shape, which a legal record leaves
pub record IsVersion {T : Type 0} (row : T → TableRow) (o : Column) (v : Levels T) (s : Shape)
    : Type 0 where
  pub sound : IsSound o s
  pub stands : IsVersionOf row v s

-- the candidates are those of the shape
abbrev pub AreCandidates : List Chosen → Shape → Type 0
AreCandidates cs s =
    (level : ℕ) (key : Bytes) → is_candidate cs level key ≡ is_candidate s.chosen level key

-- the job of a range that holds too many tables
abbrev pub job_of_range : Column → Shape → ℕ → Bytes × Option Bytes → Job
job_of_range o s level range =
    job_at o s (suc level) range (o.last_level - level)
    (if nat_lt level o.last_level then move_job s level range else merge_job o s range)

-- the jobs of those of a level's ranges that hold too many tables
abbrev pub jobs_in : Column → Shape → ℕ → List (Bytes × Option Bytes) → List Job
jobs_in o s level ranges =
    map (job_of_range o s level)
    (filter (λ range. nat_lt (room_at o level) (length (rows_in s level range))) ranges)

-- the key is no guard of the level yet, and is one of the next level, if there is one
abbrev pub is_new_guard : {T : Type 0} → Levels T → ℕ → ℕ → Bytes → Bool
is_new_guard v last level key =
    not (has_key key (keys_at v level)) && (level == last || has_key key (keys_at v (level + 1)))

-- the jobs of the targets from a level on, and the Merges of the last level
abbrev pub jobs_from : Column → Shape → ℕ → List Job
jobs_from o s level =
    target_jobs o s level (o.last_level - level) ++ map (merge_job o s) (over_at o s o.last_level)
