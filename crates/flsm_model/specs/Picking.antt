-- Which job is picked: the first of those that are wanted that conflicts with no job in flight.
use Rattle.std.specs.Prelude.{ℕ, zero, suc, ◌+◌, ◌-◌, ◌*◌, ◌^◌, Bool, true, false, ◌&&◌, not, if◌then◌else◌, List, [], ◌∷◌, ◌++◌, length, map, filter, find, nat_lt, nat_le, ◌==◌, Option, Some, None}
use Rattle.peb_base.specs.Keys.{Bytes}
use Rattle.peb_base.specs.Profiles.{Column}
use Rattle.peb_base.specs.declared.table_row.TableRow.{TableRow}
use Rattle.flsm_model.specs.declared.job_kind.JobKind.{JobKind}
use Rattle.flsm_model.specs.declared.job_kind.JobKind.TheVariants.{Flush as FlushJob, Move as MoveJob, Cut as CutJob, Merge as MergeJob}
use Rattle.flsm_model.specs.declared.job.Job.{Job}
use Rattle.flsm_model.specs.Ranges.{in_range, with_keys, range_of}
use Rattle.flsm_model.specs.Shape.{Shape, guards_at}
use Rattle.flsm_model.specs.Fits.{is_candidate, is_guard, lies_in, is_straddled, may_be_cut}
use Rattle.flsm_model.specs.Events.{Session, Standing, last_of}
use Rattle.flsm_model.specs.Claims.{is_free}
use Rattle.flsm_model.specs.Jobs.{floor_of, guards_in}

-- ---- guards that hold too many tables

-- the ranges from lo on that the guards part
abbrev pub ranges_after : Bytes → List Bytes → List (Bytes × Option Bytes)
ranges_after lo [] = (lo, None) ∷ []
ranges_after lo (g ∷ gs) = (lo, Some g) ∷ ranges_after g gs

-- the ranges of a level's guards, the sentinel's first; level 0 has one
abbrev pub ranges_at : Shape → ℕ → List (Bytes × Option Bytes)
ranges_at s level = ranges_after [] (guards_at s level)

-- the live tables of a level in the range
abbrev pub rows_in : Shape → ℕ → Bytes × Option Bytes → List TableRow
rows_in s level range = filter (λ r. r.level == level && lies_in range r) s.live

-- how many tables level 0, or a guard of a deeper level, may hold
abbrev pub room_at : Column → ℕ → ℕ
room_at o zero = o.zero_tables
room_at o (suc level) = o.guard_tables

-- the ranges of a level that hold more
abbrev pub over_at : Column → Shape → ℕ → List (Bytes × Option Bytes)
over_at o s level =
    filter (λ range. nat_lt (room_at o level) (length (rows_in s level range))) (ranges_at s level)

-- ---- jobs

-- the number in its place among ascending ones
abbrev pub with_number : ℕ → List ℕ → List ℕ
with_number n [] = n ∷ []
with_number n (m ∷ ms) = if nat_le n m then n ∷ m ∷ ms else m ∷ with_number n ms

-- the numbers of the rows, ascending
abbrev pub numbers_of : List TableRow → List ℕ
numbers_of [] = []
numbers_of (r ∷ rs) = with_number r.number (numbers_of rs)

-- a job of the kind over the range of a level; its table numbers and floor are given when it begins
abbrev pub job_over : JobKind → ℕ → Bytes × Option Bytes → List ℕ → List Bytes → Bool → Job
job_over kind level range inputs keys whole =
    record {
      kind = kind;
      level = level;
      lo = range.0;
      hi = range.1;
      inputs = inputs;
      keys = keys;
      numbers = 0;
      floor = 0;
      whole = whole;
    }

-- the chosen keys of these for which the test holds, in order
abbrev pub chosen_keys : (Bytes → Bool) → Shape → List Bytes
chosen_keys test s = with_keys (filter test (map (λ c. c.key) s.chosen)) []

-- the Flush
abbrev pub flush_job : Job
flush_job = job_over FlushJob 0 ([], None) [] [] false

-- the Move of all tables of the range
abbrev pub move_job : Shape → ℕ → Bytes × Option Bytes → Job
move_job s level range =
    job_over MoveJob level range (numbers_of (rows_in s level range))
    (guards_in s (suc level) range) false

-- the Cut of the range of a level by all keys that may be cut there
abbrev pub cut_job : Column → Shape → ℕ → Bytes × Option Bytes → Job
cut_job o s level range =
    let keys = chosen_keys (may_be_cut o s level range) s in
    job_over CutJob level range (numbers_of (filter (is_straddled level range keys) s.live)) keys
    false

-- the whole Merge of the range of the last level
abbrev pub merge_job : Column → Shape → Bytes × Option Bytes → Job
merge_job o s range =
    job_over MergeJob o.last_level range (numbers_of (rows_in s o.last_level range)) [] true

-- ---- targets

-- the candidates of a level in the range that are no guards of another level
abbrev pub missing : Shape → ℕ → Bytes × Option Bytes → ℕ → List Bytes
missing s level range other =
    chosen_keys (λ key. is_candidate s.chosen level key && in_range range.0 range.1 key
    && not (is_guard s other key)) s

-- the Cut of the level of which the first of these keys is missing, or else another job
abbrev pub cut_or : Column → Shape → ℕ → List Bytes → Job → Job
cut_or o s level [] other = other
cut_or o s level (key ∷ keys) other = cut_job o s level (range_of (guards_at s level) key)

-- the job of a target: of `count` levels from the level on the deepest one where a candidate of the
-- level is missing is cut, else the job is the Move
abbrev pub job_at : Column → Shape → ℕ → Bytes × Option Bytes → ℕ → Job → Job
job_at o s level range zero move = move
job_at o s level range (suc count) move =
    cut_or o s (level + count) (missing s level range (level + count))
    (job_at o s level range count move)

-- the jobs of the targets of `count` levels from the level on, each range that holds too many
-- tables
abbrev pub target_jobs : Column → Shape → ℕ → ℕ → List Job
target_jobs o s level zero = []
target_jobs o s level (suc count) =
    map (λ range. job_at o s (suc level) range (o.last_level - level) (move_job s level range))
    (over_at o s level)
    ++ target_jobs o s (suc level) count

-- the Flush, where something is frozen
abbrev pub flush_jobs : Option ℕ → List Job
flush_jobs None = []
flush_jobs (Some to) = flush_job ∷ []

-- the jobs that are wanted, the most urgent first: the Flush, the targets from level 0 downwards,
-- the Merges of the last level
abbrev pub wanted : Column → Shape → Option ℕ → List Job
wanted o s frozen =
    flush_jobs frozen ++ target_jobs o s 0 o.last_level
    ++ map (merge_job o s) (over_at o s o.last_level)

-- the job as it begins now, with the next table numbers and the oldest live snapshot
abbrev pub beginning : Standing → Session → Job → Job
beginning w n j =
    record j {
      numbers = w.tree.shape.session * 2 ^ 40 + 1 + n.reserved;
      floor = floor_of n.held (last_of w);
    }

-- the job that is picked, if there is one
abbrev pub picked : Column → Standing → Session → Option Job
picked o w n =
    find (λ j. is_free j n.running) (map (beginning w n) (wanted o w.tree.shape n.frozen))
