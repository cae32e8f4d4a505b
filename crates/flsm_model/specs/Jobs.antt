-- Which jobs may begin.
use Rattle.std.specs.Prelude.{◌≡◌, ℕ, zero, suc, ◌+◌, ◌-◌, ◌*◌, ◌^◌, ◌<◌, min, Bool, true, ◌&&◌, ◌||◌, not, List, [], ◌∷◌, length, filter, nat_le, ◌==◌, Option, None, IsSome}
use Rattle.std.specs.List.{list_all}
use Rattle.peb_base.specs.Keys.{Bytes}
use Rattle.peb_base.specs.Profiles.{Column}
use Rattle.flsm_model.specs.declared.edit.Edit.TheVariants.{Move, Cut, Merge}
use Rattle.flsm_model.specs.declared.job_kind.JobKind.{JobKind}
use Rattle.flsm_model.specs.declared.job_kind.JobKind.TheVariants.{Flush as FlushJob, Move as MoveJob, Cut as CutJob, Merge as MergeJob}
use Rattle.flsm_model.specs.declared.job.Job.{Job}
use Rattle.flsm_model.specs.Ranges.{in_range, range_of}
use Rattle.flsm_model.specs.Shape.{Shape, guards_at, has_number}
use Rattle.flsm_model.specs.Fits.{fits, is_guard, lies_in}
use Rattle.flsm_model.specs.Events.{Session, Standing, last_of}
use Rattle.flsm_model.specs.Claims.{is_free}

-- the oldest live snapshot: the least of the held numbers and the last
abbrev pub floor_of : List (ℕ × ℕ) → ℕ → ℕ
floor_of [] last = last
floor_of (h ∷ hs) last = min h.1 (floor_of hs last)

-- how many table numbers a job of the kind reserves
abbrev pub needed_at : JobKind → Job → ℕ
needed_at FlushJob j = 1
needed_at MoveJob j = length j.keys + 1
needed_at CutJob j = length j.inputs * (length j.keys + 1)
needed_at MergeJob j = 1

-- how many table numbers a job reserves
abbrev pub numbers_needed : Job → ℕ
numbers_needed j = needed_at j.kind j

-- ---- ranges

-- the range of a job
abbrev pub job_range : Job → Bytes × Option Bytes
job_range j = (j.lo, j.hi)

-- the job's range is that of a guard of the level
abbrev pub IsRange : Shape → ℕ → Job → Type 0
IsRange s level j = range_of (guards_at s level) j.lo ≡ (j.lo, j.hi)

-- the guards of a level that lie in the range
abbrev pub guards_in : Shape → ℕ → Bytes × Option Bytes → List Bytes
guards_in s level range = filter (in_range range.0 range.1) (guards_at s level)

-- every live table of the level in the range is an input
abbrev pub are_all_tables : Shape → ℕ → Bytes × Option Bytes → List ℕ → Bool
are_all_tables s level range inputs =
    list_all (λ r. not (r.level == level && lies_in range r) || has_number r.number inputs) s.live

-- every input lies in the range
abbrev pub are_tables : Shape → Bytes × Option Bytes → List ℕ → Bool
are_tables s range inputs =
    list_all (λ r. not (has_number r.number inputs) || lies_in range r) s.live

-- the key is a guard of `count` levels from `level` on
abbrev pub is_guard_from : Shape → Bytes → ℕ → ℕ → Bool
is_guard_from s key level zero = true
is_guard_from s key level (suc count) =
    is_guard s level key && is_guard_from s key (suc level) count

-- each candidate of the level in the range is a guard of it and of every deeper one
abbrev pub are_committed : Column → Shape → ℕ → Bytes × Option Bytes → Bool
are_committed o s level range =
    list_all (λ c.
    not (nat_le c.level level && in_range range.0 range.1 c.key)
    || is_guard_from s c.key level (suc o.last_level - level)) s.chosen

-- ---- kinds

-- it writes what is frozen; its range is all keys
pub record IsFlush (n : Session) (j : Job) : Type 0 where
  pub frozen : IsSome n.frozen
  pub range : (j.lo ≡ []) × (j.hi ≡ None)
  pub level : j.level ≡ 0
  pub nothing : (j.inputs ≡ []) × (j.keys ≡ [])

-- it takes all tables of a guard, or of level 0, once the candidates of the next level are guards
-- there; its keys are that level's guards
pub record IsMove (o : Column) (s : Shape) (n : Session) (j : Job) : Type 0 where
  pub range : IsRange s j.level j
  pub fit : fits o s (Move j.level j.floor j.inputs []) ≡ true
  pub inside : are_tables s (job_range j) j.inputs ≡ true
  pub all : are_all_tables s j.level (job_range j) j.inputs ≡ true
  pub committed : are_committed o s (suc j.level) (job_range j) ≡ true
  pub keys : j.keys ≡ guards_in s (suc j.level) (job_range j)

-- its keys become guards in one guard's range, and its inputs are the tables that they split
pub record IsCut (o : Column) (s : Shape) (n : Session) (j : Job) : Type 0 where
  pub range : IsRange s j.level j
  pub fit : fits o s (Cut j.level j.keys j.inputs []) ≡ true
  pub inside : are_tables s (job_range j) j.inputs ≡ true
  pub keys : list_all (in_range j.lo j.hi) j.keys ≡ true

-- it takes tables of a guard of the last level, and is whole where it takes them all
pub record IsMerge (o : Column) (s : Shape) (n : Session) (j : Job) : Type 0 where
  pub level : j.level ≡ o.last_level
  pub range : IsRange s j.level j
  pub fit : fits o s (Merge j.floor j.whole j.inputs []) ≡ true
  pub inside : are_tables s (job_range j) j.inputs ≡ true
  pub whole : j.whole ≡ are_all_tables s j.level (job_range j) j.inputs
  pub keys : j.keys ≡ []

-- the job is one of its kind
abbrev pub IsOfKind : JobKind → Column → Shape → Session → Job → Type 0
IsOfKind FlushJob o s n j = IsFlush n j
IsOfKind MoveJob o s n j = IsMove o s n j
IsOfKind CutJob o s n j = IsCut o s n j
IsOfKind MergeJob o s n j = IsMerge o s n j

-- the job may begin: it conflicts with no job in flight, keeps what snapshots need, and has the
-- next table numbers
pub record IsLawful (o : Column) (w : Standing) (n : Session) (j : Job) : Type 0 where
  pub free : is_free j n.running ≡ true
  pub floor : j.floor ≡ floor_of n.held (last_of w)
  pub numbers : j.numbers ≡ w.tree.shape.session * 2 ^ 40 + 1 + n.reserved
  pub room : n.reserved + numbers_needed j < 2 ^ 40
  pub kind : IsOfKind j.kind o w.tree.shape n j
