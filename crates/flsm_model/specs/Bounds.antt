-- How often entries are written above the last level.
use Rattle.std.specs.Prelude.{ℕ, ◌+◌, ◌<◌, ◌≤◌, List, ◌==◌, ◌&&◌}
use Rattle.std.specs.List.{list_any}
use Rattle.peb_base.specs.Batches.{Batches}
use Rattle.peb_base.specs.Profiles.{column, Column}
use Rattle.peb_base.specs.declared.profile.Profile.{Profile}
use Rattle.flsm_model.specs.Shape.{Record}
use Rattle.flsm_model.specs.Trees.{empty_tree}
use Rattle.flsm_model.specs.Writes.{holds, total, one_if, writes_from, cuts_from}
use Rattle.flsm_model.specs.TrueRecord.{IsTrueRecord}
use Rattle.flsm_model.specs.Events.{Attempt, Standing}

-- how many attempts into the level had the entry numbered q in their outcome
abbrev pub attempts_holding : ℕ → ℕ → List Attempt → ℕ
attempts_holding q level tries =
    total (λ (a : Attempt). one_if (a.0 == level && list_any (holds q) a.1)) tries

-- how often the entry was written into the level, by edits and by attempts
abbrev pub written : Column → Standing → ℕ → ℕ → ℕ
written o w q level =
    writes_from o w.batches (empty_tree o) q level w.edits + attempts_holding q level w.attempts

-- how many guards were committed inside a table of the level that held it
abbrev pub cut : Column → Standing → ℕ → ℕ → ℕ
cut o w q level = cuts_from o w.batches (empty_tree o) q level w.edits

-- how many attempts had it
abbrev pub attempted : Standing → ℕ → ℕ → ℕ
attempted w q level = attempts_holding q level w.attempts

-- above the last level each entry is written once, once more for each cut of its table, and once
-- for each attempt
abbrev pub WrittenOnce : Column → Standing → Type 0
WrittenOnce o w =
    (q level : ℕ) → level < o.last_level
    → written o w q level ≤ 1 + cut o w q level + attempted w q level

-- the same of any record that is true of its batches, where no attempts are known
abbrev pub RecordBound : Type 0
RecordBound =
    (p : Profile) (bs : Batches) (r : Record) (q level : ℕ) → IsTrueRecord (column p) r bs
    → level < (column p).last_level
    → writes_from (column p) bs (empty_tree (column p)) q level r
    ≤ 1 + cuts_from (column p) bs (empty_tree (column p)) q level r
