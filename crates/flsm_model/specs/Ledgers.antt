-- The ledger: what edits wrote into each level, and what jobs that were cut short wrote in vain.
-- Its sums stop at the type's end.
use Rattle.std.specs.Prelude.{◌≡◌, ℕ, ◌+◌, ◌-◌, ◌^◌, ◌<◌, min, List, [], length, filter, flat_map, sum_by, ◌==◌, slice_index_or}
use Rattle.peb_base.specs.declared.table_row.TableRow.{TableRow}
use Rattle.flsm_model.specs.declared.edit.Edit.{Edit}
use Rattle.flsm_model.specs.declared.edit.Edit.TheVariants.{Cut}
use Rattle.flsm_model.specs.declared.level_count.LevelCount.{LevelCount}
use Rattle.flsm_model.specs.Shape.{Record, outputs_of}

-- a sum that stops at the type's end
abbrev pub capped : ℕ → ℕ
capped n = min n (2 ^ 64 - 1)

-- nothing was written
abbrev pub nothing : LevelCount
nothing = record { tables = 0; entries = 0; bytes = 0; cuts = 0; short = 0; lost = 0 }

-- the rows of tables that a Cut adds
abbrev pub cut_rows : Edit → List TableRow
cut_rows (Cut level keys inputs outputs) = outputs
cut_rows e = []

-- the rows at the level
abbrev pub rows_at : ℕ → List TableRow → List TableRow
rows_at level rows = filter (λ r. r.level == level) rows

-- jobs that were cut short: the level into which they wrote, and the bytes
abbrev pub Shorts : Type 0
Shorts = List (ℕ × ℕ)

-- the jobs into the level
abbrev pub shorts_at : ℕ → Shorts → Shorts
shorts_at level shorts = filter (λ p. p.0 == level) shorts

-- what was written into the level, where these rows were added, of which Cuts wrote some, and these
-- jobs were cut short
abbrev pub level_count : List TableRow → List TableRow → Shorts → ℕ → LevelCount
level_count rows cuts shorts level =
    record {
      tables = capped (length (rows_at level rows));
      entries = capped (sum_by (λ r. r.entries) (rows_at level rows));
      bytes = capped (sum_by (λ r. r.bytes) (rows_at level rows));
      cuts = capped (sum_by (λ r. r.entries) (rows_at level cuts));
      short = capped (length (shorts_at level shorts));
      lost = capped (sum_by (λ p. p.1) (shorts_at level shorts));
    }

-- what the edits and the jobs that were cut short wrote into the level
abbrev pub ledger : Record → Shorts → ℕ → LevelCount
ledger es shorts level = level_count (flat_map outputs_of es) (flat_map cut_rows es) shorts level

-- the counts are those of these rows and jobs
abbrev pub Counts : List LevelCount → List TableRow → List TableRow → Shorts → Type 0
Counts counts rows cuts shorts =
    (level : ℕ) → level < length counts
    → slice_index_or counts level nothing ≡ level_count rows cuts shorts level

-- the counts are the ledger of these edits and jobs
abbrev pub IsLedger : List LevelCount → Record → Shorts → Type 0
IsLedger counts es shorts = Counts counts (flat_map outputs_of es) (flat_map cut_rows es) shorts

-- the counts of a level with one row more
abbrev pub with_row : TableRow → LevelCount → LevelCount
with_row row c =
    record c {
      tables = capped (c.tables + 1);
      entries = capped (c.entries + row.entries);
      bytes = capped (c.bytes + row.bytes);
    }

-- the counts of a level with one row more that a Cut wrote
abbrev pub with_cut_row : TableRow → LevelCount → LevelCount
with_cut_row row c = record (with_row row c) { cuts = capped (c.cuts + row.entries) }

-- the counts of a level with one job more that was cut short
abbrev pub with_short : ℕ → LevelCount → LevelCount
with_short bytes c = record c { short = capped (c.short + 1); lost = capped (c.lost + bytes) }
