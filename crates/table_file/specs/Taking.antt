-- How many bytes a maker takes while a table is written.
use Rattle.std.specs.Prelude.{◌≡◌, ℕ, ◌+◌, ◌-◌, ◌≤◌, Result, Ok, Err, List, [], ◌∷◌, ◌++◌, length}
use Rattle.disk_model.specs.Tables.{capped}
use Rattle.peb_base.specs.declared.entry.Entry.{Entry}
use Rattle.block_form.specs.Form.{block_bytes}
use Rattle.table_file.specs.Form.{cut_of, body_bytes, table_bytes}

-- the length of a begun block as the last one, unless it is empty
abbrev pub last_length : List Entry → ℕ
last_length [] = 0
last_length (e ∷ es) = length (block_bytes (e ∷ es))

-- the length of the closed blocks of these entries
abbrev pub closed_length : ℕ → List Entry → ℕ
closed_length full es = length (body_bytes (cut_of full es).closed)

-- the length of the block that an entry closes, or 0 where it closes none
abbrev pub pushed_length : ℕ → List Entry → Entry → ℕ
pushed_length full es e = closed_length full (es ++ e ∷ []) - closed_length full es

-- the length of what follows the closed blocks of a table: the last block, index, filter and footer
abbrev pub rest_length : ℕ → ℕ → List Entry → ℕ
rest_length full number es = length (table_bytes full number es) - closed_length full es

-- some bytes were taken, or none, and at most so many
pub record TakesAtMost (most before now : ℕ) : Type 0 where
  pub count : ℕ
  pub within : count ≤ most
  pub counted : now ≡ capped (before + count)

-- a call takes so many bytes, and where it fails at most so many
abbrev pub Takes : {T E : Type 0} → ℕ → ℕ → ℕ → Result T E → Type 0
Takes count before now (Ok x) = now ≡ capped (before + count)
Takes count before now (Err e) = TakesAtMost count before now
