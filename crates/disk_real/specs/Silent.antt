-- What follows from a device that tells nothing of content.
use Rattle.std.specs.Prelude.{IsTrue, ℕ, None, false}
use Rattle.disk_model.specs.Tables.{TableFiles}
use Rattle.disk_model.specs.Told.{JournalTold}

-- such a device has told nothing
pub nothing_told : IsTrue false → ⊥
nothing_told told = cc

-- no table file is told
abbrev pub no_table_files : TableFiles
no_table_files = record { sealed = λ _. None; is_unsealed = λ _. false }

-- of a journal its count of faults alone is told
abbrev pub silent_journal : ℕ → JournalTold
silent_journal faults = record {
  seen = λ _. None;
  may_leave = λ _. ⊥;
  moment = 0;
  left_since = λ _ _. ⊥;
  faults = faults;
  steady = ⊥;
}
