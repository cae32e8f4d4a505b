-- What the laws of the log say, as the lemmas of this crate take it.
use Rattle.std.specs.Prelude.{◌≡◌, ℕ, List, Option, Some}
use Rattle.peb_base.specs.declared.op.Op.{Op}
use Rattle.disk_model.specs.declared.journal_file.JournalFile.{JournalFile}
use Rattle.record_log.specs.declared.header.Header.{Header}
use Rattle.record_log.specs.BatchRecord.{batch_bytes, IsBatch}
use Rattle.record_log.specs.Log.{IsLog, IsUnfinished, IsDamaged}

-- a file holds one header with its groups
abbrev pub OneLog : Type 0
OneLog = (file : JournalFile) (found : Option (List ℕ)) (a b : Header)
    (gs hs : List (List (List ℕ))) → IsLog file a gs found → IsLog file b hs found
    → (a ≡ b) × (gs ≡ hs)

-- what is damaged is no log
abbrev pub Undamaged : Type 0
Undamaged = (file : JournalFile) (bytes : List ℕ) (a : Header) (gs : List (List (List ℕ))) (at : ℕ)
    → IsLog file a gs (Some bytes) → IsDamaged file bytes at → ⊥

-- what holds a log was created to its end
abbrev pub Finished : Type 0
Finished = (file : JournalFile) (found : Option (List ℕ)) (a : Header) (gs : List (List (List ℕ)))
    → IsLog file a gs found → IsUnfinished found → ⊥

-- a spelling is of one batch
abbrev pub OneBatch : Type 0
OneBatch = (a b : ℕ) (x y : List Op) → IsBatch a x → IsBatch b y
    → batch_bytes a x ≡ batch_bytes b y → (a ≡ b) × (x ≡ y)
