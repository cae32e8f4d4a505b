-- The logs of an image, and the batches that they spell.
use Rattle.std.specs.Prelude.{◌≡◌, ℕ, suc, List, [], ◌∷◌, ◌++◌, map, refl}
use Rattle.std.specs.List.{AllByRecursion}
use Rattle.peb_base.specs.declared.op.Op.{Op}
use Rattle.peb_base.specs.Numbers.{session_of}
use Rattle.peb_base.specs.Batches.{Batches}
use Rattle.disk_model.specs.declared.journal_file.JournalFile.TheVariants.{Log}
use Rattle.disk_model.specs.Images.{Image}
use Rattle.record_log.specs.declared.header.Header.{Header}
use Rattle.record_log.specs.Log.{IsLog, IsUnfinished}
use Rattle.record_log.specs.BatchRecord.{batch_bytes, IsBatch}

-- what a log holds: its header, and its groups of records
pub record Held : Type 0 where
  pub header : Header
  pub groups : List (List (List ℕ))

-- the records of groups, in their order
abbrev pub flat : List (List (List ℕ)) → List (List ℕ)
flat [] = []
flat (group ∷ groups) = group ++ flat groups

-- the logs numbered from n on are these, and the next counts as absent
abbrev pub HoldsLogs : ℕ → List Held → Image → Type 0
HoldsLogs n [] image = IsUnfinished (image (Log n))
HoldsLogs n (log ∷ logs) image = IsLog (Log n) log.header log.groups (image (Log n))
    × HoldsLogs (suc n) logs image

-- the logs numbered from n on are these, whatever comes behind them
abbrev pub BeginsLogs : ℕ → List Held → Image → Type 0
BeginsLogs n [] image = Unit {0}
BeginsLogs n (log ∷ logs) image = IsLog (Log n) log.header log.groups (image (Log n))
    × BeginsLogs (suc n) logs image

-- the record of a batch that stands behind its first number
unfoldable pub record_of : ℕ × List Op → List ℕ
record_of b = batch_bytes b.0 b.1

pub record_of-is : (b : ℕ × List Op) → record_of b ≡ batch_bytes b.0 b.1
unfolding record_of
record_of-is b = refl

-- a batch that a log of this session may hold
pub record IsBatchIn (session : ℕ) (b : ℕ × List Op) : Type 0 where
  pub batch : IsBatch b.0 b.1
  pub here : session_of b.0 ≡ session

-- the bodies are the records of these batches of a session
pub record AreRecords (session : ℕ) (bodies : List (List ℕ)) (own : Batches) : Type 0 where
  pub records : bodies ≡ map record_of own
  pub each : AllByRecursion (IsBatchIn session) own

-- the records of a log spell these batches
abbrev pub Spells : Held → Batches → Type 0
Spells log own = AreRecords log.header.session (flat log.groups) own

-- logs spell these batches, one log after another
abbrev pub SpellsAll : List Held → Batches → Type 0
SpellsAll [] batches = batches ≡ []
SpellsAll (log ∷ logs) batches =
    (own : Batches) × (rest : Batches) × (batches ≡ own ++ rest) × Spells log own
    × SpellsAll logs rest
