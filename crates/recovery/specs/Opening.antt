-- What an opening reads of a log, and what only reading leaves.
use Rattle.std.specs.Prelude.{◌≡◌, ℕ, Some, true, List, [], ◌∷◌, ◌++◌, map}
use Rattle.peb_base.specs.declared.file_name.FileName.TheVariants as names
use Rattle.peb_base.specs.Batches.{Batches, last_number, are_in_order}
use Rattle.peb_base.specs.Map.{map_at}
use Rattle.disk_model.specs.declared.journal_file.JournalFile.TheVariants.{Log}
use Rattle.disk_model.specs.Images.{Image, Elapses}
use Rattle.disk_model.specs.Told.{JournalTold}
use Rattle.record_log.specs.Log.{IsDamaged}
use Rattle.record_log.specs.declared.log_fault.LogFault.{LogFault}
use Rattle.record_log.specs.declared.log_fault.LogFault.TheVariants as logs
use Rattle.recovery.specs.declared.open_fault.OpenFault.{OpenFault}
use Rattle.recovery.specs.declared.open_fault.OpenFault.TheVariants as opens
use Rattle.recovery.specs.declared.replay_fault.ReplayFault.{ReplayFault}
use Rattle.recovery.specs.declared.replay_fault.ReplayFault.TheVariants as replays
use Rattle.recovery.specs.declared.replay.Replay.{Replay}
use Rattle.store_layout.specs.Logs.{AreRecords}

-- no batches that these records spell go on after those
abbrev pub CantGoOn : ℕ → Batches → List (List ℕ) → Type 0
CantGoOn session batches bodies = (own : Batches) → AreRecords session bodies own
    → are_in_order (batches ++ own) ≡ true → ⊥

-- These records of a log, each with the place of its group's gate, go on after the batches up to the
-- first one that is no batch that may stand there: its group's gate is at this place.
pub record StopsAt (session : ℕ) (batches : Batches) (records : List (ℕ × List ℕ))
    (at : ℕ) : Type 0 where
  pub before : List (ℕ × List ℕ)
  pub body : List ℕ
  pub behind : List (ℕ × List ℕ)
  pub own : Batches
  pub split : records ≡ before ++ (at, body) ∷ behind
  pub spelled : AreRecords session (map (λ r. r.1) before) own
  pub ordered : are_in_order (batches ++ own) ≡ true
  pub cant : CantGoOn session (batches ++ own) (body ∷ [])

-- the log of this number was created to its end, and this is the first place that isn't in form
abbrev pub IsOutOfForm : ℕ → ℕ → Image → Type 0
IsOutOfForm n at image =
    (bytes : List ℕ) × (image (Log n) ≡ Some bytes) × IsDamaged (Log n) bytes at

-- ---- the reading of logs, one after another

-- what was replayed is the map of these batches
pub record IsReplayOf (replay : Replay) (batches : Batches) : Type 0 where
  pub ordered : are_in_order batches ≡ true
  pub last : replay.last ≡ last_number batches
  pub current : replay.current ≡ map_at batches (last_number batches)

-- P of the place of the damage, where damage is what the fault tells
abbrev pub OnDamage : ReplayFault → (ℕ → Type 0) → Type 0
OnDamage (replays.Damaged at) P = P at
OnDamage replays.Memory P = Unit {0}

-- only reads and syncs came between: what reads give is the same, and each image since then is one
-- of before
pub record HasWatched (old new : JournalTold) : Type 0 where
  pub seen : new.seen ≡ old.seen
  pub time : Elapses old.moment new.moment old.left_since new.left_since
  pub each : (image : Image) → new.left_since old.moment image → old.may_leave image

-- what the fault of a log means to an opening
abbrev pub fault_of : ℕ → LogFault → OpenFault
fault_of number logs.Fault = opens.Journal
fault_of number (logs.Damaged at) = opens.Damaged (names.Log number) at
fault_of number logs.Memory = opens.Memory
