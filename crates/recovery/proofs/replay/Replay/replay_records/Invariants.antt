use Rattle.std.proofs.Common.{◌≡◌, ◌++◌, take}
use Rattle.std.specs.Prelude.{◌⊎◌}
use Rattle.peb_base.specs.Numbers.{session_of}
use Rattle.peb_base.specs.Batches.{Batches}
use Rattle.record_log.specs.Records.{bodies_of}
use Rattle.store_layout.specs.Logs.{AreRecords}
use Rattle.recovery.specs.Opening.{IsReplayOf}
use Rattle.recovery.proofs.replay.Replay.replay_records.Given as goal

abbrev pub invariant-loop-item : goal.invariant-loop-item
invariant-loop-item l = record {
  so_far : (batches : Batches) → IsReplayOf l.initial.self batches
      → (own : Batches) × AreRecords l.session (bodies_of (take l.item-index l.items)) own × IsReplayOf l.self (batches ++ own);
  here : (l.self.last ≡ l.initial.self.last) ⊎ (session_of l.self.last ≡ l.session);
}
