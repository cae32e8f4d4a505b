use Rattle.std.proofs.Common.{◌≡◌, ◌++◌, drop}
use Rattle.record_log.specs.BatchRecord.{batch_bytes, ops_bytes, AreOps}
use Rattle.record_log.proofs.batch_record.write_batch.Given as goal

abbrev pub invariant-loop-op : goal.invariant-loop-op
invariant-loop-op l = record {
  so_far : l.bytes.items ++ ops_bytes (drop l.op-index l.op-items) ≡ batch_bytes l.fn.first l.op-items;
  each : AreOps (drop l.op-index l.op-items) → AreOps l.op-items;
}
