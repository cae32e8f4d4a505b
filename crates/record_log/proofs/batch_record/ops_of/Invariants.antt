use Rattle.std.proofs.Common.{◌≡◌, ◌+◌, ◌++◌, List, length}
use Rattle.peb_base.specs.declared.op.Op.{Op}
use Rattle.record_log.specs.BatchRecord.{ops_bytes, AreOps}
use Rattle.record_log.proofs.Ops.{Leaves}
use Rattle.record_log.proofs.batch_record.ops_of.Given as goal

abbrev pub invariant-loop-left : goal.invariant-loop-left
invariant-loop-left l = record {
  so_far : ops_bytes l.batch ++ l.rest ≡ l.bytes;
  each : AreOps l.batch;
  counted : length l.batch + l.left ≡ l.count;
  only : (ops : List Op) → AreOps ops → length ops ≡ l.count → l.bytes ≡ ops_bytes ops → Leaves l.left l.rest;
}

abbrev pub decreases-loop-left : goal.decreases-loop-left
decreases-loop-left l = l.left
