use Rattle.record_log.proofs.Ops as ops
use Rattle.record_log.proofs.laws.one_batch.Goals as goal

pub returns : goal.returns
returns c = ops.one_batch
