use Rattle.std.proofs.Common.{arith}
use Rattle.bloom.proofs.Reach.{high-lt, same-probe}
use Rattle.bloom.proofs.probes.probe_at.Goals as goal

pub overflow_mul-result : goal.overflow_mul-result
overflow_mul-result c = let high = high-lt c.args.hash c.args.i c.ranges.hash.fits c.requires.few in omega arith

pub overflow_add-result : goal.overflow_add-result
overflow_add-result c = let high = high-lt c.args.hash c.args.i c.ranges.hash.fits c.requires.few in omega arith

pub returns : goal.returns
returns c =
    let high = high-lt c.args.hash c.args.i c.ranges.hash.fits c.requires.few in
    same-probe _ c.args.bytes c.saturating_mul.result (omega arith) c.saturating_mul.ensures
