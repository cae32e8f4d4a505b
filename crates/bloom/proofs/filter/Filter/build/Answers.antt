use Rattle.std.proofs.Common.{arith}
use Rattle.std.proofs.lemmas.Grind.{common_steps}
use Rattle.bloom.proofs.Held.{filter-none}
use Rattle.bloom.proofs.filter.Filter.build.Goals as goal

pub returns : goal.returns
returns c =
    filter-none c.args.count c.div_ceil.result c.resize.new.self.items
    (grind (arith, common_steps, c.in_ok-resize.ensures)) (omega (arith, c.max-bits.ensures, c.div_ceil.ensures))
