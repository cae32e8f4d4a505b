use Rattle.bloom.proofs.BitBytes.{bit-set}
use Rattle.bloom.proofs.bits.set_bit.Goals as goal

pub returns : goal.returns
returns c = λ j. bit-set c.args.bytes.now c.args.place j c.requires
