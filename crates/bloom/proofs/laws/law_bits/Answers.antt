use Rattle.bloom.proofs.BitBytes.{bytes-bit, bits-decide}
use Rattle.bloom.proofs.laws.law_bits.Goals as goal

pub returns-clause-read : goal.returns-clause-read
returns-clause-read c = bytes-bit

pub returns-clause-decide : goal.returns-clause-decide
returns-clause-decide c = bits-decide
