use Rattle.std.proofs.Common.{arith}
use Rattle.manifest.proofs.Lengths.{length-chosen}
use Rattle.manifest.proofs.encode.ChosenEncode.length.Goals as goal

pub returns-clause-length : goal.returns-clause-length
returns-clause-length c = let size = length-chosen c.args.self.now in omega (arith, size)
