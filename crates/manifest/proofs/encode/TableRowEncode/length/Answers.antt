use Rattle.std.proofs.Common.{arith}
use Rattle.manifest.proofs.Lengths.{length-row}
use Rattle.manifest.proofs.encode.TableRowEncode.length.Goals as goal

pub returns-clause-length : goal.returns-clause-length
returns-clause-length c = let size = length-row c.args.self.now in omega (arith, size)
