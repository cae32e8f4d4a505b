use Rattle.version_set.proofs.Placed.{have_parts}
use Rattle.version_set.proofs.laws.law_parts.Goals as goal

pub returns : goal.returns
returns c = have_parts
