use Rattle.bloom.proofs.Held.{added-held, held-stays}
use Rattle.bloom.proofs.laws.law_added.Goals as goal

pub returns-clause-added : goal.returns-clause-added
returns-clause-added c = added-held

pub returns-clause-stays : goal.returns-clause-stays
returns-clause-stays c = held-stays
