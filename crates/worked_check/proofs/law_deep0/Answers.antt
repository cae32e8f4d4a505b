use Rattle.worked_check.proofs.AgreeDeep0.{agrees}
use Rattle.worked_check.proofs.law_deep0.Goals as goal

pub returns : goal.returns
returns c = record { agrees = agrees }
