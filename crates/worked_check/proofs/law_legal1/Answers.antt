use Rattle.worked_check.proofs.AgreeLegal1.{is_legal, agrees}
use Rattle.worked_check.proofs.law_legal1.Goals as goal

pub returns-clause-legal : goal.returns-clause-legal
returns-clause-legal c = is_legal

pub returns-clause-agrees : goal.returns-clause-agrees
returns-clause-agrees c = agrees
