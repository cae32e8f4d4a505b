use Rattle.flsm_model.proofs.histories.Whole.{marks_in_order}
use Rattle.flsm_model.proofs.laws.law_marks.Goals as goal

pub returns : goal.returns
returns c = marks_in_order
