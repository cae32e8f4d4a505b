use Rattle.merge_iter.proofs.Rows.{shows_visible}
use Rattle.merge_iter.proofs.laws.law_visible.Goals as goal

pub returns : goal.returns
returns c = shows_visible
