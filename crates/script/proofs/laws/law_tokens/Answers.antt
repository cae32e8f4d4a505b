use Rattle.script.proofs.Exact.{tokens_are_exact}
use Rattle.script.proofs.laws.law_tokens.Goals as goal

pub returns : goal.returns
returns c = tokens_are_exact
