use Rattle.script.proofs.Lines.{lines_are_exact}
use Rattle.script.proofs.laws.law_lines.Goals as goal

pub returns : goal.returns
returns c = lines_are_exact
