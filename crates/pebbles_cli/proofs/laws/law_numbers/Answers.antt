use Rattle.pebbles_cli.proofs.Numbering.{runs_number}
use Rattle.pebbles_cli.proofs.laws.law_numbers.Goals as goal

pub returns : goal.returns
returns c = runs_number
