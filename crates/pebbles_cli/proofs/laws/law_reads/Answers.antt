use Rattle.pebbles_cli.proofs.Growing.{runs_show}
use Rattle.pebbles_cli.proofs.laws.law_reads.Goals as goal

pub returns : goal.returns
returns c = runs_show
