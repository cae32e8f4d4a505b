use Rattle.pebbles_cli.proofs.Growing.{stopped_stays}
use Rattle.pebbles_cli.proofs.laws.law_stopped.Goals as goal

pub returns : goal.returns
returns c = stopped_stays
