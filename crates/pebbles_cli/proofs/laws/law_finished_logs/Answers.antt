use Rattle.pebbles_cli.proofs.Crashing.{finished_logs_stay}
use Rattle.pebbles_cli.proofs.laws.law_finished_logs.Goals as goal

pub returns : goal.returns
returns g c = finished_logs_stay
