use Rattle.pebbles_cli.proofs.Crashing.{leaves_ranges}
use Rattle.pebbles_cli.proofs.laws.law_next_run.Goals as goal

pub returns : goal.returns
returns g c = leaves_ranges
