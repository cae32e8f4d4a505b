use Rattle.peb_base.specs.MapLaws.{map_before}
use Rattle.peb_base.proofs.laws.law_later_batches.Goals as goal

pub returns : goal.returns
returns c = map_before
