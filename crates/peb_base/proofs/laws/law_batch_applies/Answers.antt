use Rattle.peb_base.specs.MapLaws.{last_of_push, map_after}
use Rattle.peb_base.proofs.laws.law_batch_applies.Goals as goal

pub returns-clause-last : goal.returns-clause-last
returns-clause-last c = last_of_push

pub returns-clause-map : goal.returns-clause-map
returns-clause-map c = map_after
