use Rattle.flsm_model.proofs.histories.Truth.{written_once}
use Rattle.flsm_model.proofs.contents.Places.{record_bound}
use Rattle.flsm_model.proofs.contents.LastLevel.{written_by_merges}
use Rattle.flsm_model.proofs.laws.law_bound.Goals as goal

pub returns : goal.returns
returns c = record { history = written_once; edits = record_bound; last = written_by_merges }
