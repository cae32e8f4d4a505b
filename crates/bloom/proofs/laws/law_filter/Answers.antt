use Rattle.bloom.proofs.BitBytes.{length-bytes}
use Rattle.bloom.proofs.Held.{filter-grows, all-held}
use Rattle.bloom.proofs.laws.law_filter.Goals as goal

pub returns-clause-grows : goal.returns-clause-grows
returns-clause-grows c = filter-grows

pub returns-clause-all : goal.returns-clause-all
returns-clause-all c = all-held

pub returns-clause-long : goal.returns-clause-long
returns-clause-long c = λ count hashes. length-bytes _ _
