use Rattle.std.proofs.Common.{refl, rules}
use Rattle.recovery.proofs.recorded.record_of.Goals as goal

pub returns-clause-record : goal.returns-clause-record
returns-clause-record c = (search rules, search rules, (c.in-Ok-manifest.manifest, c.in-Ok-manifest.is, refl))
