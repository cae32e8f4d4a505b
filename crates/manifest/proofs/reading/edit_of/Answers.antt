use Rattle.std.proofs.Common.{rules}
use Rattle.manifest.proofs.EditKinds.{no_kind}
use Rattle.manifest.proofs.reading.edit_of.Goals as goal

pub returns-in_default-clause-form : goal.returns-in_default-clause-form
returns-in_default-clause-form c = λ err. no_kind c.args.kind c.args.bytes.now (search rules) (search rules) (search rules) (search rules) (search rules)
