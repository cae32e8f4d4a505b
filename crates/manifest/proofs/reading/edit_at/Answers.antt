use Rattle.std.proofs.Common.{rules}
use Rattle.manifest.proofs.EditKinds.{no_byte}
use Rattle.manifest.proofs.reading.edit_at.Goals as goal

pub returns-in_err-kind-clause-form : goal.returns-in_err-kind-clause-form
returns-in_err-kind-clause-form c = λ err. no_byte c.args.bytes.now (c.in_err-kind.ensures.form (search rules))
