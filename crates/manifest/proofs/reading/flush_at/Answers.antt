use Rattle.std.proofs.Common.{rules}
use Rattle.manifest.proofs.EditKinds.{no_flush}
use Rattle.manifest.proofs.reading.flush_at.Goals as goal

pub returns-in_err-fields-clause-form : goal.returns-in_err-fields-clause-form
returns-in_err-fields-clause-form c = λ err. no_flush c.args.bytes.now (c.in_err-fields.ensures.form (search rules))
