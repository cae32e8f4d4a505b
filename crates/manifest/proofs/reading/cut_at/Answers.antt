use Rattle.std.proofs.Common.{rules}
use Rattle.manifest.proofs.EditKinds.{no_cut}
use Rattle.manifest.proofs.reading.cut_at.Goals as goal

pub returns-in_err-fields-clause-form : goal.returns-in_err-fields-clause-form
returns-in_err-fields-clause-form c = λ err. no_cut c.args.bytes.now (c.in_err-fields.ensures.form (search rules))
