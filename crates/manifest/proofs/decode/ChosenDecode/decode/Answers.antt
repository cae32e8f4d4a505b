use Rattle.std.proofs.Common.{rules}
use Rattle.manifest.proofs.decode.ChosenDecode.decode.Goals as goal

pub returns-in_err-fields-clause-form : goal.returns-in_err-fields-clause-form
returns-in_err-fields-clause-form c = λ err value rest fits. c.in_err-fields.ensures.form (search rules) (value.key, value.level) rest (fits.key, fits.level)
