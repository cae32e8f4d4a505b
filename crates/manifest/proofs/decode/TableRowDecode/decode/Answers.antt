use Rattle.std.proofs.Common.{rules}
use Rattle.manifest.specs.FieldLaws.{fields_of_row, row_fits}
use Rattle.manifest.proofs.decode.TableRowDecode.decode.Goals as goal

pub returns-in_err-fields-clause-form : goal.returns-in_err-fields-clause-form
returns-in_err-fields-clause-form c = λ err value rest fits. c.in_err-fields.ensures.form (search rules) (fields_of_row value) rest (row_fits value fits)
