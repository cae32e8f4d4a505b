use Rattle.std.proofs.Common.{◌++◌, rules, sym, ◌∙◌, append_assoc}
use Rattle.manifest.proofs.decode.Tuple2Decode.decode.Goals as goal

pub returns-in_err-second-clause-form : goal.returns-in_err-second-clause-form
returns-in_err-second-clause-form g c = λ err value rest fits same.
    let first = c.in_ok-first in
    let whole = sym first.ensures.found ∙ same ∙ append_assoc (g.A.Decode.spelling value.0) (g.B.Decode.spelling value.1) rest in
    let parts = g.met.A.Decode.apart.one first.first value.0 first.rest.now (g.B.Decode.spelling value.1 ++ rest) first.ensures.fits fits.0 whole in
    c.in_err-second.ensures.form (search rules) value.1 rest fits.1 parts.1
