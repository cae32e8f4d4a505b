use Rattle.std.proofs.Common.{refl}
use Rattle.job_picker.proofs.laws.law_seen.Goals as goal

pub returns : goal.returns
returns g c = λ sound p r v legal stands. (record { sound = sound p r legal; stands = stands }, λ level key. refl)
