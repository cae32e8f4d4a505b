-- A file that is put in its place is a step of that file alone.
use Rattle.std.proofs.Common.{◌≡◌, ℕ, List, Option, sym, ap, ◌∙◌, subst}
use Rattle.disk_model.specs.declared.journal_file.JournalFile.{JournalFile}
use Rattle.disk_model.specs.Images.{Image, In}
use Rattle.disk_model.specs.Moments.{Step}
use Rattle.disk_model.specs.Files.{changed, changed_here, changed_elsewhere}

pub put_in : (file : JournalFile) (step : Step) (old new : Image) (bytes : Option (List ℕ)) → new ≡ changed file bytes old → step (old file) bytes → In file step old new
put_in file step old new bytes is holds = record {
  here = subst (step (old file)) (sym (ap (λ i. i file) is ∙ changed_here file bytes old)) holds;
  elsewhere = λ other differ. ap (λ i. i other) is ∙ changed_elsewhere file bytes old other differ;
}
