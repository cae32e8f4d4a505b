-- What calls that only read and synced have changed.
use Rattle.std.proofs.Common.{Bool, ap, refl}
use Rattle.disk_model.specs.declared.journal_file.JournalFile.{JournalFile}
use Rattle.disk_model.specs.Images.{Image}
use Rattle.disk_model.specs.Told.{JournalTold}
use Rattle.flsm_core.specs.Touched.{Counts, HasTouched, touched_step}
use Rattle.recovery.specs.Opening.{HasWatched}

-- they have changed no file
pub touched_watched : (tells : Bool) (file : JournalFile) (old new : JournalTold) → Counts old → HasWatched old new → HasTouched tells file old new
touched_watched tells file old new counts watched =
    touched_step tells file old new counts watched.time (λ other differ. ap (λ (i : Image). i other) watched.seen)
    (λ told image left. (image, watched.each image left, λ other differ. refl))
