-- What a crash takes of the images that it may leave.
use Rattle.std.specs.Prelude.{◌≡◌, List}
use Rattle.disk_model.specs.declared.call.Call.{Call}
use Rattle.disk_model.specs.declared.pick.Pick.{Pick}
use Rattle.disk_model.specs.declared.pick.Pick.TheVariants.{Old, New}
use Rattle.disk_model.specs.Images.{Image}
use Rattle.disk_model.specs.Past.{read_after, kept_after, AreCalls, IsLeft}

-- After these calls reads give the one image, and a crash takes the other, which is one that it may
-- leave: by New what reads give, by Old what was kept.
pub record IsTaken (pick : Pick) (first : Image) (calls : List Call)
    (read taken : Image) : Type 0 where
  pub are : AreCalls first calls
  pub reads : read ≡ read_after first calls
  pub left : IsLeft first calls taken
  pub new : pick ≡ New → taken ≡ read
  pub old : pick ≡ Old → taken ≡ kept_after first calls
