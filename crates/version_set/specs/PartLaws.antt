-- What every legal record gives a version set.
use Rattle.std.specs.Prelude.{◌<◌, length}
use Rattle.std.specs.List.{AllByRecursion}
use Rattle.peb_base.specs.Profiles.{column}
use Rattle.peb_base.specs.declared.profile.Profile.{Profile}
use Rattle.flsm_model.specs.Shape.{Shape}
use Rattle.flsm_model.specs.Sound.{IsSound, IsNested}
use Rattle.version_set.specs.Shapes.{HasPlace}

-- there are at most 255 levels, and a table of each live row has its place
pub record HasParts (s : Shape) : Type 0 where
  pub few : length s.guards < 256
  pub placed : AllByRecursion (HasPlace s.guards) s.live

-- so it is where a legal record leaves the shape
abbrev pub RecordsHaveParts : Type 0
RecordsHaveParts =
    (p : Profile) (s : Shape) → IsSound (column p) s → IsNested (column p) s → HasParts s
