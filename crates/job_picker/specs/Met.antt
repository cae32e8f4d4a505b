-- What `pick` and `due` ask of a version and candidates is met by those of a legal record.
use Rattle.std.specs.Prelude.{◌≡◌, true}
use Rattle.peb_base.specs.Profiles.{column}
use Rattle.peb_base.specs.declared.profile.Profile.{Profile}
use Rattle.peb_base.specs.declared.table_row.TableRow.{TableRow}
use Rattle.flsm_model.specs.Fits.{is_legal_record}
use Rattle.flsm_model.specs.Shape.{Record, Shape, shape_of}
use Rattle.flsm_model.specs.Sound.{RecordsSound}
use Rattle.version.specs.Levels.{Levels}
use Rattle.version_set.specs.Shapes.{IsVersionOf}
use Rattle.job_picker.specs.Seen.{IsVersion, AreCandidates}

-- a version that stands for the shape of a legal record is one that is asked for, and the shape's
-- chosen keys are candidates that are
abbrev pub RecordsAreSeen : {T : Type 0} → (T → TableRow) → Type 0
RecordsAreSeen {T} row =
    RecordsSound → (p : Profile) (r : Record) (v : Levels T) → is_legal_record (column p) r ≡ true
    → IsVersionOf row v (shape_of (column p) r)
    → IsVersion row (column p) v (shape_of (column p) r)
    × AreCandidates (shape_of (column p) r).chosen (shape_of (column p) r)
