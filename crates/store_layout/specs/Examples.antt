-- Small images, and what they stand for.
use Rattle.std.specs.Prelude.{ℕ, suc, zero, List, [], ◌∷◌, Option, None, Some}
use Rattle.peb_base.specs.declared.profile.Profile.{Profile}
use Rattle.peb_base.specs.declared.profile.Profile.TheVariants.{Small}
use Rattle.disk_model.specs.declared.journal_file.JournalFile.TheVariants.{Log, ManifestA, ManifestB}
use Rattle.disk_model.specs.Images.{Image}
use Rattle.flsm_model.specs.declared.edit.Edit.TheVariants.{Open}
use Rattle.store_layout.specs.Recorded.{StandsFor}

-- no file
abbrev pub no_files : Image
no_files file = None

-- the manifest of a store in the small profile that was opened once
abbrev pub first_manifest : List ℕ
first_manifest =
    1 ∷ 70 ∷ 76 ∷ 83 ∷ 77 ∷ 77 ∷ 1 ∷ 1 ∷ 0 ∷ 0 ∷ 0 ∷ 0 ∷ 0 ∷ 0 ∷ 0 ∷ 1 ∷ 0 ∷ 0 ∷ 0 ∷ 0 ∷ 0 ∷ 0 ∷ 0 ∷ 0
    ∷ 1 ∷ 0 ∷ 0 ∷ 0 ∷ 21 ∷ 0 ∷ 0 ∷ 0 ∷ 17 ∷ 1
    ∷ 0 ∷ 0 ∷ 0 ∷ 0 ∷ 0 ∷ 0 ∷ 0 ∷ 1 ∷ 0 ∷ 0 ∷ 0 ∷ 0 ∷ 0 ∷ 0 ∷ 0 ∷ 1 ∷ 0 ∷ []

-- its log
abbrev pub first_log_file : List ℕ
first_log_file =
    1 ∷ 70 ∷ 76 ∷ 83 ∷ 77 ∷ 76 ∷ 1 ∷ 1 ∷ 0 ∷ 0 ∷ 0 ∷ 0 ∷ 0 ∷ 0 ∷ 0 ∷ 1 ∷ 0 ∷ 0 ∷ 0 ∷ 0 ∷ 0 ∷ 0 ∷ 0 ∷ 1 ∷ 0
    ∷ []

-- only log 1 has a file
abbrev pub logs_once : ℕ → Option (List ℕ)
logs_once zero = None
logs_once (suc zero) = Some first_log_file
logs_once (suc (suc n)) = None

-- the files after the first opening
abbrev pub opened_once : Image
opened_once ManifestA = Some first_manifest
opened_once ManifestB = None
opened_once (Log n) = logs_once n

-- an image without files stands for no batches, and for the record without edits
abbrev pub NothingStands : Type 0
NothingStands = (profile : Profile) → StandsFor profile [] [] no_files

-- after the first opening it stands for no batches, and for that opening
abbrev pub FirstStands : Type 0
FirstStands = StandsFor Small [] (Open 1 1 ∷ []) opened_once
