-- The manifest's file, and a manifest that edits can be appended to.
use Rattle.std.specs.Prelude.{◌≡◌, ◌≢◌, ◌⊎◌, ℕ, ◌+◌, Bool, List, [], ◌∷◌, ◌++◌, map, length, Option, Some}
use Rattle.std.specs.List.{AllByRecursion}
use Rattle.disk_model.specs.Images.{Image}
use Rattle.disk_model.specs.declared.journal_file.JournalFile.TheVariants.{ManifestA}
use Rattle.peb_base.specs.declared.profile.Profile.{Profile}
use Rattle.flsm_model.specs.declared.edit.Edit.{Edit}
use Rattle.record_log.specs.declared.header.Header.{Header}
use Rattle.record_log.specs.declared.log_file.LogFile.{LogFile}
use Rattle.record_log.specs.Groups.{group_bytes, groups_bytes, IsGroup, placed}
use Rattle.record_log.specs.Log.{Splits, IsLog, IsUnfinished, HasNoHeader}
use Rattle.record_log.specs.Ready.{IsReady}
use Rattle.record_log.specs.State.{log_file, log_tail}
use Rattle.manifest.specs.declared.manifest_file.Manifest.{Manifest}
use Rattle.manifest.specs.Edits.{edit_bytes, IsEdit}

-- the header of a manifest
abbrev pub manifest_header : Profile → Header
manifest_header profile =
    record { kind = 77; form = 1; profile = profile; number = 1; session = 0 }

-- one edit a group
abbrev pub edit_groups : List Edit → List (List (List ℕ))
edit_groups edits = map (λ edit. edit_bytes edit ∷ []) edits

-- the file holds these edits of a store in this profile
pub record IsManifest (profile : Profile) (edits : List Edit)
    (found : Option (List ℕ)) : Type 0 where
  pub each : AllByRecursion IsEdit edits
  pub log : IsLog ManifestA (manifest_header profile) (edit_groups edits) found

-- the file holds these edits, or these and one more
abbrev pub IsBeforeOrAfterEdit : Profile → List Edit → Edit → Option (List ℕ) → Type 0
IsBeforeOrAfterEdit profile edits edit found =
    IsManifest profile edits found ⊎ IsManifest profile (edits ++ edit ∷ []) found

-- while a manifest is created: the file is as it was, not created to its end, or holds no edit
abbrev pub CreatesManifest : Profile → Option (List ℕ) → Option (List ℕ) → Type 0
CreatesManifest profile old new =
    (new ≡ old) ⊎ (IsUnfinished new ⊎ IsManifest profile [] new)

-- the edits of a list in which each stands behind the place of its group's gate
abbrev pub edits_of : List (ℕ × Edit) → List Edit
edits_of found = map (λ p. p.1) found

-- each edit stands behind the place of its group's gate
abbrev pub ArePlaced : List (ℕ × Edit) → Type 0
ArePlaced found =
    map (λ p. (p.0, edit_bytes p.1)) found ≡ placed 24 (edit_groups (edits_of found))

-- no group of one edit stands at the front, with a gate behind it
abbrev pub IsNoEditGroup : List ℕ → Type 0
IsNoEditGroup bytes = (edit : Edit) (gate : ℕ) (rest : List ℕ) → IsEdit edit
    → IsGroup (edit_bytes edit ∷ []) → bytes ≢ group_bytes (edit_bytes edit ∷ []) ++ gate ∷ rest

-- the file holds these edits, and behind them, at this place, an open gate without a group of one
-- edit
pub record IsDamagedBehind (profile : Profile) (edits : List Edit) (found : Option (List ℕ))
    (at : ℕ) : Type 0 where
  pub rest : List ℕ
  pub bytes : List ℕ
  pub holds : found ≡ Some bytes
  pub each : AllByRecursion IsEdit edits
  pub splits : Splits ManifestA bytes (manifest_header profile) (edit_groups edits) (1 ∷ rest)
  pub none : IsNoEditGroup (1 ∷ rest)
  pub place : at ≡ 24 + length (groups_bytes (edit_groups edits))

-- the first place that isn't in form: 0 for the header, and else, behind all groups of one edit,
-- the gate of the first group that is none
abbrev pub IsDamagedManifest : Option (List ℕ) → ℕ → Type 0
IsDamagedManifest found at = ((at ≡ 0) × HasNoHeader ManifestA found)
    ⊎ ((profile : Profile) × (edits : List Edit) × IsDamagedBehind profile edits found at)

-- the file that the manifest is written to
abbrev pub manifest_log : Manifest → LogFile
manifest_log manifest = manifest.log

-- no append has failed half-way: nothing waits to be written
abbrev pub IsUnspent : Manifest → Type 0
IsUnspent manifest = log_tail (manifest_log manifest) ≡ []

-- the journal tells that the file holds these edits, and each crash leaves it so
pub record IsReadyManifest {D : Type 0} (tells : Bool) (seen : D → Image)
    (may_leave : D → Image → Type 0) (journal : D) (manifest : Manifest) (profile : Profile)
    (edits : List Edit) : Type 0 where
  pub each : AllByRecursion IsEdit edits
  pub file : log_file (manifest_log manifest) ≡ ManifestA
  pub unspent : IsUnspent manifest
  pub ready : IsReady tells seen may_leave journal (manifest_log manifest)
      (manifest_header profile) (edit_groups edits)
