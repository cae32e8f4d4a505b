-- The form of a whole file: a header, groups behind open gates, and a closed gate. Nothing behind
-- that is read.
use Rattle.std.specs.Prelude.{◌≡◌, ◌≢◌, ◌⊎◌, ℕ, ◌+◌, ◌<◌, ◌≤◌, List, ◌∷◌, ◌++◌, length, take, get_or, Option, None, Some}
use Rattle.disk_model.specs.declared.journal_file.JournalFile.{JournalFile}
use Rattle.record_log.specs.declared.header.Header.{Header}
use Rattle.record_log.specs.Header.{header_bytes, IsHeaderOf}
use Rattle.record_log.specs.Groups.{groups_bytes, AreGroups, IsNoGroup, placed}

-- the bytes are a header of the file, groups behind open gates, and then the rest
pub record Splits (file : JournalFile) (bytes : List ℕ) (header : Header)
    (groups : List (List (List ℕ))) (rest : List ℕ) : Type 0 where
  pub fits : IsHeaderOf file header
  pub each : AreGroups groups
  pub spelled : bytes ≡ header_bytes header ++ groups_bytes groups ++ rest

-- the file holds this header and these groups; a closed gate ends them
pub record IsLog (file : JournalFile) (header : Header) (groups : List (List (List ℕ)))
    (found : Option (List ℕ)) : Type 0 where
  pub gate : ℕ
  pub rest : List ℕ
  pub bytes : List ℕ
  pub holds : found ≡ Some bytes
  pub closed : gate ≢ 1
  pub splits : Splits file bytes header groups (gate ∷ rest)

-- the file is absent, or wasn't created to its end
abbrev pub IsUnfinished : Option (List ℕ) → Type 0
IsUnfinished None = Unit {0}
IsUnfinished (Some bytes) = (length bytes < 25) ⊎ (get_or bytes 0 0 ≢ 1)

-- the file was created to its end, and this is the first place that isn't in form: 0 for the
-- header, and for a group its gate
pub record IsDamaged (file : JournalFile) (bytes : List ℕ) (at : ℕ) : Type 0 where
  pub long : 25 ≤ length bytes
  pub made : get_or bytes 0 0 ≡ 1
  pub place :
      ((at ≡ 0) × ((header : Header) → IsHeaderOf file header
      → take 24 bytes ≢ header_bytes header))
      ⊎ ((header : Header) × (groups : List (List (List ℕ))) × (rest : List ℕ)
      × Splits file bytes header groups (1 ∷ rest) × IsNoGroup (1 ∷ rest)
      × (at ≡ 24 + length (groups_bytes groups)))

-- the file holds this header, and these records of its groups, each with the place of its group's
-- gate
pub record Holds (file : JournalFile) (header : Header) (records : List (ℕ
    × List ℕ)) (found : Option (List ℕ)) : Type 0 where
  pub groups : List (List (List ℕ))
  pub log : IsLog file header groups found
  pub given : records ≡ placed 24 groups

-- the file holds this header and these records of groups, and behind them, at this place, an open
-- gate without a group
pub record BreaksOff (file : JournalFile) (header : Header) (records : List (ℕ × List ℕ))
    (found : Option (List ℕ)) (at : ℕ) : Type 0 where
  pub groups : List (List (List ℕ))
  pub rest : List ℕ
  pub bytes : List ℕ
  pub holds : found ≡ Some bytes
  pub splits : Splits file bytes header groups (1 ∷ rest)
  pub none : IsNoGroup (1 ∷ rest)
  pub given : records ≡ placed 24 groups
  pub place : at ≡ 24 + length (groups_bytes groups)

-- the file was created to its end, but no header of it stands at its front
pub record HasNoHeader (file : JournalFile) (found : Option (List ℕ)) : Type 0 where
  pub bytes : List ℕ
  pub holds : found ≡ Some bytes
  pub long : 25 ≤ length bytes
  pub made : get_or bytes 0 0 ≡ 1
  pub none : (header : Header) → IsHeaderOf file header → take 24 bytes ≢ header_bytes header

-- the place of the closed gate behind all groups that the file holds
abbrev pub IsPlaceBehind : JournalFile → Header → Option (List ℕ) → ℕ → Type 0
IsPlaceBehind file header found place = (groups : List (List (List ℕ)))
    → IsLog file header groups found → place ≡ 24 + length (groups_bytes groups)
