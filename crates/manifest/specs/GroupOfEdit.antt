-- One group of a manifest, from the records on.
use Rattle.std.specs.Prelude.{◌≡◌, ◌≢◌, ◌⊎◌, ℕ, ◌+◌, Bool, true, false, List, [], ◌∷◌, ◌++◌, length, nat_eq}
use Rattle.flsm_model.specs.declared.edit.Edit.{Edit}
use Rattle.record_log.specs.Groups.{groups_bytes}
use Rattle.manifest.specs.Edits.{edit_bytes, IsEdit}
use Rattle.manifest.specs.Manifests.{edit_groups}

-- the first record is of the group with this gate
abbrev pub goes_on : ℕ → List (ℕ × List ℕ) → Bool
goes_on gate [] = false
goes_on gate (r ∷ records) = nat_eq r.0 gate

-- the first record has this gate and this body, and no other record is of its group
pub record StandsAlone (gate : ℕ) (body : List ℕ) (records : List (ℕ × List ℕ)) : Type 0 where
  pub behind : List (ℕ × List ℕ)
  pub are : records ≡ (gate, body) ∷ behind
  pub alone : goes_on gate behind ≡ false

-- the first record's group has another record, or its body is no edit
pub record StandsForNone (gate : ℕ) (records : List (ℕ × List ℕ)) : Type 0 where
  pub body : List ℕ
  pub behind : List (ℕ × List ℕ)
  pub are : records ≡ (gate, body) ∷ behind
  pub none : (goes_on gate behind ≡ true)
      ⊎ ((goes_on gate behind ≡ false)
      × ((edit : Edit) → IsEdit edit → body ≢ edit_bytes edit))

-- groups of these edits, and then one that is no edit's: its gate stands at this place of the file
pub record FirstNoEdit (groups : List (List (List ℕ))) (edits : List Edit) (at : ℕ) : Type 0 where
  pub group : List (List ℕ)
  pub behind : List (List (List ℕ))
  pub whole : groups ≡ edit_groups edits ++ group ∷ behind
  pub none : (edit : Edit) → IsEdit edit → group ≢ edit_bytes edit ∷ []
  pub place : at ≡ 24 + length (groups_bytes (edit_groups edits))
