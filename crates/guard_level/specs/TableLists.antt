-- Lists of tables, each seen by its row.
use Rattle.std.specs.Prelude.{◌≡◌, ◌≢◌, ◌↔◌, ℕ, not, List, [], ◌∷◌, ◌++◌, filter, get_or, set}
use Rattle.std.specs.List.{AllByRecursion}
use Rattle.peb_base.specs.Keys.{Bytes, key_lt}
use Rattle.peb_base.specs.declared.entry.Entry.{Entry}
use Rattle.peb_base.specs.declared.table_row.TableRow.{TableRow}

-- the tables that begin below the key
abbrev pub below : {T : Type 0} → (T → TableRow) → Bytes → List T → List T
below row key ts = filter (λ t. key_lt (row t).smallest key) ts

-- the tables that begin at or above the key
abbrev pub above : {T : Type 0} → (T → TableRow) → Bytes → List T → List T
above row key ts = filter (λ t. not (key_lt (row t).smallest key)) ts

-- no table has this number
abbrev pub IsAbsent : {T : Type 0} → (T → TableRow) → ℕ → List T → Type 0
IsAbsent row number ts = AllByRecursion (λ t. (row t).number ≢ number) ts

-- a table of this number was taken out, and the others stay in their order
pub record TakesOut {T : Type 0} (row : T → TableRow) (number : ℕ) (old : List T) (t : T)
    (new : List T) : Type 0 where
  pub before : List T
  pub behind : List T
  pub named : (row t).number ≡ number
  pub was : old ≡ before ++ t ∷ behind
  pub now : new ≡ before ++ behind

-- one of the lists gave a table of this number up
pub record TakesFrom {T : Type 0} (row : T → TableRow) (number : ℕ) (old : List (List T)) (t : T)
    (new : List (List T)) : Type 0 where
  pub guard : ℕ
  pub rest : List T
  pub out : TakesOut row number (get_or old guard []) t rest
  pub now : new ≡ set old guard rest

-- tables one by one with the same row and entries
abbrev pub AreShared : {T : Type 0} → (T → TableRow) → (T → List Entry → Type 0) → List T → List T
    → Type 0
AreShared row holds [] [] = Unit {0}
AreShared row holds [] (u ∷ us) = ⊥
AreShared row holds (t ∷ ts) [] = ⊥
AreShared row holds (t ∷ ts) (u ∷ us) =
    (row u ≡ row t) × ((es : List Entry) → holds u es ↔ holds t es) × AreShared row holds ts us
