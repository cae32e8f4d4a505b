-- The fields of an edit: how each is spelled, and when it is in form.
use Rattle.std.specs.Prelude.{◌≡◌, ℕ, ◌^◌, ◌<◌, ◌≤◌, Bool, if◌then◌else◌, List, [], ◌∷◌, ◌++◌, length, flat_map}
use Rattle.std.specs.List.{AllByRecursion}
use Rattle.byteorder.specs.Endian.{big_bytes}
use Rattle.peb_base.specs.Keys.{Bytes}
use Rattle.peb_base.specs.declared.table_row.TableRow.{TableRow}
use Rattle.flsm_model.specs.declared.chosen.Chosen.{Chosen}
use Rattle.record_log.specs.Counted.{counted_bytes}

-- no spelling of a value in form begins with another's: what stands at the front of bytes is one
-- value at most, and so is what stands behind it
pub record AreApart {X : Type 0} (fits : X → Type 0) (spelled : X → List ℕ) : Type 0 where
  pub one : (a b : X) (x y : List ℕ) → fits a → fits b → spelled a ++ x ≡ spelled b ++ y
      → (a ≡ b) × (x ≡ y)

-- a number of eight bytes
abbrev pub IsWord : ℕ → Type 0
IsWord n = n < 2 ^ 64

abbrev pub word_bytes : ℕ → List ℕ
word_bytes n = big_bytes 8 n

-- the number of an operation, or of a place between operations
abbrev pub IsNumber : ℕ → Type 0
IsNumber n = n < 2 ^ 63

-- one byte
abbrev pub IsByte : ℕ → Type 0
IsByte n = n < 2 ^ 8

abbrev pub byte_bytes : ℕ → List ℕ
byte_bytes n = n ∷ []

-- whether something is so: 1 or 0
abbrev pub flag_bytes : Bool → List ℕ
flag_bytes b = (if b then 1 else 0) ∷ []

-- a key of 1 to 1024 bytes, behind its length
abbrev pub IsKey : Bytes → Type 0
IsKey key = (0 < length key) × (length key ≤ 1024)

abbrev pub key_bytes : Bytes → List ℕ
key_bytes key = counted_bytes 2 key

-- a list in form: its length fits four bytes, and each item is in form
pub record IsList {X : Type 0} (fits : X → Type 0) (xs : List X) : Type 0 where
  pub few : length xs < 2 ^ 32
  pub each : AllByRecursion fits xs

-- a list: how many items it has, and these
abbrev pub list_bytes : {X : Type 0} → (X → List ℕ) → List X → List ℕ
list_bytes spelled xs = big_bytes 4 (length xs) ++ flat_map spelled xs

-- the row of a table
pub record IsRow (r : TableRow) : Type 0 where
  pub number : IsWord r.number
  pub level : IsByte r.level
  pub tier : IsByte r.tier
  pub smallest : IsKey r.smallest
  pub largest : IsKey r.largest
  pub entries : IsWord r.entries
  pub raw : IsWord r.raw
  pub first : IsNumber r.first
  pub last : IsNumber r.last
  pub bytes : IsWord r.bytes

abbrev pub row_bytes : TableRow → List ℕ
row_bytes r =
    word_bytes r.number ++ (byte_bytes r.level ++ (byte_bytes r.tier
    ++ (key_bytes r.smallest ++ (key_bytes r.largest
    ++ (word_bytes r.entries ++ (word_bytes r.raw
    ++ (word_bytes r.first ++ (word_bytes r.last ++ word_bytes r.bytes))))))))

-- a chosen key, and its level
pub record IsChosen (c : Chosen) : Type 0 where
  pub key : IsKey c.key
  pub level : IsByte c.level

abbrev pub chosen_bytes : Chosen → List ℕ
chosen_bytes c = key_bytes c.key ++ byte_bytes c.level

-- two fields, one behind the other
abbrev pub AreBoth : {A B : Type 0} → (A → Type 0) → (B → Type 0) → A × B → Type 0
AreBoth first second pair = first pair.0 × second pair.1

abbrev pub pair_bytes : {A B : Type 0} → (A → List ℕ) → (B → List ℕ) → A × B → List ℕ
pair_bytes first second pair = first pair.0 ++ second pair.1
