-- Places in a block: where entries begin, and what is read of one.
use Rattle.std.specs.Prelude.{◌≡◌, ℕ, ◌+◌, Option, Some, None, List, [], ◌++◌, length, take, slice_get}
use Rattle.peb_base.specs.Entries.{AreSorted, value_of}
use Rattle.peb_base.specs.Keys.{Bytes}
use Rattle.peb_base.specs.declared.change.Change.{Change}
use Rattle.peb_base.specs.declared.change.Change.TheVariants.{Put, Delete}
use Rattle.peb_base.specs.declared.entry.Entry.{Entry}
use Rattle.block_form.specs.Form.{entries_bytes}
use Rattle.block_form.specs.declared.spot.Spot.{Spot}

-- where the entry at a place begins, counted from the first entry
abbrev pub offset_of : ℕ → List Entry → ℕ
offset_of place es = length (entries_bytes 0 [] (take place es))

-- how many bytes the value of a change has, if it has one
abbrev pub value_length : Change → Option ℕ
value_length (Put value) = Some (length value)
value_length Delete = None

-- the entry at a place has this key, and the spot is what is read of it besides
pub record IsSpot (es : List Entry) (place : ℕ) (key : Bytes) (spot : Spot) : Type 0 where
  pub entry : Entry
  pub there : slice_get es place ≡ Some entry
  pub key_is : key ≡ entry.key
  pub number : spot.number ≡ entry.number
  pub value : spot.value ≡ value_length entry.change
  pub behind : spot.behind ≡ offset_of (place + 1) es

-- the bytes begin with those of all these entries, which ascend
pub record BeginsWithAll (es : List Entry) (bytes : List ℕ) : Type 0 where
  pub each : AreSorted es
  pub more : List ℕ
  pub spelled : bytes ≡ entries_bytes 0 [] es ++ more

-- the value of a change, if it has one, ends where the spot says
pub record EndsWith (change : Change) (spot : Spot) (entries : List ℕ) : Type 0 where
  pub front : List ℕ
  pub more : List ℕ
  pub spelled : entries ≡ (front ++ value_of change) ++ more
  pub behind : spot.behind ≡ length (front ++ value_of change)
  pub value : spot.value ≡ value_length change
