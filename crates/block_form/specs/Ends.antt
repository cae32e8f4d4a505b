-- What the entries of a block that is read for the first time tell besides.
use Rattle.std.specs.Prelude.{◌≡◌, ◌-◌, ◌<◌, List, length, Some, slice_get}
use Rattle.peb_base.specs.Keys.{Bytes}
use Rattle.peb_base.specs.Tables.{least_number, greatest_number}
use Rattle.peb_base.specs.declared.entry.Entry.{Entry}
use Rattle.block_form.specs.declared.ends.Ends.{Ends}

-- this is the key of the last of the entries, and these are its number, the least and
-- the greatest number, and how many they are
pub record TellsEnds (es : List Entry) (key : Bytes) (ends : Ends) : Type 0 where
  pub count : ends.count ≡ length es
  pub least : 0 < length es → ends.least ≡ least_number es
  pub greatest : ends.greatest ≡ greatest_number es
  pub last : (e : Entry) → slice_get es (length es - 1) ≡ Some e → (key ≡ e.key)
      × (ends.last ≡ e.number)
