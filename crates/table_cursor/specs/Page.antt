-- What is read on a page.
use Rattle.std.specs.Prelude.{◌≡◌, ℕ, ◌<◌, ◌≤◌, List, length, take}
use Rattle.peb_base.specs.Keys.{Bytes}
use Rattle.peb_base.specs.declared.entry.Entry.{Entry}
use Rattle.block_form.specs.Form.{IsBlock}
use Rattle.block_form.specs.Spots.{IsSpot}
use Rattle.block_form.specs.declared.spot.Spot.{Spot}
use Rattle.block_form.specs.Walks.{entries_in}

-- where a block begins in its file, its bytes, its entries, and a place among
-- them; no entries where no block is read
pub record Reading : Type 0 where
  pub at : ℕ
  pub bytes : List ℕ
  pub entries : List Entry
  pub place : ℕ

-- what the first bytes of a buffer hold
abbrev pub reading : ℕ → ℕ → ℕ → ℕ → List ℕ → Reading
reading at len count place buffer =
    record {
      at = at;
      bytes = take len buffer;
      entries = entries_in count (take len buffer);
      place =
          place;
    }

-- what is kept of a page: where it has entries they are those of its block, and the key and the spot
-- are those of the entry at its place
pub record IsPage (len count place : ℕ) (here : Spot) (buffer : List ℕ) (key : Bytes)
    (entries : List Entry) : Type 0 where
  pub fits : len ≤ 40960
  pub count_is : count ≡ length entries
  pub block : 0 < count → IsBlock entries (take len buffer)
  pub inside : 0 < count → place < count
  pub spot : 0 < count → IsSpot entries place key here
