-- Pages with a block, and without one.
use Rattle.std.proofs.Common.{◌≡◌, ℕ, ◌≤◌, ◌∙◌, IsTrue, List, [], length, take, drop, Some, refl, sym, ap, arith, subst}
use Rattle.std.specs.Prelude.{slice_get}
use Rattle.peb_base.specs.Keys.{Bytes}
use Rattle.peb_base.specs.declared.entry.Entry.{Entry}
use Rattle.block_form.specs.Form.{IsBlock}
use Rattle.block_form.specs.Spots.{IsSpot}
use Rattle.block_form.specs.declared.spot.Spot.{Spot}
use Rattle.block_form.specs.Walks.{entries_from, entries_in}
use Rattle.disk_model.specs.declared.table_handle.TableHandle.{Ghosts}
use Rattle.table_file.specs.Tables.{TableParts}
use Rattle.table_file.specs.declared.index_item.IndexItem.{IndexItem}
use Rattle.table_cursor.specs.Agreeing.{Agrees}
use Rattle.table_cursor.specs.Fetching.{Fetched}
use Rattle.table_cursor.specs.IndexLaws.{item_is}
use Rattle.table_cursor.specs.Page.{IsPage}

pub none_in : (bytes : List ℕ) → entries_in 0 bytes ≡ []
unfolding entries_from
none_in bytes = refl

pub empty_page : (len place : ℕ) (here : Spot) (buffer : List ℕ) (key : Bytes) → len ≤ 40960 → IsPage len 0 place here buffer key (entries_in 0 (take len buffer))
empty_page len place here buffer key fits =
    record {
      fits = fits;
      count_is = sym (ap length (none_in (take len buffer)));
      block = λ some. absurd (omega (arith, some));
      inside = λ some. absurd (omega (arith, some));
      spot = λ some. absurd (omega (arith, some));
    }

-- a page on which a block was read, at its first entry
pub full_page : (len count : ℕ) (here : Spot) (buffer : List ℕ) (key : Bytes) (es : List Entry) → len ≤ 40960 → IsBlock es (take len buffer) → length es ≡ count → entries_in count (take len buffer) ≡ es
    → IsSpot es 0 key here → IsPage len count 0 here buffer key (entries_in count (take len buffer))
full_page len count here buffer key es fits form counted same first =
    subst (λ (l : List Entry). IsPage len count 0 here buffer key l) (sym same)
    (record { fits = fits; count_is = sym counted; block = λ some. form; inside = λ some. some; spot = λ some. first })

-- what was read into a buffer, by the item at the index
pub record KnownBlock {F : Type 0} (g : Ghosts F) (t : TableParts F) (index : ℕ) (item : IndexItem) (count : ℕ) (buffer : List ℕ) : Type 0 where
  pub entries : List Entry
  pub fits : item.len ≤ 40960
  pub form : IsBlock entries (take item.len buffer)
  pub counted : length entries ≡ count
  pub agrees : Agrees t.row t.items index item.place entries
  pub read : IsTrue g.tells → take item.len buffer ≡ take item.len (drop item.place (g.bytes t.file))

pub known_block : {F : Type 0} (g : Ghosts F) (t : TableParts F) (index : ℕ) (item : IndexItem) (count : ℕ) (buffer : List ℕ) → slice_get t.items index ≡ Some item → Fetched g t index count buffer → KnownBlock g t index item count buffer
known_block g t index item count buffer there f =
    subst (λ i. KnownBlock g t index i count buffer) (item_is f.item item (sym f.indexed ∙ there))
    (record { entries = f.entries; fits = f.fits; form = f.form; counted = f.counted; agrees = f.agrees; read = f.read })
