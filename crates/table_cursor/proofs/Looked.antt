-- What a look into one block of a table finds.
use Rattle.std.proofs.Common.{◌≡◌, ℕ, ◌<◌, ◌∙◌, IsTrue, List, length, take, drop, Option, Some, None, Err, refl, sym, ap, subst, arith}
use Rattle.std.specs.Prelude.{slice_get, option_map, IfSome}
use Rattle.disk_model.specs.declared.table_handle.TableHandle.{Ghosts}
use Rattle.peb_base.specs.Cursors.{IfDamage}
use Rattle.peb_base.specs.Entries.{AreSorted}
use Rattle.peb_base.specs.EntryRefs.{entry_of}
use Rattle.peb_base.specs.Keys.{Bytes}
use Rattle.peb_base.specs.declared.entry.Entry.{Entry}
use Rattle.peb_base.specs.declared.entry_ref.EntryRef.{EntryRef}
use Rattle.peb_base.specs.declared.read_fault.ReadFault.{ReadFault}
use Rattle.peb_base.specs.declared.read_fault.ReadFault.TheVariants.{Fault, Damaged}
use Rattle.table_file.specs.Blocks.{AreBlocks}
use Rattle.table_file.specs.Form.{blocks_of, items_from, item_of}
use Rattle.table_file.specs.Items.{index_for}
use Rattle.table_file.specs.Tables.{TableParts, Holds}
use Rattle.table_file.specs.declared.index_item.IndexItem.{IndexItem}
use Rattle.table_cursor.specs.Agreeing.{ShowsOf, IsDamageAt}
use Rattle.table_cursor.specs.IndexLaws.{get_inside, item_is}
use Rattle.table_cursor.specs.Looking.{newest_of, Finds, IsFound, IsLookedUp}
use Rattle.table_cursor.specs.Walking.{CanBeRead}
use Rattle.table_cursor.specs.Page.{Reading}
use Rattle.table_cursor.specs.Standing.{joined}
use Rattle.table_cursor.proofs.Finding.{find_inside}
use Rattle.table_cursor.proofs.Honest.{OneBlock, honest_block, same_block, never_damaged}
use Rattle.table_cursor.proofs.Newest.{newest_is, in_block}
use Rattle.table_cursor.proofs.Pages.{KnownBlock}

-- the block that was read, at one of its places
reading_of : ℕ → ℕ → List ℕ → List Entry → ℕ → Reading
reading_of at len buffer entries place = record { at = at; bytes = take len buffer; entries = entries; place = place }

module _ {F : Type 0} (g : Ghosts F) (t : TableParts F) where
  shows_read : (index : ℕ) (item : IndexItem) (count : ℕ) (buffer : List ℕ) → slice_get t.items index ≡ Some item → (read : KnownBlock g t index item count buffer) → (place : ℕ) → place < length read.entries
      → ShowsOf g t index (reading_of item.place item.len buffer read.entries place)
  unfolding reading_of
  shows_read index item count buffer there read place lt =
      let is_item : item ≡ item_of item.place read.entries = item_is item (item_of item.place read.entries) (sym there ∙ read.agrees.indexed) in
      let long : length (take item.len buffer) ≡ item.len = ap length read.form.spelled ∙ sym (ap (λ (i : IndexItem). i.len) is_item) in
      record {
        inside = lt;
        agrees = read.agrees;
        small = read.form.small;
        spelled = read.form.spelled;
        read = λ told. read.read told ∙ ap (λ n. take n (drop item.place (g.bytes t.file))) (sym long);
      }

  pub looked : OneBlock → (es : List Entry) (holds : Holds g t es) → IsTrue g.tells → joined (blocks_of holds.full es) ≡ es → AreBlocks (blocks_of holds.full es) → (key : Bytes) (number index : ℕ) (item : IndexItem) (count : ℕ) (buffer : List ℕ)
      → index ≡ index_for key number t.items → slice_get t.items index ≡ Some item → (read : KnownBlock g t index item count buffer) → newest_of key number es ≡ newest_of key number read.entries
  unfolding reading_of
  looked one es holds told whole are key number index item count buffer is there read =
      let blocks = blocks_of holds.full es in
      let inside = get_inside t.items index item there in
      let shows = shows_read index item count buffer there read 0 read.form.some in
      let block = same_block g t es holds told whole are one index (reading_of item.place item.len buffer read.entries 0) (honest_block g t es holds told whole are index inside) shows read.form in
      let by_index : slice_get blocks (index_for key number (items_from 0 blocks)) ≡ Some read.entries = ap (slice_get blocks) (sym (is ∙ ap (index_for key number) holds.table.items_are)) ∙ block in
      let lt = find_inside key number t.row t.items index item.place read.entries read.agrees is read.form.some in
      ap (newest_of key number) (sym whole) ∙ in_block key number blocks read.entries (subst AreSorted (sym whole) holds.table.sorted) are by_index lt

  pub no_damage : (es : List Entry) (holds : Holds g t es) → IsTrue g.tells → joined (blocks_of holds.full es) ≡ es → AreBlocks (blocks_of holds.full es) → (wanted : Option Entry) (index : ℕ) (fault : ReadFault)
      → IfDamage {T = ℕ} (Err fault) (IsDamageAt g t index) → Finds wanted (Err fault)
  no_damage es holds told whole are wanted index Fault damage = tt
  no_damage es holds told whole are wanted index (Damaged n at) damage = never_damaged g t es holds told whole are index n at damage

  pub is_found : (key : Bytes) (number index : ℕ) (item : IndexItem) (count : ℕ) (buffer : List ℕ) → slice_get t.items index ≡ Some item → (read : KnownBlock g t index item count buffer)
      → (found : Option EntryRef) → option_map entry_of found ≡ newest_of key number read.entries → IfSome found (λ e. IsFound g t key number (entry_of e))
  unfolding reading_of
  is_found key number index item count buffer there read None is = tt
  is_found key number index item count buffer there read (Some e) is =
      let found = newest_is key number read.entries (entry_of e) (sym is) in
      let inside = get_inside read.entries found.2.0 (entry_of e) found.2.1 in
      record {
        key_is = found.0;
        below = found.1;
        of_block = record {
          index = index;
          page = reading_of item.place item.len buffer read.entries found.2.0;
          shows = shows_read index item count buffer there read found.2.0 inside;
          there = found.2.1;
        };
      }

  pub looked_up : (key : Bytes) (number index : ℕ) (item : IndexItem) (count : ℕ) (buffer : List ℕ) → index ≡ index_for key number t.items → slice_get t.items index ≡ Some item → (read : KnownBlock g t index item count buffer)
      → (found : Option Entry) → found ≡ newest_of key number read.entries → IsLookedUp g t key number found
  unfolding reading_of
  looked_up key number index item count buffer is there read found same = record {
    beyond = λ behind. let inside = get_inside t.items index item there in absurd (omega (arith, behind, inside, is));
    inside = λ lt. subst (λ (i : ℕ). (block : List Entry) × CanBeRead g t i block × (found ≡ newest_of key number block)) is (
      read.entries,
      record {
        page = reading_of item.place item.len buffer read.entries 0;
        shows = shows_read index item count buffer there read 0 read.form.some;
        sorted = read.form.each;
        is = refl;
      },
      same,
    );
  }
