-- The blocks of a table that holds entries are what a cursor reads, and none is damaged.
use Rattle.std.proofs.Common.{◌≡◌, ℕ, ◌+◌, ◌<◌, ◌∙◌, IsTrue, List, [], ◌++◌, length, take, drop, Some, Result, Ok, Err, OnOk, OnErr, refl, sym, ap, subst, arith}
use Rattle.std.specs.Prelude.{slice_get}
use Rattle.peb_base.specs.Cursors.{LeadsTo, IfDamage}
use Rattle.disk_model.specs.declared.table_handle.TableHandle.{Ghosts}
use Rattle.peb_base.specs.Entries.{AreSorted}
use Rattle.peb_base.specs.Tables.{first_key, last_key, least_number, greatest_number}
use Rattle.peb_base.specs.declared.entry.Entry.{Entry}
use Rattle.peb_base.specs.declared.read_fault.ReadFault.{ReadFault}
use Rattle.peb_base.specs.declared.read_fault.ReadFault.TheVariants.{Fault, Damaged}
use Rattle.block_form.specs.Form.{block_bytes, IsBlock}
use Rattle.table_file.specs.Blocks.{AreBlocks}
use Rattle.table_file.specs.Form.{blocks_of, body_bytes, blocks_table, item_of}
use Rattle.table_file.specs.Tables.{TableParts, Holds}
use Rattle.table_file.specs.declared.index_item.IndexItem.{IndexItem}
use Rattle.table_cursor.specs.Agreeing.{Agrees, ShowsOf, IsDamageAt}
use Rattle.table_cursor.specs.Page.{Reading}
use Rattle.table_cursor.specs.Standing.{joined, entries_before, OnPage}
use Rattle.table_cursor.specs.Steps.{where_block}
use Rattle.table_cursor.proofs.Blocks.{in_table, some_block, length-items}
use Rattle.table_cursor.specs.IndexLaws.{item_is, get_inside}
use Rattle.table_cursor.specs.StandingLaws.{some_there}
use Rattle.table_cursor.proofs.Moves.{block_inside, nothing_shown}

-- a table's bytes begin with its blocks
body_first : (number : ℕ) (blocks : List (List Entry)) (es : List Entry) → (rest : List ℕ) × (blocks_table number blocks es ≡ body_bytes blocks ++ rest)
unfolding blocks_table
body_first number blocks es = (_, refl)

-- what is known of a table that holds entries, at a block
pub record HonestBlock {F : Type 0} (g : Ghosts F) (t : TableParts F) (blocks : List (List Entry)) (index : ℕ) : Type 0 where
  pub block : List Entry
  pub at : ℕ
  pub there : slice_get blocks index ≡ Some block
  pub agrees : Agrees t.row t.items index at block
  pub form : IsBlock block (block_bytes block)
  pub bytes : take (length (block_bytes block)) (drop at (g.bytes t.file)) ≡ block_bytes block

abbrev pub OneBlock : Type 0
OneBlock = (a b : List Entry) (bytes : List ℕ) → IsBlock a bytes → IsBlock b bytes → a ≡ b

module _ {F : Type 0} (g : Ghosts F) (t : TableParts F) (es : List Entry) (table : Holds g t es) (told : IsTrue g.tells)
    (whole : joined (blocks_of table.full es) ≡ es) (are : AreBlocks (blocks_of table.full es)) where
  pub honest_block : (index : ℕ) → index < length t.items → HonestBlock g t (blocks_of table.full es) index
  honest_block index lt =
      let blocks = blocks_of table.full es in
      let is = table.table in
      let first = body_first t.row.number blocks es in
      let long : length t.items ≡ length blocks = ap length is.items_are ∙ length-items 0 blocks in
      let b = some_block blocks index (omega (arith, lt, long)) in
      let in_ = in_table [] 0 0 blocks first.0 index b.0 (subst (λ (l : List Entry). AreSorted l) (sym whole) is.sorted) are b.1 in
      record {
        block = b.0;
        at = 0 + in_.at;
        there = b.1;
        agrees =
            subst (λ (l : List IndexItem). Agrees t.row l index (0 + in_.at) b.0) (sym is.items_are)
            (record {
              indexed = in_.indexed;
              after = in_.after;
              smallest = λ zero_. in_.first zero_ ∙ ap first_key whole ∙ sym is.row_is.smallest;
              largest = λ last. in_.last last ∙ ap last_key whole ∙ sym is.row_is.largest;
              least = omega (arith, in_.least, is.row_is.first, ap least_number whole);
              greatest = omega (arith, in_.greatest, is.row_is.last, ap greatest_number whole);
            });
        form = in_.form;
        bytes = (let none : 0 + in_.at ≡ in_.at = omega arith in (λ i. take (length (block_bytes b.0)) (drop (none i) ((is.file_bytes told ∙ first.1) i)))) ∙ in_.bytes;
      }

  -- what the page shows is the table's block
  pub same_block : OneBlock → (index : ℕ) (page : Reading) → HonestBlock g t (blocks_of table.full es) index → ShowsOf g t index page → IsBlock page.entries page.bytes
      → slice_get (blocks_of table.full es) index ≡ Some page.entries
  same_block one index page honest shows form =
      let item = item_of page.at page.entries in
      let b = honest.block in
      let same : item ≡ item_of honest.at b = item_is item (item_of honest.at b) (sym shows.agrees.indexed ∙ honest.agrees.indexed) in
      let at : page.at ≡ honest.at = ap (λ (i : IndexItem). i.place) same in
      let long : length page.bytes ≡ length (block_bytes b) = ap length form.spelled ∙ ap (λ (i : IndexItem). i.len) same in
      let bytes : page.bytes ≡ block_bytes b = shows.read told ∙ (λ i. take (long i) (drop (at i) (g.bytes t.file))) ∙ honest.bytes in
      honest.there ∙ ap Some (sym (one page.entries b (block_bytes b) (subst (IsBlock page.entries) bytes form) honest.form))

  -- a table that holds entries has no damage
  pub never_damaged : (index number at : ℕ) → IsDamageAt g t index number at → ⊥
  never_damaged index number at damage =
      let honest = honest_block index (get_inside t.items index damage.item damage.indexed) in
      let b = honest.block in
      let same : damage.item ≡ item_of honest.at b =
      item_is damage.item (item_of honest.at b) (sym damage.indexed ∙ honest.agrees.indexed) in
      let at_is : honest.at ≡ at = sym (damage.place ∙ ap (λ (i : IndexItem). i.place) same) in
      let long : length (block_bytes b) ≡ damage.item.len = sym (ap (λ (i : IndexItem). i.len) same) in
      damage.none told b (subst (λ k. Agrees t.row t.items index k b) at_is honest.agrees)
      (subst (IsBlock b) (sym honest.bytes ∙ (λ i. take (long i) (drop (at_is i) (g.bytes t.file)))) honest.form)

  -- turning to a block of a table that holds entries shows its first entry
  pub turned : OneBlock → (index : ℕ) (page : Reading) (r : Result (Unit {0}) ReadFault) → index < length t.items
      → OnOk r (ShowsOf g t index page) → OnOk r (IsBlock page.entries page.bytes) → OnOk r (page.place ≡ 0) → OnErr r (page.entries ≡ []) → IfDamage r (IsDamageAt g t index)
      → LeadsTo (OnPage page index (blocks_of table.full es) es) (where_block index (blocks_of table.full es) (entries_before index (blocks_of table.full es))) r
  turned one index page (Ok x) lt shows form first empty damaged =
      let blocks = blocks_of table.full es in
      let honest = honest_block index lt in
      let long : length t.items ≡ length blocks = ap length table.table.items_are ∙ length-items 0 blocks in
      let start : entries_before index blocks ≡ entries_before index blocks + page.place = omega (arith, first) in
      record {
        whole = whole;
        blocks_are = are;
        here = λ some. same_block one index page honest shows form;
        there = block_inside index blocks (entries_before index blocks) (omega (arith, lt, long)) ∙ ap Some start ∙ sym (some_there page.entries (entries_before index blocks + page.place) (omega (arith, shows.inside)));
      }
  turned one index page (Err Fault) lt shows form first empty damaged =
      nothing_shown page index (blocks_of table.full es) es whole are empty
  turned one index page (Err (Damaged n at)) lt shows form first empty damaged = never_damaged index n at damaged
