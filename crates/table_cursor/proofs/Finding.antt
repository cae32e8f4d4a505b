-- Finding an entry by the index.
use Rattle.std.proofs.Common.{◌≡◌, ℕ, suc, ◌+◌, ◌<◌, ◌≤◌, ◌∙◌, Bool, true, false, List, [], ◌∷◌, ◌++◌, length, take, Some, refl, sym, ap, subst, arith, length-append}
use Rattle.std.specs.Prelude.{if◌then◌else◌, slice_get}
use Rattle.peb_base.specs.Keys.{Bytes}
use Rattle.peb_base.specs.Entries.{comes_before, AscendFrom, first_from}
use Rattle.peb_base.specs.Tables.{last_key}
use Rattle.peb_base.specs.declared.entry.Entry.{Entry}
use Rattle.peb_base.specs.declared.table_row.TableRow.{TableRow}
use Rattle.block_form.specs.Form.{block_bytes}
use Rattle.table_file.specs.Blocks.{AreBlocks}
use Rattle.table_file.specs.Form.{last_number, item_of, items_from}
use Rattle.table_file.specs.Items.{index_for}
use Rattle.table_file.specs.declared.index_item.IndexItem.{IndexItem}
use Rattle.table_cursor.specs.Agreeing.{Agrees}
use Rattle.table_cursor.specs.Standing.{joined, entries_before}
use Rattle.peb_base.specs.EntryLaws.{before_trans}
use Rattle.table_file.specs.Ascending.{last_after, rest_ascends, front_ascends}
use Rattle.table_cursor.specs.Places.{block_is}
use Rattle.table_cursor.specs.IndexLaws.{item_is}

-- entries of which the last comes before are passed
pub all_before : (before : Bytes) (above : ℕ) (key : Bytes) (number : ℕ) (es more : List Entry) → AscendFrom before above es → 0 < length es → comes_before (last_key es) (last_number es) key number ≡ true
    → first_from key number (es ++ more) ≡ length es + first_from key number more
all_before before above key number [] more each some passed = absurd (omega (arith, some))
all_before before above key number (e ∷ []) more each some passed =
    ap (λ b. if b then suc (first_from key number more) else 0) passed ∙ omega arith
all_before before above key number (e ∷ f ∷ es) more each some passed =
    let mine : comes_before e.key e.number key number ≡ true =
    before_trans e.key e.number (last_key (f ∷ es)) (last_number (f ∷ es)) key number (last_after e.key e.number (f ∷ es) each.2 (omega arith)) passed in
    let rest = all_before e.key e.number key number (f ∷ es) more each.2 (omega arith) passed in
    ap (λ b. if b then suc (first_from key number (f ∷ es ++ more)) else 0) mine ∙ omega (arith, rest)

-- where the last comes not before, the first that doesn't is one of them
pub some_after : (key : Bytes) (number : ℕ) (es : List Entry) → 0 < length es → comes_before (last_key es) (last_number es) key number ≡ false → first_from key number es < length es
some_after key number [] some stays = absurd (omega (arith, some))
some_after key number (e ∷ []) some stays = let first : (if comes_before e.key e.number key number then 1 else 0) ≡ 0 = ap {B = ℕ} (λ b. if b then 1 else 0) stays in omega (arith, first)
some_after key number (e ∷ f ∷ es) some stays = by (comes_before e.key e.number key number) (some_after key number (f ∷ es) (omega arith) stays)
  where
    by : (b : Bool) → first_from key number (f ∷ es) < length (f ∷ es) → (if b then suc (first_from key number (f ∷ es)) else 0) < length (e ∷ f ∷ es)
    by true deep = omega (arith, deep)
    by false deep = omega arith

-- and others behind change nothing
pub found_in_front : (key : Bytes) (number : ℕ) (es more : List Entry) → first_from key number es < length es → first_from key number (es ++ more) ≡ first_from key number es
found_in_front key number [] more inside = absurd (omega (arith, inside))
found_in_front key number (e ∷ es) more inside = by (comes_before e.key e.number key number) (found_in_front key number es more) inside
  where
    by : (b : Bool) → (first_from key number es < length es → first_from key number (es ++ more) ≡ first_from key number es) → (if b then suc (first_from key number es) else 0) < suc (length es)
        → (if b then suc (first_from key number (es ++ more)) else 0) ≡ (if b then suc (first_from key number es) else 0)
    by true deep lt = ap suc (deep (omega (arith, lt)))
    by false deep lt = refl

-- the item that the index gives doesn't end before
pub item_stays : (key : Bytes) (number : ℕ) (items : List IndexItem) (item : IndexItem) → slice_get items (index_for key number items) ≡ Some item → comes_before item.key item.number key number ≡ false
item_stays key number [] item there = cc
item_stays key number (x ∷ items) item there = by (comes_before x.key x.number key number) refl (item_stays key number items item) there
  where
    by : (b : Bool) → comes_before x.key x.number key number ≡ b → (slice_get items (index_for key number items) ≡ Some item → comes_before item.key item.number key number ≡ false)
        → slice_get (x ∷ items) (if b then suc (index_for key number items) else 0) ≡ Some item → comes_before item.key item.number key number ≡ false
    by true is deep at = deep at
    by false is deep at = subst (λ (i : IndexItem). comes_before i.key i.number key number ≡ false) (item_is x item at) is

-- an entry that isn't before is in the block that the index gives
pub find_inside : (key : Bytes) (number : ℕ) (row : TableRow) (items : List IndexItem) (index at : ℕ) (es : List Entry) → Agrees row items index at es → index ≡ index_for key number items → 0 < length es
    → first_from key number es < length es
find_inside key number row items index at es agrees is some =
    some_after key number es some (item_stays key number items (item_of at es) (ap (slice_get items) (sym is) ∙ agrees.indexed))

-- the first entry that isn't before, by the block that the index gives
pub found_in_block : (before : Bytes) (above place : ℕ) (key : Bytes) (number : ℕ) (blocks : List (List Entry)) (block : List Entry) → AscendFrom before above (joined blocks) → AreBlocks blocks
    → slice_get blocks (index_for key number (items_from place blocks)) ≡ Some block
    → first_from key number (joined blocks) ≡ entries_before (index_for key number (items_from place blocks)) blocks + first_from key number block
found_in_block before above place key number [] block each are there = cc
found_in_block before above place key number (b ∷ blocks) block each are there =
    by (comes_before (last_key b) (last_number b) key number) refl
    (found_in_block (last_key b) (last_number b) (place + size) key number blocks block (rest_ascends before above b (joined blocks) are.0.some each) are.1) there
  where
    size : ℕ
    size = length (block_bytes b)

    deep : ℕ
    deep = index_for key number (items_from (place + size) blocks)

    by : (t : Bool) → comes_before (last_key b) (last_number b) key number ≡ t
        → (slice_get blocks deep ≡ Some block → first_from key number (joined blocks) ≡ entries_before deep blocks + first_from key number block)
        → slice_get (b ∷ blocks) (if t then suc deep else 0) ≡ Some block
        → first_from key number (b ++ joined blocks) ≡ entries_before (if t then suc deep else 0) (b ∷ blocks) + first_from key number block
    by true is rest at =
        all_before before above key number b (joined blocks) (front_ascends before above b (joined blocks) each) are.0.some is ∙ omega (arith, rest at, length-append b (joined (take deep blocks)))
    by false is rest at =
        found_in_front key number b (joined blocks) (some_after key number b are.0.some is) ∙ ap (first_from key number) (block_is b block at) ∙ omega arith

-- where the index gives no block, all come before
pub found_in_none : (before : Bytes) (above place : ℕ) (key : Bytes) (number : ℕ) (blocks : List (List Entry)) → AscendFrom before above (joined blocks) → AreBlocks blocks
    → length blocks ≤ index_for key number (items_from place blocks) → first_from key number (joined blocks) ≡ length (joined blocks)
found_in_none before above place key number [] each are past = refl
found_in_none before above place key number (b ∷ blocks) each are past =
    by (comes_before (last_key b) (last_number b) key number) refl
    (found_in_none (last_key b) (last_number b) (place + size) key number blocks (rest_ascends before above b (joined blocks) are.0.some each) are.1) past
  where
    size : ℕ
    size = length (block_bytes b)

    deep : ℕ
    deep = index_for key number (items_from (place + size) blocks)

    by : (t : Bool) → comes_before (last_key b) (last_number b) key number ≡ t → (length blocks ≤ deep → first_from key number (joined blocks) ≡ length (joined blocks))
        → suc (length blocks) ≤ (if t then suc deep else 0) → first_from key number (b ++ joined blocks) ≡ length (b ++ joined blocks)
    by true is rest at =
        all_before before above key number b (joined blocks) (front_ascends before above b (joined blocks) each) are.0.some is ∙ omega (arith, rest (omega (arith, at)), length-append b (joined blocks))
    by false is rest at = absurd (omega (arith, at))
