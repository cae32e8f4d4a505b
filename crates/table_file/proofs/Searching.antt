-- Looking through items that ascend.
use Rattle.std.proofs.Common.{◌≡◌, ℕ, zero, suc, ◌+◌, ◌<◌, ◌≤◌, Bool, true, false, List, [], ◌∷◌, ◌++◌, length, get_or, Some, None, refl, sym, ap, ◌∙◌, subst, arith}
use Rattle.std.specs.Prelude.{if◌then◌else◌, nat_le, slice_get, option_map}
use Rattle.std.specs.List.{AllWithin}
use Rattle.std.proofs.lemmas.Option.{slice_get_read, slice_get_past}
use Rattle.std.proofs.lemmas.Bool.{and_parts, and_from, le-leb, leb-true}
use Rattle.peb_base.specs.Entries.{comes_before, AscendFrom, AreSorted}
use Rattle.peb_base.specs.EntryLaws.{before_trans}
use Rattle.peb_base.specs.Keys.{Bytes}
use Rattle.peb_base.specs.Tables.{last_key}
use Rattle.peb_base.specs.declared.entry.Entry.{Entry}
use Rattle.block_form.specs.Form.{block_bytes}
use Rattle.table_file.specs.Form.{cut_of, with_last, blocks_of, last_number, items_from}
use Rattle.table_file.specs.Items.{ascend_from, ascend, are_short, ends_before, index_for, block_for}
use Rattle.table_file.specs.Opening.{AreItems, IsIndex}
use Rattle.table_file.specs.declared.index_item.IndexItem.{IndexItem}
use Rattle.table_file.specs.Ascending.{last_after, front_ascends, rest_ascends}
use Rattle.table_file.proofs.Parting.{joined, HaveEntries, parts_cut}

-- the items of an index ascend
items_ascend : (place : ℕ) (before : Bytes) (above end : ℕ) (items : List IndexItem) → AreItems place before above end items → ascend_from before above items ≡ true
items_ascend place before above end [] each = refl
items_ascend place before above end (item ∷ items) each =
    and_from (comes_before before above item.key item.number) (ascend_from item.key item.number items) each.0.after (items_ascend (place + item.len) item.key item.number end items each.1)

pub index_ascends : (end : ℕ) (items : List IndexItem) → IsIndex end items → ascend items ≡ true
index_ascends end items index = items_ascend 0 [] 0 end items index.each

-- and none of their blocks is too long
items_short : (place : ℕ) (before : Bytes) (above end : ℕ) (items : List IndexItem) → AreItems place before above end items → are_short items ≡ true
items_short place before above end [] each = refl
items_short place before above end (item ∷ items) each =
    and_from (nat_le item.len 40960) (are_short items) (le-leb item.len 40960 each.0.len) (items_short (place + item.len) item.key item.number end items each.1)

pub index_short : (end : ℕ) (items : List IndexItem) → IsIndex end items → are_short items ≡ true
index_short end items index = items_short 0 [] 0 end items index.each

-- one item more
pub short-push : (items : List IndexItem) (item : IndexItem) → are_short items ≡ true → item.len ≤ 40960 → are_short (items ++ item ∷ []) ≡ true
short-push [] item all le = and_from (nat_le item.len 40960) true (le-leb item.len 40960 le) refl
short-push (i ∷ items) item all le =
    let parts = and_parts (nat_le i.len 40960) (are_short items) all in
    and_from (nat_le i.len 40960) (are_short (items ++ item ∷ [])) parts.0 (short-push items item parts.1 le)

-- the block of an item is short
pub short_at : (items : List IndexItem) (index : ℕ) (item : IndexItem) → are_short items ≡ true → slice_get items index ≡ Some item → item.len ≤ 40960
short_at [] index item all there = cc
short_at (i ∷ items) zero item all there = subst (λ (x : IndexItem). x.len ≤ 40960) (one_item i item there) (leb-true i.len 40960 (and_parts (nat_le i.len 40960) (are_short items) all).0)
  where
    one_item : (a b : IndexItem) → Some a ≡ Some b → a ≡ b
    one_item a b same = cc
short_at (i ∷ items) (suc index) item all there = short_at items index item (and_parts (nat_le i.len 40960) (are_short items) all).1 there

-- the items of blocks of entries that ascend ascend
blocks_ascend : (place : ℕ) (before : Bytes) (above : ℕ) (blocks : List (List Entry)) → AscendFrom before above (joined blocks) → HaveEntries blocks → ascend_from before above (items_from place blocks) ≡ true
blocks_ascend place before above [] each some = refl
blocks_ascend place before above (b ∷ blocks) each some =
    and_from (comes_before before above (last_key b) (last_number b)) (ascend_from (last_key b) (last_number b) (items_from (place + length (block_bytes b)) blocks))
    (last_after before above b (front_ascends before above b (joined blocks) each) some.0)
    (blocks_ascend (place + length (block_bytes b)) (last_key b) (last_number b) blocks (rest_ascends before above b (joined blocks) some.0 each) some.1)

-- the items of a table's blocks ascend, where this is what the begun block has
pub closed_ascend : (full : ℕ) (es begun : List Entry) → AreSorted es → begun ≡ (cut_of full es).begun → ascend (items_from 0 (with_last (cut_of full es).closed begun)) ≡ true
closed_ascend full es begun sorted is =
    let parts = parts_cut full es in
    let each = blocks_ascend 0 [] 0 (blocks_of full es) (subst AreSorted (sym parts.whole) sorted) parts.each in
    ap (λ b. ascend (items_from 0 (with_last (cut_of full es).closed b))) is ∙ each

-- and there is one, where there are entries
pub closed_some : (full : ℕ) (es begun : List Entry) → 0 < length es → begun ≡ (cut_of full es).begun → 0 < length (items_from 0 (with_last (cut_of full es).closed begun))
closed_some full es begun some is =
    subst (λ b. 0 < length (items_from 0 (with_last (cut_of full es).closed b))) (sym is) (by (blocks_of full es) (parts_cut full es).whole)
  where
    by : (blocks : List (List Entry)) → joined blocks ≡ es → 0 < length (items_from 0 blocks)
    by [] whole = absurd (omega (arith, some, ap length whole))
    by (b ∷ blocks) whole = omega arith

-- each of items that ascend comes after what they all come after
is_after : (before : Bytes) (above : ℕ) (items : List IndexItem) → ascend_from before above items ≡ true → (i : ℕ) (d : IndexItem) → i < length items → comes_before before above (get_or items i d).key (get_or items i d).number ≡ true
is_after before above [] all i d within = absurd (omega (arith, within))
is_after before above (item ∷ items) all zero d within = (and_parts (comes_before before above item.key item.number) (ascend_from item.key item.number items) all).0
is_after before above (item ∷ items) all (suc i) d within =
    let parts = and_parts (comes_before before above item.key item.number) (ascend_from item.key item.number items) all in
    let there : i < length items = omega (arith, within) in
    before_trans before above item.key item.number (get_or items i d).key (get_or items i d).number parts.0 (is_after item.key item.number items parts.1 i d there)

-- the items that come before a key and number stand before those that don't
pub parted : (key : Bytes) (number : ℕ) (before : Bytes) (above : ℕ) (items : List IndexItem) → ascend_from before above items ≡ true
    → (i j : ℕ) (d : IndexItem) → i ≤ j → j < length items → ends_before key number (get_or items j d) ≡ true → ends_before key number (get_or items i d) ≡ true
parted key number before above [] all i j d low within holds = absurd (omega (arith, within))
parted key number before above (item ∷ items) all zero zero d low within holds = holds
parted key number before above (item ∷ items) all (suc i) zero d low within holds = absurd (omega (arith, low))
parted key number before above (item ∷ items) all zero (suc j) d low within holds =
    let parts = and_parts (comes_before before above item.key item.number) (ascend_from item.key item.number items) all in
    let there : j < length items = omega (arith, within) in
    before_trans item.key item.number (get_or items j d).key (get_or items j d).number key number (is_after item.key item.number items parts.1 j d there) holds
parted key number before above (item ∷ items) all (suc i) (suc j) d low within holds =
    let parts = and_parts (comes_before before above item.key item.number) (ascend_from item.key item.number items) all in
    let under : i ≤ j = omega (arith, low) in
    let there : j < length items = omega (arith, within) in
    parted key number item.key item.number items parts.1 i j d under there holds

-- where items before a place come before, and those from it on don't, it is the first of these
pub place_is : (key : Bytes) (number : ℕ) (items : List IndexItem) (i : ℕ) → i ≤ length items
    → AllWithin (λ item. ends_before key number item ≡ true) items 0 i → AllWithin (λ item. ends_before key number item ≡ false) items i (length items) → i ≡ index_for key number items
place_is key number [] i within low high = omega (arith, within)
place_is key number (item ∷ items) zero within low high =
    let here : 0 ≤ 0 = omega arith in
    let some : 0 < length (item ∷ items) = omega arith in
    sym (ap (λ b. if b then suc (index_for key number items) else 0) (high 0 item here some))
place_is key number (item ∷ items) (suc i) within low high =
    let here : 0 ≤ 0 = omega arith in
    let some : 0 < suc i = omega arith in
    let below : i ≤ length items = omega (arith, within) in
    ap suc (place_is key number items i below
    (λ k d from upto. low (suc k) d (omega arith) (omega (arith, upto)))
    (λ k d from upto. high (suc k) d (omega (arith, from)) (omega (arith, upto))))
    ∙ sym (ap (λ b. if b then suc (index_for key number items) else 0) (low 0 item here some))

-- the block at the first of the items that don't come before
block_at : (key : Bytes) (number : ℕ) (items : List IndexItem) → block_for key number items ≡ option_map (λ item. (item.place, item.len)) (slice_get items (index_for key number items))
block_at key number [] = refl
block_at key number (item ∷ items) = by (ends_before key number item) (block_at key number items)
  where
    by : (t : Bool) → block_for key number items ≡ option_map (λ item. (item.place, item.len)) (slice_get items (index_for key number items))
        → (if t then block_for key number items else Some (item.place, item.len)) ≡ option_map (λ item. (item.place, item.len)) (slice_get (item ∷ items) (if t then suc (index_for key number items) else 0))
    by true later = later
    by false later = refl

pub block_found : (key : Bytes) (number : ℕ) (items : List IndexItem) (index : ℕ) (item : IndexItem) → index ≡ index_for key number items → index < length items → item ≡ get_or items index item → Some (item.place, item.len) ≡ block_for key number items
block_found key number items index item is within read =
    sym (block_at key number items ∙ ap (option_map (λ item. (item.place, item.len))) (ap (slice_get items) (sym is) ∙ slice_get_read items (length items) index item refl within read))

pub no_block : (key : Bytes) (number : ℕ) (items : List IndexItem) (index : ℕ) → index ≡ index_for key number items → length items ≤ index → None ≡ block_for key number items
no_block key number items index is past =
    sym (block_at key number items ∙ ap (option_map (λ item. (item.place, item.len))) (ap (slice_get items) (sym is) ∙ slice_get_past items index past))
