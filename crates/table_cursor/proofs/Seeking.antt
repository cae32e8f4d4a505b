-- Where a cursor that seeks a key and number stands.
use Rattle.std.proofs.Common.{◌≡◌, ℕ, ◌+◌, ◌<◌, ◌≤◌, ◌∙◌, ◌⊎◌, inl, inr, List, [], length, Some, None, sym, ap, subst, arith}
use Rattle.std.specs.Prelude.{slice_get}
use Rattle.std.proofs.lemmas.Bool.{cases_lt}
use Rattle.peb_base.specs.Cursors.{place_from}
use Rattle.peb_base.specs.Entries.{AreSorted, first_from}
use Rattle.peb_base.specs.Keys.{Bytes}
use Rattle.peb_base.specs.declared.entry.Entry.{Entry}
use Rattle.table_file.specs.Form.{items_from}
use Rattle.table_file.specs.Items.{index_for}
use Rattle.table_cursor.specs.Page.{Reading}
use Rattle.table_cursor.specs.Standing.{joined, entries_before, OnPage}
use Rattle.table_cursor.specs.Steps.{where_block}
use Rattle.table_cursor.specs.Places.{among}
use Rattle.table_cursor.specs.StandingLaws.{unshown}
use Rattle.table_cursor.proofs.Finding.{found_in_block, found_in_none}
use Rattle.table_cursor.proofs.Moves.{moved_within, block_inside, place_inside, place_outside}

-- the page shows nothing only where all entries come before
pub not_found : (page : Reading) (now index : ℕ) (key : Bytes) (number : ℕ) (blocks : List (List Entry)) (es : List Entry) → AreSorted es → index ≡ index_for key number (items_from 0 blocks)
    → OnPage page now blocks es (where_block index blocks (entries_before index blocks)) → length page.entries ≡ 0 → OnPage page now blocks es (place_from key number es)
not_found page now index key number blocks es sorted is on none =
    subst (OnPage page now blocks es) (nowhere ∙ sym (place_outside es (first_from key number es) end)) on
  where
    nowhere : where_block index blocks (entries_before index blocks) ≡ None
    nowhere = unshown page now blocks es (where_block index blocks (entries_before index blocks)) on none

    past : (index < length blocks) ⊎ (length blocks ≤ index) → length blocks ≤ index
    past (inl lt) = let same : Some (entries_before index blocks) ≡ None = sym (block_inside index blocks (entries_before index blocks) lt) ∙ nowhere in cc
    past (inr le) = le

    all : first_from key number (joined blocks) ≡ length (joined blocks)
    all =
        found_in_none [] 0 0 key number blocks (subst (λ (l : List Entry). AreSorted l) (sym on.whole) sorted) on.blocks_are
        (subst (λ n. length blocks ≤ n) is (past (cases_lt index (length blocks))))

    end : length es ≤ first_from key number es
    end = omega (arith, all, ap (first_from key number) on.whole, ap length on.whole)

-- and else the first that doesn't is in the block on the page
pub found_on_page : (page : Reading) (now : ℕ) (key : Bytes) (number : ℕ) (blocks : List (List Entry)) (es : List Entry) → AreSorted es → now ≡ index_for key number (items_from 0 blocks)
    → OnPage page now blocks es (where_block now blocks (entries_before now blocks)) → first_from key number page.entries < length page.entries
    → OnPage (record page { place = first_from key number page.entries }) now blocks es (place_from key number es)
found_on_page page now key number blocks es sorted is on lt =
    let there = on.here (omega (arith, lt)) in
    let n = first_from key number page.entries in
    let spot = among blocks now page.entries there in
    let found : first_from key number es ≡ entries_before now blocks + n =
    ap (first_from key number) (sym on.whole)
    ∙ found_in_block [] 0 0 key number blocks page.entries (subst (λ (l : List Entry). AreSorted l) (sym on.whole) sorted) on.blocks_are (ap (slice_get blocks) (sym is) ∙ there)
    ∙ ap (λ i. entries_before i blocks + n) (sym is) in
    let inside : first_from key number es < length es = omega (arith, found, lt, spot.within, ap length on.whole) in
    subst (OnPage (record page { place = n }) now blocks es) (ap Some (sym found) ∙ sym (place_inside es (first_from key number es) inside))
    (moved_within page now n blocks es (where_block now blocks (entries_before now blocks)) on lt)
