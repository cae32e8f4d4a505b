-- Where the steps of a cursor lead among the entries of all blocks.
use Rattle.std.proofs.Common.{◌≡◌, ℕ, zero, suc, ◌+◌, ◌-◌, ◌<◌, ◌≤◌, ◌∙◌, true, false, List, [], ◌∷◌, length, Option, Some, None, sym, ap, subst, arith}
use Rattle.std.specs.Prelude.{slice_get, nat_lt, if◌then◌else◌}
use Rattle.std.proofs.lemmas.Bool.Decides.{nat_tests}
use Rattle.std.proofs.lemmas.List.{take_all}
use Rattle.peb_base.specs.Cursors.{place_in, next_place, previous_place, first_place, last_place}
use Rattle.peb_base.specs.declared.entry.Entry.{Entry}
use Rattle.block_form.specs.Form.{block_bytes, IsBlock}
use Rattle.table_file.specs.Blocks.{AreBlocks}
use Rattle.table_cursor.specs.Page.{Reading}
use Rattle.table_cursor.specs.Standing.{joined, entries_before, OnPage}
use Rattle.table_cursor.specs.Steps.{where_block}
use Rattle.table_cursor.specs.Places.{Among, among}
use Rattle.table_cursor.specs.StandingLaws.{some_there, none_there, shown}
use Rattle.table_cursor.proofs.Blocks.{some_block}

pub place_inside : (es : List Entry) (n : ℕ) → n < length es → place_in es n ≡ Some n
place_inside es n lt = let yes_ : nat_lt n (length es) ≡ true = grind (arith, nat_tests, lt) in ap (λ b. if b then Some n else None) yes_

pub place_outside : (es : List Entry) (n : ℕ) → length es ≤ n → place_in es n ≡ None
place_outside es n le = let no_ : nat_lt n (length es) ≡ false = grind (arith, nat_tests, le) in ap (λ b. if b then Some n else None) no_

pub block_inside : (index : ℕ) (blocks : List (List Entry)) (n : ℕ) → index < length blocks → where_block index blocks n ≡ Some n
block_inside index blocks n lt = let yes_ : nat_lt index (length blocks) ≡ true = grind (arith, nat_tests, lt) in ap (λ b. if b then Some n else None) yes_

pub block_outside : (index : ℕ) (blocks : List (List Entry)) (n : ℕ) → length blocks ≤ index → where_block index blocks n ≡ None
block_outside index blocks n le = let no_ : nat_lt index (length blocks) ≡ false = grind (arith, nat_tests, le) in ap (λ b. if b then Some n else None) no_

pub block_form : (blocks : List (List Entry)) (index : ℕ) (block : List Entry) → AreBlocks blocks → slice_get blocks index ≡ Some block → IsBlock block (block_bytes block)
block_form [] index block are there = cc
block_form (b ∷ blocks) zero block are there = let same : b ≡ block = cc in subst (λ (x : List Entry). IsBlock x (block_bytes x)) same are.0
block_form (b ∷ blocks) (suc index) block are there = block_form blocks index block are.1 there

pub nothing_shown : (page : Reading) (index : ℕ) (blocks : List (List Entry)) (es : List Entry) → joined blocks ≡ es → AreBlocks blocks → page.entries ≡ [] → OnPage page index blocks es None
nothing_shown page index blocks es whole are none =
    record {
      whole = whole;
      blocks_are = are;
      here = λ some. absurd (omega (arith, some, ap length none));
      there = sym (none_there page.entries (entries_before index blocks + page.place) (ap length none));
    }

-- another place of the block on the page
pub moved_within : (page : Reading) (index to : ℕ) (blocks : List (List Entry)) (es : List Entry) (place : Option ℕ) → OnPage page index blocks es place → to < length page.entries
    → OnPage (record page { place = to }) index blocks es (Some (entries_before index blocks + to))
moved_within page index to blocks es place on lt =
    record { whole = on.whole; blocks_are = on.blocks_are; here = on.here; there = sym (some_there page.entries (entries_before index blocks + to) (omega (arith, lt))) }

pub next_within : (page : Reading) (index : ℕ) (blocks : List (List Entry)) (es : List Entry) (place : Option ℕ) → OnPage page index blocks es place → page.place + 1 < length page.entries
    → Some (entries_before index blocks + (page.place + 1)) ≡ next_place es place
next_within page index blocks es place on lt =
    let some : 0 < length page.entries = omega (arith, lt) in
    let spot = among blocks index page.entries (on.here some) in
    let n = entries_before index blocks + page.place in
    let inside : suc n < length es = omega (arith, lt, spot.within, ap length on.whole) in
    let one : entries_before index blocks + (page.place + 1) ≡ suc n = omega arith in
    ap Some one ∙ sym (ap (next_place es) (shown page index blocks es place on some) ∙ place_inside es (suc n) inside)

-- behind the last entry of a block comes the next one's first, or none
behind : (page : Reading) (index : ℕ) (blocks : List (List Entry)) (es : List Entry) (place : Option ℕ) → OnPage page index blocks es place → page.place < length page.entries → length page.entries ≤ page.place + 1
    → (next_place es place ≡ place_in es (entries_before (suc index) blocks)) × Among blocks index page.entries
behind page index blocks es place on lt end =
    let some : 0 < length page.entries = omega (arith, lt) in
    let spot = among blocks index page.entries (on.here some) in
    let start : suc (entries_before index blocks + page.place) ≡ entries_before (suc index) blocks = omega (arith, spot.next, lt, end) in
    (ap (next_place es) (shown page index blocks es place on some) ∙ ap (place_in es) start, spot)

pub next_block : (page : Reading) (index : ℕ) (blocks : List (List Entry)) (es : List Entry) (place : Option ℕ) → OnPage page index blocks es place → page.place < length page.entries → length page.entries ≤ page.place + 1
    → index + 1 < length blocks → where_block (index + 1) blocks (entries_before (index + 1) blocks) ≡ next_place es place
next_block page index blocks es place on lt end more =
    let here = behind page index blocks es place on lt end in
    let one : suc index ≡ index + 1 = omega arith in
    let b = some_block blocks (index + 1) more in
    let deep = among blocks (index + 1) b.0 b.1 in
    let form = block_form blocks (index + 1) b.0 on.blocks_are b.1 in
    let inside : entries_before (index + 1) blocks < length es = omega (arith, deep.within, form.some, ap length on.whole) in
    block_inside (index + 1) blocks (entries_before (index + 1) blocks) more
    ∙ sym (here.0 ∙ ap (λ i. place_in es (entries_before i blocks)) one ∙ place_inside es (entries_before (index + 1) blocks) inside)

pub next_none : (page : Reading) (index : ℕ) (blocks : List (List Entry)) (es : List Entry) (place : Option ℕ) → OnPage page index blocks es place → page.place < length page.entries → length page.entries ≤ page.place + 1
    → length blocks ≤ index + 1 → None ≡ next_place es place
next_none page index blocks es place on lt end past =
    let here = behind page index blocks es place on lt end in
    let outside : length es ≤ entries_before (suc index) blocks = omega (arith, here.1.next, here.1.last (omega (arith, here.1.inside, past)), ap length on.whole) in
    sym (here.0 ∙ place_outside es (entries_before (suc index) blocks) outside)

previous_of : (n m : ℕ) → n ≡ suc m → previous_place (Some n) ≡ Some m
previous_of n m is = ap (λ k. previous_place (Some k)) is

pub previous_block : (page : Reading) (index : ℕ) (blocks : List (List Entry)) (es : List Entry) (place : Option ℕ) → OnPage page index blocks es place → 0 < length page.entries → page.place ≡ 0 → 0 < index
    → where_block (index - 1) blocks (entries_before (suc (index - 1)) blocks - 1) ≡ previous_place place
previous_block page index blocks es place on some front later =
    let spot = among blocks index page.entries (on.here some) in
    let inside : index - 1 < length blocks = omega (arith, spot.inside) in
    let b = some_block blocks (index - 1) inside in
    let before = among blocks (index - 1) b.0 b.1 in
    let form = block_form blocks (index - 1) b.0 on.blocks_are b.1 in
    let one : suc (index - 1) ≡ index = omega (arith, later) in
    let start : entries_before (suc (index - 1)) blocks ≡ entries_before index blocks = ap (λ i. entries_before i blocks) one in
    let is : entries_before index blocks + page.place ≡ suc (entries_before (suc (index - 1)) blocks - 1) = omega (arith, start, before.next, form.some, front) in
    block_inside (index - 1) blocks (entries_before (suc (index - 1)) blocks - 1) inside
    ∙ sym (ap previous_place (shown page index blocks es place on some) ∙ previous_of (entries_before index blocks + page.place) (entries_before (suc (index - 1)) blocks - 1) is)

pub first_block : (blocks : List (List Entry)) (es : List Entry) → joined blocks ≡ es → 0 < length es → where_block 0 blocks (entries_before 0 blocks) ≡ first_place es
first_block [] es whole some = absurd (omega (arith, some, ap length whole))
first_block (b ∷ blocks) es whole some = block_inside 0 (b ∷ blocks) 0 (omega arith) ∙ sym (place_inside es 0 some)

pub last_block : (blocks : List (List Entry)) (es : List Entry) → joined blocks ≡ es → 0 < length es → 0 < length blocks
    → where_block (length blocks - 1) blocks (entries_before (suc (length blocks - 1)) blocks - 1) ≡ last_place es
last_block blocks es whole some any =
    let one : suc (length blocks - 1) ≡ length blocks = omega (arith, any) in
    let all : entries_before (suc (length blocks - 1)) blocks ≡ length es =
    ap (λ i. entries_before i blocks) one ∙ ap (λ l. length (joined l)) (take_all (length blocks) blocks (omega arith)) ∙ ap length whole in
    block_inside (length blocks - 1) blocks (entries_before (suc (length blocks - 1)) blocks - 1) (omega (arith, any)) ∙ ap (λ n. Some (n - 1)) all ∙ sym (place_inside es (length es - 1) (omega (arith, some)))

-- to the last entry of the block that is on the page
pub moved_last : (page : Reading) (index now : ℕ) (blocks : List (List Entry)) (es : List Entry) (place : Option ℕ) → OnPage page now blocks es place → now ≡ index → 0 < length page.entries
    → OnPage (record page { place = length page.entries - 1 }) now blocks es (where_block index blocks (entries_before (suc index) blocks - 1))
moved_last page index now blocks es place on same some =
    let spot = among blocks now page.entries (on.here some) in
    let to : entries_before now blocks + (length page.entries - 1) ≡ entries_before (suc now) blocks - 1 = omega (arith, spot.next, some) in
    let target : Some (entries_before now blocks + (length page.entries - 1)) ≡ where_block index blocks (entries_before (suc index) blocks - 1) =
    ap Some to ∙ sym (block_inside now blocks (entries_before (suc now) blocks - 1) spot.inside) ∙ ap (λ i. where_block i blocks (entries_before (suc i) blocks - 1)) same in
    subst (OnPage (record page { place = length page.entries - 1 }) now blocks es) target (moved_within page now (length page.entries - 1) blocks es place on (omega (arith, some)))
