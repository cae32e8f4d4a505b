-- How a step carries a walk on, and how many steps it leaves.
use Rattle.std.proofs.Common.{◌≡◌, ℕ, zero, suc, ◌+◌, ◌-◌, ◌<◌, ◌≤◌, ◌∙◌, ◌⊎◌, inl, inr, true, false, List, [], ◌∷◌, ◌++◌, length, take, Option, Some, None, Result, Ok, Err, OnOk, OnErr, refl, sym, ap, subst, arith, append_assoc}
use Rattle.std.specs.Prelude.{slice_get, nat_lt, ◌==◌, if◌then◌else◌}
use Rattle.std.proofs.lemmas.Bool.{cases_lt}
use Rattle.std.proofs.lemmas.Bool.Decides.{nat_tests}
use Rattle.std.proofs.lemmas.List.{take_all, append-nil}
use Rattle.block_form.specs.Counting.{entries_few}
use Rattle.disk_model.specs.declared.table_handle.TableHandle.{Ghosts}
use Rattle.peb_base.specs.Entries.{AreSorted}
use Rattle.peb_base.specs.declared.entry.Entry.{Entry}
use Rattle.peb_base.specs.declared.read_fault.ReadFault.{ReadFault}
use Rattle.table_file.specs.Tables.{TableParts}
use Rattle.table_file.specs.declared.index_item.IndexItem.{IndexItem}
use Rattle.table_cursor.specs.Agreeing.{ShowsOf}
use Rattle.table_cursor.specs.IndexLaws.{get_inside}
use Rattle.table_cursor.specs.Page.{Reading}
use Rattle.table_cursor.specs.Spots.{where_some, spot, first_spot, last_spot, spot_in, spot_behind, next_spot, spot_before, previous_spot}
use Rattle.table_cursor.specs.Walking.{ReadInOrder, by_entries, blocks_passed, WalkedOver, most_steps, steps_ahead, steps_back}
use Rattle.table_cursor.specs.WalkLaws.{take_on, page_read}

-- ---- what is shown

pub no_entries : (l : List Entry) → length l ≡ 0 → l ≡ []
no_entries [] none = refl
no_entries (e ∷ l) none = absurd (omega (arith, none))

-- a page that shows nothing has no entries
pub shows_nothing : (l : List Entry) (place : ℕ) → (0 < length l → place < length l) → slice_get l place ≡ None → length l ≡ 0
shows_nothing l place inside none = by l place inside none
  where
    past : (l : List Entry) (place : ℕ) → place < length l → slice_get l place ≡ None → ⊥
    past [] place lt none = omega (arith, lt)
    past (e ∷ l) zero lt none = cc
    past (e ∷ l) (suc place) lt none = past l place (omega (arith, lt)) none

    by : (l : List Entry) (place : ℕ) → (0 < length l → place < length l) → slice_get l place ≡ None → length l ≡ 0
    by [] place inside none = refl
    by (e ∷ l) place inside none = absurd (past (e ∷ l) place (inside (omega arith)) none)

pub nothing_there : (l : List Entry) (place : ℕ) → l ≡ [] → slice_get l place ≡ None
nothing_there l place is = ap (λ x. slice_get x place) is ∙ by place
  where
    by : (place : ℕ) → slice_get {X = Entry} [] place ≡ None
    by zero = refl
    by (suc place) = refl

-- a spot tells block and place of a page with entries
pub record IsSpot (index : ℕ) (page : Reading) (to place : ℕ) : Type 0 where
  pub some : 0 < length page.entries
  pub index_is : index ≡ to
  pub place_is : page.place ≡ place

pub at_spot : (index : ℕ) (page : Reading) (to place : ℕ) → spot index page ≡ Some (to, place) → IsSpot index page to place
at_spot index page to place is = by page.entries refl
  where
    both : (a b : ℕ × ℕ) → Some a ≡ Some b → a ≡ b
    both a b same = cc

    by : (l : List Entry) → page.entries ≡ l → IsSpot index page to place
    by [] none = let never : None ≡ Some (to, place) = sym (ap (λ l. where_some l (index, page.place)) none) ∙ is in cc
    by (e ∷ l) some =
        let same = both (index, page.place) (to, place) (sym (ap (λ l. where_some l (index, page.place)) some) ∙ is) in
        record { some = omega (arith, ap length some); index_is = ap (λ p. p.0) same; place_is = ap (λ p. p.1) same }

pub no_spot : (index : ℕ) (page : Reading) → spot index page ≡ None → page.entries ≡ []
no_spot index page is = by page.entries refl
  where
    by : (l : List Entry) → page.entries ≡ l → page.entries ≡ []
    by [] none = none
    by (e ∷ l) some = let never : Some (index, page.place) ≡ None = sym (ap (λ l. where_some l (index, page.place)) some) ∙ is in cc

-- where a page with entries goes on
pub next_is : (items : List IndexItem) (index : ℕ) (page : Reading) → 0 < length page.entries → next_spot items index page ≡ spot_behind items index page.place (length page.entries)
next_is items index page some =
    let test : (length page.entries == 0) ≡ false = grind (arith, nat_tests, some) in
    ap (λ b. if b then None else spot_behind items index page.place (length page.entries)) test

pub previous_is : (items : List IndexItem) (index : ℕ) (page now : Reading) → 0 < length page.entries → previous_spot items index page now ≡ spot_before items index page.place now
previous_is items index page now some =
    let test : (length page.entries == 0) ≡ false = grind (arith, nat_tests, some) in
    ap (λ b. if b then None else spot_before items index page.place now) test

pub block_end : (items : List IndexItem) (index place count : ℕ) → count ≤ place + 1 → spot_behind items index place count ≡ first_spot items (index + 1)
block_end items index place count le =
    let test : nat_lt (place + 1) count ≡ false = grind (arith, nat_tests, le) in
    ap (λ b. if b then Some (index, place + 1) else first_spot items (index + 1)) test

pub block_front : (items : List IndexItem) (index place : ℕ) (now : Reading) → place ≡ 0 → spot_before items index place now ≡ (if index == 0 then None else last_spot items (index - 1) now)
block_front items index place now is =
    let test : nat_lt 0 place ≡ false = grind (arith, nat_tests, is) in
    ap (λ b. if b then Some (index, place - 1) else if index == 0 then None else last_spot items (index - 1) now) test

pub there_is : (items : List IndexItem) (index place : ℕ) → index < length items → spot_in items index place ≡ Some (index, place)
there_is items index place lt =
    let test : nat_lt index (length items) ≡ true = grind (arith, nat_tests, lt) in
    ap (λ b. if b then Some (index, place) else None) test

pub none_is : (items : List IndexItem) (index place : ℕ) → length items ≤ index → spot_in items index place ≡ None
none_is items index place le =
    let test : nat_lt index (length items) ≡ false = grind (arith, nat_tests, le) in
    ap (λ b. if b then Some (index, place) else None) test

pub by_some : {A : Type 0} (l : List Entry) (none some : A) → 0 < length l → by_entries l none some ≡ some
by_some [] none some h = absurd (omega (arith, h))
by_some (e ∷ l) none some h = refl

pub by_none : {A : Type 0} (l : List Entry) (none some : A) → l ≡ [] → by_entries l none some ≡ none
by_none l none some is = ap (λ x. by_entries x none some) is

pub take_none : (n : ℕ) (l : List Entry) → l ≡ [] → take n l ≡ []
take_none n l is = ap (take n) is ∙ by n
  where
    no_list : List Entry
    no_list = []

    by : (n : ℕ) → take n no_list ≡ []
    by zero = refl
    by (suc n) = refl

-- the step within a block
abbrev pub GoesWithin : Reading → ℕ → ℕ → Reading → ℕ → Type 0
GoesWithin page index place new now = (new ≡ record page { place = place }) × (now ≡ index)

module _ {F : Type 0} (g : Ghosts F) (t : TableParts F) (index : ℕ) (page : Reading) (shown : 0 < length page.entries → ShowsOf g t index page) where
  -- ---- a walk goes on

  within_block : (es : List Entry) (e : Entry) → WalkedOver g t index page es → slice_get page.entries page.place ≡ Some e → WalkedOver g t index (record page { place = page.place + 1 }) (es ++ e ∷ [])
  within_block es e w there =
      let one : suc page.place ≡ page.place + 1 = omega arith in
      record {
        front = w.front;
        were = w.were;
        is = ap (λ l. l ++ e ∷ []) w.is ∙ append_assoc w.front (take page.place page.entries) (e ∷ []) ∙ ap (λ l. w.front ++ l) (sym (take_on page.entries page.place e there) ∙ ap (λ n. take n page.entries) one);
      }

  behind_block : (sorted : AreSorted page.entries) (es : List Entry) (e : Entry) → WalkedOver g t index page es → slice_get page.entries page.place ≡ Some e → length page.entries ≤ page.place + 1
      → (now : ℕ) (new : Reading) → blocks_passed (length t.items) now new ≡ suc index → take new.place new.entries ≡ [] → WalkedOver g t now new (es ++ e ∷ [])
  behind_block sorted es e w there end now new passed none =
      let inside = get_inside page.entries page.place e there in
      let some : 0 < length page.entries = omega (arith, inside) in
      let were : ReadInOrder g t index w.front = subst (λ n. ReadInOrder g t n w.front) (by_some page.entries (length t.items) index some) w.were in
      let all : ReadInOrder g t (suc index) (w.front ++ page.entries) = (w.front, page.entries, were, page_read g t index page (shown some) sorted, refl) in
      let one : suc page.place ≡ length page.entries = omega (arith, inside, end) in
      let whole : take (suc page.place) page.entries ≡ page.entries = ap (λ n. take n page.entries) one ∙ take_all (length page.entries) page.entries (omega arith) in
      let joined : es ++ e ∷ [] ≡ w.front ++ page.entries =
      ap (λ l. l ++ e ∷ []) w.is ∙ append_assoc w.front (take page.place page.entries) (e ∷ []) ∙ ap (λ l. w.front ++ l) (sym (take_on page.entries page.place e there) ∙ whole) in
      record {
        front = w.front ++ page.entries;
        were = subst (λ n. ReadInOrder g t n (w.front ++ page.entries)) (sym passed) all;
        is = joined ∙ sym (append-nil (w.front ++ page.entries)) ∙ ap (λ l. (w.front ++ page.entries) ++ l) (sym none);
      }

  pub walk_on : (sorted : AreSorted page.entries) (now : ℕ) (new : Reading) (es : List Entry) (e : Entry) → (page.place + 1 < length page.entries → GoesWithin page index (page.place + 1) new now)
      → spot now new ≡ next_spot t.items index page → slice_get page.entries page.place ≡ Some e → WalkedOver g t index page es → WalkedOver g t now new (es ++ e ∷ [])
  walk_on sorted now new es e within lands there w = by (cases_lt (page.place + 1) (length page.entries))
    where
      inside : page.place < length page.entries
      inside = get_inside page.entries page.place e there

      index_in : index < length t.items
      index_in = get_inside t.items index _ (shown (omega (arith, inside))).agrees.indexed

      past : length page.entries ≤ page.place + 1 → spot now new ≡ first_spot t.items (index + 1)
      past end = lands ∙ next_is t.items index page (omega (arith, inside)) ∙ block_end t.items index page.place (length page.entries) end

      behind : length page.entries ≤ page.place + 1 → (index + 1 < length t.items) ⊎ (length t.items ≤ index + 1) → WalkedOver g t now new (es ++ e ∷ [])
      behind end (inl lt) =
          let at = at_spot now new (index + 1) 0 (past end ∙ there_is t.items (index + 1) 0 lt) in
          let passed : blocks_passed (length t.items) now new ≡ suc index = by_some new.entries (length t.items) now at.some ∙ at.index_is ∙ omega arith in
          behind_block sorted es e w there end now new passed (ap (λ n. take n new.entries) at.place_is)
      behind end (inr le) =
          let none = no_spot now new (past end ∙ none_is t.items (index + 1) 0 le) in
          let last : length t.items ≡ suc index = omega (arith, le, index_in) in
          behind_block sorted es e w there end now new (by_none new.entries (length t.items) now none ∙ last) (take_none new.place new.entries none)

      by : (page.place + 1 < length page.entries) ⊎ (length page.entries ≤ page.place + 1) → WalkedOver g t now new (es ++ e ∷ [])
      by (inl lt) =
          let to = within lt in
          subst (λ p. WalkedOver g t now p (es ++ e ∷ [])) (sym to.0) (subst (λ i. WalkedOver g t i (record page { place = page.place + 1 }) (es ++ e ∷ [])) (sym to.1) (within_block es e w there))
      by (inr end) = behind end (cases_lt (index + 1) (length t.items))

  -- ---- fewer steps

  few : 0 < length page.entries → length page.entries ≤ 40960
  few some = let s = shown some in omega (arith, entries_few page.entries, s.small, ap length s.spelled)

  -- a page without entries has no steps on
  pub fewer_ahead_none : (now : ℕ) (new : Reading) (e : Entry) → slice_get page.entries page.place ≡ Some e → new.entries ≡ [] → steps_ahead (length t.items) now new < steps_ahead (length t.items) index page
  fewer_ahead_none now new e there none =
      let inside = get_inside page.entries page.place e there in
      let some : 0 < length page.entries = omega (arith, inside) in
      let index_in : index < length t.items = get_inside t.items index _ (shown some).agrees.indexed in
      omega (arith, by_none new.entries 0 (most_steps (length t.items - now) - new.place) none, by_some page.entries 0 (most_steps (length t.items - index) - page.place) some, few some, inside, index_in)

  pub fewer_back_none : (now : ℕ) (new : Reading) (e : Entry) → slice_get page.entries page.place ≡ Some e → new.entries ≡ [] → steps_back now new < steps_back index page
  fewer_back_none now new e there none =
      let inside = get_inside page.entries page.place e there in
      let some : 0 < length page.entries = omega (arith, inside) in
      omega (arith, by_none new.entries 0 (most_steps now + new.place + 1) none, by_some page.entries 0 (most_steps index + page.place + 1) some)

  pub fewer_ahead : (now : ℕ) (new : Reading) (e : Entry) → (page.place + 1 < length page.entries → GoesWithin page index (page.place + 1) new now)
      → spot now new ≡ next_spot t.items index page → slice_get page.entries page.place ≡ Some e → steps_ahead (length t.items) now new < steps_ahead (length t.items) index page
  fewer_ahead now new e within lands there = by (cases_lt (page.place + 1) (length page.entries))
    where
      inside : page.place < length page.entries
      inside = get_inside page.entries page.place e there

      some : 0 < length page.entries
      some = omega (arith, inside)

      index_in : index < length t.items
      index_in = get_inside t.items index _ (shown some).agrees.indexed

      mine : steps_ahead (length t.items) index page ≡ most_steps (length t.items - index) - page.place
      mine = by_some page.entries 0 (most_steps (length t.items - index) - page.place) some

      past : length page.entries ≤ page.place + 1 → spot now new ≡ first_spot t.items (index + 1)
      past end = lands ∙ next_is t.items index page some ∙ block_end t.items index page.place (length page.entries) end

      behind : length page.entries ≤ page.place + 1 → (index + 1 < length t.items) ⊎ (length t.items ≤ index + 1) → steps_ahead (length t.items) now new < steps_ahead (length t.items) index page
      behind end (inl lt) =
          let at = at_spot now new (index + 1) 0 (past end ∙ there_is t.items (index + 1) 0 lt) in
          omega (arith, mine, by_some new.entries 0 (most_steps (length t.items - now) - new.place) at.some, at.index_is, at.place_is, few some, inside, lt)
      behind end (inr le) = fewer_ahead_none now new e there (no_spot now new (past end ∙ none_is t.items (index + 1) 0 le))

      by : (page.place + 1 < length page.entries) ⊎ (length page.entries ≤ page.place + 1) → steps_ahead (length t.items) now new < steps_ahead (length t.items) index page
      by (inl lt) =
          let to = within lt in
          let same : steps_ahead (length t.items) now new ≡ steps_ahead (length t.items) index (record page { place = page.place + 1 }) = λ i. steps_ahead (length t.items) (to.1 i) (to.0 i) in
          omega (arith, mine, same, by_some page.entries 0 (most_steps (length t.items - index) - (page.place + 1)) some, few some, lt, index_in)
      by (inr end) = behind end (cases_lt (index + 1) (length t.items))

  pub fewer_back : (now : ℕ) (new : Reading) (e : Entry) → (0 < length new.entries → ShowsOf g t now new) → (0 < page.place → 0 < length page.entries → GoesWithin page index (page.place - 1) new now)
      → spot now new ≡ previous_spot t.items index page new → slice_get page.entries page.place ≡ Some e → steps_back now new < steps_back index page
  fewer_back now new e shown_now within lands there = by (cases_lt 0 page.place)
    where
      inside : page.place < length page.entries
      inside = get_inside page.entries page.place e there

      some : 0 < length page.entries
      some = omega (arith, inside)

      index_in : index < length t.items
      index_in = get_inside t.items index _ (shown some).agrees.indexed

      mine : steps_back index page ≡ most_steps index + page.place + 1
      mine = by_some page.entries 0 (most_steps index + page.place + 1) some

      front : page.place ≡ 0 → spot now new ≡ (if index == 0 then None else last_spot t.items (index - 1) new)
      front is = lands ∙ previous_is t.items index page new some ∙ block_front t.items index page.place new is

      few_now : 0 < length new.entries → length new.entries ≤ 40960
      few_now some = let s = shown_now some in omega (arith, entries_few new.entries, s.small, ap length s.spelled)

      before : page.place ≡ 0 → (0 < index) ⊎ (index ≤ 0) → steps_back now new < steps_back index page
      before is (inl later) =
          let test : (index == 0) ≡ false = grind (arith, nat_tests, later) in
          let at = at_spot now new (index - 1) (length new.entries - 1) (front is ∙ ap (λ b. if b then None else last_spot t.items (index - 1) new) test ∙ there_is t.items (index - 1) (length new.entries - 1) (omega (arith, index_in))) in
          omega (arith, mine, by_some new.entries 0 (most_steps now + new.place + 1) at.some, at.index_is, at.place_is, at.some, few_now at.some, later)
      before is (inr none) =
          let test : (index == 0) ≡ true = grind (arith, nat_tests, none) in
          fewer_back_none now new e there (no_spot now new (front is ∙ ap (λ b. if b then None else last_spot t.items (index - 1) new) test))

      by : (0 < page.place) ⊎ (page.place ≤ 0) → steps_back now new < steps_back index page
      by (inl lt) =
          let to = within lt some in
          let same : steps_back now new ≡ steps_back index (record page { place = page.place - 1 }) = λ i. steps_back (to.1 i) (to.0 i) in
          omega (arith, mine, same, by_some page.entries 0 (most_steps index + (page.place - 1) + 1) some, lt)
      by (inr le) = before (omega (arith, le)) (cases_lt 0 index)

  -- ---- the same of a move that may be refused

  pub walks_on : (r : Result (Unit {0}) ReadFault) (aim : Option (ℕ × ℕ)) → AreSorted page.entries → (now : ℕ) (new : Reading)
      → (page.place + 1 < length page.entries → GoesWithin page index (page.place + 1) new now) → OnOk r (spot now new ≡ aim) → aim ≡ next_spot t.items index page
      → OnOk r ((es : List Entry) (e : Entry) → slice_get page.entries page.place ≡ Some e → WalkedOver g t index page es → WalkedOver g t now new (es ++ e ∷ []))
  walks_on (Ok x) aim sorted now new within lands is = λ es e there w. walk_on sorted now new es e within (lands ∙ is) there w
  walks_on (Err x) aim sorted now new within lands is = tt

  pub steps_on : (r : Result (Unit {0}) ReadFault) (aim : Option (ℕ × ℕ)) (now : ℕ) (new : Reading) (e : Entry) → (page.place + 1 < length page.entries → GoesWithin page index (page.place + 1) new now)
      → OnOk r (spot now new ≡ aim) → aim ≡ next_spot t.items index page → OnErr r (new.entries ≡ []) → slice_get page.entries page.place ≡ Some e
      → steps_ahead (length t.items) now new < steps_ahead (length t.items) index page
  steps_on (Ok x) aim now new e within lands is nothing there = fewer_ahead now new e within (lands ∙ is) there
  steps_on (Err x) aim now new e within lands is nothing there = fewer_ahead_none now new e there nothing

  pub steps_off : (r : Result (Unit {0}) ReadFault) (aim : Option (ℕ × ℕ)) (now : ℕ) (new : Reading) (e : Entry) → (0 < length new.entries → ShowsOf g t now new)
      → (0 < page.place → 0 < length page.entries → GoesWithin page index (page.place - 1) new now)
      → OnOk r (spot now new ≡ aim) → aim ≡ previous_spot t.items index page new → OnErr r (new.entries ≡ []) → slice_get page.entries page.place ≡ Some e
      → steps_back now new < steps_back index page
  steps_off (Ok x) aim now new e shown_now within lands is nothing there = fewer_back now new e shown_now within (lands ∙ is) there
  steps_off (Err x) aim now new e shown_now within lands is nothing there = fewer_back_none now new e there nothing
