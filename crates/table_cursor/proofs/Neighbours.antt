-- A seek shows nothing before what was sought, and a step shows an entry on its side of the other.
use Rattle.std.proofs.Common.{◌≡◌, ℕ, zero, suc, ◌+◌, ◌-◌, ◌<◌, ◌≤◌, ◌∙◌, ◌⊎◌, inl, inr, Bool, true, false, List, [], ◌∷◌, length, Option, Some, None, Result, Ok, Err, OnOk, OnErr, refl, sym, ap, subst, arith}
use Rattle.std.specs.Prelude.{slice_get, ◌==◌, if◌then◌else◌}
use Rattle.std.proofs.lemmas.Bool.{cases_lt}
use Rattle.std.proofs.lemmas.Bool.Decides.{nat_tests}
use Rattle.disk_model.specs.declared.table_handle.TableHandle.{Ghosts}
use Rattle.peb_base.specs.Entries.{AreSorted, AscendFrom, comes_before, entry_lt, first_from}
use Rattle.peb_base.specs.Keys.{Bytes}
use Rattle.peb_base.specs.Tables.{first_key}
use Rattle.peb_base.specs.declared.entry.Entry.{Entry}
use Rattle.peb_base.specs.declared.read_fault.ReadFault.{ReadFault}
use Rattle.peb_base.specs.declared.table_row.TableRow.{TableRow}
use Rattle.table_file.specs.Form.{item_of}
use Rattle.table_file.specs.Tables.{TableParts}
use Rattle.table_file.specs.declared.index_item.IndexItem.{IndexItem}
use Rattle.table_cursor.specs.Agreeing.{Agrees, ShowsOf, key_before, number_before, first_number}
use Rattle.table_cursor.specs.IndexLaws.{before_at, get_inside}
use Rattle.table_cursor.specs.Page.{Reading}
use Rattle.table_cursor.specs.Spots.{spot, first_spot, last_spot, next_spot, previous_spot}
use Rattle.table_cursor.proofs.Ends.{last_at}
use Rattle.table_cursor.proofs.Walked.{GoesWithin, at_spot, no_spot, next_is, previous_is, block_end, block_front, there_is, none_is, nothing_there}

entry_is : (a b : Entry) → Some a ≡ Some b → a ≡ b
entry_is a b same = cc

-- the first entry that doesn't come before a key and number doesn't
pub found_not_before : (key : Bytes) (number : ℕ) (es : List Entry) (e : Entry)
    → slice_get es (first_from key number es) ≡ Some e → comes_before e.key e.number key number ≡ false
found_not_before key number [] e there = cc
found_not_before key number (x ∷ es) e there =
    by (comes_before x.key x.number key number) refl (found_not_before key number es e) there
  where
    by : (t : Bool) → comes_before x.key x.number key number ≡ t
        → (slice_get es (first_from key number es) ≡ Some e → comes_before e.key e.number key number ≡ false)
        → slice_get (x ∷ es) (if t then suc (first_from key number es) else 0) ≡ Some e
        → comes_before e.key e.number key number ≡ false
    by true is deep there = deep there
    by false is deep there = subst (λ (y : Entry). comes_before y.key y.number key number ≡ false) (entry_is x e there) is

-- no entry stands among none
pub none_among : (es : List Entry) (place : ℕ) (f : Entry) → es ≡ [] → slice_get es place ≡ Some f → ⊥
none_among es place f none there = let never = sym (nothing_there es place none) ∙ there in cc

-- an entry comes before the one behind it
next_after : (key : Bytes) (number : ℕ) (es : List Entry) (place : ℕ) (e f : Entry) → AscendFrom key number es
    → slice_get es place ≡ Some e → slice_get es (suc place) ≡ Some f → entry_lt e f ≡ true
next_after key number [] place e f each here there = cc
next_after key number (x ∷ []) zero e f each here there = cc
next_after key number (x ∷ y ∷ es) zero e f each here there =
    subst (λ (p : Entry). entry_lt p f ≡ true) (entry_is x e here)
    (subst (λ (q : Entry). entry_lt x q ≡ true) (entry_is y f there) each.2.1)
next_after key number (x ∷ es) (suc place) e f each here there = next_after x.key x.number es place e f each.2 here there

first_at : (es : List Entry) (e : Entry) → slice_get es 0 ≡ Some e → (first_key es ≡ e.key) × (first_number es ≡ e.number)
first_at [] e there = cc
first_at (x ∷ es) e there =
    let same = entry_is x e there in (ap (λ (y : Entry). y.key) same, ap (λ (y : Entry). y.number) same)

-- the last entry of a block comes before the first of the block behind it
block_after : (row : TableRow) (items : List IndexItem) (n at to : ℕ) (b c : List Entry) (e f : Entry)
    → Agrees row items n at b → Agrees row items (suc n) to c
    → slice_get b (length b - 1) ≡ Some e → slice_get c 0 ≡ Some f → entry_lt e f ≡ true
block_after row items n at to b c e f before after here there =
    let item = before_at [] 0 items n (item_of at b) before.indexed in
    let last = last_at b e here in
    let first = first_at c f there in
    let key : key_before [] (suc n) items ≡ e.key = item.0 ∙ last.0 in
    let number : number_before 0 (suc n) items ≡ e.number = item.1 ∙ last.1 in
    sym (λ i. comes_before (key i) (number i) (first.0 i) (first.1 i)) ∙ after.after

module _ {F : Type 0} (g : Ghosts F) (t : TableParts F) (index : ℕ) (page : Reading)
    (shown : 0 < length page.entries → ShowsOf g t index page) (sorted : AreSorted page.entries) where
  fell : (now : ℕ) (new : Reading) (e f : Entry) → (0 < length new.entries → ShowsOf g t now new)
      → (0 < page.place → 0 < length page.entries → GoesWithin page index (page.place - 1) new now)
      → spot now new ≡ previous_spot t.items index page new
      → slice_get page.entries page.place ≡ Some e → slice_get new.entries new.place ≡ Some f → entry_lt f e ≡ true
  fell now new e f shown_now within lands there then_there = by (cases_lt 0 page.place)
    where
      inside : page.place < length page.entries
      inside = get_inside page.entries page.place e there

      some : 0 < length page.entries
      some = omega (arith, inside)

      index_in : index < length t.items
      index_in = get_inside t.items index _ (shown some).agrees.indexed

      front : page.place ≡ 0 → spot now new ≡ (if index == 0 then None else last_spot t.items (index - 1) new)
      front is = lands ∙ previous_is t.items index page new some ∙ block_front t.items index page.place new is

      before : page.place ≡ 0 → (0 < index) ⊎ (index ≤ 0) → entry_lt f e ≡ true
      before is (inl later) =
          let test : (index == 0) ≡ false = grind (arith, nat_tests, later) in
          let at = at_spot now new (index - 1) (length new.entries - 1) (front is ∙ ap (λ b. if b then None else last_spot t.items (index - 1) new) test ∙ there_is t.items (index - 1) (length new.entries - 1) (omega (arith, index_in))) in
          let one : index ≡ suc (index - 1) = omega (arith, later) in
          let mine = subst (λ n. Agrees t.row t.items n page.at page.entries) one (shown some).agrees in
          let its = subst (λ n. Agrees t.row t.items n new.at new.entries) at.index_is (shown_now at.some).agrees in
          block_after t.row t.items (index - 1) new.at page.at new.entries page.entries f e its mine
          (ap (slice_get new.entries) (sym at.place_is) ∙ then_there) (ap (slice_get page.entries) (sym is) ∙ there)
      before is (inr none) =
          let test : (index == 0) ≡ true = grind (arith, nat_tests, none) in
          absurd (none_among new.entries new.place f (no_spot now new (front is ∙ ap (λ b. if b then None else last_spot t.items (index - 1) new) test)) then_there)

      by : (0 < page.place) ⊎ (page.place ≤ 0) → entry_lt f e ≡ true
      by (inl lt) =
          let to = within lt some in
          let same : slice_get page.entries (page.place - 1) ≡ slice_get new.entries new.place =
          sym (ap (λ (p : Reading). slice_get p.entries p.place) to.0) in
          let one : suc (page.place - 1) ≡ page.place = omega (arith, lt) in
          next_after [] 0 page.entries (page.place - 1) f e sorted (same ∙ then_there) (ap (slice_get page.entries) one ∙ there)
      by (inr le) = before (omega (arith, le)) (cases_lt 0 index)

  rose : (now : ℕ) (new : Reading) (e f : Entry) → (0 < length new.entries → ShowsOf g t now new)
      → (page.place + 1 < length page.entries → GoesWithin page index (page.place + 1) new now)
      → spot now new ≡ next_spot t.items index page
      → slice_get page.entries page.place ≡ Some e → slice_get new.entries new.place ≡ Some f → entry_lt e f ≡ true
  rose now new e f shown_now within lands there then_there = by (cases_lt (page.place + 1) (length page.entries))
    where
      inside : page.place < length page.entries
      inside = get_inside page.entries page.place e there

      some : 0 < length page.entries
      some = omega (arith, inside)

      past : length page.entries ≤ page.place + 1 → spot now new ≡ first_spot t.items (index + 1)
      past end = lands ∙ next_is t.items index page some ∙ block_end t.items index page.place (length page.entries) end

      behind : length page.entries ≤ page.place + 1 → (index + 1 < length t.items) ⊎ (length t.items ≤ index + 1) → entry_lt e f ≡ true
      behind end (inl lt) =
          let at = at_spot now new (index + 1) 0 (past end ∙ there_is t.items (index + 1) 0 lt) in
          let one : now ≡ suc index = omega (arith, at.index_is) in
          let last : length page.entries - 1 ≡ page.place = omega (arith, inside, end) in
          let its = subst (λ n. Agrees t.row t.items n new.at new.entries) one (shown_now at.some).agrees in
          block_after t.row t.items index page.at new.at page.entries new.entries e f (shown some).agrees its
          (ap (slice_get page.entries) last ∙ there) (ap (slice_get new.entries) (sym at.place_is) ∙ then_there)
      behind end (inr le) =
          absurd (none_among new.entries new.place f (no_spot now new (past end ∙ none_is t.items (index + 1) 0 le)) then_there)

      by : (page.place + 1 < length page.entries) ⊎ (length page.entries ≤ page.place + 1) → entry_lt e f ≡ true
      by (inl lt) =
          let to = within lt in
          let one : suc page.place ≡ page.place + 1 = omega arith in
          let same : slice_get page.entries (page.place + 1) ≡ slice_get new.entries new.place =
          sym (ap (λ (p : Reading). slice_get p.entries p.place) to.0) in
          next_after [] 0 page.entries page.place e f sorted there (ap (slice_get page.entries) one ∙ same ∙ then_there)
      by (inr end) = behind end (cases_lt (index + 1) (length t.items))

  -- a step back that may be refused shows an entry before
  pub falls_off : (r : Result (Unit {0}) ReadFault) (aim : Option (ℕ × ℕ)) (now : ℕ) (new : Reading) (e f : Entry)
      → (0 < length new.entries → ShowsOf g t now new)
      → (0 < page.place → 0 < length page.entries → GoesWithin page index (page.place - 1) new now)
      → OnOk r (spot now new ≡ aim) → aim ≡ previous_spot t.items index page new → OnErr r (new.entries ≡ [])
      → slice_get page.entries page.place ≡ Some e → slice_get new.entries new.place ≡ Some f → entry_lt f e ≡ true
  falls_off (Ok x) aim now new e f shown_now within lands is nothing there then_there =
      fell now new e f shown_now within (lands ∙ is) there then_there
  falls_off (Err x) aim now new e f shown_now within lands is nothing there then_there =
      absurd (none_among new.entries new.place f nothing then_there)

  -- a step on that may be refused shows an entry behind
  pub rises_on : (r : Result (Unit {0}) ReadFault) (aim : Option (ℕ × ℕ)) (now : ℕ) (new : Reading) (e f : Entry)
      → (0 < length new.entries → ShowsOf g t now new)
      → (page.place + 1 < length page.entries → GoesWithin page index (page.place + 1) new now)
      → OnOk r (spot now new ≡ aim) → aim ≡ next_spot t.items index page → OnErr r (new.entries ≡ [])
      → slice_get page.entries page.place ≡ Some e → slice_get new.entries new.place ≡ Some f → entry_lt e f ≡ true
  rises_on (Ok x) aim now new e f shown_now within lands is nothing there then_there =
      rose now new e f shown_now within (lands ∙ is) there then_there
  rises_on (Err x) aim now new e f shown_now within lands is nothing there then_there =
      absurd (none_among new.entries new.place f nothing then_there)
