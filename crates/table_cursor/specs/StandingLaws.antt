-- A cursor stands among the entries of its table.
use Rattle.std.proofs.Common.{◌≡◌, ℕ, zero, suc, ◌+◌, ◌<◌, ◌∙◌, List, [], ◌∷◌, length, Option, Some, None, refl, sym, ap, subst, arith}
use Rattle.std.specs.Prelude.{slice_get, IfSome}
use Rattle.peb_base.specs.Cursors.{StandsAmong, entry_at}
use Rattle.peb_base.specs.Entries.{AreSorted}
use Rattle.peb_base.specs.declared.entry.Entry.{Entry}
use Rattle.disk_model.specs.declared.table_handle.TableHandle.{Ghosts}
use Rattle.table_file.specs.Form.{blocks_of}
use Rattle.table_file.specs.Tables.{TableParts}
use Rattle.table_cursor.specs.Page.{Reading}
use Rattle.table_cursor.specs.Places.{among}
use Rattle.table_cursor.specs.Spots.{where_some}
use Rattle.table_cursor.specs.Standing.{entries_before, OnPage, StandsAt}

pub some_there : (es : List Entry) (n : ℕ) → 0 < length es → where_some es n ≡ Some n
some_there [] n some = absurd (omega (arith, some))
some_there (e ∷ es) n some = refl

pub none_there : (es : List Entry) (n : ℕ) → length es ≡ 0 → where_some es n ≡ None
none_there [] n none = refl
none_there (e ∷ es) n none = absurd (omega (arith, none))

nothing : (n : ℕ) → slice_get {X = Entry} [] n ≡ None
nothing zero = refl
nothing (suc n) = refl

-- a page with entries shows its place among those of all blocks
pub shown : (page : Reading) (index : ℕ) (blocks : List (List Entry)) (es : List Entry)
    (place : Option ℕ) → OnPage page index blocks es place → 0 < length page.entries
    → place ≡ Some (entries_before index blocks + page.place)
shown page index blocks es place on some =
    on.there ∙ some_there page.entries (entries_before index blocks + page.place) some

pub unshown : (page : Reading) (index : ℕ) (blocks : List (List Entry)) (es : List Entry)
    (place : Option ℕ) → OnPage page index blocks es place → length page.entries ≡ 0 → place ≡ None
unshown page index blocks es place on none =
    on.there ∙ none_there page.entries (entries_before index blocks + page.place) none

-- the entry that the page shows is the one at the place among all
entry_shown : (page : Reading) (index : ℕ) (blocks : List (List Entry)) (es : List Entry)
    (place : Option ℕ) → OnPage page index blocks es place
    → (0 < length page.entries → page.place < length page.entries)
    → slice_get page.entries page.place ≡ entry_at es place
entry_shown page index blocks es place on inside = by page.entries refl
  where
    by : (l : List Entry) → page.entries ≡ l → slice_get page.entries page.place ≡ entry_at es place
    by [] is = ap (λ l. slice_get l page.place) is ∙ nothing page.place
        ∙ sym (ap (entry_at es) (unshown page index blocks es place on (ap length is)))
    by (e ∷ l) is =
        let some : 0 < length page.entries = omega (arith, ap length is) in
        let spot = among blocks index page.entries (on.here some) in
        let n = entries_before index blocks + page.place in
        sym (spot.entry page.place (inside some)) ∙ ap (λ l. slice_get l n) on.whole
        ∙ sym (ap (entry_at es) (shown page index blocks es place on some))

on_page_among : (page : Reading) (index : ℕ) (blocks : List (List Entry)) (es : List Entry)
    (place : Option ℕ) → OnPage page index blocks es place → AreSorted es
    → (0 < length page.entries → page.place < length page.entries)
    → StandsAmong es place (slice_get page.entries page.place)
on_page_among page index blocks es place on sorted inside =
    record {
      sorted = sorted;
      inside = by page.entries refl;
      shows =
          entry_shown page index blocks es place on inside;
    }
  where
    by : (l : List Entry) → page.entries ≡ l → IfSome place (λ n. n < length es)
    by [] is = subst (λ p. IfSome p (λ n. n < length es))
        (sym (unshown page index blocks es place on (ap length is))) tt
    by (e ∷ l) is =
        let some : 0 < length page.entries = omega (arith, ap length is) in
        let spot = among blocks index page.entries (on.here some) in
        subst (λ p. IfSome p (λ n. n < length es)) (sym (shown page index blocks es place on some))
        (omega (arith, spot.within, inside some, ap length on.whole))

pub stands_among : {F : Type 0} (g : Ghosts F) (t : TableParts F) (page : Reading) (index : ℕ)
    (es : List Entry) (place : Option ℕ)
    → StandsAt g t page index es place
    → (0 < length page.entries → page.place < length page.entries)
    → StandsAmong es place (slice_get page.entries page.place)
stands_among g t page index es place stands inside =
    on_page_among page index
    (blocks_of stands.holds.full es) es place stands.on stands.holds.table.sorted inside
