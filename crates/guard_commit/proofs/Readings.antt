-- What a cursor has gone over, as what was read of its table.
use Rattle.std.proofs.Common.{◌≡◌, ℕ, zero, suc, ◌-◌, ◌<◌, List, [], ◌∷◌, ◌++◌, length, take, drop, Option, Some, None, refl, sym, ap, ◌∙◌, subst, arith, append_assoc, length-append}
use Rattle.std.proofs.lemmas.List.{take-append-drop, append-nil}
use Rattle.std.specs.Prelude.{slice_get}
use Rattle.disk_model.specs.declared.port.Port as ports
use Rattle.disk_model.specs.declared.table_handle.TableHandle.{Ghosts}
use Rattle.peb_base.specs.Cursors.{first_place, next_place, StandsAmong}
use Rattle.peb_base.specs.Entries.{AreSorted}
use Rattle.peb_base.specs.Tables.{IsRowOf}
use Rattle.peb_base.specs.declared.entry.Entry.{Entry}
use Rattle.peb_base.specs.declared.table_row.TableRow.{TableRow}
use Rattle.table_file.specs.Tables.{TableParts}
use Rattle.table_cursor.specs.Agreeing.{ShowsOf}
use Rattle.table_cursor.specs.Page.{Reading}
use Rattle.table_cursor.specs.StandingLaws.{stands_among}
use Rattle.table_cursor.specs.Views.{table_of, page_of, index_of, shown_by, StandsIn, WalksIn}
use Rattle.table_cursor.specs.WalkLaws.{take_on, ordered, all_ends, page_read, walk_behind}
use Rattle.table_cursor.specs.Walking.{ReadInOrder, CanBeRead, by_entries, blocks_passed, WalkedOver, in_front}
use Rattle.table_cursor.specs.declared.table_cursor.TableCursor.{TableCursor}
use Rattle.guard_commit.specs.Reading.{IsHeld, WasRead, Reaches, IsPassedBy, HasPassed}
use Rattle.guard_commit.specs.Tallying.{IsCounted}
use Rattle.guard_commit.proofs.Fronts.{front_first, front_next, front_none, front_of, front_fits}

inside_of : (es : List Entry) (n : ℕ) (e : Entry) → slice_get es n ≡ Some e → 0 < length es
inside_of [] n e there = cc
inside_of (x ∷ es) n e there = omega arith

gets : (es : List Entry) (n : ℕ) → n < length es → slice_get es n ≡ None → ⊥
gets [] n lt h = omega (arith, lt)
gets (x ∷ es) zero lt h = cc
gets (x ∷ es) (suc n) lt h = gets es n (omega (arith, lt)) h

-- a row counts its entries
pub counted : (row : TableRow) (es : List Entry) → IsRowOf row es → IsCounted row es
counted row es is =
    record { entries = is.entries; raw = is.raw; first = is.first; last = is.last }

module _ {F : Type 0} (g : Ghosts F) (t : TableParts F) where
  -- where the page shows an entry, the blocks in front of its one were passed
  passed_front : (index : ℕ) (page : Reading) → 0 < length page.entries
      → blocks_passed (length t.items) index page ≡ index
  passed_front index page some = by page.entries some
    where
      by : (l : List Entry) → 0 < length l → by_entries l (length t.items) index ≡ index
      by [] h = absurd (omega (arith, h))
      by (x ∷ l) h = refl

  -- up to the entry that the page shows
  pub reaches : (index : ℕ) (page : Reading) (es : List Entry) (e : Entry)
      → (0 < length page.entries → ShowsOf g t index page) → AreSorted page.entries
      → WalkedOver g t index page es → slice_get page.entries page.place ≡ Some e
      → Reaches g t index (es ++ e ∷ [])
  reaches index page es e shows sorted w there =
      let some = inside_of page.entries page.place e there in
      let own = take (suc page.place) page.entries in
      let split = take-append-drop (suc page.place) page.entries in
      record {
        front = w.front;
        own = own;
        rest = drop (suc page.place) page.entries;
        were = subst (λ n. ReadInOrder g t n w.front) (passed_front index page some) w.were;
        block = subst (λ (l : List Entry). CanBeRead g t index l) (sym split)
            (page_read g t index page (shows some) sorted);
        is = ap (λ (l : List Entry). l ++ e ∷ []) w.is
            ∙ append_assoc w.front (take page.place page.entries) (e ∷ [])
            ∙ ap (λ (l : List Entry). w.front ++ l) (sym (take_on page.entries page.place e there));
        some = omega (
          arith,
          ap length (take_on page.entries page.place e there),
          length-append (take page.place page.entries) (e ∷ []),
        );
      }

  -- behind the last entry all blocks were passed
  pub all_passed : (index : ℕ) (page : Reading) (es : List Entry)
      → (0 < length page.entries → ShowsOf g t index page)
      → WalkedOver g t index page es → slice_get page.entries page.place ≡ None
      → ReadInOrder g t (length t.items) es
  all_passed index page es shows w none = by page.entries refl
    where
      by : (l : List Entry) → page.entries ≡ l → ReadInOrder g t (length t.items) es
      by [] is =
          subst (λ (l : List Entry). ReadInOrder g t (length t.items) l)
          (sym (w.is ∙ ap (λ (l : List Entry). w.front ++ take page.place l) is ∙ nil page.place))
          (subst (λ n. ReadInOrder g t n w.front)
          (ap (λ (l : List Entry). by_entries l (length t.items) index) is) w.were)
        where
          nil : (n : ℕ) → w.front ++ take n [] ≡ w.front
          nil zero = append-nil w.front
          nil (suc n) = append-nil w.front
      by (x ∷ l) is =
          absurd (gets page.entries page.place (shows (omega (arith, ap length is))).inside none)

  -- all blocks reach into the last one
  pub reaches_last : (last : ℕ) (es : List Entry) → suc last ≡ length t.items
      → ReadInOrder g t (length t.items) es → Reaches g t last es
  reaches_last last es is were =
      let w = subst (λ n. ReadInOrder g t n es) (sym is) were in
      let front = w.0 in
      let block = w.1 in
      let read = w.3 in
      record {
        front = front;
        own = block;
        rest = [];
        were = w.2;
        block = subst (λ (l : List Entry). CanBeRead g t last l) (sym (append-nil block)) read;
        is = w.4;
        some = omega (arith, read.shows.inside, ap length read.is);
      }

  -- entries of all blocks reach into some block
  pub reaches_end : (es : List Entry) → ReadInOrder g t (length t.items) es → 0 < length es
      → (index : ℕ) × Reaches g t index es
  reaches_end es were some = by (length t.items) refl were
    where
      by : (n : ℕ) → length t.items ≡ n → ReadInOrder g t n es → (index : ℕ) × Reaches g t index es
      by zero is none = absurd (omega (arith, some, ap length none))
      by (suc n) is w = (n, reaches_last n es (sym is) were)

  -- what was counted of all entries is their row
  pub row_of_all : (es : List Entry) → 0 < length t.items → ReadInOrder g t (length t.items) es
      → IsCounted t.row es → 0 < length es → IsRowOf t.row es
  row_of_all es some were counted there =
      let ends = all_ends g t es some were in
      record {
        some = there;
        smallest = sym ends.0;
        largest = sym ends.1;
        entries = counted.entries;
        raw = counted.raw;
        first = counted.first;
        last = counted.last;
      }

  -- all blocks have an entry
  pub some_read : (es : List Entry) → 0 < length t.items → ReadInOrder g t (length t.items) es
      → 0 < length es
  some_read es some were =
      let last = length t.items - 1 in
      let r = reaches_last last es (omega (arith, some)) were in
      omega (arith, r.some, ap length r.is, length-append r.front r.own)

module _ {P F : Type 0} {p : ports.Ghosts P F} {f : Ghosts F} where
  among : (c : TableCursor P F p f) (held : List Entry) (place : Option ℕ) → StandsIn c held place
      → StandsAmong held place (shown_by c)
  among c held place stands =
      stands_among f (table_of c) (page_of c) (index_of c) held place stands
      (λ some. (c.shown some).inside)

  -- at the first entry none was passed
  pub passed_first : (c : TableCursor P F p f) → WalksIn c []
      → ((held : List Entry) → IsHeld f (table_of c) held → StandsIn c held (first_place held))
      → HasPassed c []
  passed_first c walks stands =
      record {
        walks = walks;
        told = λ held is. (first_place held, stands held is, sym (front_first held));
      }

  -- one step on, the entry that was shown was passed
  pub passed_on : (c d : TableCursor P F p f) (es : List Entry) (e : Entry) → HasPassed c es
      → shown_by c ≡ Some e → WalksIn d (es ++ e ∷ []) → table_of d ≡ table_of c
      → ((held : List Entry) (place : Option ℕ) → StandsIn c held place
      → StandsIn d held (next_place held place))
      → HasPassed d (es ++ e ∷ [])
  passed_on c d es e passed there walks same goes =
      record {
        walks = walks;
        told = λ held is. by held (passed.told held
            (is.0, subst (λ t. Rattle.table_file.specs.Tables.Holds f t held) same is.1));
      }
    where
      by : (held : List Entry)
          → (place : Option ℕ) × StandsIn c held place × (es ≡ in_front place held)
          → (place : Option ℕ) × StandsIn d held place × (es ++ e ∷ [] ≡ in_front place held)
      by held (place, stands, is) = (
        next_place held place,
        goes held place stands,
        ap (λ (l : List Entry). l ++ e ∷ []) is
            ∙ sym (front_next held place e (sym (among c held place stands).shows ∙ there)),
      )

  -- what was passed is sorted, with the entry that is shown
  pub passed_sorted : (c : TableCursor P F p f) (es : List Entry) (e : Entry) → HasPassed c es
      → shown_by c ≡ Some e → AreSorted (es ++ e ∷ [])
  passed_sorted c es e passed there =
      walk_behind f (table_of c) (index_of c) (page_of c) es e c.shown c.sorted passed.walks there

  -- it is a front of what the table holds
  pub passed_front_of : (c : TableCursor P F p f) (es : List Entry) (e : Entry) → HasPassed c es
      → shown_by c ≡ Some e → (held : List Entry) → IsHeld f (table_of c) held
      → (rest : List Entry) × ((es ++ e ∷ []) ++ rest ≡ held)
  passed_front_of c es e passed there held is = by (passed.told held is)
    where
      by : (place : Option ℕ) × StandsIn c held place × (es ≡ in_front place held)
          → (rest : List Entry) × ((es ++ e ∷ []) ++ rest ≡ held)
      by (place, stands, front) =
          let on = front_of held (next_place held place) in (
            on.0,
            ap (λ (l : List Entry). l ++ on.0)
                (ap (λ (l : List Entry). l ++ e ∷ []) front
                ∙ sym (front_next held place e (sym (among c held place stands).shows ∙ there)))
                ∙ on.1,
          )

  -- a table that holds entries doesn't have more than its row tells
  pub never_passed : (c : TableCursor P F p f) (es : List Entry) (e : Entry) → HasPassed c es
      → shown_by c ≡ Some e → IsPassedBy (table_of c).row (es ++ e ∷ [])
      → (held : List Entry) → IsHeld f (table_of c) held → ⊥
  never_passed c es e passed there more held is =
      let r = passed_front_of c es e passed there held is in
      front_fits (table_of c).row (es ++ e ∷ []) r.0
      (subst (IsRowOf (table_of c).row) (sym r.1) is.1.table.row_is) more

  -- behind the last entry, what was passed is what the table holds
  pub passed_all : (c : TableCursor P F p f) (es : List Entry) → HasPassed c es
      → shown_by c ≡ None → (held : List Entry) → IsHeld f (table_of c) held → es ≡ held
  passed_all c es passed none held is = by (passed.told held is)
    where
      by : (place : Option ℕ) × StandsIn c held place × (es ≡ in_front place held) → es ≡ held
      by (place, stands, front) =
          front ∙ front_none held place
          (subst (StandsAmong held place) none (among c held place stands))

  -- behind the last entry, where the row counts the same, the table was read
  pub was_read : (c : TableCursor P F p f) (es : List Entry) → HasPassed c es → shown_by c ≡ None
      → 0 < length (table_of c).items → IsCounted (table_of c).row es
      → WasRead f (table_of c) es
  was_read c es passed none some counted =
      let were = all_passed f (table_of c) (index_of c) (page_of c) es c.shown passed.walks none in
      record {
        were = were;
        sorted = (ordered f (table_of c) (length (table_of c).items) es were).sorted;
        row = row_of_all f (table_of c) es some were counted (some_read f (table_of c) es some were);
        told = passed_all c es passed none;
      }
