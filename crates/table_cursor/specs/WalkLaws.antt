-- Blocks that were read one after another, and how many steps a cursor has.
use Rattle.std.proofs.Common.{◌≡◌, ℕ, zero, suc, ◌+◌, ◌-◌, ◌<◌, ◌≤◌, true, List, [], ◌∷◌, ◌++◌, length, take, Some, refl, sym, ap, ◌∙◌, subst, arith, append_assoc, length-append}
use Rattle.std.specs.Prelude.{slice_get}
use Rattle.disk_model.specs.declared.table_handle.TableHandle.{Ghosts}
use Rattle.peb_base.specs.Cursors.{ComesBeforeNone}
use Rattle.peb_base.specs.Entries.{AreSorted, AscendFrom, comes_before, entry_lt}
use Rattle.peb_base.specs.EntryLaws.{entry_trans, entry_asym}
use Rattle.peb_base.specs.Keys.{Bytes}
use Rattle.peb_base.specs.Tables.{first_key, last_key}
use Rattle.peb_base.specs.declared.entry.Entry.{Entry}
use Rattle.block_form.specs.Counting.{entries_few}
use Rattle.table_file.specs.Ascending.{front_ascends}
use Rattle.table_file.specs.Form.{last_number, item_of}
use Rattle.table_file.specs.Tables.{TableParts}
use Rattle.table_file.specs.declared.index_item.IndexItem.{IndexItem}
use Rattle.table_cursor.specs.Agreeing.{ShowsOf, key_before, number_before, first_number}
use Rattle.table_cursor.specs.IndexLaws.{before_at, get_inside}
use Rattle.table_cursor.specs.Page.{Reading}
use Rattle.table_cursor.specs.Walking.{CanBeRead, ReadInOrder, by_entries, blocks_passed, WalkedOver, most_steps, steps_ahead, steps_back}

-- ---- sorted entries

-- an entry behind sorted ones comes before none of them
pub behind_all : (key : Bytes) (number : ℕ) (es : List Entry) (e : Entry)
    → AscendFrom key number (es ++ e ∷ []) → ComesBeforeNone e es
behind_all key number [] e h = tt
behind_all key number (x ∷ es) e h =
    (entry_asym x e (reaches x es e h.2), behind_all x.key x.number es e h.2)
  where
    reaches : (x : Entry) (es : List Entry) (e : Entry) → AscendFrom x.key x.number (es ++ e ∷ [])
        → entry_lt x e ≡ true
    reaches x [] e h = h.1
    reaches x (y ∷ es) e h = entry_trans x y e h.1 (reaches y es e h.2)

ascend_on : (key : Bytes) (number : ℕ) (xs ys : List Entry) → 0 < length xs
    → AscendFrom key number xs → AscendFrom (last_key xs) (last_number xs) ys
    → AscendFrom key number (xs ++ ys)
ascend_on key number [] ys some h g = absurd (omega (arith, some))
ascend_on key number (x ∷ []) ys some h g = (h.0, h.1, g)
ascend_on key number (x ∷ z ∷ xs) ys some h g =
    (h.0, h.1, ascend_on x.key x.number (z ∷ xs) ys (omega arith) h.2 g)

begins_behind : (key : Bytes) (number : ℕ) (es : List Entry) → AreSorted es
    → comes_before key number (first_key es) (first_number es) ≡ true → AscendFrom key number es
begins_behind key number [] h after = tt
begins_behind key number (e ∷ es) h after = (h.0, after, h.2)

last_joined : (xs ys : List Entry) → 0 < length ys → (last_key (xs ++ ys) ≡ last_key ys)
    × (last_number (xs ++ ys) ≡ last_number ys)
last_joined [] ys some = (refl, refl)
last_joined (x ∷ []) [] some = absurd (omega (arith, some))
last_joined (x ∷ []) (y ∷ ys) some = (refl, refl)
last_joined (x ∷ z ∷ xs) ys some = last_joined (z ∷ xs) ys some

-- one more of a block's entries
pub take_on : (block : List Entry) (place : ℕ) (e : Entry) → slice_get block place ≡ Some e
    → take (suc place) block ≡ take place block ++ e ∷ []
take_on [] place e h = cc
take_on (b ∷ block) zero e h = ap (λ (x : Entry). x ∷ []) (some_entry b e h)
  where
    some_entry : (a c : Entry) → Some a ≡ Some c → a ≡ c
    some_entry a c same = cc
take_on (b ∷ block) (suc place) e h = ap (λ (l : List Entry). b ∷ l) (take_on block place e h)

up_to : (block : List Entry) (place : ℕ) (e : Entry) → slice_get block place ≡ Some e
    → (rest : List Entry) × (block ≡ (take place block ++ e ∷ []) ++ rest)
up_to [] place e h = cc
up_to (b ∷ block) zero e h = (block, ap (λ (x : Entry). x ∷ block) (some_entry b e h))
  where
    some_entry : (a c : Entry) → Some a ≡ Some c → a ≡ c
    some_entry a c same = cc
up_to (b ∷ block) (suc place) e h =
    let r = up_to block place e h in (r.0, ap (λ (l : List Entry). b ∷ l) r.1)

-- ---- blocks that were read

-- first blocks with what stands behind them
pub record Ordered (items : List IndexItem) (n : ℕ) (es : List Entry) : Type 0 where
  pub sorted : AreSorted es
  pub key : 0 < length es → last_key es ≡ key_before [] n items
  pub number : 0 < length es → last_number es ≡ number_before 0 n items
  pub none : length es ≡ 0 → n ≡ 0

module _ {F : Type 0} (g : Ghosts F) (t : TableParts F) where
  some_of : (n : ℕ) (block : List Entry) → CanBeRead g t n block → 0 < length block
  some_of n block r = omega (arith, r.shows.inside, ap length r.is)

  with_block : (n : ℕ) (front block : List Entry) → Ordered t.items n front → CanBeRead g t n block
      → AreSorted (front ++ block)
  with_block n front block o r =
      subst (λ (l : List Entry). AreSorted (front ++ l)) r.is (by front o)
    where
      by : (front : List Entry) → Ordered t.items n front → AreSorted (front ++ r.page.entries)
      by [] o = r.sorted
      by (x ∷ front) o =
          let some : 0 < length (x ∷ front) = omega arith in
          ascend_on [] 0 (x ∷ front) r.page.entries some o.sorted
          (subst (λ k. AscendFrom k (last_number (x ∷ front)) r.page.entries) (sym (o.key some))
          (subst (λ m. AscendFrom (key_before [] n t.items) m r.page.entries) (sym (o.number some))
          (begins_behind (key_before [] n t.items)
          (number_before 0 n t.items) r.page.entries r.sorted r.shows.agrees.after)))

  pub ordered : (n : ℕ) (es : List Entry) → ReadInOrder g t n es → Ordered t.items n es
  ordered zero es none = subst (λ xs. Ordered t.items 0 xs) (sym none) (record {
    sorted = tt;
    key = λ some. absurd (omega (arith, some));
    number = λ some. absurd (omega (arith, some));
    none = λ h. refl;
  })
  ordered (suc n) es w =
      let front = w.0 in
      let block = w.1 in
      let read = w.3 in
      let o = ordered n front w.2 in
      let some : 0 < length block = some_of n block read in
      let last = last_joined front block some in
      let item = item_of read.page.at read.page.entries in
      let there = before_at [] 0 t.items n item read.shows.agrees.indexed in
      subst (λ xs. Ordered t.items (suc n) xs) (sym w.4) (record {
        sorted = with_block n front block o read;
        key = λ h. last.0 ∙ ap last_key (sym read.is) ∙ sym there.0;
        number = λ h. last.1 ∙ ap last_number (sym read.is) ∙ sym there.1;
        none = λ h. absurd (omega (arith, h, length-append front block, some));
      })

  -- first blocks ascend strictly, with a further one up to an entry
  pub walk_sorted : (n : ℕ) (front block : List Entry) (place : ℕ) (e : Entry)
      → ReadInOrder g t n front → CanBeRead g t n block → slice_get block place ≡ Some e
      → AreSorted ((front ++ take place block) ++ e ∷ [])
  walk_sorted n front block place e were was there =
      let all : AreSorted (front ++ block) = with_block n front block (ordered n front were) was in
      let r = up_to block place e there in
      let same : front ++ block ≡ ((front ++ take place block) ++ e ∷ []) ++ r.0 =
      ap (λ (l : List Entry). front ++ l) r.1
      ∙ sym (append_assoc front (take place block ++ e ∷ []) r.0)
      ∙ ap (λ (l : List Entry). l ++ r.0)
      (sym (append_assoc front (take place block) (e ∷ []))) in
      front_ascends [] 0 ((front ++ take place block) ++ e ∷ []) r.0 (subst AreSorted same all)

  first_of : (n : ℕ) (es : List Entry) → ReadInOrder g t (suc n) es → first_key es ≡ t.row.smallest
  first_of zero es w = ap first_key (w.4 ∙ ap (λ (l : List Entry). l ++ w.1) w.2)
      ∙ ap first_key (sym w.3.is) ∙ w.3.shows.agrees.smallest refl
  first_of (suc n) es w =
      let front = w.0 in
      let o = ordered (suc n) front w.2 in
      ap first_key w.4 ∙ of_front front w.1 (λ none. never (o.none none)) ∙ first_of n front w.2
    where
      never : suc n ≡ 0 → ⊥
      never h = omega (arith, h)

      of_front : (xs ys : List Entry) → (length xs ≡ 0 → ⊥) → first_key (xs ++ ys) ≡ first_key xs
      of_front [] ys some = absurd (some refl)
      of_front (x ∷ xs) ys some = refl

  -- the entries of all blocks begin and end with the row's keys
  pub all_ends : (es : List Entry) → 0 < length t.items → ReadInOrder g t (length t.items) es
      → (first_key es ≡ t.row.smallest) × (last_key es ≡ t.row.largest)
  all_ends es some were = by (length t.items) refl some were
    where
      by : (n : ℕ) → length t.items ≡ n → 0 < n → ReadInOrder g t n es
          → (first_key es ≡ t.row.smallest) × (last_key es ≡ t.row.largest)
      by zero is none w = absurd (omega (arith, none))
      by (suc n) is some w = (
        first_of n es w,
        ap last_key w.4 ∙ (last_joined w.0 w.1 (some_of n w.1 w.3)).0 ∙ ap last_key (sym w.3.is)
            ∙ w.3.shows.agrees.largest (sym is),
      )

  -- ---- what a page shows

  -- another place of the block that is shown
  pub shows_moved : {index to : ℕ} {page : Reading} → ShowsOf g t index page
      → to < length page.entries → ShowsOf g t index (record page { place = to })
  shows_moved shows lt =
      record {
        inside = lt;
        agrees = shows.agrees;
        small = shows.small;
        spelled =
            shows.spelled;
        read = shows.read;
      }

  pub page_read : (index : ℕ) (page : Reading) → ShowsOf g t index page → AreSorted page.entries
      → CanBeRead g t index page.entries
  page_read index page shows sorted =
      record { page = page; shows = shows; sorted = sorted; is = refl }

  -- behind a walk comes what the page shows
  pub walk_behind : (index : ℕ) (page : Reading) (es : List Entry) (e : Entry)
      → (0 < length page.entries → ShowsOf g t index page) → AreSorted page.entries
      → WalkedOver g t index page es
      → slice_get page.entries page.place ≡ Some e → AreSorted (es ++ e ∷ [])
  walk_behind index page es e shows sorted w there =
      let inside = get_inside page.entries page.place e there in
      let some : 0 < length page.entries = omega (arith, inside) in
      let were : ReadInOrder g t index w.front =
      subst (λ n. ReadInOrder g t n w.front) (passed some) w.were in
      subst (λ (l : List Entry). AreSorted (l ++ e ∷ [])) (sym w.is)
      (walk_sorted index w.front page.entries page.place e were
      (page_read index page (shows some) sorted) there)
    where
      passed : 0 < length page.entries → blocks_passed (length t.items) index page ≡ index
      passed some = by page.entries some
        where
          by : (l : List Entry) → 0 < length l → by_entries l (length t.items) index ≡ index
          by [] h = absurd (omega (arith, h))
          by (x ∷ l) h = refl

  pub walk_ascends : (index : ℕ) (page : Reading) (es : List Entry) (e : Entry)
      → (0 < length page.entries → ShowsOf g t index page) → AreSorted page.entries
      → WalkedOver g t index page es
      → slice_get page.entries page.place ≡ Some e → ComesBeforeNone e es
  walk_ascends index page es e shows sorted w there =
      behind_all [] 0 es e (walk_behind index page es e shows sorted w there)

-- ---- how many steps

pub steps_bounded : {F : Type 0} (g : Ghosts F) (t : TableParts F) (index : ℕ) (page : Reading)
    → (0 < length page.entries → ShowsOf g t index page)
    → (steps_ahead (length t.items) index page ≤ most_steps (length t.items))
    × (steps_back index page ≤ most_steps (length t.items))
steps_bounded g t index page shows = by page.entries refl
  where
    by : (l : List Entry) → page.entries ≡ l
        → (by_entries l 0 (most_steps (length t.items - index) - page.place)
        ≤ most_steps (length t.items))
        × (by_entries l 0 (most_steps index + page.place + 1) ≤ most_steps (length t.items))
    by [] is = (omega arith, omega arith)
    by (e ∷ l) is =
        let s = shows (omega (arith, ap length is)) in
        let inside : index < length t.items = get_inside t.items index _ s.agrees.indexed in
        let few : length page.entries ≤ 40960 =
        omega (arith, entries_few page.entries, s.small, ap length s.spelled) in
        (omega (arith, inside), omega (arith, inside, few, s.inside))
