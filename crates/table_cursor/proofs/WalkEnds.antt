-- What a walk to the end went over, and what a walk over a table that holds entries is.
use Rattle.std.proofs.Common.{◌≡◌, ℕ, zero, suc, ◌+◌, ◌<◌, ◌≤◌, ◌∙◌, IsTrue, List, [], ◌∷◌, ◌++◌, length, take, Option, Some, None, refl, sym, ap, subst, arith, append_assoc, length-append}
use Rattle.std.specs.Prelude.{slice_get}
use Rattle.std.proofs.lemmas.List.{take_all, append-nil}
use Rattle.disk_model.specs.declared.table_handle.TableHandle.{Ghosts}
use Rattle.peb_base.specs.Tables.{least_number, greatest_number}
use Rattle.peb_base.specs.declared.entry.Entry.{Entry}
use Rattle.table_file.specs.Blocks.{AreBlocks}
use Rattle.table_file.specs.Form.{blocks_of}
use Rattle.table_file.specs.Tables.{TableParts, Holds}
use Rattle.table_cursor.specs.IndexLaws.{get_inside}
use Rattle.table_cursor.specs.Page.{Reading}
use Rattle.table_cursor.specs.Places.{block_is}
use Rattle.table_cursor.specs.Standing.{joined, entries_before, OnPage}
use Rattle.table_cursor.specs.StandingLaws.{shown, unshown}
use Rattle.table_cursor.specs.Walking.{CanBeRead, ReadInOrder, WalkedOver, SpansRow, in_front}
use Rattle.table_cursor.specs.WalkLaws.{ordered, all_ends}
use Rattle.table_cursor.proofs.Blocks.{length-items}
use Rattle.table_cursor.proofs.Honest.{OneBlock, honest_block, same_block}
use Rattle.table_cursor.proofs.Walked.{shows_nothing, no_entries, by_some, by_none, take_none}

-- ---- numbers

least_both : (b : ℕ) (xs ys : List Entry) → (0 < length xs → b ≤ least_number xs) → (0 < length ys → b ≤ least_number ys) → 0 < length (xs ++ ys) → b ≤ least_number (xs ++ ys)
least_both b [] ys h g some = g some
least_both b (x ∷ []) [] h g some = h (omega arith)
least_both b (x ∷ []) (y ∷ ys) h g some = omega (arith, h (omega arith), g (omega arith))
least_both b (x ∷ z ∷ xs) ys h g some =
    let here = h (omega arith) in
    omega (arith, here, least_both b (z ∷ xs) ys (λ s. omega (arith, here)) g (omega arith))

greatest_both : (b : ℕ) (xs ys : List Entry) → greatest_number xs ≤ b → greatest_number ys ≤ b → greatest_number (xs ++ ys) ≤ b
greatest_both b [] ys h g = g
greatest_both b (x ∷ xs) ys h g = omega (arith, h, greatest_both b xs ys (omega (arith, h)) g)

module _ {F : Type 0} (g : Ghosts F) (t : TableParts F) where
  numbers : (n : ℕ) (es : List Entry) → ReadInOrder g t n es → (0 < length es → t.row.first ≤ least_number es) × (greatest_number es ≤ t.row.last)
  numbers zero es none = (λ some. absurd (omega (arith, some, ap length none)), omega (arith, ap greatest_number none))
  numbers (suc n) es w =
      let front = numbers n w.0 w.2 in
      let block = w.3 in
      let least : 0 < length w.1 → t.row.first ≤ least_number w.1 = λ some. omega (arith, block.shows.agrees.least, ap least_number block.is) in
      let greatest : greatest_number w.1 ≤ t.row.last = omega (arith, block.shows.agrees.greatest, ap greatest_number block.is) in (
        λ some. subst (λ l. t.row.first ≤ least_number l) (sym w.4) (least_both t.row.first w.0 w.1 front.0 least (omega (arith, some, ap length w.4))),
        subst (λ l. greatest_number l ≤ t.row.last) (sym w.4) (greatest_both t.row.last w.0 w.1 front.1 greatest),
      )

  pub walk_ends : (index : ℕ) (page : Reading) (es : List Entry) → (0 < length page.entries → page.place < length page.entries) → 0 < length t.items → WalkedOver g t index page es
      → slice_get page.entries page.place ≡ None → SpansRow t.row es
  walk_ends index page es inside some w none =
      let empty = no_entries page.entries (shows_nothing page.entries page.place inside none) in
      let were : ReadInOrder g t (length t.items) w.front = subst (λ n. ReadInOrder g t n w.front) (by_none page.entries (length t.items) index empty) w.were in
      let same : es ≡ w.front = w.is ∙ ap (λ l. w.front ++ l) (take_none page.place page.entries empty) ∙ append-nil w.front in
      subst (SpansRow t.row) (sym same) (all w.front were)
    where
      all : (front : List Entry) → ReadInOrder g t (length t.items) front → SpansRow t.row front
      all front were =
          let o = ordered g t (length t.items) front were in
          let ends = all_ends g t front some were in
          let any : 0 < length front = by (length front) (λ none. omega (arith, o.none none, some)) in
          let within = numbers (length t.items) front were in
          record { some = any; sorted = o.sorted; smallest = ends.0; largest = ends.1; least = within.0 any; greatest = within.1 }
        where
          by : (n : ℕ) → (n ≡ 0 → ⊥) → 0 < n
          by zero never = absurd (never refl)
          by (suc n) never = omega arith

  -- ---- a table that holds entries

  module _ (one : OneBlock) (es : List Entry) (table : Holds g t es) (told : IsTrue g.tells) (whole : joined (blocks_of table.full es) ≡ es) (are : AreBlocks (blocks_of table.full es)) where
    block_read : (index : ℕ) (block : List Entry) → CanBeRead g t index block → slice_get (blocks_of table.full es) index ≡ Some block
    block_read index block read =
        let inside = get_inside t.items index _ read.shows.agrees.indexed in
        same_block g t es table told whole are one index read.page (honest_block g t es table told whole are index inside) read.shows
        (record { some = omega (arith, read.shows.inside); small = read.shows.small; each = read.sorted; spelled = read.shows.spelled })
        ∙ ap Some read.is

    take_more : (blocks : List (List Entry)) (index : ℕ) (block : List Entry) → slice_get blocks index ≡ Some block → joined (take (suc index) blocks) ≡ joined (take index blocks) ++ block
    take_more [] index block there = cc
    take_more (b ∷ blocks) zero block there = append-nil b ∙ block_is b block there
    take_more (b ∷ blocks) (suc index) block there = ap (λ l. b ++ l) (take_more blocks index block there) ∙ sym (append_assoc b (joined (take index blocks)) block)

    front_read : (n : ℕ) (front : List Entry) → ReadInOrder g t n front → front ≡ joined (take n (blocks_of table.full es))
    front_read zero front none = none
    front_read (suc n) front w =
        w.4 ∙ ap (λ l. l ++ w.1) (front_read n w.0 w.2) ∙ sym (take_more (blocks_of table.full es) n w.1 (block_read n w.1 w.3))

    take_joined : (blocks : List (List Entry)) (index n : ℕ) (block : List Entry) → slice_get blocks index ≡ Some block → n ≤ length block
        → take (entries_before index blocks + n) (joined blocks) ≡ joined (take index blocks) ++ take n block
    take_joined [] index n block there le = cc
    take_joined (b ∷ blocks) zero n block there le =
        let none : 0 + n ≡ n = omega arith in
        ap (λ k. take k (b ++ joined blocks)) none ∙ take_front b (joined blocks) n (omega (arith, le, ap length (block_is b block there))) ∙ ap (take n) (block_is b block there)
      where
        take_front : (xs ys : List Entry) (n : ℕ) → n ≤ length xs → take n (xs ++ ys) ≡ take n xs
        take_front xs ys zero le = refl
        take_front [] ys (suc n) le = absurd (omega (arith, le))
        take_front (x ∷ xs) ys (suc n) le = ap (λ l. x ∷ l) (take_front xs ys n (omega (arith, le)))
    take_joined (b ∷ blocks) (suc index) n block there le =
        let more : entries_before (suc index) (b ∷ blocks) + n ≡ length b + (entries_before index blocks + n) = omega (arith, length-append b (joined (take index blocks))) in
        ap (λ k. take k (b ++ joined blocks)) more ∙ take_behind b (joined blocks) (entries_before index blocks + n) ∙ ap (λ l. b ++ l) (take_joined blocks index n block there le)
        ∙ sym (append_assoc b (joined (take index blocks)) (take n block))
      where
        take_behind : (xs ys : List Entry) (k : ℕ) → take (length xs + k) (xs ++ ys) ≡ xs ++ take k ys
        take_behind [] ys k = let none : 0 + k ≡ k = omega arith in ap (λ n. take n ys) none
        take_behind (x ∷ xs) ys k = let one : suc (length xs) + k ≡ suc (length xs + k) = omega arith in ap (λ n. take n (x ∷ xs ++ ys)) one ∙ ap (λ l. x ∷ l) (take_behind xs ys k)

    pub walk_told : (index : ℕ) (page : Reading) (walked : List Entry) (place : Option ℕ) → (0 < length page.entries → page.place < length page.entries) → OnPage page index (blocks_of table.full es) es place
        → WalkedOver g t index page walked → walked ≡ in_front place es
    walk_told index page walked place inside on w = by page.entries refl
      where
        blocks : List (List Entry)
        blocks = blocks_of table.full es

        by : (l : List Entry) → page.entries ≡ l → walked ≡ in_front place es
        by [] empty =
            let were : ReadInOrder g t (length t.items) w.front = subst (λ n. ReadInOrder g t n w.front) (by_none page.entries (length t.items) index empty) w.were in
            let same : walked ≡ w.front = w.is ∙ ap (λ l. w.front ++ l) (take_none page.place page.entries empty) ∙ append-nil w.front in
            let long : length blocks ≤ length t.items = omega (arith, ap length table.table.items_are, length-items 0 blocks) in
            same ∙ front_read (length t.items) w.front were ∙ ap joined (take_all (length t.items) blocks long) ∙ whole ∙ sym (ap (λ p. in_front p es) (unshown page index blocks es place on (ap length empty)))
        by (e ∷ l) is =
            let some : 0 < length page.entries = omega (arith, ap length is) in
            let were : ReadInOrder g t index w.front = subst (λ n. ReadInOrder g t n w.front) (by_some page.entries (length t.items) index some) w.were in
            let n = entries_before index blocks + page.place in
            w.is ∙ ap (λ l. l ++ take page.place page.entries) (front_read index w.front were)
            ∙ sym (take_joined blocks index page.place page.entries (on.here some) (omega (arith, inside some)))
            ∙ ap (take n) whole ∙ sym (ap (λ p. in_front p es) (shown page index blocks es place on some))
