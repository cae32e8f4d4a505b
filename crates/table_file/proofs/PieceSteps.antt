-- What was pushed to a writer of pieces, with one entry more.
use Rattle.std.proofs.Common.{◌≡◌, ◌≢◌, ℕ, ◌+◌, ◌<◌, ◌≤◌, ◌||◌, ◌&&◌, Bool, true, false, List, [], ◌∷◌, ◌++◌, Some, None, Result, Ok, Err, OnOk, length, refl, sym, ap, ◌∙◌, subst, arith, append_assoc}
use Rattle.std.specs.Prelude.{nat_lt, nat_le, ◌==◌, if◌then◌else◌}
use Rattle.std.specs.List.{AllByRecursion, AllZip}
use Rattle.std.proofs.lemmas.Bool.{false≢true}
use Rattle.std.proofs.lemmas.Bool.Decides.{nat_tests}
use Rattle.disk_model.specs.Tables.{Sealed, with_table}
use Rattle.disk_model.specs.declared.table_handle.TableHandle.{Ghosts}
use Rattle.peb_base.specs.Entries.{IsEntry, AreSorted, AscendFrom, entry_lt}
use Rattle.peb_base.specs.EntryLaws.{after_none}
use Rattle.peb_base.specs.Keys.{Bytes, key_lt, key_eq, key_le}
use Rattle.peb_base.specs.KeyLaws.{lt_le_weak, le_refl, same_key, le_trans}
use Rattle.peb_base.specs.declared.entry.Entry.{Entry}
use Rattle.block_form.specs.Form.{block_bytes}
use Rattle.peb_base.specs.Tables.{last_key}
use Rattle.peb_base.specs.declared.limit_kind.LimitKind.TheVariants as kinds
use Rattle.table_file.specs.Form.{Cut, cut_of, table_bytes, index_bytes, items_from, item_of}
use Rattle.table_file.specs.Limits.{index_fault, blocks_fault, push_fault}
use Rattle.table_file.specs.declared.put_fault.PutFault.TheVariants.{Limit}
use Rattle.table_file.proofs.Indexing.{length-index-push}
use Rattle.table_file.proofs.Summing.{last_key-push}
use Rattle.table_file.specs.Pieces.{Piece, pieces_from, range_of, last_piece, whole_length, open_length, longer}
use Rattle.table_file.specs.PieceWriting.{PieceParts, Making, Pushed, full_length, all_pieces, with_more, AreTablesOf, Writes, IsOpenAt, HasCut, sealed_with}
use Rattle.table_file.specs.Tables.{TableParts}
use Rattle.table_file.specs.Taking.{closed_length}
use Rattle.table_file.proofs.PieceLaws.{HasPiece, alone, IsLater, all_to, next_piece, same_piece, pieces_some, pieces_none, longer_behind}
use Rattle.table_file.proofs.Ranges.{range_grows}

pub zip_push : {A B : Type 0} (R : A → B → Type 0) (xs : List A) (ys : List B) (x : A) (y : B)
    → AllZip R xs ys → R x y → AllZip R (xs ++ x ∷ []) (ys ++ y ∷ [])
zip_push R [] [] x y all one = (one, tt)
zip_push R [] (w ∷ ys) x y all one = absurd all
zip_push R (v ∷ xs) [] x y all one = absurd all
zip_push R (v ∷ xs) (w ∷ ys) x y all one = (all.0, zip_push R xs ys x y all.1 one)

pub ok_always : {T E P : Type 0} (r : Result T E) → P → OnOk r P
ok_always (Ok x) p = p
ok_always (Err e) p = tt

pub sealed_push : {F : Type 0} (g : Ghosts F) (ts : List (TableParts F)) (t : TableParts F)
    (base : Sealed) → sealed_with g (ts ++ t ∷ []) base
    ≡ with_table t.row.number (g.bytes t.file) (sealed_with g ts base)
sealed_push g [] t base = refl
sealed_push g (u ∷ ts) t base = sealed_push g ts t (with_table u.row.number (g.bytes u.file) base)

-- ---- the order of keys along entries

entry_le : (a b : Entry) → entry_lt a b ≡ true → key_le a.key b.key ≡ true
entry_le a b h = by (key_lt a.key b.key) refl (key_eq a.key b.key) refl
  where
    by : (s : Bool) → key_lt a.key b.key ≡ s → (t : Bool) → key_eq a.key b.key ≡ t
        → key_le a.key b.key ≡ true
    by true s t e = lt_le_weak a.key b.key s
    by false s true t =
        subst (λ k. key_le a.key k ≡ true) (same_key a.key b.key t) (le_refl a.key)
    by false s false t =
        absurd (false≢true (sym (ap (λ l. l || (key_eq a.key b.key && nat_lt b.number a.number)) s
        ∙ ap (λ m. m && nat_lt b.number a.number) t) ∙ h))

-- the last two of entries in order
record Ends (last e : Entry) : Type 0 where
  entry : IsEntry e
  behind : entry_lt last e ≡ true

ends : (key : Bytes) (number : ℕ) (es : List Entry) (last e : Entry)
    → AscendFrom key number ((es ++ last ∷ []) ++ e ∷ []) → Ends last e
ends key number [] last e h = record { entry = h.2.0; behind = h.2.1 }
ends key number (x ∷ es) last e h = ends x.key x.number es last e h.2

snoc : (key : Bytes) (number : ℕ) (es : List Entry) (last e : Entry)
    → AscendFrom key number (es ++ last ∷ []) → Ends last e
    → AscendFrom key number ((es ++ last ∷ []) ++ e ∷ [])
snoc key number [] last e h two = (h.0, h.1, (two.entry, two.behind, tt))
snoc key number (x ∷ es) last e h two = (h.0, h.1, snoc x.key x.number es last e h.2 two)

-- no key is above the last one
all_le : (key : Bytes) (number : ℕ) (es : List Entry) (e : Entry)
    → AscendFrom key number (es ++ e ∷ [])
    → AllByRecursion (λ f. key_le f.key e.key ≡ true) (es ++ e ∷ [])
all_le key number [] e h = (le_refl e.key, tt)
all_le key number (x ∷ es) e h = (reaches x es e h.2, all_le x.key x.number es e h.2)
  where
    reaches : (x : Entry) (es : List Entry) (e : Entry) → AscendFrom x.key x.number (es ++ e ∷ [])
        → key_le x.key e.key ≡ true
    reaches x [] e h = entry_le x e h.1
    reaches x (y ∷ es) e h = le_trans x.key y.key e.key (entry_le x y h.1) (reaches y es e h.2)

longer_at : (ps : List Piece) (p : Piece) (e : Entry)
    → longer (ps ++ p ∷ []) e
    ≡ ps ++ record { number = p.number; entries = p.entries ++ e ∷ [] } ∷ []
longer_at [] p e = refl
longer_at (q ∷ []) p e = refl
longer_at (q ∷ r ∷ ps) p e = ap (λ qs. q ∷ qs) (longer_at (r ∷ ps) p e)

-- the lengths of tables, of which the last is open
open_behind : (full : ℕ) (ps qs : List Piece) → HasPiece qs
    → open_length full (ps ++ qs) ≡ whole_length full ps + open_length full qs
open_behind full ps qs h =
    subst (λ l. open_length full (ps ++ l) ≡ whole_length full ps + open_length full l) (sym h.is)
    (at ps)
  where
    at : (ps : List Piece) → open_length full (ps ++ h.first ∷ h.rest)
        ≡ whole_length full ps + open_length full (h.first ∷ h.rest)
    at [] = omega arith
    at (p ∷ []) = omega arith
    at (p ∷ q ∷ ps) = omega (arith, at (q ∷ ps))

pub whole_push : (full : ℕ) (ps : List Piece) (p : Piece)
    → whole_length full (ps ++ p ∷ [])
    ≡ whole_length full ps + length (table_bytes full p.number p.entries)
whole_push full [] p = omega arith
whole_push full (q ∷ ps) p = omega (arith, whole_push full ps p)

-- ---- what was pushed, parted

-- the pieces are the closed ones and one with the last entry, of its range
pub record Parted (n at : ℕ) (keys : List Bytes) (s : Pushed) (closed : List Piece)
    (own : List Entry) (last : Entry) : Type 0 where
  pub front : List Entry
  pub is : s.entries ≡ front ++ last ∷ []
  pub sorted : AreSorted s.entries
  pub range : at ≡ range_of last.key keys
  pub cut : all_pieces n keys s
      ≡ closed ++ record { number = n + at; entries = own ++ last ∷ [] } ∷ []

pub parted : {n at : ℕ} {keys : List Bytes} {s : Pushed} (o : IsOpenAt n at keys s)
    → Parted n at keys s o.closed o.own o.last
parted o = record { front = o.front; is = o.is; sorted = o.sorted; range = o.range; cut = o.cut }

module _ (n at : ℕ) (keys : List Bytes) (s : Pushed) (closed : List Piece) (own : List Entry)
    (last e : Entry) (p : Parted n at keys s closed own last) (sorted : AreSorted (s.entries ++ e ∷ []))
  where
    two : Ends last e
    two = ends [] 0 p.front last e (subst (λ xs. AreSorted (xs ++ e ∷ [])) p.is sorted)

    -- the key of one more has no earlier range
    pub no_earlier : at ≤ range_of e.key keys
    no_earlier = subst (λ m. m ≤ range_of e.key keys) (sym p.range)
        (range_grows last.key e.key keys (entry_le last e two.behind))

    below : AllByRecursion (λ f. key_le f.key last.key ≡ true) (p.front ++ last ∷ [])
    below = all_le [] 0 p.front last (subst AreSorted p.is p.sorted)

    -- it goes on the same piece
    pub parted_same : at ≡ range_of e.key keys
        → Parted n at keys (with_more s e) closed (own ++ last ∷ []) e
    parted_same same =
        let some : HasPiece (pieces_from n keys (p.front ++ last ∷ [])) =
        pieces_some n keys p.front last in
        let grown : pieces_from n keys (s.entries ++ e ∷ []) ≡ longer (pieces_from n keys s.entries) e =
        ap (λ xs. pieces_from n keys (xs ++ e ∷ [])) p.is
        ∙ same_piece n p.front last e keys below (sym same ∙ p.range)
        ∙ ap (λ xs. longer (pieces_from n keys xs) e) (sym p.is) in
        record {
          front = s.entries;
          is = refl;
          sorted = sorted;
          range = same;
          cut = ap (λ ps. s.earlier ++ ps) grown
              ∙ sym (longer_behind s.earlier (pieces_from n keys s.entries) e
              (subst (λ xs. HasPiece (pieces_from n keys xs)) (sym p.is) some))
              ∙ ap (λ ps. longer ps e) p.cut
              ∙ longer_at closed (record { number = n + at; entries = own ++ last ∷ [] }) e;
        }

    -- it begins a later one
    pub parted_next : (to : ℕ) → to ≡ range_of e.key keys → at ≢ to
        → Parted n to keys (with_more s e)
        (closed ++ record { number = n + at; entries = own ++ last ∷ [] } ∷ []) [] e
    parted_next to range differ =
        let later : at < range_of e.key keys = omega (arith, range, differ, no_earlier) in
        let each : AllByRecursion (IsLater e keys) (p.front ++ last ∷ []) =
        all_to (λ f. key_le f.key last.key ≡ true) (IsLater e keys) (p.front ++ last ∷ [])
        (λ f h. (
          le_trans f.key last.key e.key h (entry_le last e two.behind),
          omega (arith, range_grows f.key last.key keys h, p.range, later),
        )) below in
        let grown : pieces_from n keys (s.entries ++ e ∷ [])
        ≡ pieces_from n keys s.entries ++ alone (n + to) e =
        next_piece n s.entries e keys
        (subst (AllByRecursion (IsLater e keys)) (sym p.is) each)
        ∙ ap (λ m. pieces_from n keys s.entries ++ alone (n + m) e) (sym range) in
        record {
          front = s.entries;
          is = refl;
          sorted = sorted;
          range = range;
          cut = ap (λ ps. s.earlier ++ ps) grown
              ∙ sym (append_assoc s.earlier (pieces_from n keys s.entries) (alone (n + to) e))
              ∙ ap (λ ps. ps ++ alone (n + to) e) p.cut;
        }

    -- behind the last piece it is sorted
    pub own_sorted : AreSorted (own ++ last ∷ []) → AreSorted ((own ++ last ∷ []) ++ e ∷ [])
    own_sorted h = snoc [] 0 own last e h two

    -- alone it is sorted
    pub alone_sorted : AreSorted (e ∷ [])
    alone_sorted = (two.entry, after_none e two.entry, tt)

-- the first entry of an input
pub parted_first : (n : ℕ) (keys : List Bytes) (s : Pushed) (e : Entry) → s.entries ≡ []
    → AreSorted (s.entries ++ e ∷ []) → (at : ℕ) → at ≡ range_of e.key keys
    → Parted n at keys (with_more s e) s.earlier [] e
parted_first n keys s e none sorted at range =
    record {
      front = s.entries;
      is = refl;
      sorted = sorted;
      range = range;
      cut = ap (λ xs. s.earlier ++ pieces_from n keys (xs ++ e ∷ [])) none
          ∙ ap (λ ps. s.earlier ++ ps) (next_piece n [] e keys tt
          ∙ (λ i. pieces_none n keys i ++ alone (n + sym range i) e));
    }

-- how much was taken of it
pub parted_taken : (full n at : ℕ) (keys : List Bytes) (s : Pushed) (closed : List Piece)
    (own : List Entry) (last : Entry) → Parted n at keys s closed own last
    → whole_length full s.earlier + open_length full (pieces_from n keys s.entries)
    ≡ whole_length full closed + closed_length full (own ++ last ∷ [])
parted_taken full n at keys s closed own last p =
    let piece : Piece = record { number = n + at; entries = own ++ last ∷ [] } in
    let some : HasPiece (pieces_from n keys s.entries) =
    subst (λ xs. HasPiece (pieces_from n keys xs)) (sym p.is) (pieces_some n keys p.front last) in
    let one : HasPiece (piece ∷ []) = record { first = piece; rest = []; is = refl } in
    sym (open_behind full s.earlier (pieces_from n keys s.entries) some)
    ∙ ap (open_length full) p.cut ∙ open_behind full closed (piece ∷ []) one

-- the writer's state again
pub has_cut : {F : Type 0} (g : Ghosts F) (m : Making) (w : PieceParts F) (keys : List Bytes)
    (s : Pushed) (n at : ℕ) (closed : List Piece) (own : List Entry) (last : Entry)
    → Parted n at keys s closed own last → w.is_open ≡ true → w.numbers ≡ n → w.at ≡ at
    → AreTablesOf g (full_length w) w.level w.tables closed
    → Writes m w (record { number = n + at; entries = own ++ last ∷ [] }) → HasCut g m w keys s
has_cut g m w keys s n at closed own last p opened numbers range tables writes =
    record {
      closed = λ shut. absurd (false≢true (sym shut ∙ opened));
      opened = λ yes_. record {
        here = record {
          closed = closed;
          front = p.front;
          own = own;
          last = last;
          is = p.is;
          sorted = p.sorted;
          range = range ∙ p.range;
          cut = ap (λ k. all_pieces k keys s) numbers ∙ p.cut
              ∙ (λ i. closed ++ record { number = sym numbers i + sym range i; entries = own ++ last ∷ [] } ∷ []);
        };
        tables = tables;
        writes = record {
          pushed = writes.pushed;
          number = writes.number ∙ (λ i. sym numbers i + sym range i);
          level = writes.level;
        };
      };
    }

-- the range of the last entry, and the entries of the last piece
pub last_range : (n at : ℕ) (keys : List Bytes) (s : Pushed) (closed : List Piece) (own : List Entry)
    (last : Entry) → Parted n at keys s closed own last
    → range_of (last_key s.entries) keys ≡ at
last_range n at keys s closed own last p =
    ap (λ es. range_of (last_key es) keys) p.is
    ∙ ap (λ k. range_of k keys) (last_key-push p.front last) ∙ sym p.range

last_behind : (ps qs : List Piece) → HasPiece qs → last_piece (ps ++ qs) ≡ last_piece qs
last_behind ps qs h = subst (λ l. last_piece (ps ++ l) ≡ last_piece l) (sym h.is) (at ps)
  where
    at : (ps : List Piece) → last_piece (ps ++ h.first ∷ h.rest) ≡ last_piece (h.first ∷ h.rest)
    at [] = refl
    at (p ∷ []) = refl
    at (p ∷ q ∷ ps) = at (q ∷ ps)

pub last_own : (n at : ℕ) (keys : List Bytes) (s : Pushed) (closed : List Piece) (own : List Entry)
    (last : Entry) → Parted n at keys s closed own last
    → last_piece (pieces_from n keys s.entries) ≡ own ++ last ∷ []
last_own n at keys s closed own last p =
    let piece : Piece = record { number = n + at; entries = own ++ last ∷ [] } in
    let some : HasPiece (pieces_from n keys s.entries) =
    subst (λ xs. HasPiece (pieces_from n keys xs)) (sym p.is) (pieces_some n keys p.front last) in
    let one : HasPiece (piece ∷ []) = record { first = piece; rest = []; is = refl } in
    sym (last_behind s.earlier (pieces_from n keys s.entries) some)
    ∙ ap last_piece p.cut ∙ last_behind closed (piece ∷ []) one

pub whole_append : (full : ℕ) (ps qs : List Piece)
    → whole_length full (ps ++ qs) ≡ whole_length full ps + whole_length full qs
whole_append full [] qs = omega arith
whole_append full (p ∷ ps) qs = omega (arith, whole_append full ps qs)

pub same_test : (a b : ℕ) → a ≡ b → (a == b) ≡ true
same_test a b same = grind (arith, nat_tests, same)

pub other_test : (a b : ℕ) → a ≢ b → (a == b) ≡ false
other_test a b differ = grind (arith, nat_tests, differ)

-- no table of one entry is past a limit, nor is one of none
length-no_items : length (index_bytes []) ≡ 4
length-no_items = refl

small_index : (n : ℕ) → n ≤ 2147483648 → index_fault n ≡ None
small_index n small =
    let no_ : nat_lt 2147483648 n ≡ false = grind (arith, nat_tests, small) in
    ap (λ b. if b then Some (Limit kinds.Index 2147483648) else None) no_

pub none_fault : blocks_fault [] ≡ None
none_fault = small_index (length (index_bytes [])) (omega (arith, length-no_items))

one_cut : (full : ℕ) (e : Entry) → (b : Bool) → (c : Cut)
    → (if b then record { closed = (e ∷ []) ∷ []; begun = [] } else record { closed = []; begun = e ∷ [] }) ≡ c
    → IsEntry e → blocks_fault c.closed ≡ None
one_cut full e true c is entry =
    ap (λ (c : Cut). blocks_fault c.closed) (sym is)
    ∙ small_index (length (index_bytes (items_from 0 ((e ∷ []) ∷ []))))
    (omega (arith, length-index-push [] (item_of 0 (e ∷ [])), length-no_items, entry.key))
one_cut full e false c is entry =
    ap (λ (c : Cut). blocks_fault c.closed) (sym is) ∙ none_fault

pub first_fault : (full : ℕ) (e : Entry) → IsEntry e → push_fault full [] e ≡ None
first_fault full e entry =
    one_cut full e (nat_le full (length (block_bytes (e ∷ [])))) (cut_of full (e ∷ [])) refl entry
