-- The rows of pieces: how they lie, and how they are numbered.
use Rattle.std.proofs.Common.{◌≡◌, ◌⊎◌, inl, inr, ℕ, suc, ◌+◌, ◌*◌, ◌<◌, ◌≤◌, ◌==◌, Bool, true, false, cond, ◌&&◌, ◌||◌, not, List, [], ◌∷◌, ◌++◌, length, map, Option, Some, None, refl, sym, ap, ◌∙◌, subst, arith}
use Rattle.std.proofs.lemmas.Bool.{and_from, and_parts, or_cases}
use Rattle.std.proofs.lemmas.Bool.Decides.{nat_tests}
use Rattle.std.specs.Prelude.{if◌then◌else◌, nat_lt, nat_le}
use Rattle.std.specs.List.{AllZip, AllByRecursion, list_all, filter}
use Rattle.disk_model.specs.declared.table_handle.TableHandle.{Ghosts}
use Rattle.peb_base.specs.Entries.{AreSorted, AscendFrom, comes_before}
use Rattle.peb_base.specs.KeyLaws.{le_trans, le_lt, le_refl, lt_le_weak, same_key}
use Rattle.peb_base.specs.Keys.{Bytes, key_lt, key_le, key_eq}
use Rattle.peb_base.specs.Tables.{first_key, last_key, least_number, greatest_number, is_row, IsRowOf}
use Rattle.peb_base.specs.declared.entry.Entry.{Entry}
use Rattle.peb_base.specs.declared.table_row.TableRow.{TableRow}
use Rattle.flsm_model.specs.Compaction.{before_key, from_key}
use Rattle.flsm_model.specs.Fits.{lies_in, range_of_row, numbers_differ}
use Rattle.flsm_model.specs.Ranges.{is_below, in_range, range_after}
use Rattle.flsm_model.specs.Shape.{has_number}
use Rattle.table_file.specs.Pieces.{Piece, some_piece, pieces_from}
use Rattle.table_file.specs.PieceWriting.{IsTableOfPiece, AreTablesOf}
use Rattle.table_file.specs.Tables.{TableParts}
use Rattle.guard_commit.specs.Cutting.{cut_from, rows_of}
use Rattle.guard_commit.specs.Reading.{WasRead}

-- ---- numbers

-- the numbers ascend from one on, and are below another
abbrev pub Numbered : ℕ → ℕ → List Piece → Type 0
Numbered low high [] = low ≤ high
Numbered low high (p ∷ ps) = (low ≤ p.number) × (p.number < high) × Numbered (suc p.number) high ps

numbered_le : (low high : ℕ) (ps : List Piece) → Numbered low high ps → low ≤ high
numbered_le low high [] h = h
numbered_le low high (p ∷ ps) h = omega (arith, h.0, h.1)

numbered_from : (low less high : ℕ) (ps : List Piece) → less ≤ low → Numbered low high ps
    → Numbered less high ps
numbered_from low less high [] le h = omega (arith, le, h)
numbered_from low less high (p ∷ ps) le h = (omega (arith, le, h.0), h.1, h.2)

numbered_on : (low middle high : ℕ) (ps qs : List Piece) → Numbered low middle ps
    → Numbered middle high qs → Numbered low high (ps ++ qs)
numbered_on low middle high [] qs h k = numbered_from middle low high qs h k
numbered_on low middle high (p ∷ ps) qs h k = (
  h.0,
  omega (arith, h.1, numbered_le middle high qs k),
  numbered_on (suc p.number) middle high ps qs h.2 k,
)

numbered_some : (n : ℕ) (es : List Entry) → Numbered n (suc n) (some_piece n es)
numbered_some n [] = omega arith
numbered_some n (e ∷ es) = (omega arith, omega arith, omega arith)

numbered_pieces : (n : ℕ) (keys : List Bytes) (es : List Entry)
    → Numbered n (n + suc (length keys)) (pieces_from n keys es)
numbered_pieces n [] es =
    subst (λ m. Numbered n m (some_piece n es)) (one n) (numbered_some n es)
  where
    one : (n : ℕ) → suc n ≡ n + suc (length {A = Bytes} [])
    one n = omega arith
numbered_pieces n (k ∷ keys) es =
    numbered_on n (suc n) (n + suc (length (k ∷ keys))) (some_piece n (before_key k es))
    (pieces_from (suc n) keys (from_key k es)) (numbered_some n (before_key k es))
    (subst (λ m. Numbered (suc n) m (pieces_from (suc n) keys (from_key k es))) (more n (length keys))
    (numbered_pieces (suc n) keys (from_key k es)))
  where
    more : (n m : ℕ) → suc n + suc m ≡ n + suc (suc m)
    more n m = omega arith

pub numbered_cut : (n : ℕ) (keys : List Bytes) (parts : List (List Entry))
    → Numbered n (n + length parts * suc (length keys)) (cut_from n keys parts)
numbered_cut n keys [] = omega arith
numbered_cut n keys (es ∷ parts) =
    numbered_on n (n + suc (length keys)) (n + length (es ∷ parts) * suc (length keys))
    (pieces_from n keys es) (cut_from (n + suc (length keys)) keys parts) (numbered_pieces n keys es)
    (subst (λ m. Numbered (n + suc (length keys)) m (cut_from (n + suc (length keys)) keys parts))
    (more n (suc (length keys)) (length parts)) (numbered_cut (n + suc (length keys)) keys parts))
  where
    more : (n r m : ℕ) → (n + r) + m * r ≡ n + suc m * r
    more n r m = grind arith

-- ---- keys

-- each entry's key passes the test
abbrev pub EachKey : (Bytes → Bool) → List Entry → Type 0
EachKey test es = AllByRecursion (λ (e : Entry). test e.key ≡ true) es

abbrev OfPiece : (List Entry → Type 0) → List Piece → Type 0
OfPiece Q ps = AllByRecursion (λ (p : Piece). Q p.entries) ps

first_passes : (test : Bytes → Bool) (es : List Entry) → 0 < length es → EachKey test es
    → test (first_key es) ≡ true
first_passes test [] some h = absurd (omega (arith, some))
first_passes test (e ∷ es) some h = h.0

last_passes : (test : Bytes → Bool) (es : List Entry) → 0 < length es → EachKey test es
    → test (last_key es) ≡ true
last_passes test [] some h = absurd (omega (arith, some))
last_passes test (e ∷ []) some h = h.0
last_passes test (e ∷ f ∷ es) some h = last_passes test (f ∷ es) (omega arith) h.1

each_both : (a b : Bytes → Bool) (es : List Entry) → EachKey a es → EachKey b es
    → EachKey (λ k. a k && b k) es
each_both a b [] h k = tt
each_both a b (e ∷ es) h k = (and_from _ _ h.0 k.0, each_both a b es h.1 k.1)

-- entries that are taken out pass what all pass, and the test by which they are taken
kept_pass : (test take_out : Bytes → Bool) (es : List Entry) → EachKey test es
    → EachKey test (filter (λ e. take_out e.key) es)
kept_pass test take_out [] h = tt
kept_pass test take_out (e ∷ es) h = by (kept_pass test take_out es h.1) (take_out e.key)
  where
    by : EachKey test (filter (λ e. take_out e.key) es) → (b : Bool)
        → EachKey test (cond b (e ∷ filter (λ e. take_out e.key) es) (filter (λ e. take_out e.key) es))
    by ih true = (h.0, ih)
    by ih false = ih

kept_test : (take_out : Bytes → Bool) (es : List Entry)
    → EachKey take_out (filter (λ e. take_out e.key) es)
kept_test take_out [] = tt
kept_test take_out (e ∷ es) = by (kept_test take_out es) (take_out e.key) refl
  where
    by : EachKey take_out (filter (λ e. take_out e.key) es) → (b : Bool) → take_out e.key ≡ b
        → EachKey take_out (cond b (e ∷ filter (λ e. take_out e.key) es) (filter (λ e. take_out e.key) es))
    by ih true is = (is, ih)
    by ih false is = ih

-- a piece has entries, and their keys pass the test
pub record PiecePasses (test : Bytes → Bool) (p : Piece) : Type 0 where
  pub some : 0 < length p.entries
  pub each : EachKey test p.entries

-- so each piece does
abbrev pub PiecesPass : (Bytes → Bool) → List Piece → Type 0
PiecesPass test ps = AllByRecursion (PiecePasses test) ps

some_passes : (test : Bytes → Bool) (n : ℕ) (es : List Entry) → EachKey test es
    → PiecesPass test (some_piece n es)
some_passes test n [] h = tt
some_passes test n (e ∷ es) h = (record { some = omega arith; each = h }, tt)

all_on : {X : Type 0} (P : X → Type 0) (xs ys : List X) → AllByRecursion P xs
    → AllByRecursion P ys → AllByRecursion P (xs ++ ys)
all_on P [] ys h k = k
all_on P (x ∷ xs) ys h k = (h.0, all_on P xs ys h.1 k)

-- what all entries pass, those of the pieces do
pieces_pass : (test : Bytes → Bool) (n : ℕ) (keys : List Bytes) (es : List Entry)
    → EachKey test es → PiecesPass test (pieces_from n keys es)
pieces_pass test n [] es h = some_passes test n es h
pieces_pass test n (k ∷ keys) es h =
    all_on (PiecePasses test) (some_piece n (before_key k es)) (pieces_from (suc n) keys (from_key k es))
    (some_passes test n (before_key k es) (kept_pass test (λ b. key_lt b k) es h))
    (pieces_pass test (suc n) keys (from_key k es) (kept_pass test (λ b. not (key_lt b k)) es h))

-- the range that begins at a key, of the keys that follow, in which the piece begins, has the piece
pub record LiesAfter (low : Bytes) (keys : List Bytes) (p : Piece) : Type 0 where
  pub some : 0 < length p.entries
  pub from : EachKey (λ b. key_le low b) p.entries
  pub first : key_le (range_after low keys (first_key p.entries)).0 (first_key p.entries) ≡ true
  pub last : is_below (last_key p.entries) (range_after low keys (first_key p.entries)).1 ≡ true

lies_some : (low : Bytes) (n : ℕ) (es : List Entry) → EachKey (λ b. key_le low b) es
    → AllByRecursion (LiesAfter low []) (some_piece n es)
lies_some low n [] h = tt
lies_some low n (e ∷ es) h = (record { some = omega arith; from = h; first = h.0; last = refl }, tt)

lies_below : (low k : Bytes) (keys : List Bytes) (n : ℕ) (es : List Entry)
    → EachKey (λ b. key_le low b) es → EachKey (λ b. key_lt b k) es
    → AllByRecursion (LiesAfter low (k ∷ keys)) (some_piece n es)
lies_below low k keys n [] h below = tt
lies_below low k keys n (e ∷ es) h below =
    let here : range_after low (k ∷ keys) e.key ≡ (low, Some k) =
    ap (λ b. if b then (low, Some k) else range_after k keys e.key) below.0 in (
      record {
        some = omega arith;
        from = h;
        first = ap (λ r. key_le r.0 e.key) here ∙ h.0;
        last = ap (λ r. is_below (last_key (e ∷ es)) r.1) here
            ∙ last_passes (λ b. key_lt b k) (e ∷ es) (omega arith) below;
      },
      tt,
    )

-- a piece of a later range
lies_on : (low k : Bytes) (keys : List Bytes) (ps : List Piece)
    → PiecesPass (λ b. key_le low b) ps → AllByRecursion (LiesAfter k keys) ps
    → AllByRecursion (LiesAfter low (k ∷ keys)) ps
lies_on low k keys [] h lies = tt
lies_on low k keys (p ∷ ps) h lies =
    let l = lies.0 in
    let first = first_key p.entries in
    let above : key_lt first k ≡ false =
    not_true (key_lt first k) (first_passes (λ b. key_le k b) p.entries l.some l.from) in
    let here : range_after low (k ∷ keys) first ≡ range_after k keys first =
    ap (λ b. if b then (low, Some k) else range_after k keys first) above in (
      record {
        some = l.some;
        from = h.0.each;
        first = ap (λ r. key_le r.0 first) here ∙ l.first;
        last = ap (λ r. is_below (last_key p.entries) r.1) here ∙ l.last;
      },
      lies_on low k keys ps h.1 lies.1,
    )
  where
    not_true : (b : Bool) → not b ≡ true → b ≡ false
    not_true true h = cc
    not_true false h = refl

-- each piece lies in the range in which it begins
lies_after : (low : Bytes) (n : ℕ) (keys : List Bytes) (es : List Entry)
    → EachKey (λ b. key_le low b) es
    → AllByRecursion (LiesAfter low keys) (pieces_from n keys es)
lies_after low n [] es h = lies_some low n es h
lies_after low n (k ∷ keys) es h =
    let rest = from_key k es in
    let from = kept_pass (λ b. key_le low b) (λ b. not (key_lt b k)) es h in
    all_on (LiesAfter low (k ∷ keys)) (some_piece n (before_key k es)) (pieces_from (suc n) keys rest)
    (lies_below low k keys n (before_key k es)
    (kept_pass (λ b. key_le low b) (λ b. key_lt b k) es h) (kept_test (λ b. key_lt b k) es))
    (lies_on low k keys (pieces_from (suc n) keys rest)
    (pieces_pass (λ b. key_le low b) (suc n) keys rest from)
    (lies_after k (suc n) keys rest (kept_test (λ b. not (key_lt b k)) es)))

-- ---- the order of keys along entries

none_below : (b : Bytes) → key_le [] b ≡ true
none_below [] = refl
none_below (x ∷ b) = refl

-- an entry that comes later has no smaller key
before_le : (key : Bytes) (number : ℕ) (later : Bytes) (lower : ℕ)
    → comes_before key number later lower ≡ true → key_le key later ≡ true
before_le key number later lower h =
    by (or_cases (key_lt key later) (key_eq key later && nat_lt lower number) h)
  where
    by : (key_lt key later ≡ true) ⊎ ((key_eq key later && nat_lt lower number) ≡ true)
        → key_le key later ≡ true
    by (inl lt) = lt_le_weak key later lt
    by (inr same) =
        let e = same_key key later (and_parts _ _ same).0 in
        subst (λ b. key_le key b ≡ true) e (le_refl key)

each_more : (a b : Bytes → Bool) (es : List Entry) → ((k : Bytes) → a k ≡ true → b k ≡ true)
    → EachKey a es → EachKey b es
each_more a b [] on h = tt
each_more a b (e ∷ es) on h = (on e.key h.0, each_more a b es on h.1)

each_from : (key : Bytes) (number : ℕ) (es : List Entry) → AscendFrom key number es
    → EachKey (λ b. key_le key b) es
each_from key number [] h = tt
each_from key number (e ∷ es) h =
    let here = before_le key number e.key e.number h.1 in (
      here,
      each_more (λ b. key_le e.key b) (λ b. key_le key b) es (λ b on. le_trans key e.key b here on)
          (each_from e.key e.number es h.2),
    )

each_to : (key : Bytes) (number : ℕ) (es : List Entry) → AscendFrom key number es
    → EachKey (λ b. key_le b (last_key es)) es
each_to key number [] h = tt
each_to key number (e ∷ []) h = (le_refl e.key, tt)
each_to key number (e ∷ f ∷ es) h =
    let ih = each_to e.key e.number (f ∷ es) h.2 in
    let here = before_le e.key e.number f.key f.number h.2.1 in
    (le_trans e.key f.key (last_key (f ∷ es)) here ih.0, ih)

-- the keys of entries lie where the smallest and the largest do
each_inside : (low : Bytes) (high : Option Bytes) (es : List Entry) → AreSorted es
    → key_le low (first_key es) ≡ true → is_below (last_key es) high ≡ true
    → EachKey (in_range low high) es
each_inside low high [] sorted from to = tt
each_inside low high (e ∷ es) sorted from to =
    each_both (λ b. key_le low b) (λ b. is_below b high) (e ∷ es) (
      from,
      each_more (λ b. key_le e.key b) (λ b. key_le low b) es (λ b on. le_trans low e.key b from on)
          (each_from e.key e.number es sorted.2),
    )
    (each_more (λ b. key_le b (last_key (e ∷ es))) (λ b. is_below b high) (e ∷ es) (under high to)
    (each_to [] 0 (e ∷ es) sorted))
  where
    under : (high : Option Bytes) → is_below (last_key (e ∷ es)) high ≡ true → (b : Bytes)
        → key_le b (last_key (e ∷ es)) ≡ true → is_below b high ≡ true
    under None to b on = refl
    under (Some k) to b on = le_lt b (last_key (e ∷ es)) k on to

-- ---- rows

-- the row of sorted entries is in its form
form_of : (row : TableRow) (es : List Entry) → IsRowOf row es → AreSorted es → row.tier ≡ 0
    → is_row 0 row ≡ true
form_of row [] is sorted tier = absurd (omega (arith, is.some))
form_of row (e ∷ es) is sorted tier =
    let keys : key_le row.smallest row.largest ≡ true =
    subst (λ a. key_le a row.largest ≡ true) (sym is.smallest)
    (subst (λ b. key_le e.key b ≡ true) (sym is.largest) (each_to [] 0 (e ∷ es) sorted).0) in
    let numbers : nat_le row.first row.last ≡ true =
    grind (arith, nat_tests, is.first, is.last, least_le (e ∷ es)) in
    let some : nat_lt 0 row.entries ≡ true = grind (arith, nat_tests, is.some, is.entries) in
    let last : (row.tier == 0) ≡ true = grind (arith, nat_tests, tier) in
    and_from _ _ (and_from _ _ (and_from _ _ keys numbers) some) last
  where
    least_le : (xs : List Entry) → least_number xs ≤ greatest_number xs
    least_le [] = omega arith
    least_le (x ∷ []) = omega arith
    least_le (x ∷ y ∷ xs) = omega (arith, least_le (y ∷ xs))

module _ {F : Type 0} (g : Ghosts F) (full level : ℕ) where
  -- what the pieces have, the rows of their tables pass
  rows_pass : (test : TableRow → Bool) (Q : Piece → Type 0)
      → ((t : TableParts F) (p : Piece) → IsTableOfPiece g full level t p → Q p
      → test t.row ≡ true) → (ts : List (TableParts F)) (ps : List Piece)
      → AreTablesOf g full level ts ps → AllByRecursion Q ps → list_all test (rows_of ts) ≡ true
  rows_pass test Q one [] [] h q = refl
  rows_pass test Q one [] (p ∷ ps) h q = absurd h
  rows_pass test Q one (t ∷ ts) [] h q = absurd h
  rows_pass test Q one (t ∷ ts) (p ∷ ps) h q =
      and_from _ _ (one t p h.0 q.0) (rows_pass test Q one ts ps h.1 q.1)

  pub rows_inside : (low : Bytes) (high : Option Bytes) (ts : List (TableParts F))
      (ps : List Piece) → AreTablesOf g full level ts ps → PiecesPass (in_range low high) ps
      → list_all (lies_in (low, high)) (rows_of ts) ≡ true
  rows_inside low high = rows_pass (lies_in (low, high)) (PiecePasses (in_range low high)) (λ t p is q.
      let first = first_passes (in_range low high) p.entries q.some q.each in
      let last = last_passes (in_range low high) p.entries q.some q.each in
      and_from _ _
      (subst (λ b. key_le low b ≡ true) (sym is.table.row_is.smallest) (and_parts _ _ first).0)
      (subst (λ b. is_below b high ≡ true) (sym is.table.row_is.largest) (and_parts _ _ last).1))

  pub rows_lie : (keys : List Bytes) (ts : List (TableParts F)) (ps : List Piece)
      → AreTablesOf g full level ts ps → AllByRecursion (LiesAfter [] keys) ps
      → list_all (λ r. lies_in (range_of_row keys r) r) (rows_of ts) ≡ true
  rows_lie keys = rows_pass (λ r. lies_in (range_of_row keys r) r) (LiesAfter [] keys) (λ t p is q.
      and_from _ _
      (subst (λ b. key_le (range_after [] keys b).0 b ≡ true) (sym is.table.row_is.smallest) q.first)
      (subst (λ b. is_below t.row.largest (range_after [] keys b).1 ≡ true) (sym is.table.row_is.smallest)
      (subst (λ b. is_below b (range_after [] keys (first_key p.entries)).1 ≡ true)
      (sym is.table.row_is.largest) q.last)))

  pub rows_form : (ts : List (TableParts F)) (ps : List Piece) → AreTablesOf g full level ts ps
      → list_all (is_row 0) (rows_of ts) ≡ true
  rows_form [] [] h = refl
  rows_form [] (p ∷ ps) h = absurd h
  rows_form (t ∷ ts) [] h = absurd h
  rows_form (t ∷ ts) (p ∷ ps) h =
      and_from _ _ (form_of t.row p.entries h.0.table.row_is h.0.table.sorted h.0.row.tier_is)
      (rows_form ts ps h.1)

  pub rows_leveled : (ts : List (TableParts F)) (ps : List Piece) → AreTablesOf g full level ts ps
      → list_all (λ r. r.level == level && r.tier == 0) (rows_of ts) ≡ true
  rows_leveled [] [] h = refl
  rows_leveled [] (p ∷ ps) h = absurd h
  rows_leveled (t ∷ ts) [] h = absurd h
  rows_leveled (t ∷ ts) (p ∷ ps) h =
      let here : (t.row.level == level) ≡ true = grind (arith, nat_tests, h.0.row.level_is) in
      let tier : (t.row.tier == 0) ≡ true = grind (arith, nat_tests, h.0.row.tier_is) in
      and_from _ _ (and_from _ _ here tier) (rows_leveled ts ps h.1)

  pub rows_numbered : (low least high : ℕ) (ts : List (TableParts F)) (ps : List Piece)
      → least ≤ low → AreTablesOf g full level ts ps → Numbered low high ps
      → list_all (λ r. nat_le least r.number && nat_lt r.number high) (rows_of ts) ≡ true
  rows_numbered low least high [] [] le h n = refl
  rows_numbered low least high [] (p ∷ ps) le h n = absurd h
  rows_numbered low least high (t ∷ ts) [] le h n = absurd h
  rows_numbered low least high (t ∷ ts) (p ∷ ps) le h n =
      let from : nat_le least t.row.number ≡ true =
      grind (arith, nat_tests, le, n.0, h.0.row.number_is) in
      let to : nat_lt t.row.number high ≡ true = grind (arith, nat_tests, n.1, h.0.row.number_is) in
      and_from _ _ (and_from _ _ from to)
      (rows_numbered (suc p.number) least high ts ps (omega (arith, le, n.0)) h.1 n.2)

  later_numbers : (k low high : ℕ) (ts : List (TableParts F)) (ps : List Piece) → k < low
      → AreTablesOf g full level ts ps → Numbered low high ps
      → has_number k (map (λ r. r.number) (rows_of ts)) ≡ false
  later_numbers k low high [] [] lt h n = refl
  later_numbers k low high [] (p ∷ ps) lt h n = absurd h
  later_numbers k low high (t ∷ ts) [] lt h n = absurd h
  later_numbers k low high (t ∷ ts) (p ∷ ps) lt h n =
      let other : (k == t.row.number) ≡ false =
      grind (arith, nat_tests, lt, n.0, h.0.row.number_is) in
      let rest = later_numbers k (suc p.number) high ts ps (omega (arith, lt, n.0)) h.1 n.2 in
      (λ i. other i || rest i)

  pub rows_differ : (low high : ℕ) (ts : List (TableParts F)) (ps : List Piece)
      → AreTablesOf g full level ts ps → Numbered low high ps
      → numbers_differ (map (λ r. r.number) (rows_of ts)) ≡ true
  rows_differ low high [] [] h n = refl
  rows_differ low high [] (p ∷ ps) h n = absurd h
  rows_differ low high (t ∷ ts) [] h n = absurd h
  rows_differ low high (t ∷ ts) (p ∷ ps) h n =
      and_from _ _
      (ap not (later_numbers t.row.number (suc p.number) high ts ps (omega (arith, h.0.row.number_is)) h.1 n.2))
      (rows_differ (suc p.number) high ts ps h.1 n.2)

-- ---- the pieces of what was read

-- the pieces of each table lie in the ranges in which they begin
pub cut_lies : (n : ℕ) (keys : List Bytes) (parts : List (List Entry))
    → AllByRecursion (LiesAfter [] keys) (cut_from n keys parts)
cut_lies n keys [] = tt
cut_lies n keys (es ∷ parts) =
    all_on (LiesAfter [] keys) (pieces_from n keys es) (cut_from (n + suc (length keys)) keys parts)
    (lies_after [] n keys es (all_above es)) (cut_lies (n + suc (length keys)) keys parts)
  where
    all_above : (es : List Entry) → EachKey (λ b. key_le [] b) es
    all_above [] = tt
    all_above (e ∷ es) = (none_below e.key, all_above es)

-- and in the range in which the tables lie
pub cut_inside : {F : Type 0} (g : Ghosts F) (low : Bytes) (high : Option Bytes) (n : ℕ)
    (keys : List Bytes) (ts : List (TableParts F)) (parts : List (List Entry))
    → AllZip (WasRead g) ts parts → list_all (lies_in (low, high)) (rows_of ts) ≡ true
    → PiecesPass (in_range low high) (cut_from n keys parts)
cut_inside g low high n keys [] [] h inside = tt
cut_inside g low high n keys [] (es ∷ parts) h inside = absurd h
cut_inside g low high n keys (t ∷ ts) [] h inside = absurd h
cut_inside g low high n keys (t ∷ ts) (es ∷ parts) h inside =
    let split = and_parts (lies_in (low, high) t.row) (list_all (lies_in (low, high)) (rows_of ts)) inside in
    let here = and_parts (key_le low t.row.smallest) (is_below t.row.largest high) split.0 in
    all_on (PiecePasses (in_range low high)) (pieces_from n keys es) (cut_from (n + suc (length keys)) keys parts)
    (pieces_pass (in_range low high) n keys es (each_inside low high es h.0.sorted
    (subst (λ b. key_le low b ≡ true) h.0.row.smallest here.0)
    (subst (λ b. is_below b high ≡ true) h.0.row.largest here.1)))
    (cut_inside g low high (n + suc (length keys)) keys ts parts h.1 split.1)
