-- What a maker takes of first entries is at most what it takes of more.
use Rattle.std.proofs.Common.{◌≡◌, ◌≢◌, ℕ, ◌+◌, ◌≤◌, ◌⊎◌, inl, inr, List, [], ◌∷◌, ◌++◌, refl, sym, ap, subst, arith, append_assoc}
use Rattle.std.proofs.lemmas.List.{append-nil}
use Rattle.peb_base.specs.Entries.{AscendFrom, AreSorted}
use Rattle.peb_base.specs.Keys.{Bytes}
use Rattle.peb_base.specs.declared.entry.Entry.{Entry}
use Rattle.table_file.specs.Pieces.{Piece, pieces_from, range_of, whole_length, open_length}
use Rattle.table_file.specs.PieceWriting.{Pushed}
use Rattle.table_file.proofs.PieceLaws.{pieces_none}
use Rattle.table_file.proofs.PieceSteps.{Parted, parted_first, parted_same, parted_next, parted_taken, whole_push}
use Rattle.table_file.proofs.Taken.{length-pushed, length-rest}

pub open_whole : (full : ℕ) (ps : List Piece) → open_length full ps ≤ whole_length full ps
open_whole full [] = omega arith
open_whole full (p ∷ []) = omega (arith, length-rest full p.number p.entries)
open_whole full (p ∷ q ∷ ps) = omega (arith, open_whole full (q ∷ ps))

-- the entries alone, of one input
abbrev only : List Entry → Pushed
only es = record { earlier = []; entries = es }

front : (key : Bytes) (number : ℕ) (xs ys : List Entry) → AscendFrom key number (xs ++ ys)
    → AscendFrom key number xs
front key number [] ys h = tt
front key number (x ∷ xs) ys h = (h.0, h.1, front x.key x.number xs ys h.2)

-- one entry more
record Longer (full n : ℕ) (keys : List Bytes) (es : List Entry) (e : Entry) : Type 0 where
  at : ℕ
  closed : List Piece
  own : List Entry
  parted : Parted n at keys (only (es ++ e ∷ [])) closed own e
  grows : open_length full (pieces_from n keys es)
      ≤ open_length full (pieces_from n keys (es ++ e ∷ []))

longer_by : (full n at : ℕ) (keys : List Bytes) (es : List Entry) (closed : List Piece)
    (own : List Entry) (last e : Entry) → Parted n at keys (only es) closed own last
    → AreSorted (es ++ e ∷ []) → Longer full n keys es e
longer_by full n at keys es closed own last e p sorted =
    by (decide at (range_of e.key keys))
  where
    decide : (a b : ℕ) → (a ≡ b) ⊎ (a ≢ b)
    decide a b = grind arith

    piece : Piece
    piece = record { number = n + at; entries = own ++ last ∷ [] }

    by : (at ≡ range_of e.key keys) ⊎ (at ≢ range_of e.key keys) → Longer full n keys es e
    by (inl same) =
        let q = parted_same n at keys (only es) closed own last e p sorted same in
        record {
          at = at;
          closed = closed;
          own = own ++ last ∷ [];
          parted = q;
          grows = omega (
            arith,
            parted_taken full n at keys (only es) closed own last p,
            parted_taken full n at keys (only (es ++ e ∷ [])) closed (own ++ last ∷ []) e q,
            length-pushed full (own ++ last ∷ []) e,
          );
        }
    by (inr differ) =
        let q = parted_next n at keys (only es) closed own last e p sorted (range_of e.key keys) refl differ in
        record {
          at = range_of e.key keys;
          closed = closed ++ record { number = n + at; entries = own ++ last ∷ [] } ∷ [];
          own = [];
          parted = q;
          grows = omega (
            arith,
            parted_taken full n at keys (only es) closed own last p,
            parted_taken full n (range_of e.key keys) keys (only (es ++ e ∷ []))
                (closed ++ record { number = n + at; entries = own ++ last ∷ [] } ∷ []) [] e q,
            whole_push full closed (record { number = n + at; entries = own ++ last ∷ [] }),
            length-rest full (n + at) (own ++ last ∷ []),
          );
        }

grows_by : (full n at : ℕ) (keys : List Bytes) (es : List Entry) (closed : List Piece)
    (own : List Entry) (last : Entry) → Parted n at keys (only es) closed own last
    → (rest : List Entry) → AreSorted (es ++ rest)
    → open_length full (pieces_from n keys es) ≤ open_length full (pieces_from n keys (es ++ rest))
grows_by full n at keys es closed own last p [] sorted =
    omega (arith, ap (λ xs. open_length full (pieces_from n keys xs)) (append-nil es))
grows_by full n at keys es closed own last p (e ∷ rest) sorted =
    let same : (es ++ e ∷ []) ++ rest ≡ es ++ e ∷ rest = append_assoc es (e ∷ []) rest in
    let all : AreSorted ((es ++ e ∷ []) ++ rest) = subst AreSorted (sym same) sorted in
    let one = longer_by full n at keys es closed own last e p (front [] 0 (es ++ e ∷ []) rest all) in
    omega (
      arith,
      one.grows,
      grows_by full n one.at keys (es ++ e ∷ []) one.closed one.own e one.parted rest all,
      ap (λ xs. open_length full (pieces_from n keys xs)) same,
    )

pub grows : (full n : ℕ) (keys : List Bytes) (es rest : List Entry) → AreSorted (es ++ rest)
    → open_length full (pieces_from n keys es) ≤ open_length full (pieces_from n keys (es ++ rest))
grows full n keys [] rest sorted =
    omega (arith, ap (open_length full) (pieces_none n keys))
grows full n keys (e ∷ es) rest sorted =
    let first = parted_first n keys (only []) e refl (front [] 0 (e ∷ []) (es ++ rest) sorted)
    (range_of e.key keys) refl in
    from (e ∷ []) (range_of e.key keys) [] [] e first es sorted
  where
    -- over the entries before the rest, one after another
    from : (done : List Entry) (at : ℕ) (closed : List Piece) (own : List Entry) (last : Entry)
        → Parted n at keys (only done) closed own last → (more : List Entry)
        → AreSorted ((done ++ more) ++ rest)
        → open_length full (pieces_from n keys (done ++ more))
        ≤ open_length full (pieces_from n keys ((done ++ more) ++ rest))
    from done at closed own last p [] sorted =
        let none = append-nil done in
        subst (λ xs. open_length full (pieces_from n keys xs)
        ≤ open_length full (pieces_from n keys (xs ++ rest))) (sym none)
        (grows_by full n at keys done closed own last p rest
        (subst (λ xs. AreSorted (xs ++ rest)) none sorted))
    from done at closed own last p (f ∷ more) sorted =
        let same : (done ++ f ∷ []) ++ more ≡ done ++ f ∷ more = append_assoc done (f ∷ []) more in
        let all : AreSorted (((done ++ f ∷ []) ++ more) ++ rest) =
        subst (λ xs. AreSorted (xs ++ rest)) (sym same) sorted in
        let one = longer_by full n at keys done closed own last f p
        (front [] 0 (done ++ f ∷ []) more (front [] 0 ((done ++ f ∷ []) ++ more) rest all)) in
        subst (λ xs. open_length full (pieces_from n keys xs)
        ≤ open_length full (pieces_from n keys (xs ++ rest))) same
        (from (done ++ f ∷ []) one.at one.closed one.own f one.parted more all)
