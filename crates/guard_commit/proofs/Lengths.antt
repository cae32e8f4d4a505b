-- The lengths of pieces, and what was taken of them.
use Rattle.std.proofs.Common.{◌≡◌, ℕ, suc, ◌+◌, ◌≤◌, List, [], ◌∷◌, ◌++◌, refl, sym, ap, ◌∙◌, subst, arith}
use Rattle.std.proofs.lemmas.List.{append-nil}
use Rattle.peb_base.specs.Entries.{AreSorted}
use Rattle.peb_base.specs.Keys.{Bytes}
use Rattle.peb_base.specs.declared.entry.Entry.{Entry}
use Rattle.table_file.specs.Pieces.{Piece, pieces_from, whole_length, open_length}
use Rattle.table_file.specs.PieceWriting.{PieceParts, full_length, taken_by, left_of, all_pieces}
use Rattle.guard_commit.specs.Writing.{only, behind}

-- no entries have no pieces
pub pieces_none : (n : ℕ) (keys : List Bytes) → pieces_from n keys [] ≡ []
pieces_none n [] = refl
pieces_none n (k ∷ keys) = pieces_none (suc n) keys

-- the tables of pieces and further ones
pub whole_append : (full : ℕ) (ps qs : List Piece)
    → whole_length full (ps ++ qs) ≡ whole_length full ps + whole_length full qs
whole_append full [] qs = omega arith
whole_append full (p ∷ ps) qs = omega (arith, whole_append full ps qs)

-- of whole pieces their tables were taken
pub taken_only : {F : Type 0} (w : PieceParts F) (keys : List Bytes) (ps : List Piece)
    → taken_by w keys (only ps) ≡ whole_length (full_length w) ps
taken_only w keys ps =
    omega (arith, ap (open_length (full_length w)) (pieces_none w.numbers keys))

-- and nothing is left of them
pub left_none : {F : Type 0} (w : PieceParts F) (keys : List Bytes) (ps : List Piece)
    → left_of w keys (only ps) ≡ 0
left_none w keys ps =
    omega (
      arith,
      ap (open_length (full_length w)) (pieces_none w.numbers keys),
      ap (whole_length (full_length w)) (pieces_none w.numbers keys),
    )

pub all_only : (n : ℕ) (keys : List Bytes) (ps : List Piece) → all_pieces n keys (only ps) ≡ ps
all_only n keys ps = ap (λ (l : List Piece). ps ++ l) (pieces_none n keys) ∙ append-nil ps

-- what is taken of first entries is at most what is taken of more, and at most the tables of all
abbrev pub TakenGrows : Type 0
TakenGrows = (full n : ℕ) (keys : List Bytes) (es rest : List Entry) → AreSorted (es ++ rest)
    → open_length full (pieces_from n keys es) ≤ open_length full (pieces_from n keys (es ++ rest))

abbrev pub OpenIsLess : Type 0
OpenIsLess = (full n : ℕ) (keys : List Bytes) (es : List Entry)
    → open_length full (pieces_from n keys es) ≤ whole_length full (pieces_from n keys es)

-- with the tables of earlier pieces, at most all tables
pub taken_within : TakenGrows → OpenIsLess → {F : Type 0} (w : PieceParts F) (keys : List Bytes)
    (ps : List Piece) (es rest held : List Entry) → es ++ rest ≡ held → AreSorted held
    → taken_by w keys (behind ps es)
    ≤ whole_length (full_length w) ps + whole_length (full_length w) (pieces_from w.numbers keys held)
taken_within grows less w keys ps es rest held is sorted =
    let full = full_length w in
    let fits = subst AreSorted (sym is) sorted in
    let same = ap (λ (l : List Entry). open_length full (pieces_from w.numbers keys l)) is in
    omega (arith, grows full w.numbers keys es rest fits, same, less full w.numbers keys held)
