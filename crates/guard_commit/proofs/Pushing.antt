-- What a writer of pieces has come to by a call.
use Rattle.std.proofs.Common.{◌≡◌, ℕ, ◌+◌, ◌-◌, IsTrue, List, [], ◌∷◌, ◌++◌, ap, ◌∙◌, subst, arith}
use Rattle.disk_model.specs.Tables.{Sealed, capped}
use Rattle.disk_model.specs.declared.table_handle.TableHandle.{Ghosts}
use Rattle.peb_base.specs.Entries.{AreSorted}
use Rattle.peb_base.specs.Keys.{Bytes}
use Rattle.peb_base.specs.declared.entry.Entry.{Entry}
use Rattle.table_file.specs.Pieces.{Piece, pieces_from, whole_length, open_length}
use Rattle.table_file.specs.PieceWriting.{full_length, taken_by, left_of, sealed_with, HasCut, with_more, next_input}
use Rattle.table_file.specs.Taking.{TakesAtMost}
use Rattle.table_file.specs.TakingLaws.{takes_less, takes_on, takes_all}
use Rattle.guard_commit.specs.Writing.{MakerTold, Work, HasWritten, only, behind}
use Rattle.guard_commit.proofs.Lengths.{TakenGrows, OpenIsLess, whole_append, taken_only, taken_within}

-- the tables that were sealed since are sealed too
abbrev pub SealsOn : {F : Type 0} → Ghosts F → Work F → Work F → Type 0
SealsOn g a b = IsTrue b.told.making.tells → (base : Sealed)
    → a.told.sealed ≡ sealed_with g a.writer.tables base
    → b.told.sealed ≡ sealed_with g b.writer.tables base

-- two writers of one input, cut at one list of keys, into blocks of one length
pub record SameInput {F : Type 0} (a b : Work F) : Type 0 where
  pub tells : b.told.making.tells ≡ a.told.making.tells
  pub keys : b.keys ≡ a.keys
  pub numbers : b.writer.numbers ≡ a.writer.numbers
  pub full : full_length b.writer ≡ full_length a.writer

-- what a writer takes at most is told by what stays of it
pub bound_same : (full other n m : ℕ) (keys : List Bytes) (ps : List Piece) (held : List Entry)
    (before now : ℕ) → other ≡ full → m ≡ n
    → TakesAtMost (whole_length other ps + whole_length other (pieces_from m keys held)) before now
    → TakesAtMost (whole_length full ps + whole_length full (pieces_from n keys held)) before now
bound_same full other n m keys ps held before now same follows =
    subst (λ k. TakesAtMost k before now)
    (λ i. whole_length (same i) ps + whole_length (same i) (pieces_from (follows i) keys held))

module _ {F : Type 0} (g : Ghosts F) (from : MakerTold) where
  -- with one entry more
  pub pushed_on : TakenGrows → (a b : Work F) (ps : List Piece) (es : List Entry) (e : Entry)
      → SameInput a b → HasWritten g from a (behind ps es) → AreSorted (es ++ e ∷ [])
      → HasCut g b.told.making b.writer b.keys (with_more (behind ps es) e)
      → b.told.taken ≡ capped (a.told.taken
      + (taken_by a.writer a.keys (with_more (behind ps es) e) - taken_by a.writer a.keys (behind ps es)))
      → SealsOn g a b → HasWritten g from b (behind ps (es ++ e ∷ []))
  pushed_on grows a b ps es e same has sorted cut taken seals =
      let full = full_length a.writer in
      let n = a.writer.numbers in
      let on = grows full n a.keys es (e ∷ []) sorted in
      let now : taken_by b.writer b.keys (behind ps (es ++ e ∷ []))
      ≡ taken_by a.writer a.keys (behind ps (es ++ e ∷ [])) =
      (λ i. whole_length (same.full i) ps + open_length (same.full i) (pieces_from (same.numbers i) (same.keys i) (es ++ e ∷ []))) in
      record {
        cut = cut;
        taken = omega (arith, taken, has.taken, on, now);
        sealed = λ tells. seals tells from.sealed (has.sealed (subst IsTrue same.tells tells));
      }

  -- a push that fails took at most the tables of all
  pub push_stops : TakenGrows → OpenIsLess → (a : Work F) (ps : List Piece) (es : List Entry)
      (e : Entry) (rest held : List Entry) (now : ℕ) → HasWritten g from a (behind ps es)
      → (es ++ e ∷ []) ++ rest ≡ held → AreSorted held → AreSorted (es ++ e ∷ [])
      → TakesAtMost (taken_by a.writer a.keys (with_more (behind ps es) e)
      - taken_by a.writer a.keys (behind ps es)) a.told.taken now
      → TakesAtMost (whole_length (full_length a.writer) ps
      + whole_length (full_length a.writer) (pieces_from a.writer.numbers a.keys held)) from.taken now
  push_stops grows less a ps es e rest held now has is sorted fits takes =
      let within = taken_within grows less a.writer a.keys ps (es ++ e ∷ []) rest held is sorted in
      let on = grows (full_length a.writer) a.writer.numbers a.keys es (e ∷ []) fits in
      takes_less _ _ from.taken now (omega (arith, within, on))
      (takes_on (taken_by a.writer a.keys (behind ps es)) _ from.taken a.told.taken now has.taken takes)

  -- so it is where the writer stops
  pub stays_within : TakenGrows → OpenIsLess → (a : Work F) (ps : List Piece)
      (es rest held : List Entry) → HasWritten g from a (behind ps es)
      → es ++ rest ≡ held → AreSorted held
      → TakesAtMost (whole_length (full_length a.writer) ps
      + whole_length (full_length a.writer) (pieces_from a.writer.numbers a.keys held))
      from.taken a.told.taken
  stays_within grows less a ps es rest held has is sorted =
      takes_all (taken_by a.writer a.keys (behind ps es)) _ from.taken a.told.taken
      (taken_within grows less a.writer a.keys ps es rest held is sorted) has.taken

  -- before the first entry
  pub stays_before : (a : Work F) (ps : List Piece) (more : ℕ) → HasWritten g from a (only ps)
      → TakesAtMost (whole_length (full_length a.writer) ps + more) from.taken a.told.taken
  stays_before a ps more has =
      takes_all (taken_by a.writer a.keys (only ps)) _ from.taken a.told.taken
      (omega (arith, taken_only a.writer a.keys ps)) has.taken

  -- the pieces of an input are closed
  pub begun_on : OpenIsLess → (a b : Work F) (ps : List Piece) (es : List Entry)
      → b.told.making.tells ≡ a.told.making.tells → full_length b.writer ≡ full_length a.writer
      → HasWritten g from a (behind ps es)
      → HasCut g b.told.making b.writer b.keys (next_input a.writer.numbers a.keys (behind ps es))
      → b.told.taken ≡ capped (a.told.taken + left_of a.writer a.keys (behind ps es))
      → SealsOn g a b
      → HasWritten g from b (only (ps ++ pieces_from a.writer.numbers a.keys es))
  begun_on less a b ps es tells same has cut taken seals =
      let full = full_length a.writer in
      let own = pieces_from a.writer.numbers a.keys es in
      let now : taken_by b.writer b.keys (only (ps ++ own)) ≡ whole_length full (ps ++ own) =
      taken_only b.writer b.keys (ps ++ own) ∙ ap (λ f. whole_length f (ps ++ own)) same in
      record {
        cut = cut;
        taken = omega (
          arith,
          taken,
          has.taken,
          now,
          whole_append full ps own,
          less full a.writer.numbers a.keys es,
        );
        sealed = λ t. seals t from.sealed (has.sealed (subst IsTrue tells t));
      }

  -- where they can't be closed, at most their tables were taken
  pub begin_stops : OpenIsLess → (a : Work F) (ps : List Piece) (es : List Entry) (now : ℕ)
      → HasWritten g from a (behind ps es)
      → TakesAtMost (left_of a.writer a.keys (behind ps es)) a.told.taken now
      → TakesAtMost (whole_length (full_length a.writer) ps
      + whole_length (full_length a.writer) (pieces_from a.writer.numbers a.keys es)) from.taken now
  begin_stops less a ps es now has takes =
      takes_less _ _ from.taken now (omega (arith, less (full_length a.writer) a.writer.numbers a.keys es))
      (takes_on (taken_by a.writer a.keys (behind ps es)) _ from.taken a.told.taken now has.taken takes)
