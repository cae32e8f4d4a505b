-- What the calls of a writer of pieces make of what was pushed.
use Rattle.std.proofs.Common.{◌≡◌, ◌≢◌, ℕ, ◌+◌, ◌-◌, ◌<◌, ◌≤◌, ◌⊎◌, Bool, true, false, List, [], ◌∷◌, ◌++◌, Option, None, length, refl, sym, ap, ◌∙◌, subst, arith}
use Rattle.std.specs.Prelude.{◌==◌, if◌then◌else◌}
use Rattle.std.proofs.lemmas.Bool.{false≢true}
use Rattle.std.proofs.lemmas.List.{append-nil}
use Rattle.disk_model.specs.declared.table_handle.TableHandle.{Ghosts}
use Rattle.peb_base.specs.Entries.{IsEntry, AreSorted}
use Rattle.peb_base.specs.Keys.{Bytes}
use Rattle.peb_base.specs.declared.entry.Entry.{Entry}
use Rattle.peb_base.specs.Tables.{last_key}
use Rattle.table_file.specs.Form.{blocks_of}
use Rattle.table_file.specs.Limits.{blocks_fault, push_fault}
use Rattle.table_file.specs.declared.put_fault.PutFault.{PutFault}
use Rattle.table_file.specs.Pieces.{Piece, pieces_from, range_of, last_piece, whole_length, open_length}
use Rattle.table_file.specs.PieceWriting.{PieceParts, Making, Pushed, nothing, full_length, all_pieces, with_more, AreTablesOf, Writes, HasCut, taken_by, left_of, open_entries, piece_fault}
use Rattle.table_file.specs.Tables.{TableParts}
use Rattle.table_file.specs.Taking.{pushed_length, rest_length}
use Rattle.table_file.proofs.PieceLaws.{pieces_none}
use Rattle.table_file.specs.Writing.{block_length, HasPushed}
use Rattle.table_file.specs.declared.table_writer.TableWriter.{TableWriter}
use Rattle.table_file.proofs.Ranges.{range_bound}
use Rattle.table_file.proofs.Taken.{length-rest}
use Rattle.table_file.proofs.PieceSteps.{alone_sorted, first_fault, has_cut, last_own, last_range, no_earlier, none_fault, other_test, own_sorted, parted, parted_first, parted_next, parted_same, parted_taken, same_test, whole_append, whole_push}

-- ---- a new writer

pub fresh : {F : Type 0} (g : Ghosts F) (m : Making) (w : PieceParts F) (keys : List Bytes)
    → w.is_open ≡ false → w.at ≡ 0 → w.tables ≡ [] → HasCut g m w keys nothing
fresh g m w keys shut start none =
    record {
      closed = λ same. record {
        none = refl;
        start = start;
        tables = subst (λ ts. AreTablesOf g (full_length w) w.level ts []) (sym none) tt;
      };
      opened = λ opened. absurd (false≢true (sym shut ∙ opened));
    }

-- ---- one push

tables_same : {F : Type 0} (g : Ghosts F) (full full2 level level2 : ℕ) (ts ts2 : List (TableParts F))
    (ps : List Piece) → full2 ≡ full → level2 ≡ level → ts2 ≡ ts → AreTablesOf g full level ts ps
    → AreTablesOf g full2 level2 ts2 ps
tables_same g full full2 level level2 ts ts2 ps a b c tables =
    subst (λ n. AreTablesOf g n level2 ts2 ps) (sym a)
    (subst (λ n. AreTablesOf g full n ts2 ps) (sym b)
    (subst (λ xs. AreTablesOf g full level xs ps) (sym c) tables))

some_own : (own : List Entry) (last : Entry) → 0 < length (own ++ last ∷ [])
some_own [] last = omega arith
some_own (x ∷ own) last = omega arith

-- what the writer is after the first entry of a table
abbrev pub Begun : {F : Type 0} → Making → PieceParts F → ℕ → ℕ → Entry → Type 0
Begun m w n at e = Writes m w (record { number = n + at; entries = e ∷ [] })
    × (w.is_open ≡ true) × (w.at ≡ at)

-- the rest of a writer is as before
pub record SameRest {F : Type 0} (w w2 : PieceParts F) : Type 0 where
  pub numbers : w2.numbers ≡ w.numbers
  pub level : w2.level ≡ w.level
  pub full : full_length w2 ≡ full_length w

module _ {F : Type 0} (g : Ghosts F) (m : Making) (w : PieceParts F) (keys : List Bytes)
    (s : Pushed) (e : Entry) (cut : HasCut g m w keys s) (sorted : AreSorted (s.entries ++ e ∷ []))
  where
    -- the range of one more isn't an earlier one
    pub at_below : w.at ≤ range_of e.key keys
    at_below = by w.is_open refl
      where
        by : (b : Bool) → w.is_open ≡ b → w.at ≤ range_of e.key keys
        by false shut = omega (arith, (cut.closed shut).start)
        by true opened =
            let o = (cut.opened opened).here in
            no_earlier w.numbers w.at keys s o.closed o.own o.last e (parted o) sorted

    -- the first entry of an input
    pub cut_first : w.is_open ≡ false → (at : ℕ) → at ≡ range_of e.key keys → (m2 : Making)
        → (w2 : PieceParts F) → w2.tables ≡ w.tables → SameRest w w2
        → Begun m2 w2 w.numbers at e → HasCut g m2 w2 keys (with_more s e)
    cut_first shut at range m2 w2 tables rest begun =
        has_cut g m2 w2 keys (with_more s e) w.numbers at s.earlier [] e
        (parted_first w.numbers keys s e (cut.closed shut).none sorted at range)
        begun.1 rest.numbers begun.2
        (tables_same g (full_length w) (full_length w2) w.level w2.level w.tables w2.tables s.earlier
        rest.full rest.level tables (cut.closed shut).tables) begun.0

    pub taken_first : w.is_open ≡ false
        → pushed_length (full_length w) [] e ≡ taken_by w keys (with_more s e) - taken_by w keys s
    taken_first shut =
        let none : pieces_from w.numbers keys s.entries ≡ [] =
        ap (pieces_from w.numbers keys) (cut.closed shut).none ∙ pieces_none w.numbers keys in
        omega (
          arith,
          ap (open_length (full_length w)) none,
          parted_taken (full_length w) w.numbers (range_of e.key keys) keys (with_more s e) s.earlier [] e
              (parted_first w.numbers keys s e (cut.closed shut).none sorted (range_of e.key keys) refl),
        )

    module _ (opened : w.is_open ≡ true) where
      -- what the open table takes
      pub next_fits : (es : List Entry) × HasPushed m.tells m.begun m.written w.writer es
          × AreSorted (es ++ e ∷ [])
      next_fits =
          let h = (cut.opened opened).here in
          let p = (cut.opened opened).writes in (
            h.own ++ h.last ∷ [],
            p.pushed,
            own_sorted w.numbers w.at keys s h.closed h.own h.last e (parted h) sorted p.pushed.keeps.sorted,
          )

      pub one_sorted : AreSorted (e ∷ [])
      one_sorted =
          let h = (cut.opened opened).here in
          alone_sorted w.numbers w.at keys s h.closed h.own h.last e (parted h) sorted

      -- the open table's number is that of a range
      pub within : (n : ℕ) → (n < w.numbers) ⊎ (w.numbers + length keys < n) → n ≢ w.writer.number
      within n outside same =
          let h = (cut.opened opened).here in
          let p = (cut.opened opened).writes in
          omega (arith, outside, same, p.number, h.range, range_bound h.last.key keys)

      -- an entry of the same range
      pub cut_same : w.at ≡ range_of e.key keys → (m2 : Making) → (writer2 : TableWriter)
          → ((es : List Entry) → HasPushed m.tells m.begun m.written w.writer es
          → AreSorted (es ++ e ∷ [])
          → HasPushed m2.tells m2.begun m2.written writer2 (es ++ e ∷ []))
          → writer2.number ≡ w.writer.number → writer2.level ≡ w.writer.level
          → block_length writer2 ≡ block_length w.writer
          → HasCut g m2 (record w { writer = writer2 }) keys (with_more s e)
      cut_same range m2 writer2 pushes number level full =
          let h = (cut.opened opened).here in
          let p = (cut.opened opened).writes in
          let w2 : PieceParts F = record w { writer = writer2 } in
          has_cut g m2 w2 keys (with_more s e) w.numbers w.at h.closed (h.own ++ h.last ∷ []) e
          (parted_same w.numbers w.at keys s h.closed h.own h.last e (parted h) sorted range)
          opened refl refl
          (tables_same g (full_length w) (full_length w2) w.level w.level w.tables w.tables h.closed
          full refl refl (cut.opened opened).tables)
          (record {
            pushed = pushes (h.own ++ h.last ∷ []) p.pushed
                (own_sorted w.numbers w.at keys s h.closed h.own h.last e (parted h) sorted
                p.pushed.keeps.sorted);
            number = number ∙ p.number;
            level = level ∙ p.level;
          })

      pub taken_same : w.at ≡ range_of e.key keys → (R : ℕ → Type 0)
          → ((es : List Entry) → HasPushed m.tells m.begun m.written w.writer es
          → AreSorted (es ++ e ∷ []) → R (pushed_length (full_length w) es e))
          → R (taken_by w keys (with_more s e) - taken_by w keys s)
      taken_same range R takes =
          let h = (cut.opened opened).here in
          let count : pushed_length (full_length w) (h.own ++ h.last ∷ []) e
          ≡ taken_by w keys (with_more s e) - taken_by w keys s =
          omega (
            arith,
            parted_taken (full_length w) w.numbers w.at keys s h.closed h.own h.last (parted h),
            parted_taken (full_length w) w.numbers w.at keys (with_more s e) h.closed (h.own ++ h.last ∷ []) e
                (parted_same w.numbers w.at keys s h.closed h.own h.last e (parted h) sorted range),
          ) in
          subst R count (takes (h.own ++ h.last ∷ []) (cut.opened opened).writes.pushed
          (own_sorted w.numbers w.at keys s h.closed h.own h.last e (parted h) sorted
          (cut.opened opened).writes.pushed.keeps.sorted))

      -- an entry of a later range
      pub cut_next : (to : ℕ) → to ≡ range_of e.key keys → to ≢ w.at → (m2 : Making)
          → (w2 : PieceParts F)
          → ((p : Piece) (ps : List Piece) → Writes m w p → 0 < length p.entries
          → AreTablesOf g (full_length w) w.level w.tables ps
          → AreTablesOf g (full_length w) w.level w2.tables (ps ++ p ∷ []))
          → SameRest w w2 → Begun m2 w2 w.numbers to e → HasCut g m2 w2 keys (with_more s e)
      cut_next to range differ m2 w2 closes rest begun =
          let h = (cut.opened opened).here in
          let piece : Piece = record { number = w.numbers + w.at; entries = h.own ++ h.last ∷ [] } in
          has_cut g m2 w2 keys (with_more s e) w.numbers to (h.closed ++ piece ∷ []) [] e
          (parted_next w.numbers w.at keys s h.closed h.own h.last e (parted h) sorted to range
          (λ same. differ (sym same))) begun.1 rest.numbers begun.2
          (tables_same g (full_length w) (full_length w2) w.level w2.level w2.tables w2.tables
          (h.closed ++ piece ∷ []) rest.full rest.level refl
          (closes piece h.closed (cut.opened opened).writes (some_own h.own h.last) (cut.opened opened).tables))
          begun.0

      pub taken_next : (to : ℕ) → to ≡ range_of e.key keys → to ≢ w.at → (R : ℕ → Type 0)
          → ((p : Piece) → Writes m w p → 0 < length p.entries
          → R (rest_length (full_length w) p.number p.entries + pushed_length (full_length w) [] e))
          → R (taken_by w keys (with_more s e) - taken_by w keys s)
      taken_next to range differ R takes =
          let h = (cut.opened opened).here in
          let full = full_length w in
          let piece : Piece = record { number = w.numbers + w.at; entries = h.own ++ h.last ∷ [] } in
          let count : rest_length full piece.number piece.entries + pushed_length full [] e
          ≡ taken_by w keys (with_more s e) - taken_by w keys s =
          omega (
            arith,
            parted_taken full w.numbers w.at keys s h.closed h.own h.last (parted h),
            whole_push full h.closed piece,
            length-rest full piece.number piece.entries,
            parted_taken full w.numbers to keys (with_more s e) (h.closed ++ piece ∷ []) [] e
                (parted_next w.numbers w.at keys s h.closed h.own h.last e (parted h) sorted to range
                (λ same. differ (sym same))),
          ) in
          subst R count (takes piece (cut.opened opened).writes (some_own h.own h.last))

      pub fault_same : w.at ≡ range_of e.key keys → (R : Option PutFault → Type 0)
          → ((es : List Entry) → HasPushed m.tells m.begun m.written w.writer es
          → AreSorted (es ++ e ∷ []) → R (push_fault (full_length w) es e))
          → R (piece_fault w keys s e)
      fault_same range R refused =
          let h = (cut.opened opened).here in
          let p = (cut.opened opened).writes in
          let own = h.own ++ h.last ∷ [] in
          let test : (range_of (last_key s.entries) keys == range_of e.key keys) ≡ true =
          same_test (range_of (last_key s.entries) keys) (range_of e.key keys)
          (last_range w.numbers w.at keys s h.closed h.own h.last (parted h) ∙ range) in
          let is : push_fault (full_length w) own e ≡ piece_fault w keys s e =
          ap (λ es. push_fault (full_length w) es e)
          (sym (last_own w.numbers w.at keys s h.closed h.own h.last (parted h)))
          ∙ sym (ap (λ b. if b then push_fault (full_length w) (open_entries w keys s) e
          else blocks_fault (blocks_of (full_length w) (open_entries w keys s))) test) in
          subst R is (refused own p.pushed
          (own_sorted w.numbers w.at keys s h.closed h.own h.last e (parted h) sorted p.pushed.keeps.sorted))

      pub fault_next : (to : ℕ) → to ≡ range_of e.key keys → to ≢ w.at
          → (R : Option PutFault → Type 0)
          → ((p : Piece) → Writes m w p → 0 < length p.entries
          → R (blocks_fault (blocks_of (full_length w) p.entries)))
          → R (piece_fault w keys s e)
      fault_next to range differ R refused =
          let h = (cut.opened opened).here in
          let piece : Piece = record { number = w.numbers + w.at; entries = h.own ++ h.last ∷ [] } in
          let test : (range_of (last_key s.entries) keys == range_of e.key keys) ≡ false =
          other_test (range_of (last_key s.entries) keys) (range_of e.key keys)
          (λ same. differ (range ∙ sym same ∙ last_range w.numbers w.at keys s h.closed h.own h.last (parted h))) in
          let is : blocks_fault (blocks_of (full_length w) piece.entries) ≡ piece_fault w keys s e =
          ap (λ es. blocks_fault (blocks_of (full_length w) es))
          (sym (last_own w.numbers w.at keys s h.closed h.own h.last (parted h)))
          ∙ sym (ap (λ b. if b then push_fault (full_length w) (open_entries w keys s) e
          else blocks_fault (blocks_of (full_length w) (open_entries w keys s))) test) in
          subst R is (refused piece (cut.opened opened).writes (some_own h.own h.last))

    pub fault_first : w.is_open ≡ false → piece_fault w keys s e ≡ None
    fault_first shut = by (range_of (last_key s.entries) keys == range_of e.key keys)
      where
        none : open_entries w keys s ≡ []
        none = ap last_piece (ap (pieces_from w.numbers keys) (cut.closed shut).none
            ∙ pieces_none w.numbers keys)

        entry : IsEntry e
        entry = (subst (λ es. AreSorted (es ++ e ∷ [])) (cut.closed shut).none sorted).0

        by : (b : Bool) → (if b then push_fault (full_length w) (open_entries w keys s) e
            else blocks_fault (blocks_of (full_length w) (open_entries w keys s))) ≡ None
        by true = ap (λ es. push_fault (full_length w) es e) none ∙ first_fault (full_length w) e entry
        by false = ap (λ es. blocks_fault (blocks_of (full_length w) es)) none ∙ none_fault

-- ---- the tables at the end

module _ {F : Type 0} (g : Ghosts F) (m : Making) (w : PieceParts F) (keys : List Bytes)
    (s : Pushed) (cut : HasCut g m w keys s) where
  pub all_closed : w.is_open ≡ false
      → AreTablesOf g (full_length w) w.level w.tables (all_pieces w.numbers keys s)
  all_closed shut =
      let none : all_pieces w.numbers keys s ≡ s.earlier =
      ap (λ es. s.earlier ++ pieces_from w.numbers keys es) (cut.closed shut).none
      ∙ ap (λ ps. s.earlier ++ ps) (pieces_none w.numbers keys) ∙ append-nil s.earlier in
      subst (AreTablesOf g (full_length w) w.level w.tables) (sym none) (cut.closed shut).tables

  pub none_left : w.is_open ≡ false → left_of w keys s ≡ 0
  none_left shut =
      let none : pieces_from w.numbers keys s.entries ≡ [] =
      ap (pieces_from w.numbers keys) (cut.closed shut).none ∙ pieces_none w.numbers keys in
      omega (arith, ap (whole_length (full_length w)) none)

  pub none_refused : w.is_open ≡ false
      → blocks_fault (blocks_of (full_length w) (open_entries w keys s)) ≡ None
  none_refused shut =
      ap (λ es. blocks_fault (blocks_of (full_length w) (last_piece (pieces_from w.numbers keys es))))
      (cut.closed shut).none
      ∙ ap (λ ps. blocks_fault (blocks_of (full_length w) (last_piece ps))) (pieces_none w.numbers keys)
      ∙ none_fault

  module _ (opened : w.is_open ≡ true) where
    pub open_is : (p : Piece) × Writes m w p × (0 < length p.entries)
    open_is =
        let h = (cut.opened opened).here in (
          record { number = w.numbers + w.at; entries = h.own ++ h.last ∷ [] },
          (cut.opened opened).writes,
          some_own h.own h.last,
        )

    pub all_tables : (ts : List (TableParts F))
        → ((p : Piece) (ps : List Piece) → Writes m w p → 0 < length p.entries
        → AreTablesOf g (full_length w) w.level w.tables ps
        → AreTablesOf g (full_length w) w.level ts (ps ++ p ∷ []))
        → AreTablesOf g (full_length w) w.level ts (all_pieces w.numbers keys s)
    all_tables ts closes =
        let h = (cut.opened opened).here in
        subst (AreTablesOf g (full_length w) w.level ts) (sym h.cut)
        (closes (record { number = w.numbers + w.at; entries = h.own ++ h.last ∷ [] }) h.closed
        (cut.opened opened).writes (some_own h.own h.last) (cut.opened opened).tables)

    pub taken_last : (R : ℕ → Type 0)
        → ((p : Piece) → Writes m w p → 0 < length p.entries
        → R (rest_length (full_length w) p.number p.entries)) → R (left_of w keys s)
    taken_last R takes =
        let h = (cut.opened opened).here in
        let full = full_length w in
        let piece : Piece = record { number = w.numbers + w.at; entries = h.own ++ h.last ∷ [] } in
        let count : rest_length full piece.number piece.entries ≡ left_of w keys s =
        omega (
          arith,
          whole_append full s.earlier (pieces_from w.numbers keys s.entries),
          ap (whole_length full) h.cut,
          whole_push full h.closed piece,
          parted_taken full w.numbers w.at keys s h.closed h.own h.last (parted h),
          length-rest full piece.number piece.entries,
        ) in
        subst R count (takes piece (cut.opened opened).writes (some_own h.own h.last))

    pub fault_last : (R : Option PutFault → Type 0)
        → ((p : Piece) → Writes m w p → 0 < length p.entries
        → R (blocks_fault (blocks_of (full_length w) p.entries)))
        → R (blocks_fault (blocks_of (full_length w) (open_entries w keys s)))
    fault_last R refused =
        let h = (cut.opened opened).here in
        subst (λ es. R (blocks_fault (blocks_of (full_length w) es)))
        (sym (last_own w.numbers w.at keys s h.closed h.own h.last (parted h)))
        (refused (record { number = w.numbers + w.at; entries = h.own ++ h.last ∷ [] })
        (cut.opened opened).writes (some_own h.own h.last))
