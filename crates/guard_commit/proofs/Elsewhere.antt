-- Tables that a job doesn't make.
use Rattle.std.proofs.Common.{◌≡◌, ◌≢◌, ◌⊎◌, inl, inr, ℕ, suc, ◌+◌, ◌<◌, ◌≤◌, ◌==◌, Bool, true, false, List, [], ◌∷◌, length, Some, refl, ap, ◌∙◌, arith}
use Rattle.std.proofs.lemmas.Bool.Decides.{nat_tests}
use Rattle.std.specs.Prelude.{if◌then◌else◌}
use Rattle.disk_model.specs.Tables.{Sealed, with_table}
use Rattle.disk_model.specs.declared.table_handle.TableHandle.{Ghosts}
use Rattle.peb_base.specs.Keys.{Bytes, key_lt}
use Rattle.peb_base.specs.declared.entry.Entry.{Entry}
use Rattle.table_file.specs.Pieces.{Piece, range_of}
use Rattle.table_file.specs.PieceWriting.{AreTablesOf, sealed_with}
use Rattle.table_file.specs.Tables.{TableParts}
use Rattle.guard_commit.specs.Writing.{Work, MakerTold, HasWritten, behind, IsOutside}
use Rattle.guard_commit.proofs.Rows.{Numbered}

range_bound : (key : Bytes) (keys : List Bytes) → range_of key keys ≤ length keys
range_bound key [] = omega arith
range_bound key (k ∷ keys) = by (range_bound key keys) (key_lt key k)
  where
    by : range_of key keys ≤ length keys → (b : Bool)
        → (if b then 0 else suc (range_of key keys)) ≤ length (k ∷ keys)
    by ih true = omega arith
    by ih false = omega (arith, ih)

-- a number outside a block, by the same first number
pub outside_as : (first other ranges n : ℕ) → other ≡ first → IsOutside first (ranges + 1) n
    → IsOutside other (suc ranges) n
outside_as first other ranges n same (inl lt) = inl (omega (arith, same, lt))
outside_as first other ranges n same (inr ge) = inr (omega (arith, same, ge))

-- the table that is open behind some entries is numbered by its range
pub open_number : {F : Type 0} (g : Ghosts F) (from : MakerTold) (w : Work F) (ps : List Piece)
    (es : List Entry) → HasWritten g from w (behind ps es) → 0 < length es
    → (n : ℕ) → IsOutside w.writer.numbers (suc (length w.keys)) n → n ≢ w.writer.writer.number
open_number g from w ps es has some n outside = by w.writer.is_open refl
  where
    by : (b : Bool) → w.writer.is_open ≡ b → n ≢ w.writer.writer.number
    by false is = absurd (omega (arith, some, ap length (has.cut.closed is).none))
    by true is =
        let o = has.cut.opened is in
        let number : w.writer.writer.number ≡ w.writer.numbers + w.writer.at = o.writes.number in
        let range = range_bound o.here.last.key w.keys in
        λ same. beyond outside (omega (arith, same, number, o.here.range, range)) (omega (arith, same, number))
      where
        beyond : IsOutside w.writer.numbers (suc (length w.keys)) n
            → n ≤ w.writer.numbers + length w.keys → w.writer.numbers ≤ n → ⊥
        beyond (inl lt) to from = omega (arith, lt, from)
        beyond (inr ge) to from = omega (arith, ge, to)

-- tables that were sealed leave those of other numbers
pub sealed_outside : {F : Type 0} (g : Ghosts F) (full level low high : ℕ)
    (ts : List (TableParts F)) (ps : List Piece) (base : Sealed) → AreTablesOf g full level ts ps
    → Numbered low high ps → (n : ℕ) → (n < low) ⊎ (high ≤ n)
    → sealed_with g ts base n ≡ base n
sealed_outside g full level low high [] [] base h numbered n outside = refl
sealed_outside g full level low high [] (p ∷ ps) base h numbered n outside = absurd h
sealed_outside g full level low high (t ∷ ts) [] base h numbered n outside = absurd h
sealed_outside g full level low high (t ∷ ts) (p ∷ ps) base h numbered n outside =
    sealed_outside g full level (suc p.number) high ts ps
    (with_table t.row.number (g.bytes t.file) base) h.1 numbered.2 n (later outside)
    ∙ ap (λ b. if b then Some (g.bytes t.file) else base n) other
  where
    later : (n < low) ⊎ (high ≤ n) → (n < suc p.number) ⊎ (high ≤ n)
    later (inl lt) = inl (omega (arith, lt, numbered.0))
    later (inr ge) = inr ge

    differ : (n < low) ⊎ (high ≤ n) → (n == t.row.number) ≡ false
    differ (inl lt) = grind (arith, nat_tests, lt, numbered.0, h.0.row.number_is)
    differ (inr ge) = grind (arith, nat_tests, ge, numbered.1, h.0.row.number_is)

    other : (n == t.row.number) ≡ false
    other = differ outside
