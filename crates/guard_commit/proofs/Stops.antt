-- Why a table isn't cut.
use Rattle.std.proofs.Common.{◌≡◌, inl, inr, ℕ, ◌==◌, Bool, true, false, List, [], ◌∷◌, ◌++◌, Option, Some, Result, Err, refl, sym, ap, ◌∙◌, subst}
use Rattle.std.specs.Prelude.{if◌then◌else◌}
use Rattle.disk_model.specs.declared.table_handle.TableHandle.{Ghosts}
use Rattle.flsm_model.specs.declared.short_cause.ShortCause.{ShortCause}
use Rattle.flsm_model.specs.declared.short_cause.ShortCause.TheVariants as causes
use Rattle.peb_base.specs.Cursors.{IfDamage, LeadsTo, OnFault}
use Rattle.peb_base.specs.Faults.{Rose}
use Rattle.peb_base.specs.Keys.{Bytes}
use Rattle.peb_base.specs.Tables.{last_key}
use Rattle.peb_base.specs.declared.entry.Entry.{Entry}
use Rattle.peb_base.specs.declared.read_fault.ReadFault.{ReadFault}
use Rattle.peb_base.specs.declared.read_fault.ReadFault.TheVariants as reads
use Rattle.table_file.specs.Form.{blocks_of}
use Rattle.table_file.specs.Limits.{push_fault, blocks_fault, IsRefused}
use Rattle.table_file.specs.Pieces.{Piece, pieces_from, range_of, last_piece}
use Rattle.table_file.specs.PieceWriting.{PieceParts, full_length, open_entries, piece_fault}
use Rattle.table_file.specs.Tables.{TableParts}
use Rattle.table_file.specs.declared.put_fault.PutFault.{PutFault}
use Rattle.table_file.specs.declared.put_fault.PutFault.TheVariants.{Fault, Limit, Memory}
use Rattle.table_cursor.specs.Agreeing.{IsDamageOf}
use Rattle.guard_commit.specs.Reading.{Reaches}
use Rattle.guard_commit.specs.Stopping.{cause_of, read_cause, StopsPiece, IsStoppedIn, IsUndamaged}
use Rattle.guard_commit.specs.Writing.{behind}

abbrev Ended : Type 0
Ended = Result (Unit {0}) ShortCause

err_is : (a : ShortCause) → (let r : Ended = Err a in r ≡ Err causes.Fault) → a ≡ causes.Fault
err_is a same = cc

module _ {F : Type 0} (g : Ghosts F) (full : ℕ) (keys : List Bytes) (t : TableParts F) where
  -- a limit at an entry
  pub push_limited : (w : PieceParts F) (ps : List Piece) (es : List Entry) (e : Entry) (index : ℕ)
      (fault : PutFault) → full_length w ≡ full → Reaches g t index (es ++ e ∷ [])
      → IsRefused {T = Unit {0}} (piece_fault w keys (behind ps es) e) (Err fault)
      → IsStoppedIn g full keys t (cause_of fault)
  push_limited w ps es e index Fault same reach refused = tt
  push_limited w ps es e index Memory same reach refused = tt
  push_limited w ps es e index (Limit kind n) same reach refused =
      record {
        number = w.numbers;
        index = index;
        read = es;
        more = e ∷ [];
        reach = reach;
        stops = subst (λ f. StopsPiece f own (e ∷ []) (Limit kind n)) same
            (by (range_of (last_key es) keys == range_of e.key keys) refused);
      }
    where
      own : List Entry
      own = last_piece (pieces_from w.numbers keys es)

      by : (b : Bool) → (if b then push_fault (full_length w) (last_piece (pieces_from w.numbers keys es)) e
          else blocks_fault (blocks_of (full_length w) (last_piece (pieces_from w.numbers keys es)))) ≡ Some (Limit kind n)
          → StopsPiece (full_length w) (last_piece (pieces_from w.numbers keys es)) (e ∷ []) (Limit kind n)
      by true h = inr (e, refl, h)
      by false h = inl h

  -- a limit at the table's end
  pub begin_limited : (w : PieceParts F) (ps : List Piece) (es : List Entry) (index : ℕ)
      (fault : PutFault) → full_length w ≡ full → Reaches g t index es
      → IsRefused {T = Unit {0}} (blocks_fault (blocks_of (full_length w)
      (open_entries w keys (behind ps es)))) (Err fault)
      → IsStoppedIn g full keys t (cause_of fault)
  begin_limited w ps es index Fault same reach refused = tt
  begin_limited w ps es index Memory same reach refused = tt
  begin_limited w ps es index (Limit kind n) same reach refused =
      record {
        number = w.numbers;
        index = index;
        read = es;
        more = [];
        reach = subst (λ (l : List Entry). Reaches g t index l) (sym (nil es)) reach;
        stops = inl (subst
            (λ f. blocks_fault (blocks_of f (last_piece (pieces_from w.numbers keys es))) ≡ Some (Limit kind n))
            same refused);
      }
    where
      nil : (xs : List Entry) → xs ++ [] ≡ xs
      nil [] = refl
      nil (x ∷ xs) = ap (λ (l : List Entry). x ∷ l) (nil xs)

  -- damage of a block
  pub read_damaged : (fault : ReadFault)
      → IfDamage {T = Unit {0}} (Err fault) (IsDamageOf g t)
      → IsStoppedIn g full keys t (read_cause fault)
  read_damaged reads.Fault damage = tt
  read_damaged (reads.Damaged number at) damage = inl damage

-- a fault of a write isn't damage
pub put_undamaged : (fault : PutFault) → IsUndamaged (cause_of fault)
put_undamaged Fault = tt
put_undamaged (Limit kind n) = tt
put_undamaged Memory = tt

-- nor is one of a read that leads somewhere
pub leads_undamaged : (StandsThere : Option ℕ → Type 0) (place : Option ℕ) (fault : ReadFault)
    → LeadsTo StandsThere place (Err fault) → IsUndamaged (read_cause fault)
leads_undamaged StandsThere place reads.Fault leads = tt
leads_undamaged StandsThere place (reads.Damaged number at) leads = absurd leads

-- a read that failed made its device's count rise
pub rose_of : (fault : ReadFault) (before now : ℕ) → fault ≡ reads.Fault
    → OnFault (Err fault) (Rose before now) → Rose before now
rose_of reads.Fault before now is rose = rose
rose_of (reads.Damaged number at) before now is rose = absurd (never is)
  where
    never : reads.Damaged number at ≡ reads.Fault → ⊥
    never h = cc

-- the cause is a fault only where the call failed
pub put_failed : {r : Result (Unit {0}) ShortCause} (cause : ShortCause) (fault : PutFault)
    → r ≡ Err cause → cause ≡ cause_of fault → r ≡ Err causes.Fault → fault ≡ Fault
put_failed cause Fault is same failed = refl
put_failed cause (Limit kind n) is same failed =
    absurd (never (sym same ∙ err_is cause (sym is ∙ failed)))
  where
    never : causes.Limit kind n ≡ causes.Fault → ⊥
    never h = cc
put_failed cause Memory is same failed =
    absurd (never (sym same ∙ err_is cause (sym is ∙ failed)))
  where
    never : causes.Memory ≡ causes.Fault → ⊥
    never h = cc

pub read_failed : {r : Result (Unit {0}) ShortCause} (cause : ShortCause) (fault : ReadFault)
    → r ≡ Err cause → cause ≡ read_cause fault → r ≡ Err causes.Fault → fault ≡ reads.Fault
read_failed cause reads.Fault is same failed = refl
read_failed cause (reads.Damaged number at) is same failed =
    absurd (never (sym same ∙ err_is cause (sym is ∙ failed)))
  where
    never : causes.Damaged number at ≡ causes.Fault → ⊥
    never h = cc
