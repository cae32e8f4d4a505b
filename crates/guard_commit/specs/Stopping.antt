-- When a Cut is stopped.
use Rattle.std.specs.Prelude.{◌≡◌, ◌⊎◌, ℕ, List, [], ◌∷◌, ◌++◌, Some}
use Rattle.disk_model.specs.declared.table_handle.TableHandle.{Ghosts}
use Rattle.flsm_model.specs.declared.short_cause.ShortCause.{ShortCause}
use Rattle.flsm_model.specs.declared.short_cause.ShortCause.TheVariants as causes
use Rattle.peb_base.specs.Keys.{Bytes}
use Rattle.peb_base.specs.Members.{IsIn}
use Rattle.peb_base.specs.declared.entry.Entry.{Entry}
use Rattle.peb_base.specs.declared.read_fault.ReadFault.{ReadFault}
use Rattle.peb_base.specs.declared.read_fault.ReadFault.TheVariants as reads
use Rattle.table_file.specs.Form.{blocks_of}
use Rattle.table_file.specs.Limits.{push_fault, blocks_fault}
use Rattle.table_file.specs.Pieces.{pieces_from, last_piece}
use Rattle.table_file.specs.Tables.{TableParts}
use Rattle.table_file.specs.declared.put_fault.PutFault.{PutFault}
use Rattle.table_file.specs.declared.put_fault.PutFault.TheVariants.{Fault, Limit, Memory}
use Rattle.guard_commit.specs.Reading.{Reaches, IsDamagedAt}

-- the same fault as the cause of a job's end
abbrev pub cause_of : PutFault → ShortCause
cause_of Fault = causes.Fault
cause_of (Limit kind n) = causes.Limit kind n
cause_of Memory = causes.Memory

-- the same refusal of a read as the cause of a job's end
abbrev pub read_cause : ReadFault → ShortCause
read_cause reads.Fault = causes.Fault
read_cause (reads.Damaged table at) = causes.Damaged table at

-- this fault stops a table of the piece at its end, or at an entry more
abbrev pub StopsPiece : ℕ → List Entry → List Entry → PutFault → Type 0
StopsPiece full piece more fault = (blocks_fault (blocks_of full piece) ≡ Some fault)
    ⊎ ((e : Entry) × (more ≡ e ∷ []) × (push_fault full piece e ≡ Some fault))

-- of the table's first entries the last piece, cut at the keys, is stopped by this fault
pub record IsLimited {F : Type 0} (g : Ghosts F) (full : ℕ) (keys : List Bytes)
    (t : TableParts F) (fault : PutFault) : Type 0 where
  pub number : ℕ
  pub index : ℕ
  pub read : List Entry
  pub more : List Entry
  pub reach : Reaches g t index (read ++ more)
  pub stops : StopsPiece full (last_piece (pieces_from number keys read)) more fault

-- where the cause is damage, it stands in the table, and where it is a limit, a piece of it meets that
abbrev pub IsStoppedIn : {F : Type 0} → Ghosts F → ℕ → List Bytes → TableParts F → ShortCause → Type 0
IsStoppedIn g full keys t causes.Fault = Unit {0}
IsStoppedIn g full keys t (causes.Damaged number at) = IsDamagedAt g t number at
IsStoppedIn g full keys t (causes.Limit kind n) = IsLimited g full keys t (Limit kind n)
IsStoppedIn g full keys t causes.Memory = Unit {0}

-- where the cause is damage or a limit, it is that of one of the tables
abbrev pub IsStoppedBy : {F : Type 0} → Ghosts F → ℕ → List Bytes → List (TableParts F) → ShortCause
    → Type 0
IsStoppedBy {F} g full keys tables causes.Fault = Unit {0}
IsStoppedBy {F} g full keys tables (causes.Damaged number at) =
    (t : TableParts F) × IsIn t tables × IsDamagedAt g t number at
IsStoppedBy {F} g full keys tables (causes.Limit kind n) =
    (t : TableParts F) × IsIn t tables × IsLimited g full keys t (Limit kind n)
IsStoppedBy {F} g full keys tables causes.Memory = Unit {0}

-- the cause isn't damage
abbrev pub IsUndamaged : ShortCause → Type 0
IsUndamaged causes.Fault = Unit {0}
IsUndamaged (causes.Damaged number at) = ⊥
IsUndamaged (causes.Limit kind n) = Unit {0}
IsUndamaged causes.Memory = Unit {0}
