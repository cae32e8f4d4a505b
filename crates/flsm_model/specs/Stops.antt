-- What a history and a stop leave.
use Rattle.std.specs.Prelude.{◌≡◌, ℕ, suc, ◌+◌, ◌*◌, ◌^◌, ◌<◌, ◌≤◌, Bool, true, List, [], ◌∷◌, ◌++◌, map, Some, None}
use Rattle.std.specs.List.{AllZip}
use Rattle.peb_base.specs.Batches.{Batches}
use Rattle.peb_base.specs.Profiles.{column, Column}
use Rattle.peb_base.specs.Tables.{table_length}
use Rattle.peb_base.specs.declared.profile.Profile.{Profile}
use Rattle.flsm_model.specs.declared.edit.Edit.TheVariants.{Open}
use Rattle.flsm_model.specs.Shape.{Record, shape_of}
use Rattle.flsm_model.specs.Fits.{is_legal_record}
use Rattle.flsm_model.specs.Ledgers.{Shorts}
use Rattle.flsm_model.specs.Trees.{tree_of}
use Rattle.flsm_model.specs.TrueRecord.{IsTrueRecord}
use Rattle.flsm_model.specs.Writes.{total}
use Rattle.flsm_model.specs.Events.{Event, Opened, Done, Short, Stop, Session, Attempt, Standing, base, last_of}
use Rattle.flsm_model.specs.Steps.{run}
use Rattle.flsm_model.specs.Legal.{Allowed, AllowedIn, IsBase, IsLegal}

-- the record is true of the batches, and the tree is the one that it spells
pub record RecordIsTrue (o : Column) (w : Standing) : Type 0 where
  pub holds : IsTrueRecord o w.edits w.batches
  pub tree : w.tree ≡ tree_of o w.batches w.edits

-- the record is legal, and the shape is the one that it spells
pub record RecordIsLegal (o : Column) (w : Standing) : Type 0 where
  pub legal : is_legal_record o w.edits ≡ true
  pub shape : w.tree.shape ≡ shape_of o w.edits

-- the edits of the jobs that were done since the last opening, behind earlier ones
abbrev pub edits_done : Record → List Event → Record
edits_done r [] = r
edits_done r (Opened session log ∷ es) = edits_done [] es
edits_done r (Done actor e ∷ es) = edits_done (r ++ e ∷ []) es
edits_done r (e ∷ es) = edits_done r es

-- the bytes of the jobs that were cut short since the last opening, behind earlier ones
abbrev pub bytes_cut : List ℕ → List Event → List ℕ
bytes_cut bs [] = bs
bytes_cut bs (Opened session log ∷ es) = bytes_cut [] es
bytes_cut bs (Short actor cause bytes ∷ es) = bytes_cut (bs ++ bytes ∷ []) es
bytes_cut bs (e ∷ es) = bytes_cut bs es

-- a job that was cut short is this attempt: into the same level, and where contents are known, with
-- no more bytes than the tables of its outcome have
pub record IsShortOf (o : Column) (told : Bool) (short : ℕ × ℕ) (a : Attempt) : Type 0 where
  pub level : short.0 ≡ a.0
  pub bytes : told ≡ true → short.1 ≤ total (table_length o) a.1

-- the attempts end with these jobs that were cut short
pub record EndWithShorts (o : Column) (told : Bool) (attempts : List Attempt) (shorts : Shorts)
    : Type 0 where
  pub before : List Attempt
  pub since : List Attempt
  pub all : attempts ≡ before ++ since
  pub each : AllZip (IsShortOf o told) shorts since

-- the record ends with the session's opening and the edits of its jobs, the attempts with its jobs
-- that were cut short
pub record EndsWithSession (o : Column) (w : Standing) (h : List Event) (n : Session) : Type 0 where
  pub edits :
      (before : Record) × (w.edits ≡ before ++ Open w.tree.shape.session n.log ∷ n.edits_made)
  pub made : n.edits_made ≡ edits_done [] h
  pub bytes : map (λ s. s.1) n.jobs_cut_short ≡ bytes_cut [] h
  pub shorts : EndWithShorts o w.told w.attempts n.jobs_cut_short

-- so it is after every legal history over a base that leaves a session open
abbrev pub AlwaysEndsWithSession : Type 0
AlwaysEndsWithSession =
    (p : Profile) (told : Bool) (bs : Batches) (r : Record) (h : List Event) (n : Session)
    → IsBase told (column p) bs r → IsLegal (column p) (base told (column p) bs r) h
    → (run (column p) (base told (column p) bs r) h).session ≡ Some n
    → EndsWithSession (column p) (run (column p) (base told (column p) bs r) h) h n

-- the next session may be opened, with any log from the last flush's to the session's first
pub record OpensNext (o : Column) (w : Standing) : Type 0 where
  pub least : 1 ≤ w.tree.shape.log
  pub room : w.tree.shape.log ≤ w.tree.shape.session * 2 ^ 41 + 1
  pub opens : (log : ℕ) → w.tree.shape.log ≤ log → log ≤ w.tree.shape.session * 2 ^ 41 + 1
      → w.tree.shape.session < 8388607
      → Allowed o w None (Opened (suc w.tree.shape.session) log)

-- where no session is open stands a true base, from which the next session may be opened
abbrev pub StopLeavesBase : Column → Standing → Type 0
StopLeavesBase o w = w.session ≡ None → RecordIsTrue o w × OpensNext o w

-- while a session is open it may stop at the last number, whatever goes on in it
abbrev pub StopsAtLast : Column → Standing → Type 0
StopsAtLast o w = (n : Session) → w.session ≡ Some n → AllowedIn o w n (Stop (last_of w) None)
