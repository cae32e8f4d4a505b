-- Which histories are legal.
use Rattle.std.specs.Prelude.{◌≡◌, Bool, ℕ, suc, ◌+◌, ◌*◌, ◌^◌, ◌<◌, ◌≤◌, true, ◌&&◌, ◌||◌, not, List, [], ◌∷◌, length, ◌==◌, Option, Some, None, IsSomeAnd, unwrap_or, ⊤}
use Rattle.peb_base.specs.Batches.{Batches, is_boundary, last_number}
use Rattle.peb_base.specs.Numbers.{session_of}
use Rattle.peb_base.specs.Profiles.{column, Column}
use Rattle.peb_base.specs.Tables.{table_length}
use Rattle.peb_base.specs.declared.profile.Profile.{Profile}
use Rattle.flsm_model.specs.declared.edit.Edit.{Edit}
use Rattle.flsm_model.specs.declared.edit.Edit.TheVariants.{Open}
use Rattle.flsm_model.specs.Shape.{Record, shape_of}
use Rattle.flsm_model.specs.Fits.{fits, is_legal_record}
use Rattle.flsm_model.specs.Writes.{total, one_if}
use Rattle.flsm_model.specs.TrueRecord.{IsTrueRecord}
use Rattle.flsm_model.specs.Events.{Event, Opened, Commit, Synced, Look, Hold, Release, Freeze, Begin, Done, Short, JournalFault, Stop, Running, Session, Standing, last_of, base}
use Rattle.flsm_model.specs.Jobs.{IsLawful}
use Rattle.flsm_model.specs.Outcomes.{outcome, IsOutcome}
use Rattle.flsm_model.specs.Steps.{job_of, is_held, step, run}

-- the edit is the outcome of one of these jobs
abbrev pub IsOutcomeOfOne : Column → Standing → Session → List Running → Edit → Type 0
IsOutcomeOfOne o w n rs e = (actor : ℕ) × IsSomeAnd (job_of rs actor) (λ j. IsOutcome o w n j e)

-- the jobs in flight at the journal's fault, if there was one, else now
abbrev pub last_running : Session → List Running
last_running n = unwrap_or n.faulted n.running

-- a stop may come here: at the end of a batch, or, where nothing is known of what tables hold, at
-- the last flush
abbrev pub is_end : Standing → ℕ → Bool
is_end w m = is_boundary m w.batches || (not w.told && m == w.tree.shape.to)

-- a stop may leave the edit that was being appended
abbrev pub MayStopWith : Column → Standing → Session → Option Edit → Type 0
MayStopWith o w n None = ⊤
MayStopWith o w n (Some e) = IsOutcomeOfOne o w n (last_running n) e

-- how many snapshots an actor holds
abbrev pub holds_of : ℕ → List (ℕ × ℕ) → ℕ
holds_of actor held = total (λ h. one_if (h.0 == actor)) held

-- what the event needs within the session
abbrev pub AllowedIn : Column → Standing → Session → Event → Type 0
AllowedIn o w n (Opened session log) = ⊥
AllowedIn o w n (Commit actor first ops) =
    (n.faulted ≡ None) × (1 ≤ length ops) × (length ops ≤ 1000)
    × (first ≡ w.tree.shape.session * 2 ^ 40 + 1 + n.committed)
    × (n.committed + length ops < 2 ^ 40)
AllowedIn o w n (Synced actor m) = (n.faulted ≡ None) × (m ≡ last_of w)
AllowedIn o w n (Look actor m) = m ≡ last_of w
AllowedIn o w n (Hold actor m) = (m ≡ last_of w) × (holds_of actor n.held < 64)
AllowedIn o w n (Release actor m) = is_held (actor, m) n.held ≡ true
AllowedIn o w n (Freeze m) =
    (n.faulted ≡ None) × (n.frozen ≡ None) × (n.mem_from < last_of w) × (m ≡ last_of w)
AllowedIn o w n (Begin actor job) =
    (n.faulted ≡ None) × (job_of n.running actor ≡ None) × IsLawful o w n job
AllowedIn o w n (Done actor e) =
    (n.faulted ≡ None) × IsSomeAnd (job_of n.running actor) (λ j. IsOutcome o w n j e)
AllowedIn o w n (Short actor cause bytes) =
    IsSomeAnd (job_of n.running actor) (λ j. w.told ≡ true → bytes ≤ total (table_length o) (outcome o w n j))
AllowedIn o w n JournalFault = n.faulted ≡ None
AllowedIn o w n (Stop m e) = (is_end w m ≡ true) × (n.stable ≤ m) × MayStopWith o w n e

-- what the event needs: an opening comes where no session is open, every other event within one
abbrev pub Allowed : Column → Standing → Option Session → Event → Type 0
Allowed o w None (Opened session log) =
    (fits o w.tree.shape (Open session log) ≡ true) × (session ≡ suc w.tree.shape.session)
    × (session ≤ 8388607)
Allowed o w None e = ⊥
Allowed o w (Some n) e = AllowedIn o w n e

-- each event may happen after those before it
abbrev pub IsLegal : Column → Standing → List Event → Type 0
IsLegal o w [] = ⊤
IsLegal o w (e ∷ es) = Allowed o w w.session e × IsLegal o (step o w e) es

-- a base from which histories go on: a legal record and batches of its sessions; where contents are
-- known, the record is true of them
pub record IsBase (told : Bool) (o : Column) (bs : Batches) (r : Record) : Type 0 where
  pub legal : is_legal_record o r ≡ true
  pub sessions : session_of (last_number bs) ≤ (shape_of o r).session
  pub holds : told ≡ true → IsTrueRecord o r bs

-- after every legal history over a base of which the record is true, stops and faults included
abbrev pub Always : (Column → Standing → Type 0) → Type 0
Always P =
    (p : Profile) (bs : Batches) (r : Record) (h : List Event)
    → IsTrueRecord (column p) r bs → IsLegal (column p) (base true (column p) bs r) h
    → P (column p) (run (column p) (base true (column p) bs r) h)

-- after every legal history over a base, also where nothing is known of what tables hold
abbrev pub AlwaysFormed : (Column → Standing → Type 0) → Type 0
AlwaysFormed P =
    (p : Profile) (told : Bool) (bs : Batches) (r : Record) (h : List Event)
    → IsBase told (column p) bs r → IsLegal (column p) (base told (column p) bs r) h
    → P (column p) (run (column p) (base told (column p) bs r) h)
