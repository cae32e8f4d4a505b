-- The order over whole histories.
use Rattle.std.proofs.Common.{◌≡◌, ℕ, Bool, true, false, ◌&&◌, List, refl, ◌∙◌, arith}
use Rattle.std.specs.Prelude.{◌==◌}
use Rattle.std.specs.List.{list_any}
use Rattle.std.proofs.lemmas.Bool.Decides.{nat_tests}
use Rattle.flsm_model.specs.Ranges.{is_below}
use Rattle.peb_base.specs.Profiles.{Column}
use Rattle.flsm_model.specs.declared.edit.Edit.{Edit}
use Rattle.flsm_model.specs.declared.edit.Edit.TheVariants.{Open, Flush, Move, Cut, Merge}
use Rattle.flsm_model.specs.declared.job_kind.JobKind.{JobKind}
use Rattle.flsm_model.specs.declared.job_kind.JobKind.TheVariants.{Flush as FlushJob, Move as MoveJob, Cut as CutJob, Merge as MergeJob}
use Rattle.flsm_model.specs.declared.job.Job.{Job}
use Rattle.flsm_model.specs.declared.mode.Mode.{Mode}
use Rattle.flsm_model.specs.declared.mode.Mode.TheVariants.{Take, Append, Cut as CutClaim}
use Rattle.flsm_model.specs.declared.claim.Claim.{Claim}
use Rattle.flsm_model.specs.Trees.{Tree, rows_of}
use Rattle.flsm_model.specs.Events.{Session, Running}
use Rattle.flsm_model.specs.Claims.{jobs_conflict, claims_conflict, modes_conflict, claims_of}
use Rattle.flsm_model.specs.Outcomes.{IsEditOf}
use Rattle.flsm_model.proofs.lists.Members.{IsIn}
use Rattle.flsm_model.proofs.guards.InGuards.{InGuards}
use Rattle.flsm_model.proofs.contents.Falls.{Falls, AllFlushed, InFlight, IsFor}
use Rattle.flsm_model.proofs.contents.Begin.{Spans, Known}
use Rattle.flsm_model.proofs.contents.Sorts.{AllSorted}
use Rattle.flsm_model.proofs.lists.Lists.{any_none, none_any, EachBefore}

-- no two of the jobs conflict, whichever is asked first
abbrev pub AllApart : List Running → Type 0
AllApart rs = EachBefore (λ r s. (jobs_conflict r.1 s.1 ≡ false) × (jobs_conflict s.1 r.1 ≡ false)) rs

-- what a tree keeps
pub record Sound (o : Column) (t : Tree) : Type 0 where
  pub rows : rows_of t.tables ≡ t.shape.live
  pub guards : InGuards o t.shape
  pub flushed : AllFlushed t.tables t.shape.to
  pub falls : Falls t.tables
  pub spans : Spans t.tables
  pub sorted : AllSorted t.tables
  pub known : Known t.shape

-- what holds of the jobs in flight
pub record AllInFlight (o : Column) (t : Tree) (rs : List Running) : Type 0 where
  pub each : (r : Running) → IsIn r rs → InFlight o t r.1
  pub apart : AllApart rs

-- an outcome of a job is an edit for it
pub for_job : (n : Session) (j : Job) (e : Edit) → IsEditOf j.kind n j e → IsFor j e
for_job n j e h = by j.kind refl e h
  where
    by : (a : JobKind) → j.kind ≡ a → (e : Edit) → IsEditOf a n j e → IsFor j e
    by FlushJob k (Flush row from to log chosen) h = tt
    by FlushJob k (Open session log) h = absurd h
    by FlushJob k (Move level floor inputs outputs) h = absurd h
    by FlushJob k (Cut level keys inputs outputs) h = absurd h
    by FlushJob k (Merge floor whole inputs outputs) h = absurd h
    by MoveJob k (Move level floor inputs outputs) h = (k, h.0, h.2)
    by MoveJob k (Open session log) h = absurd h
    by MoveJob k (Flush row from to log chosen) h = absurd h
    by MoveJob k (Cut level keys inputs outputs) h = absurd h
    by MoveJob k (Merge floor whole inputs outputs) h = absurd h
    by CutJob k (Cut level keys inputs outputs) h = (k, h.0, h.2)
    by CutJob k (Open session log) h = absurd h
    by CutJob k (Flush row from to log chosen) h = absurd h
    by CutJob k (Move level floor inputs outputs) h = absurd h
    by CutJob k (Merge floor whole inputs outputs) h = absurd h
    by MergeJob k (Merge floor whole inputs outputs) h = (k, h.2)
    by MergeJob k (Open session log) h = absurd h
    by MergeJob k (Flush row from to log chosen) h = absurd h
    by MergeJob k (Move level floor inputs outputs) h = absurd h
    by MergeJob k (Cut level keys inputs outputs) h = absurd h

pub never_open : (n : Session) (j : Job) (s l : ℕ) → IsEditOf j.kind n j (Open s l) → ⊥
never_open n j s l h = by j.kind h
  where
    by : (a : JobKind) → IsEditOf a n j (Open s l) → ⊥
    by FlushJob h = h
    by MoveJob h = h
    by CutJob h = h
    by MergeJob h = h

-- claims conflict both ways
and_swap : (a b : Bool) → (a && b) ≡ (b && a)
and_swap true true = refl
and_swap true false = refl
and_swap false true = refl
and_swap false false = refl

modes_swap : (a b : Mode) → modes_conflict a b ≡ modes_conflict b a
modes_swap Take Take = refl
modes_swap Take Append = refl
modes_swap Take CutClaim = refl
modes_swap Append Take = refl
modes_swap Append Append = refl
modes_swap Append CutClaim = refl
modes_swap CutClaim Take = refl
modes_swap CutClaim Append = refl
modes_swap CutClaim CutClaim = refl

pub level_swap : (a b : ℕ) → (a == b) ≡ (b == a)
level_swap a b = grind (arith, nat_tests)

claims_swap : (a b : Claim) → claims_conflict a b ≡ claims_conflict b a
claims_swap a b = λ i. (level_swap a.level b.level i && and_swap (is_below a.lo b.hi) (is_below b.lo a.hi) i) && modes_swap a.mode b.mode i

pub jobs_swap : (j k : Job) → jobs_conflict j k ≡ false → jobs_conflict k j ≡ false
jobs_swap j k h =
    none_any (λ a. list_any (claims_conflict a) (claims_of j)) (claims_of k)
    (λ a i. none_any (claims_conflict a) (claims_of j)
    (λ b m. claims_swap a b ∙ any_none (claims_conflict b) a (claims_of k) (any_none (λ c. list_any (claims_conflict c) (claims_of k)) b (claims_of j) h m) i))
