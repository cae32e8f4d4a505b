-- What holds of a job when it begins, and is kept when other jobs end, holds of each job in flight.
use Rattle.std.proofs.Common.{◌≡◌, ◌≢◌, ℕ, false, not, List, inl, inr, refl, sym, subst}
use Rattle.std.specs.Prelude.{◌==◌, Option, Some, None, option_map, ⊤}
use Rattle.std.proofs.lemmas.Bool.{eqb-false, not-true}
use Rattle.peb_base.specs.Profiles.{Column}
use Rattle.flsm_model.specs.declared.edit.Edit.{Edit}
use Rattle.flsm_model.specs.declared.job.Job.{Job}
use Rattle.flsm_model.specs.Trees.{Tree, tree_after}
use Rattle.flsm_model.specs.Events.{Event, Opened, Commit, Synced, Look, Hold, Release, Freeze, Begin, Done, Short, JournalFault, Stop, Session, Standing, last_of, Running}
use Rattle.flsm_model.specs.Claims.{jobs_conflict}
use Rattle.flsm_model.specs.Outcomes.{IsOutcome}
use Rattle.flsm_model.specs.Jobs.{IsLawful}
use Rattle.flsm_model.specs.Legal.{Allowed, AllowedIn}
use Rattle.flsm_model.specs.Steps.{without_job, step}
use Rattle.peb_base.specs.Members.{IsIn}
use Rattle.flsm_model.proofs.contents.Orders.{AllApart}
use Rattle.flsm_model.proofs.histories.Histories.{job_in, apart_pair, free_each, within}
use Rattle.flsm_model.proofs.histories.Sessions.{Numbers, NumbersHold, InNumbers, NumbersApart, blocks_apart}
use Rattle.flsm_model.proofs.lists.Lists.{in_filter, each_before-filter}

abbrev pub EachJob : (Tree → Job → Type 0) → Tree → List Running → Type 0
EachJob J t rs = (r : Running) → IsIn r rs → J t r.1

abbrev pub FaultJobs : (Tree → Job → Type 0) → Tree → Option (List Running) → Type 0
FaultJobs J t None = ⊤
FaultJobs J t (Some rs) = EachJob J t rs

abbrev pub InEach : (Tree → Job → Type 0) → Tree → Option Session → Type 0
InEach J t None = ⊤
InEach J t (Some n) = EachJob J t n.running × FaultJobs J t n.faulted

each_map : (J : Tree → Job → Type 0) (t u : Tree) (s : Option Session) (f : Session → Session)
    → ((n : Session) → s ≡ Some n → EachJob J t n.running × FaultJobs J t n.faulted → EachJob J u (f n).running × FaultJobs J u (f n).faulted)
    → InEach J t s → InEach J u (option_map f s)
each_map J t u None f g h = tt
each_map J t u (Some n) f g h = g n refl h

-- ---- jobs without a conflict

-- at the journal's fault, if there was one
abbrev pub FaultApart : Option (List Running) → Type 0
FaultApart None = ⊤
FaultApart (Some rs) = AllApart rs

-- the jobs in flight don't conflict, nor did those at the journal's fault
abbrev pub JobsApart : Option Session → Type 0
JobsApart None = ⊤
JobsApart (Some n) = AllApart n.running × FaultApart n.faulted

apart_map : (s : Option Session) (f : Session → Session) → ((n : Session) → s ≡ Some n → AllApart n.running × FaultApart n.faulted → AllApart (f n).running × FaultApart (f n).faulted)
    → JobsApart s → JobsApart (option_map f s)
apart_map None f g h = tt
apart_map (Some n) f g h = g n refl h

pub apart_step : (o : Column) (w : Standing) (e : Event) → JobsApart w.session → Allowed o w w.session e → JobsApart (step o w e).session
apart_step o w (Opened session log) h a = by w.session a
  where
    by : (s : Option Session) → Allowed o w s (Opened session log) → JobsApart (step o w (Opened session log)).session
    by None x = (tt, tt)
    by (Some n) x = absurd x
apart_step o w (Commit actor first ops) h a = apart_map w.session _ (λ n e x. x) h
apart_step o w (Synced actor m) h a = apart_map w.session _ (λ n e x. x) h
apart_step o w (Look actor m) h a = h
apart_step o w (Hold actor m) h a = apart_map w.session _ (λ n e x. x) h
apart_step o w (Release actor m) h a = apart_map w.session _ (λ n e x. x) h
apart_step o w (Freeze m) h a = apart_map w.session _ (λ n e x. x) h
apart_step o w (Begin actor job) h a =
    apart_map w.session _ (λ n e x. let l : IsLawful o w n job = (within o w (Begin actor job) n e a).2 in ((free_each o job n.running l.free, x.0), x.1)) h
apart_step o w (Done actor e) h a = apart_map w.session _ (λ n s x. (each_before-filter _ _ n.running x.0, x.1)) h
apart_step o w (Short actor cause bytes) h a = apart_map w.session _ (λ n s x. (each_before-filter _ _ n.running x.0, x.1)) h
apart_step o w JournalFault h a = apart_map w.session _ (λ n e x. (x.0, x.0)) h
apart_step o w (Stop m e) h a = tt

-- ---- what holds of each job

-- a job that ends beside another one
pub record Ends (o : Column) (w : Standing) (n : Session) (j k : Job) (e : Edit) : Type 0 where
  pub outcome : IsOutcome o w n j e
  pub mine : (actor : ℕ) × IsIn (actor, j) n.running
  pub other : (actor : ℕ) × IsIn (actor, k) n.running
  pub apart : jobs_conflict j k ≡ false
  pub numbers : NumbersApart j k

-- the other job, where one of the session ends
pub ends_beside : (o : Column) (w : Standing) (n : Session) (actor : ℕ) (e : Edit) (r : Running) → AllApart n.running → InNumbers w.tree.shape (last_of w) n → AllowedIn o w n (Done actor e)
    → IsIn r (without_job n.running actor) → (j : Job) × Ends o w n j r.1 e × IsIn (actor, j) n.running × IsIn r n.running
ends_beside o w n actor e r ap num a i =
    let out = job_in n.running actor (λ k. IsOutcome o w n k e) a.1 in
    let p = in_filter (λ (z : Running). not (z.0 == actor)) r n.running i in
    let ne : r.0 ≢ actor = eqb-false r.0 actor (not-true _ p.1) in
    let ne2 : actor ≢ r.0 = λ q. ne (sym q) in (
      out.0,
      record {
        outcome = out.2;
        mine = (actor, out.1);
        other = (r.0, p.0);
        apart = apart_pair n.running (actor, out.0) r ap out.1 p.0 ne2;
        numbers = blocks_apart _ n.running (actor, out.0) r num.blocks out.1 p.0 ne2;
      },
      out.1,
      p.0,
    )

module _ (o : Column) (K : Standing → Type 0) (J : Tree → Job → Type 0)
    (parts : (w : Standing) → K w → JobsApart w.session × Numbers w)
    (start : (w : Standing) (n : Session) (j : Job) → K w → w.session ≡ Some n → IsLawful o w n j → J w.tree j)
    (keep : (w : Standing) (n : Session) (j k : Job) (e : Edit) → K w → w.session ≡ Some n → Ends o w n j k e → J w.tree j → J w.tree k → J (tree_after o w.batches w.tree e) k) where
  pub each_step : (w : Standing) (e : Event) → K w → InEach J w.tree w.session → Allowed o w w.session e → InEach J (step o w e).tree (step o w e).session
  each_step w (Opened session log) al h a = by w.session a
    where
      by : (s : Option Session) → Allowed o w s (Opened session log) → InEach J (step o w (Opened session log)).tree (step o w (Opened session log)).session
      by None x = ((λ r i. absurd i), tt)
      by (Some n) x = absurd x
  each_step w (Commit actor first ops) al h a = each_map J w.tree w.tree w.session _ (λ n e x. x) h
  each_step w (Synced actor m) al h a = each_map J w.tree w.tree w.session _ (λ n e x. x) h
  each_step w (Look actor m) al h a = h
  each_step w (Hold actor m) al h a = each_map J w.tree w.tree w.session _ (λ n e x. x) h
  each_step w (Release actor m) al h a = each_map J w.tree w.tree w.session _ (λ n e x. x) h
  each_step w (Freeze m) al h a = each_map J w.tree w.tree w.session _ (λ n e x. x) h
  each_step w (Begin actor job) al h a =
      each_map J w.tree w.tree w.session _ (λ n e x.
      let y = within o w (Begin actor job) n e a in
      ((λ r i. elim i [ inl s ↦ subst (λ (z : Running). J w.tree z.1) (sym s) (start w n job al e y.2) | inr m ↦ x.0 r m ]), x.1)) h
  each_step w (Done actor e) al h a = by w.session refl a h (parts w al).0 (parts w al).1
    where
      by : (s : Option Session) → w.session ≡ s → Allowed o w s (Done actor e) → InEach J w.tree s → JobsApart s → NumbersHold w.tree.shape (last_of w) s
          → InEach J (tree_after o w.batches w.tree e) (step o w (Done actor e)).session
      by None eq x y ap num = absurd x
      by (Some n) eq x y ap num =
          rw eq (
            (λ r i. let b = ends_beside o w n actor e r ap.0 num x i in keep w n b.0 r.1 e al eq b.1 (y.0 (actor, b.0) b.2) (y.0 r b.3)),
            subst (FaultJobs J (tree_after o w.batches w.tree e)) (sym x.0) tt,
          )
  each_step w (Short actor cause bytes) al h a =
      each_map J w.tree w.tree w.session _ (λ n e x. ((λ r i. x.0 r (in_filter (λ (z : Running). not (z.0 == actor)) r n.running i).0), x.1)) h
  each_step w JournalFault al h a = each_map J w.tree w.tree w.session _ (λ n e x. (x.0, x.0)) h
  each_step w (Stop m e) al h a = tt
