-- Every legal history keeps the order.
use Rattle.std.proofs.Common.{◌≡◌, ℕ, ◌<◌, ◌≤◌, ◌≢◌, Bool, true, false, cond, ◌||◌, not, List, [], ◌∷◌, ◌++◌, map, ◌⊎◌, inl, inr, refl, sym, ◌∙◌, ap, subst, arith}
use Rattle.std.specs.Prelude.{◌==◌, filter, Option, Some, None, IsSomeAnd, option_map, unwrap_or, ⊤}
use Rattle.std.specs.List.{AllZip}
use Rattle.std.proofs.lemmas.Bool.{and_parts, and_right, eqb-true, eqb-false, eq-eqb, ne_eqb, ltb-true, not-true}
use Rattle.peb_base.specs.Batches.{Batches}
use Rattle.peb_base.specs.Numbers.{session_of}
use Rattle.flsm_model.specs.Trees.{Describes, Table, Tree, contents, tree_after}
use Rattle.peb_base.specs.declared.table_row.TableRow.{TableRow}
use Rattle.peb_base.specs.Profiles.{Column}
use Rattle.flsm_model.specs.declared.edit.Edit.{Edit}
use Rattle.flsm_model.specs.declared.edit.Edit.TheVariants.{Open, Flush, Move, Cut, Merge}
use Rattle.flsm_model.specs.declared.job.Job.{Job}
use Rattle.flsm_model.specs.Shape.{Shape, has_number, shape_after, outputs_of, rows_without}
use Rattle.flsm_model.specs.Fits.{fits, rows_are_new}
use Rattle.flsm_model.specs.Events.{Event, Opened, Commit, Synced, Look, Hold, Release, Freeze, Begin, Done, Short, JournalFault, Stop, Session, Standing, Running}
use Rattle.flsm_model.specs.Steps.{job_of, without_job, step, run}
use Rattle.flsm_model.specs.Claims.{is_free, jobs_conflict}
use Rattle.flsm_model.specs.Outcomes.{IsOutcome, IsEditOf}
use Rattle.flsm_model.specs.Jobs.{IsLawful}
use Rattle.flsm_model.specs.Legal.{Allowed, AllowedIn, IsLegal, last_running}
use Rattle.flsm_model.proofs.lists.Members.{IsIn}
use Rattle.flsm_model.proofs.contents.Bound.{rows_step}
use Rattle.flsm_model.proofs.guards.Facts.{move_facts, flush_facts, cut_facts, merge_facts}
use Rattle.flsm_model.proofs.guards.InGuards.{in_guards_step}
use Rattle.flsm_model.proofs.contents.Falls.{InFlight, IsFor, is_fresh, falls_step, flushed_step, after}
use Rattle.flsm_model.proofs.contents.Beside.{beside_step, fresh_less, new_is_fresh}
use Rattle.flsm_model.proofs.contents.Begin.{Known, begins}
use Rattle.flsm_model.proofs.contents.Sorts.{sorted_step, spans_step}
use Rattle.flsm_model.proofs.contents.Orders.{AllApart, Sound, AllInFlight, for_job, never_open, jobs_swap}
use Rattle.flsm_model.proofs.lists.Lists.{in_filter, in_append, each_before-filter}

-- ---- the tree after an outcome

pub fresh_rows : (o : Column) (s : Shape) (e : Edit) → fits o s e ≡ true → rows_are_new s.session s.used (outputs_of e) ≡ true
fresh_rows o s (Open session log) f = refl
fresh_rows o s (Flush row from to log chosen) f = (flush_facts o s row from to log chosen f).fresh
fresh_rows o s (Move level floor inputs outputs) f = (move_facts o s level floor inputs outputs f).fresh
fresh_rows o s (Cut level keys inputs outputs) f = (cut_facts o s level keys inputs outputs f).fresh
fresh_rows o s (Merge floor whole inputs outputs) f = (merge_facts o s floor whole inputs outputs f).fresh

has_new : (r : TableRow) (used : List ℕ) (rs : List TableRow) → IsIn r rs → has_number r.number (used ++ map (λ (x : TableRow). x.number) rs) ≡ true
has_new r [] [] i = absurd i
has_new r [] (q ∷ rs) i = elim i [
  | inl s ↦ rw (eq-eqb r.number q.number (ap (λ (x : TableRow). x.number) s)) refl
  | inr m ↦ by (r.number == q.number) (has_new r [] rs m)
]
  where
    by : (b : Bool) → has_number r.number (map (λ (x : TableRow). x.number) rs) ≡ true → (b || has_number r.number (map (λ (x : TableRow). x.number) rs)) ≡ true
    by true h = refl
    by false h = h
has_new r (a ∷ used) rs i = by (r.number == a) (has_new r used rs i)
  where
    by : (b : Bool) → has_number r.number (used ++ map (λ (x : TableRow). x.number) rs) ≡ true → (b || has_number r.number (used ++ map (λ (x : TableRow). x.number) rs)) ≡ true
    by true h = refl
    by false h = h

known_more : (s : Shape) (ns : List ℕ) (outs : List TableRow) (s2 : Shape) → s2.session ≡ s.session → s2.used ≡ s.used ++ map (λ (x : TableRow). x.number) outs
    → s2.live ≡ rows_without ns s.live ++ outs → rows_are_new s.session s.used outs ≡ true → Known s → Known s2
known_more s ns outs s2 session used live new k = record { known = known; older = older }
  where
    source : (r : TableRow) → IsIn r s2.live → IsIn r s.live ⊎ IsIn r outs
    source r i = elim (in_append r (rows_without ns s.live) outs (subst (IsIn r) live i)) [ inl a ↦ inl (in_filter _ r s.live a).0 | inr b ↦ inr b ]

    known : (r : TableRow) → IsIn r s2.live → is_fresh s2 r.number ≡ false
    known r i = elim (source r i) [
      | inl a ↦ rw (session, used) (fresh_less s (map (λ (x : TableRow). x.number) outs) r.number (k.known r a))
      | inr b ↦ rw used (and_right _ _ (ap not (has_new r s.used outs b)))
    ]

    older : (r : TableRow) → IsIn r s2.live → session_of r.number ≤ s2.session
    older r i = elim (source r i) [
      | inl a ↦ rw session (k.older r a)
      | inr b ↦ rw session (omega (arith, eqb-true (session_of r.number) s.session (new_is_fresh s.session s.used outs r new b).0))
    ]

pub known_step : (o : Column) (s : Shape) (e : Edit) → fits o s e ≡ true → Known s → Known (shape_after s e)
known_step o s (Open session log) f k =
    let newer : s.session < session = ltb-true s.session session (and_parts _ _ (and_parts _ _ (and_parts _ _ f).0).0).0 in
    record {
      known = λ r i. rw (ne_eqb (session_of r.number) session (λ e. omega (arith, k.older r i))) refl;
      older = λ r i. omega (arith, k.older r i);
    }
known_step o s (Flush row from to log chosen) f k = known_more s [] (row ∷ []) _ refl refl refl (fresh_rows o s (Flush row from to log chosen) f) k
known_step o s (Move level floor inputs outputs) f k = known_more s inputs outputs _ refl refl refl (fresh_rows o s (Move level floor inputs outputs) f) k
known_step o s (Cut level keys inputs outputs) f k = known_more s inputs outputs _ refl refl refl (fresh_rows o s (Cut level keys inputs outputs) f) k
known_step o s (Merge floor whole inputs outputs) f k = known_more s inputs outputs _ refl refl refl (fresh_rows o s (Merge floor whole inputs outputs) f) k

pub sound_step : (o : Column) (bs : Batches) (t : Tree) (j : Job) (e : Edit) → fits o t.shape e ≡ true → AllZip (Describes o) (outputs_of e) (contents o bs t e)
    → Sound o t → InFlight o t j → IsFor j e → Sound o (tree_after o bs t e)
sound_step o bs t j e f d s run for =
    record {
      rows = rows_step o bs t e d s.rows;
      guards = in_guards_step o t.shape e s.guards f;
      flushed = flushed_step o bs t e f s.flushed;
      falls = falls_step o bs t j e f s.rows s.falls s.flushed run for;
      spans = spans_step o bs t e d s.sorted s.spans;
      sorted = sorted_step o bs t e s.sorted;
      known = known_step o t.shape e f s.known;
    }

open_step : (o : Column) (bs : Batches) (t : Tree) (session log : ℕ) → fits o t.shape (Open session log) ≡ true → Sound o t → Sound o (tree_after o bs t (Open session log))
open_step o bs t session log f s =
    record {
      rows = rows_step o bs t (Open session log) tt s.rows;
      guards = in_guards_step o t.shape (Open session log) s.guards f;
      flushed = flushed_step o bs t (Open session log) f s.flushed;
      falls = record { falls = λ a b i k. s.falls.falls a b (old a i) (old b k) };
      spans = spans_step o bs t (Open session log) tt s.sorted s.spans;
      sorted = sorted_step o bs t (Open session log) s.sorted;
      known = known_step o t.shape (Open session log) f s.known;
    }
  where
    old : (a : Table) → IsIn a (tree_after o bs t (Open session log)).tables → IsIn a t.tables
    old a i = elim (after o bs t (Open session log) a i) [ inl h ↦ h.0 | inr h ↦ absurd h ]

-- ---- the jobs in flight

pub apart_pair : (rs : List Running) (r s : Running) → AllApart rs → IsIn r rs → IsIn s rs → r.0 ≢ s.0 → jobs_conflict r.1 s.1 ≡ false
apart_pair [] r s h i k ne = absurd i
apart_pair (q ∷ rs) r s h i k ne = elim i [
  | inl a ↦ elim k [
    | inl b ↦ absurd (ne (ap (λ (x : Running). x.0) (a ∙ sym b)))
    | inr b ↦ subst (λ (x : Running). jobs_conflict x.1 s.1 ≡ false) (sym a) (h.0 s b).0
  ]
  | inr a ↦ elim k [
    | inl b ↦ subst (λ (x : Running). jobs_conflict r.1 x.1 ≡ false) (sym b) (h.0 r a).1
    | inr b ↦ apart_pair rs r s h.1 a b ne
  ]
]

fewer : (o : Column) (t : Tree) (p : Running → Bool) (rs : List Running) → AllInFlight o t rs → AllInFlight o t (filter p rs)
fewer o t p rs h = record { each = λ r i. h.each r (in_filter p r rs i).0; apart = each_before-filter _ p rs h.apart }

pub job_in : (rs : List Running) (actor : ℕ) (P : Job → Type 0) → IsSomeAnd (job_of rs actor) P → (j : Job) × IsIn (actor, j) rs × P j
job_in [] actor P h = absurd h
job_in (r ∷ rs) actor P h = by (r.0 == actor) refl h (job_in rs actor P)
  where
    by : (b : Bool) → (r.0 == actor) ≡ b → IsSomeAnd (cond b (Some r.1) (job_of rs actor)) P
        → (IsSomeAnd (job_of rs actor) P → (j : Job) × IsIn (actor, j) rs × P j)
        → (j : Job) × (((actor, j) ≡ r) ⊎ IsIn (actor, j) rs) × P j
    by true e h ih = (r.1, inl (λ i. (sym (eqb-true r.0 actor e) i, r.1)), h)
    by false e h ih = let x = ih h in (x.0, inr x.1, x.2)

-- the other jobs, once one has ended with its outcome
ended : (o : Column) (w : Standing) (n : Session) (rs : List Running) (actor : ℕ) (j : Job) (e : Edit) → IsOutcome o w n j e → Sound o w.tree → IsIn (actor, j) rs
    → AllInFlight o w.tree rs → AllInFlight o (tree_after o w.batches w.tree e) (without_job rs actor)
ended o w n rs actor j e out s here h =
    record {
      each = λ r i.
          let p = in_filter (λ (x : Running). not (x.0 == actor)) r rs i in
          let ne : r.0 ≢ actor = eqb-false r.0 actor (not-true _ p.1) in
          beside_step o w.batches w.tree j r.1 e out.formed.fit s.rows s.flushed (h.each (actor, j) here) (for_job n j e out.formed.same)
          (apart_pair rs (actor, j) r h.apart here p.0 (λ x. ne (sym x)))
          (λ x y same. never_open n j x y (subst (λ z. IsEditOf j.kind n j z) same out.formed.same)) (h.each r p.0);
      apart = each_before-filter _ _ rs h.apart;
    }

-- ---- a whole session

abbrev pub JobsAt : Column → Tree → Option (List Running) → Type 0
JobsAt o t None = ⊤
JobsAt o t (Some rs) = AllInFlight o t rs

pub record JobsIn (o : Column) (t : Tree) (n : Session) : Type 0 where
  pub now : AllInFlight o t n.running
  pub fault : JobsAt o t n.faulted

abbrev pub JobsHold : Column → Tree → Option Session → Type 0
JobsHold o t None = ⊤
JobsHold o t (Some n) = JobsIn o t n

pub record Holds (o : Column) (w : Standing) : Type 0 where
  pub tells : w.told ≡ true
  pub sound : Sound o w.tree
  pub jobs : JobsHold o w.tree w.session

jobs_map : (o : Column) (t u : Tree) (s : Option Session) (f : Session → Session) → ((n : Session) → s ≡ Some n → JobsIn o t n → JobsIn o u (f n))
    → JobsHold o t s → JobsHold o u (option_map f s)
jobs_map o t u None f g h = tt
jobs_map o t u (Some n) f g h = g n refl h

-- what the session's jobs are at the journal's fault, or now
pub last_jobs : (o : Column) (t : Tree) (n : Session) → JobsIn o t n → AllInFlight o t (last_running n)
last_jobs o t n h = by n.faulted h.fault
  where
    by : (x : Option (List Running)) → JobsAt o t x → AllInFlight o t (unwrap_or x n.running)
    by None y = h.now
    by (Some rs) y = y

pub free_each : (o : Column) (j : Job) (rs : List Running) → is_free j rs ≡ true → (s : Running) → IsIn s rs → (jobs_conflict j s.1 ≡ false) × (jobs_conflict s.1 j ≡ false)
free_each o j [] f s i = absurd i
free_each o j (r ∷ rs) f s i =
    let a = and_parts (not (jobs_conflict j r.1)) (is_free j rs) f in
    elim i [
      | inl e ↦ let none : jobs_conflict j s.1 ≡ false = ap (λ (x : Running). jobs_conflict j x.1) e ∙ not-true _ a.0 in (none, jobs_swap j s.1 none)
      | inr m ↦ free_each o j rs a.1 s m
    ]

same_jobs : (o : Column) (t : Tree) (w : Standing) (f : Session → Session) → ((n : Session) → (f n).running ≡ n.running) → ((n : Session) → (f n).faulted ≡ n.faulted)
    → JobsHold o t w.session → JobsHold o t (option_map f w.session)
same_jobs o t w f a b h =
    jobs_map o t t w.session f (λ n e j. record { now = subst (AllInFlight o t) (sym (a n)) j.now; fault = subst (JobsAt o t) (sym (b n)) j.fault }) h

-- the event in its session
pub within : (o : Column) (w : Standing) (e : Event) (n : Session) → w.session ≡ Some n → Allowed o w w.session e → AllowedIn o w n e
within o w e n s a = subst (λ x. Allowed o w x e) s a

pub holds_step : (o : Column) (w : Standing) (e : Event) → 0 < o.last_level → Holds o w → Allowed o w w.session e → Holds o (step o w e)
holds_step o w (Opened session log) deep h a = by w.session a
  where
    by : (s : Option Session) → Allowed o w s (Opened session log) → Holds o (step o w (Opened session log))
    by None x =
        record {
          tells = h.tells;
          sound = open_step o w.batches w.tree session log x.0 h.sound;
          jobs = record { now = record { each = λ r i. absurd i; apart = tt }; fault = tt };
        }
    by (Some n) x = absurd x
holds_step o w (Commit actor first ops) deep h a = record { tells = h.tells; sound = h.sound; jobs = same_jobs o w.tree w _ (λ n. refl) (λ n. refl) h.jobs }
holds_step o w (Synced actor m) deep h a = record { tells = h.tells; sound = h.sound; jobs = same_jobs o w.tree w _ (λ n. refl) (λ n. refl) h.jobs }
holds_step o w (Look actor m) deep h a = h
holds_step o w (Hold actor m) deep h a = record { tells = h.tells; sound = h.sound; jobs = same_jobs o w.tree w _ (λ n. refl) (λ n. refl) h.jobs }
holds_step o w (Release actor m) deep h a = record { tells = h.tells; sound = h.sound; jobs = same_jobs o w.tree w _ (λ n. refl) (λ n. refl) h.jobs }
holds_step o w (Freeze m) deep h a = record { tells = h.tells; sound = h.sound; jobs = same_jobs o w.tree w _ (λ n. refl) (λ n. refl) h.jobs }
holds_step o w (Begin actor job) deep h a =
    record {
      tells = h.tells;
      sound = h.sound;
      jobs = jobs_map o w.tree w.tree w.session _ (λ n s j.
          let x = within o w (Begin actor job) n s a in
          let l : IsLawful o w n job = x.2 in
          record {
            now = record {
              each = λ r i. elim i [
                | inl e ↦ subst (λ (y : Running). InFlight o w.tree y.1) (sym e) (begins o w.tree job h.sound.rows h.sound.spans h.sound.known n h.sound.guards h.sound.falls deep l.kind)
                | inr m ↦ j.now.each r m
              ];
              apart = (free_each o job n.running l.free, j.now.apart);
            };
            fault = j.fault;
          }) h.jobs;
    }
holds_step o w (Done actor e) deep h a = by w.session refl a h.jobs
  where
    by : (s : Option Session) → w.session ≡ s → Allowed o w s (Done actor e) → JobsHold o w.tree s → Holds o (step o w (Done actor e))
    by None eq x j = absurd x
    by (Some n) eq x j =
        let out = job_in n.running actor (λ k. IsOutcome o w n k e) x.1 in
        let mine : InFlight o w.tree out.0 = j.now.each (actor, out.0) out.1 in
        record {
          tells = h.tells;
          sound = sound_step o w.batches w.tree out.0 e out.2.formed.fit (out.2.holds h.tells) h.sound mine (for_job n out.0 e out.2.formed.same);
          jobs = rw eq (record {
            now = ended o w n n.running actor out.0 e out.2 h.sound out.1 j.now;
            fault = subst (JobsAt o (tree_after o w.batches w.tree e)) (sym x.0) tt;
          });
        }
holds_step o w (Short actor cause bytes) deep h a =
    record {
      tells = h.tells;
      sound = h.sound;
      jobs = jobs_map o w.tree w.tree w.session _ (λ n s j. record { now = fewer o w.tree (λ r. not (r.0 == actor)) n.running j.now; fault = j.fault }) h.jobs;
    }
holds_step o w JournalFault deep h a =
    record { tells = h.tells; sound = h.sound; jobs = jobs_map o w.tree w.tree w.session _ (λ n s j. record { now = j.now; fault = j.now }) h.jobs }
holds_step o w (Stop m None) deep h a = record { tells = h.tells; sound = h.sound; jobs = tt }
holds_step o w (Stop m (Some e)) deep h a = by w.session a h.jobs
  where
    by : (s : Option Session) → Allowed o w s (Stop m (Some e)) → JobsHold o w.tree s → Holds o (step o w (Stop m (Some e)))
    by None x j = absurd x
    by (Some n) x j =
        let out = job_in (last_running n) x.2.0 (λ k. IsOutcome o w n k e) x.2.1 in
        let mine : InFlight o w.tree out.0 = (last_jobs o w.tree n j).each (x.2.0, out.0) out.1 in
        record { tells = h.tells; sound = sound_step o w.batches w.tree out.0 e out.2.formed.fit (out.2.holds h.tells) h.sound mine (for_job n out.0 e out.2.formed.same); jobs = tt }

pub holds_run : (o : Column) (w : Standing) (es : List Event) → 0 < o.last_level → Holds o w → IsLegal o w es → Holds o (run o w es)
holds_run o w [] deep h l = h
holds_run o w (e ∷ es) deep h l = holds_run o (step o w e) es deep (holds_step o w e deep h l.0) l.1
