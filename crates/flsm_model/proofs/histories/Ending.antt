-- With what a record and its attempts end while a session is open.
use Rattle.std.proofs.Common.{◌≡◌, ◌≢◌, ℕ, ◌≤◌, Bool, true, false, cond, List, [], ◌∷◌, ◌++◌, map, ◌⊎◌, inl, inr, refl, sym, ◌∙◌, ap, subst}
use Rattle.std.specs.Prelude.{◌==◌, filter, Option, Some, None, IsSomeAnd, option_map, ⊤}
use Rattle.std.specs.List.{AllZip}
use Rattle.std.proofs.lemmas.Bool.{eqb-true, eqb-false, ne_eqb}
use Rattle.std.proofs.lemmas.List.{append-nil, append_assoc, map-append}
use Rattle.peb_base.specs.Profiles.{column, Column}
use Rattle.peb_base.specs.Tables.{table_length}
use Rattle.peb_base.specs.Members.{IsIn}
use Rattle.flsm_model.specs.declared.edit.Edit.{Edit}
use Rattle.flsm_model.specs.declared.edit.Edit.TheVariants.{Open}
use Rattle.flsm_model.specs.declared.job.Job.{Job}
use Rattle.flsm_model.specs.Shape.{Record, shape_after}
use Rattle.flsm_model.specs.Ledgers.{Shorts}
use Rattle.flsm_model.specs.Writes.{total}
use Rattle.flsm_model.specs.Events.{Event, Opened, Commit, Synced, Look, Hold, Release, Freeze, Begin, Done, Short, JournalFault, Stop, Running, Session, Attempt, Standing, base}
use Rattle.flsm_model.specs.Outcomes.{level_into, outcome, attempts_of, IsOutcome}
use Rattle.flsm_model.specs.Legal.{AllowedIn, IsLegal}
use Rattle.flsm_model.specs.Steps.{job_of, running_of, shorts_of, attempts_with, step, run}
use Rattle.flsm_model.specs.Stops.{edits_done, bytes_cut, IsShortOf, EndWithShorts, AlwaysEndsWithSession}
use Rattle.flsm_model.proofs.histories.Histories.{job_in, within}
use Rattle.flsm_model.proofs.contents.Places.{not_open, same_session}
use Rattle.flsm_model.proofs.lists.Lists.{EachBefore, each_before-filter}

zip_push : {A B : Type 0} (R : A → B → Type 0) (xs : List A) (ys : List B) (x : A) (y : B) → AllZip R xs ys → R x y → AllZip R (xs ++ x ∷ []) (ys ++ y ∷ [])
zip_push R [] [] x y h r = (r, tt)
zip_push R [] (b ∷ ys) x y h r = absurd h
zip_push R (a ∷ xs) [] x y h r = absurd h
zip_push R (a ∷ xs) (b ∷ ys) x y h r = (h.0, zip_push R xs ys x y h.1 r)

-- ---- an actor has one job

abbrev OneEach : List Running → Type 0
OneEach rs = EachBefore (λ r s. r.0 ≢ s.0) rs

busy : (j : Job) → Some j ≡ None → ⊥
busy j h = cc

-- none of these jobs is the actor's
no_job : (rs : List Running) (actor : ℕ) → ((s : Running) → IsIn s rs → s.0 ≢ actor) → filter (λ s. s.0 == actor) rs ≡ []
no_job [] actor h = refl
no_job (r ∷ rs) actor h = rw (ne_eqb r.0 actor (h r (inl refl))) (no_job rs actor (λ s i. h s (inr i)))

-- an actor without a job is none of those with jobs
idle_actor : (rs : List Running) (actor : ℕ) → job_of rs actor ≡ None → (s : Running) → IsIn s rs → actor ≢ s.0
idle_actor [] actor none s i e = absurd i
idle_actor (r ∷ rs) actor none s i e = by (r.0 == actor) refl none i (λ h b. idle_actor rs actor h s b e)
  where
    by : (b : Bool) → (r.0 == actor) ≡ b → cond b (Some r.1) (job_of rs actor) ≡ None → (s ≡ r) ⊎ IsIn s rs → (job_of rs actor ≡ None → IsIn s rs → ⊥) → ⊥
    by true q h j ih = busy r.1 h
    by false q h j ih = elim j [ inl a ↦ eqb-false r.0 actor q (sym (e ∙ ap (λ (x : Running). x.0) a)) | inr b ↦ ih h b ]

-- the jobs of an actor that has one are that one
the_job : (rs : List Running) (actor : ℕ) (P : Job → Type 0) → OneEach rs → IsSomeAnd (job_of rs actor) P → (r : Running) × (filter (λ s. s.0 == actor) rs ≡ r ∷ []) × P r.1
the_job [] actor P one h = absurd h
the_job (r ∷ rs) actor P one h = by (r.0 == actor) refl h (the_job rs actor P one.1)
  where
    by : (b : Bool) → (r.0 == actor) ≡ b → IsSomeAnd (cond b (Some r.1) (job_of rs actor)) P
        → (IsSomeAnd (job_of rs actor) P → (s : Running) × (filter (λ t. t.0 == actor) rs ≡ s ∷ []) × P s.1)
        → (s : Running) × (cond b (r ∷ filter (λ t. t.0 == actor) rs) (filter (λ t. t.0 == actor) rs) ≡ s ∷ []) × P s.1
    by true q x ih = (r, ap (λ ts. r ∷ ts) (no_job rs actor (λ t i e. one.0 t i (eqb-true r.0 actor q ∙ sym e))), x)
    by false q x ih = ih x

-- ---- what is kept while a session is open

abbrev Ends : Column → Standing → Record → List ℕ → Session → Type 0
Ends o w made cut n =
    ((before : Record) × (w.edits ≡ before ++ Open w.tree.shape.session n.log ∷ n.edits_made)) × (n.edits_made ≡ made) × (map (λ s. s.1) n.jobs_cut_short ≡ cut)
    × EndWithShorts o w.told w.attempts n.jobs_cut_short × OneEach n.running

abbrev EndsIn : Column → Standing → Record → List ℕ → Option Session → Type 0
EndsIn o w made cut None = ⊤
EndsIn o w made cut (Some n) = Ends o w made cut n

ends_map : (o : Column) (w v : Standing) (made made2 : Record) (cut cut2 : List ℕ) (s : Option Session) (f : Session → Session)
    → ((n : Session) → s ≡ Some n → Ends o w made cut n → Ends o v made2 cut2 (f n)) → EndsIn o w made cut s → EndsIn o v made2 cut2 (option_map f s)
ends_map o w v made made2 cut cut2 None f g h = tt
ends_map o w v made made2 cut cut2 (Some n) f g h = g n refl h

-- a job that is done
ends_done : (o : Column) (w : Standing) (made : Record) (cut : List ℕ) (n : Session) (actor : ℕ) (e : Edit) → AllowedIn o w n (Done actor e) → Ends o w made cut n
    → (before : Record) × (w.edits ++ e ∷ [] ≡ before ++ Open (shape_after w.tree.shape e).session n.log ∷ (n.edits_made ++ e ∷ []))
ends_done o w made cut n actor e a h =
    let out = job_in n.running actor (λ k. IsOutcome o w n k e) a.1 in
    let same = same_session w.tree.shape e (not_open o w n out.0 e out.2) in (
      h.0.0,
      ap (λ es. es ++ e ∷ []) h.0.1 ∙ append_assoc h.0.0 (Open w.tree.shape.session n.log ∷ n.edits_made) (e ∷ [])
          ∙ ap (λ s. h.0.0 ++ Open s n.log ∷ (n.edits_made ++ e ∷ [])) (sym same),
    )

-- a job that is cut short
ends_short : (o : Column) (w : Standing) (n : Session) (actor bytes : ℕ) (r : Running) (attempts : List Attempt) → attempts ≡ w.attempts ++ attempts_of o w n (running_of actor n)
    → running_of actor n ≡ r ∷ [] → (w.told ≡ true → bytes ≤ total (table_length o) (outcome o w n r.1)) → EndWithShorts o w.told w.attempts n.jobs_cut_short
    → EndWithShorts o w.told attempts (n.jobs_cut_short ++ shorts_of bytes (running_of actor n))
ends_short o w n actor bytes r attempts eq mine le h =
    record {
      before = h.before;
      since = h.since ++ attempts_of o w n (running_of actor n);
      all = eq ∙ ap (λ xs. xs ++ attempts_of o w n (running_of actor n)) h.all ∙ append_assoc h.before h.since (attempts_of o w n (running_of actor n));
      each = subst (λ rs. AllZip (IsShortOf o w.told) (n.jobs_cut_short ++ shorts_of bytes rs) (h.since ++ attempts_of o w n rs)) (sym mine)
          (zip_push (IsShortOf o w.told) n.jobs_cut_short h.since (level_into r.1, bytes) (level_into r.1, outcome o w n r.1) h.each (record { level = refl; bytes = le }));
    }

bytes_short : (shorts : Shorts) (cut : List ℕ) (bytes : ℕ) (rs : List Running) (r : Running) → map (λ s. s.1) shorts ≡ cut → rs ≡ r ∷ [] → map (λ s. s.1) (shorts ++ shorts_of bytes rs) ≡ cut ++ bytes ∷ []
bytes_short shorts cut bytes rs r is mine = ap (λ ts. map (λ s. s.1) (shorts ++ shorts_of bytes ts)) mine ∙ map-append (λ s. s.1) shorts ((level_into r.1, bytes) ∷ []) ∙ ap (λ bs. bs ++ bytes ∷ []) is

-- ---- over a history

ends_run : (o : Column) (w : Standing) (es : List Event) (made : Record) (cut : List ℕ) → EndsIn o w made cut w.session → IsLegal o w es
    → EndsIn o (run o w es) (edits_done made es) (bytes_cut cut es) (run o w es).session
ends_run o w [] made cut h l = h
ends_run o w (Opened session log ∷ es) made cut h l =
    ends_run o (step o w (Opened session log)) es [] [] ((w.edits, refl), refl, refl, record { before = w.attempts; since = []; all = sym (append-nil w.attempts); each = tt }, tt) l.1
ends_run o w (Commit actor first ops ∷ es) made cut h l = ends_run o (step o w (Commit actor first ops)) es made cut (ends_map o w (step o w (Commit actor first ops)) made made cut cut w.session _ (λ n e x. x) h) l.1
ends_run o w (Synced actor m ∷ es) made cut h l = ends_run o (step o w (Synced actor m)) es made cut (ends_map o w (step o w (Synced actor m)) made made cut cut w.session _ (λ n e x. x) h) l.1
ends_run o w (Look actor m ∷ es) made cut h l = ends_run o w es made cut h l.1
ends_run o w (Hold actor m ∷ es) made cut h l = ends_run o (step o w (Hold actor m)) es made cut (ends_map o w (step o w (Hold actor m)) made made cut cut w.session _ (λ n e x. x) h) l.1
ends_run o w (Release actor m ∷ es) made cut h l = ends_run o (step o w (Release actor m)) es made cut (ends_map o w (step o w (Release actor m)) made made cut cut w.session _ (λ n e x. x) h) l.1
ends_run o w (Freeze m ∷ es) made cut h l = ends_run o (step o w (Freeze m)) es made cut (ends_map o w (step o w (Freeze m)) made made cut cut w.session _ (λ n e x. x) h) l.1
ends_run o w (Begin actor job ∷ es) made cut h l =
    ends_run o (step o w (Begin actor job)) es made cut
    (ends_map o w (step o w (Begin actor job)) made made cut cut w.session _ (λ n e x. (x.0, x.1, x.2, x.3, (idle_actor n.running actor (within o w (Begin actor job) n e l.0).1, x.4))) h) l.1
ends_run o w (Done actor e ∷ es) made cut h l =
    ends_run o (step o w (Done actor e)) es (made ++ e ∷ []) cut
    (ends_map o w (step o w (Done actor e)) made (made ++ e ∷ []) cut cut w.session _
    (λ n q x. (ends_done o w made cut n actor e (within o w (Done actor e) n q l.0) x, ap (λ r. r ++ e ∷ []) x.1, x.2, x.3, each_before-filter _ _ n.running x.4)) h) l.1
ends_run o w (Short actor cause bytes ∷ es) made cut h l =
    ends_run o (step o w (Short actor cause bytes)) es made (cut ++ bytes ∷ [])
    (ends_map o w (step o w (Short actor cause bytes)) made made cut (cut ++ bytes ∷ []) w.session _ (λ n q x.
    let m = the_job n.running actor (λ j. w.told ≡ true → bytes ≤ total (table_length o) (outcome o w n j)) x.4 (within o w (Short actor cause bytes) n q l.0) in (
      x.0,
      x.1,
      bytes_short n.jobs_cut_short cut bytes (running_of actor n) m.0 x.2 m.1,
      ends_short o w n actor bytes m.0 (attempts_with o w w.session (running_of actor)) (ap (λ s. attempts_with o w s (running_of actor)) q) m.1 m.2 x.3,
      each_before-filter _ _ n.running x.4,
    )) h) l.1
ends_run o w (JournalFault ∷ es) made cut h l = ends_run o (step o w JournalFault) es made cut (ends_map o w (step o w JournalFault) made made cut cut w.session _ (λ n e x. x) h) l.1
ends_run o w (Stop m e ∷ es) made cut h l = ends_run o (step o w (Stop m e)) es made cut tt l.1

pub ends_with_session : AlwaysEndsWithSession
ends_with_session p told bs r h n b legal eq =
    let o = column p in
    let w = run o (base told o bs r) h in
    let x : Ends o w (edits_done [] h) (bytes_cut [] h) n = subst (EndsIn o w (edits_done [] h) (bytes_cut [] h)) eq (ends_run o (base told o bs r) h [] [] tt legal) in
    record { edits = x.0; made = x.1; bytes = x.2; shorts = x.3 }
