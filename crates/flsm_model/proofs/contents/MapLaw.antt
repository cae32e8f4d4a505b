-- The law of the map over whole histories.
use Rattle.std.proofs.Common.{◌≡◌, ℕ, ◌+◌, ◌<◌, ◌≤◌, false, not, List, [], ◌∷◌, ◌++◌, length, ◌⊎◌, inl, inr, refl, sym, ◌∙◌, ap, subst, arith, true, ◌&&◌}
use Rattle.std.proofs.lemmas.Bool.{and_parts, or_cases, true≢false}
use Rattle.std.specs.Prelude.{◌==◌, ◌↔◌, Option, Some, None, option_map, unwrap_or, ⊤}
use Rattle.peb_base.specs.Batches.{Batches, batches_to, is_boundary, last_number}
use Rattle.peb_base.specs.declared.entry.Entry.{Entry}
use Rattle.peb_base.specs.Profiles.{Column}
use Rattle.flsm_model.specs.declared.edit.Edit.{Edit}
use Rattle.flsm_model.specs.declared.edit.Edit.TheVariants.{Open, Flush, Move, Cut, Merge}
use Rattle.flsm_model.specs.declared.job_kind.JobKind.{JobKind}
use Rattle.flsm_model.specs.declared.job_kind.JobKind.TheVariants.{Flush as FlushJob, Move as MoveJob, Cut as CutJob, Merge as MergeJob}
use Rattle.flsm_model.specs.declared.job.Job.{Job}
use Rattle.flsm_model.specs.Shape.{has_number}
use Rattle.flsm_model.specs.Trees.{Table, Tree, tree_after, tables_without}
use Rattle.flsm_model.specs.Events.{Event, Opened, Commit, Synced, Look, Hold, Release, Freeze, Begin, Done, Short, JournalFault, Stop, Session, Standing, Running, last_of}
use Rattle.flsm_model.specs.Jobs.{floor_of, IsLawful}
use Rattle.flsm_model.specs.Steps.{frozen_left, without_job, running_of, shorts_of, step, run}
use Rattle.flsm_model.specs.Legal.{last_running, is_end, Allowed}
use Rattle.flsm_model.specs.Outcomes.{IsEditOf, IsOutcome}
use Rattle.flsm_model.proofs.lists.Members.{IsIn}
use Rattle.flsm_model.proofs.contents.Falls.{after, is_fresh, InFlight}
use Rattle.flsm_model.proofs.contents.Begin.{row_in}
use Rattle.flsm_model.proofs.contents.Orders.{Sound}
use Rattle.flsm_model.proofs.histories.Histories.{Holds, JobsHold, job_in, last_jobs, fresh_rows, within}
use Rattle.flsm_model.proofs.contents.Places.{Placed, Within}
use Rattle.flsm_model.proofs.contents.Covers.{Live, OneByNumber, one_step, newest_same}
use Rattle.flsm_model.proofs.contents.Maps.{Flushed}
use Rattle.flsm_model.proofs.contents.Shown.{to_kept, ShowsAt, AtLevels, floor_last, floor_more, floor_released, levels_step, outcome_shows, pushed_same, dropped_same}
use Rattle.flsm_model.proofs.lists.Lists.{in_filter, in_left, in_kept}

-- where the last flush is of batches that are there, the last number is theirs
pub last_same : (w : Standing) → w.tree.shape.to ≤ last_number w.batches → last_of w ≡ last_number w.batches
last_same w h = omega (arith, h)

-- no job's floor is above the floor now
abbrev pub FloorsBelow : List Running → ℕ → Type 0
FloorsBelow rs floor = (r : Running) → IsIn r rs → r.1.floor ≤ floor

abbrev pub FaultFloors : Option (List Running) → ℕ → Type 0
FaultFloors None floor = ⊤
FaultFloors (Some rs) floor = FloorsBelow rs floor

pub record InSession (to last : ℕ) (n : Session) : Type 0 where
  pub stable : to ≤ n.stable
  pub stable_last : n.stable ≤ last
  pub frozen : (k : ℕ) → n.frozen ≡ Some k → k ≤ n.stable
  pub floors : FloorsBelow n.running (floor_of n.held last)
  pub faults : FaultFloors n.faulted (floor_of n.held last)

abbrev pub SessionShows : ℕ → ℕ → Option Session → Type 0
SessionShows to last None = ⊤
SessionShows to last (Some n) = InSession to last n

-- a number that some reader may use: at or above the least held number and the last
abbrev pub Readable : ℕ → Option Session → ℕ → Type 0
Readable last None m = ⊥
Readable last (Some n) m = floor_of n.held last ≤ m

pub record Shows (o : Column) (w : Standing) : Type 0 where
  pub one : OneByNumber w.tree.tables
  pub levels : AtLevels o w.tree.tables
  pub to_last : w.tree.shape.to ≤ last_number w.batches
  pub session : SessionShows w.tree.shape.to (last_number w.batches) w.session
  pub shown : (m : ℕ) → (w.tree.shape.to ≤ m) ⊎ Readable (last_number w.batches) w.session m → ShowsAt w.tree w.batches m

-- a change of the session alone, under which the floor doesn't fall
session_only : (o : Column) (w : Standing) (f : Session → Session)
    → ((n : Session) → w.session ≡ Some n → InSession w.tree.shape.to (last_number w.batches) n
    → InSession w.tree.shape.to (last_number w.batches) (f n) × (floor_of n.held (last_number w.batches) ≤ floor_of (f n).held (last_number w.batches)))
    → Shows o w → Shows o (record w { session = option_map f w.session })
session_only o w f g h = record { one = h.one; levels = h.levels; to_last = h.to_last; session = more w.session refl h.session; shown = λ m at. h.shown m (less m w.session refl h.session at) }
  where
    more : (s : Option Session) → w.session ≡ s → SessionShows w.tree.shape.to (last_number w.batches) s → SessionShows w.tree.shape.to (last_number w.batches) (option_map f s)
    more None e x = tt
    more (Some n) e x = (g n e x).0

    less : (m : ℕ) (s : Option Session) → w.session ≡ s → SessionShows w.tree.shape.to (last_number w.batches) s
        → (w.tree.shape.to ≤ m) ⊎ Readable (last_number w.batches) (option_map f s) m → (w.tree.shape.to ≤ m) ⊎ Readable (last_number w.batches) w.session m
    less m None e x at = elim at [ inl a ↦ inl a | inr b ↦ absurd b ]
    less m (Some n) e x at = elim at [ inl a ↦ inl a | inr b ↦ inr (rw e (omega (arith, (g n e x).1))) ]

-- an outcome, and the batches as they are
outcome_step : (o : Column) (w : Standing) (n : Session) (rs : List Running) (actor : ℕ) (j : Job) (e : Edit) → w.told ≡ true → IsOutcome o w n j e → Sound o w.tree → InFlight o w.tree j
    → IsIn (actor, j) rs → FloorsBelow rs (floor_of n.held (last_number w.batches)) → w.session ≡ Some n → Shows o w
    → (m : ℕ) → ((tree_after o w.batches w.tree e).shape.to ≤ m) ⊎ (floor_of n.held (last_number w.batches) ≤ m) → ShowsAt (tree_after o w.batches w.tree e) w.batches m
outcome_step o w n rs actor j e tells out s run i fl eq h =
    outcome_shows o w.batches w.tree n j e (floor_of n.held (last_number w.batches)) out.formed.same out.formed.fit (out.holds tells) s run h.one h.levels (fl (actor, j) i)
    (λ m at. h.shown m (elim at [ inl a ↦ inl a | inr b ↦ inr (rw eq b) ]))

-- the last flush after an outcome is stable
pub to_after : (o : Column) (w : Standing) (n : Session) (j : Job) (e : Edit) → IsEditOf j.kind n j e → InSession w.tree.shape.to (last_number w.batches) n
    → (tree_after o w.batches w.tree e).shape.to ≤ n.stable
to_after o w n j e same x = by j.kind e same
  where
    by : (a : JobKind) (e : Edit) → IsEditOf a n j e → (tree_after o w.batches w.tree e).shape.to ≤ n.stable
    by FlushJob (Flush row from to log chosen) q = x.frozen to q.0
    by FlushJob (Open session log) q = absurd q
    by FlushJob (Move level fl inputs outputs) q = absurd q
    by FlushJob (Cut level keys inputs outputs) q = absurd q
    by FlushJob (Merge fl whole inputs outputs) q = absurd q
    by MoveJob (Move level fl inputs outputs) q = x.stable
    by MoveJob (Open session log) q = absurd q
    by MoveJob (Flush row from to log chosen) q = absurd q
    by MoveJob (Cut level keys inputs outputs) q = absurd q
    by MoveJob (Merge fl whole inputs outputs) q = absurd q
    by CutJob (Cut level keys inputs outputs) q = x.stable
    by CutJob (Open session log) q = absurd q
    by CutJob (Flush row from to log chosen) q = absurd q
    by CutJob (Move level fl inputs outputs) q = absurd q
    by CutJob (Merge fl whole inputs outputs) q = absurd q
    by MergeJob (Merge fl whole inputs outputs) q = x.stable
    by MergeJob (Open session log) q = absurd q
    by MergeJob (Flush row from to log chosen) q = absurd q
    by MergeJob (Move level fl inputs outputs) q = absurd q
    by MergeJob (Cut level keys inputs outputs) q = absurd q

pub still_frozen : (e : Edit) (f : Option ℕ) (k : ℕ) → frozen_left e f ≡ Some k → f ≡ Some k
still_frozen (Flush row from to log chosen) f k h = absurd (none_some h)
  where
    none_some : None ≡ Some k → ⊥
    none_some q = cc
still_frozen (Open session log) f k h = h
still_frozen (Move level fl inputs outputs) f k h = h
still_frozen (Cut level keys inputs outputs) f k h = h
still_frozen (Merge fl whole inputs outputs) f k h = h

known_tables : (o : Column) (t : Tree) → Sound o t → (u : Table) → IsIn u t.tables → is_fresh t.shape u.row.number ≡ false
known_tables o t s u i = s.known.known u.row (subst (IsIn u.row) s.rows (row_in u t.tables i))

-- the batches change, and what is flushed of them doesn't
same_batches : (t : Tree) (bs cs : Batches) (m : ℕ) → ((x : Entry) → Flushed bs t.shape.to x ↔ Flushed cs t.shape.to x) → ShowsAt t bs m → ShowsAt t cs m
same_batches t bs cs m q h x put =
    let r = h x put in (
      λ a. newest_same (Flushed bs t.shape.to) (Flushed cs t.shape.to) x m q (r.0 a),
      λ a. r.1 (newest_same (Flushed cs t.shape.to) (Flushed bs t.shape.to) x m (λ y. ((q y).1, (q y).0)) a),
    )

open_shows : (o : Column) (bs : Batches) (t : Tree) (session log m : ℕ) → ShowsAt t bs m → ShowsAt (tree_after o bs t (Open session log)) bs m
open_shows o bs t session log m h x put =
    let r = h x put in (
      λ a. r.0 (newest_same (Live (tree_after o bs t (Open session log))) (Live t) x m (λ y. ((same y).1, (same y).0)) a),
      λ a. newest_same (Live t) (Live (tree_after o bs t (Open session log))) x m same (r.1 a),
    )
  where
    same : (y : Entry) → Live t y ↔ Live (tree_after o bs t (Open session log)) y
    same y = (
      λ l. record { table = l.table; among = in_left l.table (tables_without [] t.tables) [] (in_kept (λ (u : Table). not (has_number u.row.number [])) l.table t.tables l.among refl); inside = l.inside },
      λ l. record { table = l.table; among = elim (after o bs t (Open session log) l.table l.among) [ inl a ↦ a.0 | inr b ↦ absurd b ]; inside = l.inside },
    )

raise : (f : Option (List Running)) (a b : ℕ) → a ≤ b → FaultFloors f a → FaultFloors f b
raise None a b l h = tt
raise (Some rs) a b l h = λ r i. omega (arith, h r i)

last_floors : (f : Option (List Running)) (rs : List Running) (a : ℕ) → FloorsBelow rs a → FaultFloors f a → FloorsBelow (unwrap_or f rs) a
last_floors None rs a h g = h
last_floors (Some xs) rs a h g = g

pub last_grows : (bs cs : Batches) → last_number bs ≤ last_number (bs ++ cs)
last_grows [] cs = omega arith
last_grows (b ∷ bs) cs = omega (arith, last_grows bs cs)

-- where contents are known, a stop comes at the end of a batch
pub end_of_batch : (w : Standing) (m : ℕ) → w.told ≡ true → is_end w m ≡ true → is_boundary m w.batches ≡ true
end_of_batch w m told h = elim (or_cases (is_boundary m w.batches) (not w.told && m == w.tree.shape.to) h) [
  | inl b ↦ b
  | inr u ↦ absurd (unknown (and_parts (not w.told) (m == w.tree.shape.to) u).0)
]
  where
    unknown : not w.told ≡ true → ⊥
    unknown n = true≢false (sym n ∙ ap not told)

pub shows_step : (o : Column) (w : Standing) (e : Event) → Holds o w → Placed o w → Shows o w → Allowed o w w.session e → Shows o (step o w e)
shows_step o w (Opened session log) hold pl h a = by w.session a
  where
    by : (s : Option Session) → Allowed o w s (Opened session log) → Shows o (step o w (Opened session log))
    by (Some n) x = absurd x
    by None x =
        record {
          one = one_step o w.batches w.tree (Open session log) refl (known_tables o w.tree hold.sound) h.one;
          levels = levels_step o w.batches w.tree (Open session log) x.0 h.levels;
          to_last = h.to_last;
          session = record { stable = omega arith; stable_last = omega (arith, h.to_last); frozen = λ k q. absurd (none_some k q); floors = λ r i. absurd i; faults = tt };
          shown = λ m at. open_shows o w.batches w.tree session log m (h.shown m (inl (elim at [ inl b ↦ b | inr b ↦ omega (arith, h.to_last) ])));
        }
      where
        none_some : (k : ℕ) → None ≡ Some k → ⊥
        none_some k q = cc
shows_step o w (Commit actor first ops) hold pl h a = by w.session refl a pl.within h.session (λ m at. h.shown m at)
  where
    bs2 : Batches
    bs2 = w.batches ++ (first, ops) ∷ []

    grows : last_number w.batches ≤ last_number bs2
    grows = last_grows w.batches ((first, ops) ∷ [])

    by : (s : Option Session) → w.session ≡ s → Allowed o w s (Commit actor first ops) → Within (last_number w.batches) w.tree.shape.session s → SessionShows w.tree.shape.to (last_number w.batches) s
        → ((m : ℕ) → (w.tree.shape.to ≤ m) ⊎ Readable (last_number w.batches) w.session m → ShowsAt w.tree w.batches m) → Shows o (step o w (Commit actor first ops))
    by None eq x y z shown = absurd x
    by (Some n) eq x y z shown =
        let above : w.tree.shape.to < first = omega (arith, h.to_last, x.3, y.0) in
        record {
          one = h.one;
          levels = h.levels;
          to_last = omega (arith, h.to_last, grows);
          session = rw eq (record {
            stable = z.stable;
            stable_last = omega (arith, z.stable_last, grows);
            frozen = z.frozen;
            floors = λ r i. omega (arith, z.floors r i, floor_more n.held (last_number w.batches) (last_number bs2) grows);
            faults = subst (λ f. FaultFloors f (floor_of n.held (last_number bs2))) (sym x.0) tt;
          });
          shown = λ m at. same_batches w.tree w.batches bs2 m (pushed_same w.batches first ops w.tree.shape.to above)
              (shown m (elim at [ inl b ↦ inl b | inr b ↦ inr (lower m b) ]));
        }
      where
        lower : (m : ℕ) → Readable (last_number bs2) (option_map {T = Session} {U = Session} (λ s. record s { committed = s.committed + length ops }) w.session) m → Readable (last_number w.batches) w.session m
        lower m b = rw eq (omega (
          arith,
          floor_more n.held (last_number w.batches) (last_number bs2) grows,
          subst (λ s. Readable (last_number bs2) (option_map {T = Session} {U = Session} (λ s. record s { committed = s.committed + length ops }) s) m) eq b,
        ))
shows_step o w (Synced actor k) hold pl h a =
    session_only o w _ (λ n e x. (record { stable = omega (arith, x.stable); stable_last = omega (arith, x.stable_last, h.to_last, (within o w (Synced actor k) n e a).1); frozen = λ q r. omega (arith, x.frozen q r); floors = x.floors; faults = x.faults }, omega arith)) h
shows_step o w (Look actor k) hold pl h a = h
shows_step o w (Hold actor k) hold pl h a =
    session_only o w _ (λ n e x.
    let same : floor_of ((actor, k) ∷ n.held) (last_number w.batches) ≡ floor_of n.held (last_number w.batches) =
    omega (arith, h.to_last, (within o w (Hold actor k) n e a).0, floor_last n.held (last_number w.batches)) in
    (record { stable = x.stable; stable_last = x.stable_last; frozen = x.frozen; floors = λ r i. omega (arith, same, x.floors r i); faults = subst (FaultFloors n.faulted) (sym same) x.faults }, omega (arith, same))) h
shows_step o w (Release actor k) hold pl h a =
    session_only o w _ (λ n e x.
    let up = floor_released (actor, k) n.held (last_number w.batches) in
    (record { stable = x.stable; stable_last = x.stable_last; frozen = x.frozen; floors = λ r i. omega (arith, up, x.floors r i); faults = raise n.faulted _ _ up x.faults }, up)) h
shows_step o w (Freeze k) hold pl h a =
    session_only o w _ (λ n e x.
    let y = within o w (Freeze k) n e a in
    (record { stable = omega (arith, x.stable); stable_last = omega (arith, x.stable_last, h.to_last, y.3); frozen = λ q r. omega (arith, some_same k q r); floors = x.floors; faults = x.faults }, omega arith)) h
  where
    some_same : (k q : ℕ) → Some k ≡ Some q → k ≡ q
    some_same k q r = cc
shows_step o w (Begin actor job) hold pl h a =
    session_only o w _ (λ n e x.
    let y = within o w (Begin actor job) n e a in
    let l : IsLawful o w n job = y.2 in (
      record {
        stable = x.stable;
        stable_last = x.stable_last;
        frozen = x.frozen;
        floors = λ r i. elim i [ inl q ↦ omega (arith, ap (λ (z : Running). z.1.floor) q, l.floor, ap (floor_of n.held) (last_same w h.to_last)) | inr m ↦ x.floors r m ];
        faults = x.faults;
      },
      omega arith,
    )) h
shows_step o w (Done actor e) hold pl h a = by w.session refl a hold.jobs h.session
  where
    by : (s : Option Session) → w.session ≡ s → Allowed o w s (Done actor e) → JobsHold o w.tree s → SessionShows w.tree.shape.to (last_number w.batches) s → Shows o (step o w (Done actor e))
    by None eq x j y = absurd x
    by (Some n) eq x j y =
        let out = job_in n.running actor (λ k. IsOutcome o w n k e) x.1 in
        let mine : InFlight o w.tree out.0 = j.now.each (actor, out.0) out.1 in
        let to2 : (tree_after o w.batches w.tree e).shape.to ≤ n.stable = to_after o w n out.0 e out.2.formed.same y in
        record {
          one = one_step o w.batches w.tree e (fresh_rows o w.tree.shape e out.2.formed.fit) (known_tables o w.tree hold.sound) h.one;
          levels = levels_step o w.batches w.tree e out.2.formed.fit h.levels;
          to_last = omega (arith, to2, y.stable_last);
          session = rw eq (record {
            stable = to2;
            stable_last = y.stable_last;
            frozen = λ k q. y.frozen k (still_frozen e n.frozen k q);
            floors = λ r i. y.floors r (in_filter (λ z. not (z.0 == actor)) r n.running i).0;
            faults = y.faults;
          });
          shown = λ m at. outcome_step o w n n.running actor out.0 e hold.tells out.2 hold.sound mine out.1 y.floors eq h m
              (elim at [ inl b ↦ inl b | inr b ↦ inr (subst (λ s. Readable (last_number w.batches) (option_map {T = Session} {U = Session} (λ q. record q { running = without_job q.running actor; frozen = frozen_left e q.frozen; edits_made = q.edits_made ++ e ∷ [] }) s) m) eq b) ]);
        }
shows_step o w (Short actor cause bytes) hold pl h a =
    let h2 = session_only o w (λ s. record s { running = without_job s.running actor; jobs_cut_short = s.jobs_cut_short ++ shorts_of bytes (running_of actor s) })
    (λ n e x. (record { stable = x.stable; stable_last = x.stable_last; frozen = x.frozen; floors = λ r i. x.floors r (in_filter (λ z. not (z.0 == actor)) r n.running i).0; faults = x.faults }, omega arith)) h in
    record { one = h2.one; levels = h2.levels; to_last = h2.to_last; session = h2.session; shown = h2.shown }
shows_step o w JournalFault hold pl h a =
    session_only o w _ (λ n e x. (record { stable = x.stable; stable_last = x.stable_last; frozen = x.frozen; floors = x.floors; faults = x.floors }, omega arith)) h
shows_step o w (Stop k None) hold pl h a = by w.session a h.session
  where
    by : (s : Option Session) → Allowed o w s (Stop k None) → SessionShows w.tree.shape.to (last_number w.batches) s → Shows o (step o w (Stop k None))
    by None x y = absurd x
    by (Some n) x y =
        let low : w.tree.shape.to ≤ k = omega (arith, y.stable, x.1) in
        record {
          one = h.one;
          levels = h.levels;
          to_last = to_kept w.batches k w.tree.shape.to pl.ordered (end_of_batch w k hold.tells x.0) low;
          session = tt;
          shown = λ m at. same_batches w.tree w.batches (batches_to k w.batches) m (dropped_same w.batches k w.tree.shape.to pl.ordered (end_of_batch w k hold.tells x.0) low) (h.shown m (elim at [ inl b ↦ inl b | inr b ↦ absurd b ]));
        }
shows_step o w (Stop k (Some e)) hold pl h a = by w.session refl a hold.jobs h.session
  where
    by : (s : Option Session) → w.session ≡ s → Allowed o w s (Stop k (Some e)) → JobsHold o w.tree s → SessionShows w.tree.shape.to (last_number w.batches) s → Shows o (step o w (Stop k (Some e)))
    by None eq x j y = absurd x
    by (Some n) eq x j y =
        let out = job_in (last_running n) x.2.0 (λ q. IsOutcome o w n q e) x.2.1 in
        let mine : InFlight o w.tree out.0 = (last_jobs o w.tree n j).each (x.2.0, out.0) out.1 in
        let to2 : (tree_after o w.batches w.tree e).shape.to ≤ n.stable = to_after o w n out.0 e out.2.formed.same y in
        let low : (tree_after o w.batches w.tree e).shape.to ≤ k = omega (arith, to2, x.1) in
        record {
          one = one_step o w.batches w.tree e (fresh_rows o w.tree.shape e out.2.formed.fit) (known_tables o w.tree hold.sound) h.one;
          levels = levels_step o w.batches w.tree e out.2.formed.fit h.levels;
          to_last = to_kept w.batches k (tree_after o w.batches w.tree e).shape.to pl.ordered (end_of_batch w k hold.tells x.0) low;
          session = tt;
          shown = λ m at. same_batches (tree_after o w.batches w.tree e) w.batches (batches_to k w.batches) m (dropped_same w.batches k (tree_after o w.batches w.tree e).shape.to pl.ordered (end_of_batch w k hold.tells x.0) low)
              (outcome_step o w n (last_running n) x.2.0 out.0 e hold.tells out.2 hold.sound mine out.1 (last_floors n.faulted n.running _ y.floors y.faults) eq h m (inl (elim at [ inl b ↦ b | inr b ↦ absurd b ])));
        }
