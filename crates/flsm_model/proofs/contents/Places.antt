-- Each entry is in one live table at most, in every legal history.
use Rattle.std.proofs.Common.{◌≡◌, ℕ, ◌+◌, ◌-◌, ◌*◌, ◌^◌, ◌<◌, ◌≤◌, ◌≢◌, max, Bool, true, false, cond, ◌&&◌, List, [], ◌∷◌, ◌++◌, length, refl, subst, arith}
use Rattle.std.specs.Prelude.{nat_lt, nat_le, ◌==◌, Option, Some, None, option_map}
use Rattle.std.proofs.lemmas.Bool.{and_parts, and_from, eq-eqb, ltb-true, lt-ltb}
use Rattle.peb_base.specs.Batches.{Batches, ordered_above, are_in_order, last_number, batches_to}
use Rattle.peb_base.specs.Numbers.{session_of}
use Rattle.peb_base.specs.Profiles.{column, Column}
use Rattle.peb_base.specs.declared.op.Op.{Op}
use Rattle.flsm_model.specs.declared.edit.Edit.{Edit}
use Rattle.flsm_model.specs.declared.edit.Edit.TheVariants.{Open, Flush, Move, Cut, Merge}
use Rattle.flsm_model.specs.declared.job.Job.{Job}
use Rattle.flsm_model.specs.Shape.{Record, Shape, shape_after, shape_from}
use Rattle.flsm_model.specs.Fits.{fits}
use Rattle.flsm_model.specs.Trees.{Tree, tree_after, tree_from, empty_tree}
use Rattle.flsm_model.specs.Writes.{one_if, copies_in}
use Rattle.flsm_model.specs.Events.{Event, Opened, Commit, Synced, Look, Hold, Release, Freeze, Begin, Done, Short, JournalFault, Stop, Session, Standing, base}
use Rattle.flsm_model.specs.Outcomes.{IsOutcome, IsEditOf}
use Rattle.flsm_model.specs.Legal.{Allowed, IsLegal, last_running, Always}
use Rattle.flsm_model.specs.Steps.{step, run}
use Rattle.flsm_model.specs.TrueRecord.{IsTrueRecord}
use Rattle.flsm_model.specs.Placing.{OnePlace}
use Rattle.flsm_model.specs.Bounds.{RecordBound}
use Rattle.flsm_model.proofs.contents.Bound.{unflushed, place_step, place_from, bound_from}
use Rattle.flsm_model.proofs.contents.Orders.{never_open}
use Rattle.flsm_model.proofs.histories.Histories.{job_in}

-- one flushed or unflushed copy at most
fits_one : (q to : ℕ) → unflushed q to ≤ 1
fits_one q to = by (nat_lt to q)
  where
    by : (b : Bool) → one_if b ≤ 1
    by true = omega arith
    by false = omega arith

pub record_bound : RecordBound
record_bound p bs r q level h l =
    let o = column p in
    let b = bound_from o bs (empty_tree o) r q level h.ordered h.legal h.described refl (omega (arith, fits_one q 0)) l in
    omega (arith, b, fits_one q 0)

-- ---- batches stay in order

ordered_push : (low : ℕ) (bs : Batches) (first : ℕ) (ops : List Op) → ordered_above low bs ≡ true → low < first → last_number bs < first → 0 < length ops
    → session_of first ≡ session_of (first + length ops - 1) → ordered_above low (bs ++ (first, ops) ∷ []) ≡ true
ordered_push low [] first ops h a b c d = and_from _ _ (and_from _ _ (and_from _ _ (lt-ltb low first a) (lt-ltb 0 (length ops) c)) (eq-eqb _ _ d)) refl
ordered_push low (x ∷ bs) first ops h a b c d =
    let p = and_parts _ _ h in
    and_from _ _ p.0 (ordered_push (x.0 + length x.1 - 1) bs first ops p.1 (omega arith) (omega arith) c d)

pub last_push : (bs : Batches) (first : ℕ) (ops : List Op) (m : ℕ) → last_number bs ≤ m → first + length ops - 1 ≤ m → last_number (bs ++ (first, ops) ∷ []) ≤ m
last_push [] first ops m h a = omega arith
last_push (x ∷ bs) first ops m h a = omega (arith, last_push bs first ops m (omega arith) a)

ordered_lower : (low high : ℕ) (bs : Batches) → low ≤ high → ordered_above high bs ≡ true → ordered_above low bs ≡ true
ordered_lower low high [] l h = refl
ordered_lower low high (x ∷ bs) l h =
    let p3 = and_parts _ _ h in
    let p2 = and_parts _ _ p3.0 in
    let p1 = and_parts _ _ p2.0 in
    and_from _ _ (and_from _ _ (and_from _ _ (lt-ltb low x.0 (omega (arith, ltb-true high x.0 p1.0))) p1.1) p2.1) p3.1

pub ordered_some : (low n : ℕ) (bs : Batches) → ordered_above low bs ≡ true → ordered_above low (batches_to n bs) ≡ true
ordered_some low n [] h = refl
ordered_some low n (x ∷ bs) h =
    let p3 = and_parts _ _ h in
    let p2 = and_parts _ _ p3.0 in
    let p1 = and_parts _ _ p2.0 in
    let first : low < x.0 = ltb-true low x.0 p1.0 in
    let some : 0 < length x.1 = ltb-true 0 (length x.1) p1.1 in
    by (nat_le (x.0 + length x.1 - 1) n) p3.0 (omega (arith, first, some)) (ordered_some (x.0 + length x.1 - 1) n bs p3.1)
  where
    by : (b : Bool) → (nat_lt low x.0 && nat_lt 0 (length x.1) && session_of x.0 == session_of (x.0 + length x.1 - 1)) ≡ true → low ≤ x.0 + length x.1 - 1
        → ordered_above (x.0 + length x.1 - 1) (batches_to n bs) ≡ true → ordered_above low (cond b (x ∷ batches_to n bs) (batches_to n bs)) ≡ true
    by true p l h = and_from _ _ p h
    by false p l h = ordered_lower low (x.0 + length x.1 - 1) (batches_to n bs) l h

pub last_some : (n : ℕ) (bs : Batches) → last_number (batches_to n bs) ≤ last_number bs
last_some n [] = omega arith
last_some n (x ∷ bs) = by (nat_le (x.0 + length x.1 - 1) n) (last_some n bs)
  where
    by : (b : Bool) → last_number (batches_to n bs) ≤ last_number bs → last_number (cond b (x ∷ batches_to n bs) (batches_to n bs)) ≤ max (x.0 + length x.1 - 1) (last_number bs)
    by true h = omega arith
    by false h = omega arith

-- numbers stay within the sessions that were opened
abbrev pub Within : ℕ → ℕ → Option Session → Type 0
Within last session None = last < (session + 1) * 2 ^ 40
Within last session (Some n) = (last ≤ session * 2 ^ 40 + n.committed) × (n.committed < 2 ^ 40)

pub record Placed (o : Column) (w : Standing) : Type 0 where
  pub ordered : are_in_order w.batches ≡ true
  pub within : Within (last_number w.batches) w.tree.shape.session w.session
  pub once : (q : ℕ) → copies_in q w.tree.tables + unflushed q w.tree.shape.to ≤ 1

pub same_session : (s : Shape) (e : Edit) → ((a b : ℕ) → e ≢ Open a b) → (shape_after s e).session ≡ s.session
same_session s (Open a b) h = absurd (h a b refl)
same_session s (Flush row from to log chosen) h = refl
same_session s (Move level floor inputs outputs) h = refl
same_session s (Cut level keys inputs outputs) h = refl
same_session s (Merge floor whole inputs outputs) h = refl

pub within_map : (last session : ℕ) (s : Option Session) (f : Session → Session) → ((n : Session) → (f n).committed ≡ n.committed) → Within last session s → Within last session (option_map f s)
within_map last session None f g h = h
within_map last session (Some n) f g h = rw (g n) h

same_placed : (o : Column) (w : Standing) (f : Session → Session) → ((n : Session) → (f n).committed ≡ n.committed) → Placed o w
    → Placed o (record w { session = option_map f w.session })
same_placed o w f g h = record { ordered = h.ordered; within = within_map _ _ w.session f g h.within; once = h.once }

once_more : (o : Column) (bs : Batches) (t : Tree) (e : Edit) → are_in_order bs ≡ true → fits o t.shape e ≡ true
    → ((q : ℕ) → copies_in q t.tables + unflushed q t.shape.to ≤ 1) → (q : ℕ) → copies_in q (tree_after o bs t e).tables + unflushed q (tree_after o bs t e).shape.to ≤ 1
once_more o bs t e b f h q = omega (arith, place_step o bs t e q b f, h q)

pub not_open : (o : Column) (w : Standing) (n : Session) (j : Job) (e : Edit) → IsOutcome o w n j e → (a b : ℕ) → e ≢ Open a b
not_open o w n j e out a b s = never_open n j a b (subst (λ z. IsEditOf j.kind n j z) s out.formed.same)

pub placed_step : (o : Column) (w : Standing) (e : Event) → Placed o w → Allowed o w w.session e → Placed o (step o w e)
placed_step o w (Opened session log) h a = by w.session a h.within
  where
    by : (s : Option Session) → Allowed o w s (Opened session log) → Within (last_number w.batches) w.tree.shape.session s → Placed o (step o w (Opened session log))
    by None x y =
        record {
          ordered = h.ordered;
          within = (omega (arith, x.1, y), omega arith);
          once = once_more o w.batches w.tree (Open session log) h.ordered x.0 h.once;
        }
    by (Some n) x y = absurd x
placed_step o w (Commit actor first ops) h a = by w.session refl a h.within
  where
    by : (s : Option Session) → w.session ≡ s → Allowed o w s (Commit actor first ops) → Within (last_number w.batches) w.tree.shape.session s → Placed o (step o w (Commit actor first ops))
    by None eq x y = absurd x
    by (Some n) eq x y =
        record {
          ordered = ordered_push 0 w.batches first ops h.ordered (omega (arith, x.3)) (omega (arith, x.3, y.0)) x.1 (omega (arith, x.3, x.4, x.1));
          within = rw eq (last_push w.batches first ops _ (omega (arith, y.0)) (omega (arith, x.3)), x.4);
          once = h.once;
        }
placed_step o w (Synced actor m) h a = same_placed o w _ (λ n. refl) h
placed_step o w (Look actor m) h a = h
placed_step o w (Hold actor m) h a = same_placed o w _ (λ n. refl) h
placed_step o w (Release actor m) h a = same_placed o w _ (λ n. refl) h
placed_step o w (Freeze m) h a = same_placed o w _ (λ n. refl) h
placed_step o w (Begin actor job) h a = same_placed o w _ (λ n. refl) h
placed_step o w (Done actor e) h a = by w.session refl a h.within
  where
    by : (s : Option Session) → w.session ≡ s → Allowed o w s (Done actor e) → Within (last_number w.batches) w.tree.shape.session s → Placed o (step o w (Done actor e))
    by None eq x y = absurd x
    by (Some n) eq x y =
        let out = job_in n.running actor (λ k. IsOutcome o w n k e) x.1 in
        let same = same_session w.tree.shape e (not_open o w n out.0 e out.2) in
        record {
          ordered = h.ordered;
          within = rw (eq, same) y;
          once = once_more o w.batches w.tree e h.ordered out.2.formed.fit h.once;
        }
placed_step o w (Short actor cause bytes) h a = record { ordered = h.ordered; within = within_map _ _ w.session _ (λ n. refl) h.within; once = h.once }
placed_step o w JournalFault h a = same_placed o w _ (λ n. refl) h
placed_step o w (Stop m None) h a = by w.session a h.within
  where
    by : (s : Option Session) → Allowed o w s (Stop m None) → Within (last_number w.batches) w.tree.shape.session s → Placed o (step o w (Stop m None))
    by None x y = absurd x
    by (Some n) x y =
        record { ordered = ordered_some 0 m w.batches h.ordered; within = omega (arith, last_some m w.batches, y.0, y.1); once = h.once }
placed_step o w (Stop m (Some e)) h a = by w.session a h.within
  where
    by : (s : Option Session) → Allowed o w s (Stop m (Some e)) → Within (last_number w.batches) w.tree.shape.session s → Placed o (step o w (Stop m (Some e)))
    by None x y = absurd x
    by (Some n) x y =
        let out = job_in (last_running n) x.2.0 (λ k. IsOutcome o w n k e) x.2.1 in
        let same = same_session w.tree.shape e (not_open o w n out.0 e out.2) in
        record {
          ordered = ordered_some 0 m w.batches h.ordered;
          within = rw same (omega (arith, last_some m w.batches, y.0, y.1));
          once = once_more o w.batches w.tree e h.ordered out.2.formed.fit h.once;
        }

pub placed_run : (o : Column) (w : Standing) (es : List Event) → Placed o w → IsLegal o w es → Placed o (run o w es)
placed_run o w [] h l = h
placed_run o w (e ∷ es) h l = placed_run o (step o w e) es (placed_step o w e h l.0) l.1

pub shape_same : (o : Column) (bs : Batches) (t : Tree) (r : Record) → (tree_from o bs t r).shape ≡ shape_from t.shape r
shape_same o bs t [] = refl
shape_same o bs t (e ∷ es) = shape_same o bs (tree_after o bs t e) es

pub placed_base : (o : Column) (bs : Batches) (r : Record) → IsTrueRecord o r bs → Placed o (base true o bs r)
placed_base o bs r h =
    record {
      ordered = h.ordered;
      within = rw (shape_same o bs (empty_tree o) r) (omega (arith, h.sessions));
      once = λ q. omega (arith, place_from o bs (empty_tree o) r q h.ordered h.legal, fits_one q 0);
    }

pub one_place : Always OnePlace
one_place p bs r h base_true legal q =
    omega (arith, (placed_run (column p) (base true (column p) bs r) h (placed_base (column p) bs r base_true) legal).once q)
