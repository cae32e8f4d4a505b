-- The job that is picked has work, so that what it makes leaves less to do.
use Rattle.std.proofs.Common.{◌≡◌, ℕ, suc, ◌+◌, ◌-◌, ◌<◌, ◌≤◌, Bool, true, false, cond, ◌&&◌, List, [], ◌∷◌, ◌++◌, map, length, inl, inr, refl, sym, ◌∙◌, ap, subst, arith}
use Rattle.std.specs.Prelude.{◌==◌, nat_lt, nat_le, filter, Option, Some, None}
use Rattle.std.proofs.lemmas.Bool.{and_parts, and_from, or_cases, eqb-true, eq-eqb, lt-ltb, le-leb, ltb-true, false≢true}
use Rattle.peb_base.specs.Batches.{Batches, entries_of, numbered, ordered_above, is_boundary}
use Rattle.peb_base.specs.Entries.{in_order, entries_between}
use Rattle.peb_base.specs.Keys.{Bytes}
use Rattle.peb_base.specs.Members.{IsIn}
use Rattle.peb_base.specs.Profiles.{column, Column}
use Rattle.peb_base.specs.declared.entry.Entry.{Entry}
use Rattle.peb_base.specs.declared.op.Op.{Op}
use Rattle.peb_base.specs.declared.profile.Profile.{Profile}
use Rattle.peb_base.specs.declared.profile.Profile.TheVariants.{Small, Normal}
use Rattle.peb_base.specs.declared.table_row.TableRow.{TableRow}
use Rattle.flsm_model.specs.declared.edit.Edit.TheVariants.{Flush}
use Rattle.flsm_model.specs.declared.job_kind.JobKind.TheVariants.{Flush as FlushJob, Move as MoveJob, Cut as CutJob, Merge as MergeJob}
use Rattle.flsm_model.specs.declared.job.Job.{Job}
use Rattle.flsm_model.specs.Claims.{is_free}
use Rattle.flsm_model.specs.Events.{Session, Standing, base}
use Rattle.flsm_model.specs.Fits.{lies_in}
use Rattle.flsm_model.specs.Fronts.{MarksInOrder}
use Rattle.flsm_model.specs.Legal.{Always}
use Rattle.flsm_model.specs.Outcomes.{IsEditOf, frozen_entries}
use Rattle.flsm_model.specs.PickedSettles.{PickedSettles}
use Rattle.flsm_model.specs.Picking.{room_at, over_at, rows_in, numbers_of, flush_jobs, target_jobs, merge_job, move_job, wanted, beginning}
use Rattle.flsm_model.specs.Settling.{entries_frozen, last_tables, HasWork}
use Rattle.flsm_model.specs.Shape.{Shape, has_number, rows_numbered}
use Rattle.flsm_model.specs.Steps.{run}
use Rattle.flsm_model.specs.Writes.{total, one_if}
use Rattle.flsm_model.proofs.contents.Covers.{sorted_has}
use Rattle.flsm_model.proofs.histories.Lessening.{leaves_less}
use Rattle.flsm_model.proofs.histories.Truth.{All, FrozenAt}
use Rattle.flsm_model.proofs.histories.Undisturb.{EditIs, IsFlushOf, IsMoveOf, IsCutOf, IsMergeOf, edit_is}
use Rattle.flsm_model.proofs.histories.Whole.{stands_always, marks_in_order}
use Rattle.flsm_model.proofs.lists.Lists.{in_filter, in_kept, in_append, in_left, in_right, in_any}
use Rattle.flsm_model.proofs.picking.Lawful.{Target, Moves, Cuts, target, targets}
use Rattle.flsm_model.proofs.picking.Picks.{find_in, in_map, has_numbers}

-- ---- what is frozen has an entry

last_numbered : (first : ℕ) (op : Op) (ops : List Op) → (x : Entry) × IsIn x (numbered first (op ∷ ops)) × (x.number ≡ first + length ops)
last_numbered first op [] = (record { key = op.key; number = first; change = op.change }, inl refl, omega arith)
last_numbered first op (q ∷ ops) = let r = last_numbered (suc first) q ops in (r.0, inr r.1, omega (arith, r.2))

last_of_batch : (first : ℕ) (ops : List Op) → 0 < length ops → (x : Entry) × IsIn x (numbered first ops) × (x.number ≡ first + length ops - 1)
last_of_batch first [] h = absurd (omega (arith, h))
last_of_batch first (op ∷ ops) h = let r = last_numbered first op ops in (r.0, r.1, omega (arith, r.2))

-- at each end of a batch there is an entry
at_end : (low k : ℕ) (bs : Batches) → ordered_above low bs ≡ true → is_boundary k bs ≡ true → 0 < k → (x : Entry) × IsIn x (entries_of bs) × (x.number ≡ k)
at_end low k [] o h pos = absurd (omega (arith, eqb-true k 0 h, pos))
at_end low k (b ∷ bs) o h pos =
    let p3 = and_parts _ (ordered_above (b.0 + length b.1 - 1) bs) o in
    let p2 = and_parts (nat_lt low b.0 && nat_lt 0 (length b.1)) _ p3.0 in
    let some : 0 < length b.1 = ltb-true 0 (length b.1) (and_parts (nat_lt low b.0) (nat_lt 0 (length b.1)) p2.0).1 in
    elim (or_cases (k == b.0 + length b.1 - 1) (is_boundary k bs) h) [
      | inl s ↦ let r = last_of_batch b.0 b.1 some in (r.0, in_left r.0 (numbered b.0 b.1) (entries_of bs) r.1, r.2 ∙ sym (eqb-true k (b.0 + length b.1 - 1) s))
      | inr t ↦ let r = at_end (b.0 + length b.1 - 1) k bs p3.1 t pos in (r.0, in_right r.0 (numbered b.0 b.1) (entries_of bs) r.1, r.2)
    ]

some_length : {X : Type 0} (x : X) (xs : List X) → IsIn x xs → 1 ≤ length xs
some_length x [] i = absurd i
some_length x (y ∷ ys) i = omega arith

flush_work : (w : Standing) (n : Session) (to : ℕ) → ordered_above 0 w.batches ≡ true → n.frozen ≡ Some to → is_boundary to w.batches ≡ true → w.tree.shape.to < to → 0 < entries_frozen w n
flush_work w n to o q bd above =
    let x = at_end 0 to w.batches o bd (omega (arith, above)) in
    let here : IsIn x.0 (entries_between w.tree.shape.to to (entries_of w.batches)) =
    in_kept (λ (e : Entry). nat_lt w.tree.shape.to e.number && nat_le e.number to) x.0 (entries_of w.batches) x.1
    (and_from _ _ (lt-ltb w.tree.shape.to x.0.number (omega (arith, x.2, above))) (le-leb x.0.number to (omega (arith, x.2)))) in
    let is : entries_frozen w n ≡ length (in_order (entries_between w.tree.shape.to to (entries_of w.batches))) + 0 =
    ap (λ f. total (λ (es : List Entry). length es) (frozen_entries w.batches w.tree.shape.to f)) q in
    omega (arith, is, some_length x.0 _ (sorted_has x.0 (entries_between w.tree.shape.to to (entries_of w.batches)) here))

-- ---- a Merge that is picked has two tables

count_le : (p q : TableRow → Bool) (f : TableRow → ℕ) (rows : List TableRow) → ((r : TableRow) → IsIn r rows → q r ≡ true → (p r ≡ true) × (1 ≤ f r)) → length (filter q rows) ≤ total f (filter p rows)
count_le p q f [] h = omega arith
count_le p q f (r ∷ rows) h = by (q r) (p r) refl refl (count_le p q f rows (λ x i. h x (inr i)))
  where
    by : (a b : Bool) → q r ≡ a → p r ≡ b → length (filter q rows) ≤ total f (filter p rows) → length (cond a (r ∷ filter q rows) (filter q rows)) ≤ total f (cond b (r ∷ filter p rows) (filter p rows))
    by true true e g ih = omega (arith, ih, (h r (inl refl) e).1)
    by true false e g ih = let t = (h r (inl refl) e).0 in absurd (false≢true (sym g ∙ t))
    by false true e g ih = omega (arith, ih)
    by false false e g ih = ih

room_of : (p : Profile) → 1 ≤ room_at (column p) (column p).last_level
room_of Small = omega arith
room_of Normal = omega arith

merge_work : (p : Profile) (s : Shape) (range : Bytes × Option Bytes) → IsIn range (over_at (column p) s (column p).last_level)
    → 2 ≤ last_tables (column p) (rows_numbered (numbers_of (rows_in s (column p).last_level range)) s.live)
merge_work p s range i =
    let last = (column p).last_level in
    let over = ltb-true (room_at (column p) last) (length (rows_in s last range)) (in_filter (λ r. nat_lt (room_at (column p) last) (length (rows_in s last r))) range _ i).1 in
    omega (arith, over, room_of p, count_le (λ r. has_number r.number (numbers_of (rows_in s last range))) (λ r. r.level == last && lies_in range r) (λ r. one_if (r.level == last)) s.live each)
  where
    rows : List TableRow
    rows = rows_in s (column p).last_level range

    each : (r : TableRow) → IsIn r s.live → (r.level == (column p).last_level && lies_in range r) ≡ true → (has_number r.number (numbers_of rows) ≡ true) × (1 ≤ one_if (r.level == (column p).last_level))
    each r j t =
        let at : one_if (r.level == (column p).last_level) ≡ 1 = ap one_if (and_parts (r.level == (column p).last_level) (lies_in range r) t).0 in (
          has_numbers r.number rows ∙ in_any (λ (x : TableRow). x.number == r.number) r rows (in_kept (λ x. x.level == (column p).last_level && lies_in range x) r s.live j t) (eq-eqb r.number r.number refl),
          omega (arith, at),
        )

-- a wanted Merge is one of a range of the last level that holds too much
wanted_merge : (o : Column) (s : Shape) (f : Option ℕ) (k : Job) → IsIn k (wanted o s f) → k.kind ≡ MergeJob
    → (range : Bytes × Option Bytes) × IsIn range (over_at o s o.last_level) × (k ≡ merge_job o s range)
wanted_merge o s f k i q = elim (in_append k (flush_jobs f ++ target_jobs o s 0 o.last_level) (map (merge_job o s) (over_at o s o.last_level)) i) [
  | inl first ↦ elim (in_append k (flush_jobs f) (target_jobs o s 0 o.last_level) first) [
    | inl flush ↦ absurd (no_flush f flush)
    | inr other ↦
        let x = targets o s 0 o.last_level k other in
        absurd (no_target _ _ _ (target o s (suc x.0) x.1 (o.last_level - x.0) (o.last_level - x.0) (move_job s x.0 x.1) (omega arith) (λ d a b. absurd (omega (arith, a, b)))) x.4)
  ]
  | inr last ↦ in_map (merge_job o s) (over_at o s o.last_level) k last
]
  where
    flush_merge : FlushJob ≡ MergeJob → ⊥
    flush_merge e = cc

    move_merge : MoveJob ≡ MergeJob → ⊥
    move_merge e = cc

    cut_merge : CutJob ≡ MergeJob → ⊥
    cut_merge e = cc

    no_flush : (f : Option ℕ) → IsIn k (flush_jobs f) → ⊥
    no_flush None i = absurd i
    no_flush (Some to) i = elim i [ inl is ↦ flush_merge (ap (λ (z : Job). z.kind) (sym is) ∙ q) | inr none ↦ absurd none ]

    no_target : (level : ℕ) (range : Bytes × Option Bytes) (t : ℕ) {j : Job} → Target o s (suc level) range t (move_job s level range) j → k ≡ j → ⊥
    no_target level range t (Moves is none) e = move_merge (ap (λ (z : Job). z.kind) (sym (e ∙ is)) ∙ q)
    no_target level range t (Cuts c key few here deep is) e = cut_merge (ap (λ (z : Job). z.kind) (sym (e ∙ is)) ∙ q)

-- ---- the law

marks : Always MarksInOrder
marks p bs r h base_true legal = marks_in_order p true bs r h (record { legal = base_true.legal; sessions = base_true.sessions; holds = λ told. base_true }) legal

pub picked_settles : Always PickedSettles
picked_settles p bs r h base_true legal n eq j is e out =
    leaves_less p w n j e al out (by (edit_is n j e out.formed.same))
  where
    o : Column
    o = column p

    w : Standing
    w = run o (base true o bs r) h

    al : All o w
    al = (stands_always p bs r h base_true legal).all

    frozen : (k : ℕ) → n.frozen ≡ Some k → is_boundary k w.batches ≡ true
    frozen = subst (FrozenAt w.batches) eq al.told.frozen

    by : EditIs j e → HasWork o w.tree.shape (entries_frozen w n) e
    by (IsFlushOf q row from to log chosen s) =
        let same = subst (λ a. IsEditOf a n j (Flush row from to log chosen)) q (subst (IsEditOf j.kind n j) s out.formed.same) in
        subst (HasWork o w.tree.shape (entries_frozen w n)) (sym s)
        (flush_work w n to al.placed.ordered same.0 (frozen to same.0) ((marks p bs r h base_true legal n eq).frozen to same.0).0)
    by (IsMoveOf q floor outputs s) = subst (HasWork o w.tree.shape (entries_frozen w n)) (sym s) tt
    by (IsCutOf q outputs s) = subst (HasWork o w.tree.shape (entries_frozen w n)) (sym s) tt
    by (IsMergeOf q floor whole outputs s) =
        let found = find_in (λ k. is_free k n.running) (map (beginning w n) (wanted o w.tree.shape n.frozen)) j is in
        let k = in_map (beginning w n) (wanted o w.tree.shape n.frozen) j found.0 in
        let m = wanted_merge o w.tree.shape n.frozen k.0 k.1 (ap (λ (z : Job). z.kind) (sym k.2) ∙ q) in
        let inputs : j.inputs ≡ numbers_of (rows_in w.tree.shape o.last_level m.0) = ap (λ (z : Job). z.inputs) k.2 ∙ ap (λ (z : Job). z.inputs) m.2 in
        subst (HasWork o w.tree.shape (entries_frozen w n)) (sym s) (subst (λ ns. 2 ≤ last_tables o (rows_numbered ns w.tree.shape.live)) (sym inputs) (merge_work p w.tree.shape m.0 m.1))
