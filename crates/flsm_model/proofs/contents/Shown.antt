-- Every legal history shows the map of its batches at each number that is held or last.
use Rattle.std.proofs.Common.{◌≡◌, ℕ, suc, ◌+◌, ◌-◌, ◌<◌, ◌≤◌, min, Bool, true, false, cond, ◌&&◌, List, [], ◌∷◌, ◌++◌, length, ◌⊎◌, inl, inr, refl, sym, ap, subst, arith}
use Rattle.std.specs.Prelude.{nat_le, ◌==◌, ◌↔◌}
use Rattle.std.specs.List.{AllZip}
use Rattle.std.proofs.lemmas.Bool.{and_parts, or_cases, eqb-true, ltb-true, leb-false}
use Rattle.peb_base.specs.Batches.{Batches, entries_of, numbered, ordered_above, are_in_order, is_boundary, batches_to, last_number}
use Rattle.flsm_model.specs.Compaction.{is_put}
use Rattle.flsm_model.specs.Trees.{Describes, Table, Tree, contents, tree_after, written_by}
use Rattle.peb_base.specs.declared.op.Op.{Op}
use Rattle.peb_base.specs.declared.entry.Entry.{Entry}
use Rattle.peb_base.specs.Profiles.{Column}
use Rattle.flsm_model.specs.declared.edit.Edit.{Edit}
use Rattle.flsm_model.specs.declared.edit.Edit.TheVariants.{Open, Flush, Move, Cut, Merge}
use Rattle.flsm_model.specs.declared.job_kind.JobKind.{JobKind}
use Rattle.flsm_model.specs.declared.job_kind.JobKind.TheVariants.{Flush as FlushJob, Move as MoveJob, Cut as CutJob, Merge as MergeJob}
use Rattle.flsm_model.specs.declared.job.Job.{Job}
use Rattle.flsm_model.specs.Fits.{fits}
use Rattle.flsm_model.specs.Shape.{has_number, outputs_of}
use Rattle.flsm_model.specs.Events.{Session}
use Rattle.flsm_model.specs.Jobs.{floor_of}
use Rattle.flsm_model.specs.Steps.{held_without}
use Rattle.flsm_model.specs.Outcomes.{IsEditOf}
use Rattle.flsm_model.proofs.lists.Totals.{levels-paired}
use Rattle.flsm_model.proofs.guards.Facts.{move_facts, flush_facts, cut_facts, merge_facts}
use Rattle.flsm_model.proofs.lists.Members.{IsIn, in_paired}
use Rattle.flsm_model.proofs.contents.Falls.{after, InFlight}
use Rattle.flsm_model.proofs.contents.Orders.{Sound}
use Rattle.flsm_model.proofs.contents.Keeps.{IsNewest}
use Rattle.flsm_model.proofs.contents.Covers.{Live, OneByNumber, newest_same, move_shows, merge_shows}
use Rattle.flsm_model.proofs.contents.Maps.{Flushed, cut_live, flush_shows}
use Rattle.flsm_model.proofs.lists.Lists.{in_append, in_left, in_right, each_in}

-- the tree shows what the flushed batches show, at a number
abbrev pub ShowsAt : Tree → Batches → ℕ → Type 0
ShowsAt t bs m = (x : Entry) → is_put x.change ≡ true → IsNewest (Live t) x m ↔ IsNewest (Flushed bs t.shape.to) x m

pub record AtLevels (o : Column) (ts : List Table) : Type 0 where
  pub level : (u : Table) → IsIn u ts → u.row.level ≤ o.last_level

-- ---- floors

pub floor_last : (held : List (ℕ × ℕ)) (last : ℕ) → floor_of held last ≤ last
floor_last [] last = omega arith
floor_last (h ∷ hs) last = omega (arith, floor_last hs last)

pub floor_more : (held : List (ℕ × ℕ)) (a b : ℕ) → a ≤ b → floor_of held a ≤ floor_of held b
floor_more [] a b l = l
floor_more (h ∷ hs) a b l = omega (arith, floor_more hs a b l)

pub floor_released : (p : ℕ × ℕ) (held : List (ℕ × ℕ)) (last : ℕ) → floor_of held last ≤ floor_of (held_without p held) last
floor_released p [] last = omega arith
floor_released p (h ∷ hs) last = by (p.0 == h.0 && p.1 == h.1) (floor_released p hs last)
  where
    by : (b : Bool) → floor_of hs last ≤ floor_of (held_without p hs) last → min h.1 (floor_of hs last) ≤ floor_of (cond b hs (h ∷ held_without p hs)) last
    by true r = omega arith
    by false r = omega arith

-- ---- one outcome

pub levels_step : (o : Column) (bs : Batches) (t : Tree) (e : Edit) → fits o t.shape e ≡ true → AtLevels o t.tables → AtLevels o (tree_after o bs t e).tables
levels_step o bs t e f h = record { level = λ u i. elim (after o bs t e u i) [ inl a ↦ h.level u a.0 | inr b ↦ new e f u b ] }
  where
    new : (e : Edit) → fits o t.shape e ≡ true → (u : Table) → IsIn u (written_by o bs t e) → u.row.level ≤ o.last_level
    new (Open session log) f u i = absurd i
    new (Flush row from to log chosen) f u i =
        let k = flush_facts o t.shape row from to log chosen f in
        elim (in_paired u (row ∷ []) (contents o bs t (Flush row from to log chosen)) i).0 [ inl s ↦ omega (arith, ap (λ r. r.level) s, k.at) | inr r ↦ absurd r ]
    new (Move level floor inputs outputs) f u i =
        let k = move_facts o t.shape level floor inputs outputs f in
        omega (arith, k.above, each_in (λ (v : Table). v.row.level ≡ suc level) u (written_by o bs t (Move level floor inputs outputs)) (levels-paired (suc level) outputs (contents o bs t (Move level floor inputs outputs)) k.below) i)
    new (Cut level keys inputs outputs) f u i =
        let k = cut_facts o t.shape level keys inputs outputs f in
        omega (arith, k.upto, each_in (λ (v : Table). v.row.level ≡ level) u (written_by o bs t (Cut level keys inputs outputs)) (levels-paired level outputs (contents o bs t (Cut level keys inputs outputs)) k.at) i)
    new (Merge floor whole inputs outputs) f u i =
        let k = merge_facts o t.shape floor whole inputs outputs f in
        omega (arith, each_in (λ (v : Table). v.row.level ≡ o.last_level) u (written_by o bs t (Merge floor whole inputs outputs)) (levels-paired o.last_level outputs (contents o bs t (Merge floor whole inputs outputs)) k.below) i)

-- an outcome keeps what is shown at each number at or above the floor now, or above all that is flushed after it
pub outcome_shows : (o : Column) (bs : Batches) (t : Tree) (n : Session) (j : Job) (e : Edit) (floor : ℕ) → IsEditOf j.kind n j e → fits o t.shape e ≡ true
    → AllZip (Describes o) (outputs_of e) (contents o bs t e) → Sound o t → InFlight o t j → OneByNumber t.tables → AtLevels o t.tables → j.floor ≤ floor
    → ((m : ℕ) → (t.shape.to ≤ m) ⊎ (floor ≤ m) → ShowsAt t bs m)
    → (m : ℕ) → ((tree_after o bs t e).shape.to ≤ m) ⊎ (floor ≤ m) → ShowsAt (tree_after o bs t e) bs m
outcome_shows o bs t n j e floor same f d s run one levels low h m at = by j.kind refl e same f d at
  where
    turn : (e : Edit) → (tree_after o bs t e).shape.to ≡ t.shape.to → ((x : Entry) → is_put x.change ≡ true → IsNewest (Live t) x m ↔ IsNewest (Live (tree_after o bs t e)) x m)
        → ((tree_after o bs t e).shape.to ≤ m) ⊎ (floor ≤ m) → ShowsAt (tree_after o bs t e) bs m
    turn e q step at x put =
        let old = h m (subst (λ z. (z ≤ m) ⊎ (floor ≤ m)) q at) x put in
        let new = step x put in
        rw q ((λ a. old.0 (new.1 a)), (λ a. new.0 (old.1 a)))

    low_or : (f2 : ℕ) → f2 ≡ j.floor → (t.shape.to ≤ m) ⊎ (floor ≤ m) → (f2 ≤ m) ⊎ (t.shape.to ≤ m)
    low_or f2 q at = elim at [ inl a ↦ inr a | inr b ↦ inl (omega arith) ]

    by : (a : JobKind) → j.kind ≡ a → (e : Edit) → IsEditOf a n j e → fits o t.shape e ≡ true → AllZip (Describes o) (outputs_of e) (contents o bs t e)
        → ((tree_after o bs t e).shape.to ≤ m) ⊎ (floor ≤ m) → ShowsAt (tree_after o bs t e) bs m
    by FlushJob k (Flush row from to log chosen) q f d at =
        let r = (flush_facts o t.shape row from to log chosen f) in
        let at2 : (t.shape.to ≤ m) ⊎ (floor ≤ m) = elim at [ inl a ↦ inl (omega (arith, r.follows, r.rises)) | inr b ↦ inr b ] in
        λ x put. flush_shows o bs t row from to log chosen d f s.flushed m x (h m at2 x put)
    by FlushJob k (Open session log) q f d at = absurd q
    by FlushJob k (Move level fl inputs outputs) q f d at = absurd q
    by FlushJob k (Cut level keys inputs outputs) q f d at = absurd q
    by FlushJob k (Merge fl whole inputs outputs) q f d at = absurd q
    by MoveJob k (Move level fl inputs outputs) q f d at =
        turn (Move level fl inputs outputs) refl (λ x put. move_shows o bs t one s.flushed level fl inputs outputs d m (low_or fl q.1 at) x put) at
    by MoveJob k (Open session log) q f d at = absurd q
    by MoveJob k (Flush row from to log chosen) q f d at = absurd q
    by MoveJob k (Cut level keys inputs outputs) q f d at = absurd q
    by MoveJob k (Merge fl whole inputs outputs) q f d at = absurd q
    by CutJob k (Cut level keys inputs outputs) q f d at =
        let c = cut_live o bs t level keys inputs outputs d one in
        turn (Cut level keys inputs outputs) refl (λ x put. (newest_same (Live t) (Live (tree_after o bs t (Cut level keys inputs outputs))) x m c, newest_same (Live (tree_after o bs t (Cut level keys inputs outputs))) (Live t) x m (λ y. ((c y).1, (c y).0)))) at
    by CutJob k (Open session log) q f d at = absurd q
    by CutJob k (Flush row from to log chosen) q f d at = absurd q
    by CutJob k (Move level fl inputs outputs) q f d at = absurd q
    by CutJob k (Merge fl whole inputs outputs) q f d at = absurd q
    by MergeJob k (Merge fl whole inputs outputs) q f d at =
        turn (Merge fl whole inputs outputs) refl
        (λ x put. merge_shows o bs t one s.flushed fl whole inputs outputs d
        (λ w v u i l hu hv. run.newer (rw (k, sym q.1) w) v u i l (subst (λ ns. has_number u.row.number ns ≡ true) q.2 hu) (subst (λ ns. has_number v.row.number ns ≡ false) q.2 hv)
        (omega (arith, run.deepest k, levels.level v i)))
        m (low_or fl q.0 at) x put) at
    by MergeJob k (Open session log) q f d at = absurd q
    by MergeJob k (Flush row from to log chosen) q f d at = absurd q
    by MergeJob k (Move level fl inputs outputs) q f d at = absurd q
    by MergeJob k (Cut level keys inputs outputs) q f d at = absurd q

-- ---- batches come and go

pub in_numbered : (x : Entry) (first : ℕ) (ops : List Op) → IsIn x (numbered first ops) → (first ≤ x.number) × (x.number ≤ first + length ops - 1)
in_numbered x first [] i = absurd i
in_numbered x first (op ∷ ops) i = elim i [
  | inl s ↦ omega (arith, ap (λ (z : Entry). z.number) s)
  | inr r ↦ omega (arith, in_numbered x (suc first) ops r)
]

in_pushed : (x : Entry) (bs : Batches) (first : ℕ) (ops : List Op) → IsIn x (entries_of (bs ++ (first, ops) ∷ [])) → IsIn x (entries_of bs) ⊎ (first ≤ x.number)
in_pushed x [] first ops i = elim (in_append x (numbered first ops) [] i) [ inl a ↦ inr (in_numbered x first ops a).0 | inr b ↦ absurd b ]
in_pushed x (b ∷ bs) first ops i = elim (in_append x (numbered b.0 b.1) (entries_of (bs ++ (first, ops) ∷ [])) i) [
  | inl a ↦ inl (in_left x (numbered b.0 b.1) (entries_of bs) a)
  | inr r ↦ elim (in_pushed x bs first ops r) [ inl c ↦ inl (in_right x (numbered b.0 b.1) (entries_of bs) c) | inr d ↦ inr d ]
]

still_in : (x : Entry) (bs cs : Batches) → IsIn x (entries_of bs) → IsIn x (entries_of (bs ++ cs))
still_in x [] cs i = absurd i
still_in x (b ∷ bs) cs i = elim (in_append x (numbered b.0 b.1) (entries_of bs) i) [
  | inl a ↦ in_left x (numbered b.0 b.1) (entries_of (bs ++ cs)) a
  | inr r ↦ in_right x (numbered b.0 b.1) (entries_of (bs ++ cs)) (still_in x bs cs r)
]

pub pushed_same : (bs : Batches) (first : ℕ) (ops : List Op) (to : ℕ) → to < first → (x : Entry) → Flushed bs to x ↔ Flushed (bs ++ (first, ops) ∷ []) to x
pushed_same bs first ops to l x = (
  λ f. record { entry = still_in x bs ((first, ops) ∷ []) f.entry; upto = f.upto },
  λ f. record { entry = elim (in_pushed x bs first ops f.entry) [ inl a ↦ a | inr b ↦ absurd (omega (arith, f.upto)) ]; upto = f.upto },
)

dropped_sub : (x : Entry) (n : ℕ) (bs : Batches) → IsIn x (entries_of (batches_to n bs)) → IsIn x (entries_of bs)
dropped_sub x n [] i = i
dropped_sub x n (b ∷ bs) i = by (nat_le (b.0 + length b.1 - 1) n) i (dropped_sub x n bs)
  where
    by : (c : Bool) → IsIn x (entries_of (cond c (b ∷ batches_to n bs) (batches_to n bs))) → (IsIn x (entries_of (batches_to n bs)) → IsIn x (entries_of bs)) → IsIn x (numbered b.0 b.1 ++ entries_of bs)
    by true i ih = elim (in_append x (numbered b.0 b.1) (entries_of (batches_to n bs)) i) [ inl a ↦ in_left x (numbered b.0 b.1) (entries_of bs) a | inr r ↦ in_right x (numbered b.0 b.1) (entries_of bs) (ih r) ]
    by false i ih = in_right x (numbered b.0 b.1) (entries_of bs) (ih i)

pub above_low : (low : ℕ) (bs : Batches) (x : Entry) → ordered_above low bs ≡ true → IsIn x (entries_of bs) → low < x.number
above_low low [] x h i = absurd i
above_low low (b ∷ bs) x h i =
    let p3 = and_parts _ _ h in
    let p2 = and_parts _ _ p3.0 in
    let p1 = and_parts _ _ p2.0 in
    elim (in_append x (numbered b.0 b.1) (entries_of bs) i) [
      | inl a ↦ omega (arith, ltb-true low b.0 p1.0, (in_numbered x b.0 b.1 a).0)
      | inr r ↦ omega (arith, ltb-true low b.0 p1.0, ltb-true 0 (length b.1) p1.1, above_low (b.0 + length b.1 - 1) bs x p3.1 r)
    ]

boundary_above : (low n : ℕ) (bs : Batches) → ordered_above low bs ≡ true → is_boundary n bs ≡ true → (n ≡ 0) ⊎ (low < n)
boundary_above low n [] h b = inl (eqb-true n 0 b)
boundary_above low n (x ∷ bs) h b =
    let p3 = and_parts _ _ h in
    let p2 = and_parts _ _ p3.0 in
    let p1 = and_parts _ _ p2.0 in
    let first : low < x.0 = ltb-true low x.0 p1.0 in
    let some : 0 < length x.1 = ltb-true 0 (length x.1) p1.1 in
    elim (or_cases (n == x.0 + length x.1 - 1) (is_boundary n bs) b) [
      | inl e ↦ inr (omega (arith, eqb-true n (x.0 + length x.1 - 1) e))
      | inr r ↦ elim (boundary_above (x.0 + length x.1 - 1) n bs p3.1 r) [ inl z ↦ inl z | inr l ↦ inr (omega arith) ]
    ]

pub kept_batches : (low n : ℕ) (bs : Batches) (x : Entry) → ordered_above low bs ≡ true → is_boundary n bs ≡ true → IsIn x (entries_of bs) → x.number ≤ n → IsIn x (entries_of (batches_to n bs))
kept_batches low n [] x h b i l = i
kept_batches low n (y ∷ bs) x h b i l =
    let p3 = and_parts _ _ h in
    let p2 = and_parts _ _ p3.0 in
    let p1 = and_parts _ _ p2.0 in
    let some : 0 < length y.1 = ltb-true 0 (length y.1) p1.1 in
    let high : low < x.number = above_low low (y ∷ bs) x h i in
    by (nat_le (y.0 + length y.1 - 1) n) refl (in_append x (numbered y.0 y.1) (entries_of bs) i)
    (λ r. elim (or_cases (n == y.0 + length y.1 - 1) (is_boundary n bs) b) [
      | inl e ↦ absurd (omega (arith, eqb-true n (y.0 + length y.1 - 1) e, above_low (y.0 + length y.1 - 1) bs x p3.1 r))
      | inr q ↦ kept_batches (y.0 + length y.1 - 1) n bs x p3.1 q r l
    ])
    (elim (or_cases (n == y.0 + length y.1 - 1) (is_boundary n bs) b) [
      | inl e ↦ omega (arith, eqb-true n (y.0 + length y.1 - 1) e)
      | inr q ↦ elim (boundary_above (y.0 + length y.1 - 1) n bs p3.1 q) [ inl z ↦ absurd (omega arith) | inr m ↦ omega arith ]
    ])
  where
    by : (c : Bool) → nat_le (y.0 + length y.1 - 1) n ≡ c → IsIn x (numbered y.0 y.1) ⊎ IsIn x (entries_of bs)
        → (IsIn x (entries_of bs) → IsIn x (entries_of (batches_to n bs))) → y.0 + length y.1 - 1 ≤ n
        → IsIn x (entries_of (cond c (y ∷ batches_to n bs) (batches_to n bs)))
    by true e i ih le = elim i [ inl a ↦ in_left x (numbered y.0 y.1) (entries_of (batches_to n bs)) a | inr r ↦ in_right x (numbered y.0 y.1) (entries_of (batches_to n bs)) (ih r) ]
    by false e i ih le = absurd (omega (arith, leb-false (y.0 + length y.1 - 1) n e))

pub dropped_same : (bs : Batches) (n to : ℕ) → are_in_order bs ≡ true → is_boundary n bs ≡ true → to ≤ n → (x : Entry) → Flushed bs to x ↔ Flushed (batches_to n bs) to x
dropped_same bs n to h b l x = (
  λ f. record { entry = kept_batches 0 n bs x h b f.entry (omega (arith, f.upto)); upto = f.upto },
  λ f. record { entry = dropped_sub x n bs f.entry; upto = f.upto },
)

end_last : (n : ℕ) (bs : Batches) → is_boundary n bs ≡ true → n ≤ last_number (batches_to n bs)
end_last n [] b = omega (arith, eqb-true n 0 b)
end_last n (x ∷ bs) b = by (nat_le (x.0 + length x.1 - 1) n) refl (or_cases (n == x.0 + length x.1 - 1) (is_boundary n bs) b) (end_last n bs)
  where
    by : (c : Bool) → nat_le (x.0 + length x.1 - 1) n ≡ c → ((n == x.0 + length x.1 - 1) ≡ true) ⊎ (is_boundary n bs ≡ true) → (is_boundary n bs ≡ true → n ≤ last_number (batches_to n bs))
        → n ≤ last_number (cond c (x ∷ batches_to n bs) (batches_to n bs))
    by true e h ih = elim h [ inl s ↦ omega (arith, eqb-true n (x.0 + length x.1 - 1) s) | inr r ↦ omega (arith, ih r) ]
    by false e h ih = elim h [ inl s ↦ absurd (omega (arith, eqb-true n (x.0 + length x.1 - 1) s, leb-false (x.0 + length x.1 - 1) n e)) | inr r ↦ ih r ]

pub to_kept : (bs : Batches) (n to : ℕ) → are_in_order bs ≡ true → is_boundary n bs ≡ true → to ≤ n → to ≤ last_number (batches_to n bs)
to_kept bs n to h b l = omega (arith, end_last n bs b)
