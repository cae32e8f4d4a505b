-- Each Move of a history finds its candidates cut.
use Rattle.std.proofs.Common.{nat_le, ◌≡◌, ℕ, zero, suc, ◌+◌, ◌-◌, ◌*◌, ◌<◌, ◌≤◌, ◌≢◌, Bool, true, false, cond, ◌&&◌, ◌||◌, not, List, [], ◌∷◌, ◌++◌, ◌⊎◌, inl, inr, refl, sym, ◌∙◌, ap, subst, arith}
use Rattle.std.specs.Prelude.{filter, Option, Some, None, unwrap_or}
use Rattle.std.specs.Cmp.Lexicographic.{bytes_decides}
use Rattle.std.proofs.lemmas.Bool.{and_parts, and_from, or_cases, or_left, or_right, cases_Bool, leb-true, le-leb, true≢false, false≢true, not-true}
use Rattle.std.proofs.Math.Nat.{mul-le-mul_left}
use Rattle.peb_base.specs.Keys.{Bytes, key_eq}
use Rattle.flsm_model.specs.Ranges.{in_range, has_key}
use Rattle.peb_base.specs.Batches.{Batches, entries_of, last_number}
use Rattle.peb_base.specs.Entries.{entries_between, in_order}
use Rattle.peb_base.specs.Choice.{need, meets, level_from, level_of}
use Rattle.peb_base.specs.Profiles.{column, Column}
use Rattle.flsm_model.specs.Compaction.{is_put}
use Rattle.peb_base.specs.declared.entry.Entry.{Entry}
use Rattle.flsm_model.specs.declared.chosen.Chosen.{Chosen}
use Rattle.flsm_model.specs.declared.edit.Edit.{Edit}
use Rattle.flsm_model.specs.declared.edit.Edit.TheVariants.{Open, Flush, Move, Cut, Merge}
use Rattle.flsm_model.specs.declared.job_kind.JobKind.{JobKind}
use Rattle.flsm_model.specs.declared.job_kind.JobKind.TheVariants.{Flush as FlushJob, Move as MoveJob, Cut as CutJob, Merge as MergeJob}
use Rattle.flsm_model.specs.declared.job.Job.{Job}
use Rattle.flsm_model.specs.Shape.{Record, Shape, shape_after, shape_from, shape_of, empty_shape, has_number}
use Rattle.flsm_model.specs.Fits.{fits, fit_from, is_chosen, is_guard}
use Rattle.flsm_model.specs.Trees.{Table, Tree, contents, tree_after, tree_of, tree_from, empty_tree}
use Rattle.flsm_model.specs.Choices.{put_keys, choices, chosen_at, chosen_by, Chooses}
use Rattle.flsm_model.specs.TrueRecord.{DescribedFrom}
use Rattle.peb_base.specs.Members.{IsIn}
use Rattle.flsm_model.specs.Events.{Event, Opened, Commit, Synced, Look, Hold, Release, Freeze, Begin, Done, Short, JournalFault, Stop, Session, Standing, Running, base}
use Rattle.flsm_model.specs.Jobs.{is_guard_from, IsLawful, IsMove, IsOfKind}
use Rattle.flsm_model.specs.Outcomes.{IsEditOf, IsOutcome}
use Rattle.flsm_model.specs.Legal.{Allowed, IsLegal, last_running}
use Rattle.flsm_model.specs.Steps.{step, run, with_edit}
use Rattle.flsm_model.specs.Placing.{CutBefore, CutBeforeFrom, MovesAreCut, AlwaysCut}
use Rattle.flsm_model.proofs.lists.Members.{in_paired, from_move, from_merge, from_cut}
use Rattle.flsm_model.proofs.guards.Facts.{move_facts}
use Rattle.flsm_model.proofs.contents.Falls.{after}
use Rattle.flsm_model.proofs.contents.Begin.{keys_inside}
use Rattle.flsm_model.proofs.contents.Beside.{no_input}
use Rattle.flsm_model.proofs.histories.Histories.{JobsHold, JobsIn, job_in, fresh_rows}
use Rattle.flsm_model.proofs.contents.Places.{Within, shape_same}
use Rattle.flsm_model.proofs.contents.MapLaw.{SessionShows, to_after, end_of_batch}
use Rattle.flsm_model.proofs.contents.Structure.{Agree, tree_same, installed_same, to_grows_from, agree_push}
use Rattle.flsm_model.proofs.contents.Base.{deep}
use Rattle.flsm_model.proofs.guards.GuardKeys.{guard_stays}
use Rattle.flsm_model.proofs.histories.Truth.{All, Books, shape_told, books_edit, agree_drop}
use Rattle.flsm_model.proofs.histories.Undisturb.{chosen_left}
use Rattle.flsm_model.proofs.histories.Whole.{Stands, stands_base, stands_step}
use Rattle.flsm_model.proofs.histories.Jobs.{EachJob, FaultJobs, InEach, Ends, each_step}
use Rattle.flsm_model.proofs.lists.Lists.{all_in, any_in, in_kept}
use Rattle.flsm_model.specs.Sound.{IsBounded}
use Rattle.flsm_model.specs.Fits.{is_candidate}
use Rattle.flsm_model.proofs.guards.BoundLaw.{bound_from, empty_bounded}
use Rattle.flsm_model.proofs.picking.Needs.{level-meets}

-- ---- which keys have a level

needs_less : (o : Column) (a b : ℕ) → a ≤ b → need o b ≤ need o a
needs_less o a b l =
    let up : o.decrement * (a - 1) ≤ o.decrement * (b - 1) = mul-le-mul_left o.decrement (omega arith) in
    omega (arith, up)

pub meets_deeper : (o : Column) (a b : ℕ) (k : Bytes) → a ≤ b → meets o a k ≡ true → meets o b k ≡ true
meets_deeper o a b k l h = le-leb (need o b) _ (omega (arith, needs_less o a b l, leb-true (need o a) _ h))

level_some : (o : Column) (k : Bytes) (l level count : ℕ) → level ≤ l → l < level + count → meets o l k ≡ true → (m : ℕ) × (level_from o k level count ≡ Some m)
level_some o k l level zero a b h = absurd (omega arith)
level_some o k l level (suc count) a b h = by (meets o level k) refl (λ ne. level_some o k l (suc level) count ne (omega arith) h)
  where
    by : (c : Bool) → meets o level k ≡ c → (suc level ≤ l → (m : ℕ) × (level_from o k (suc level) count ≡ Some m)) → (m : ℕ) × (cond c (Some level) (level_from o k (suc level) count) ≡ Some m)
    by true e ih = (level, refl)
    by false e ih =
        let ne : level ≢ l = λ q. true≢false (sym h ∙ ap (λ z. meets o z k) (sym q) ∙ e) in
        ih (omega (arith, ne))

-- ---- puts that are flushed have chosen their keys

pub record PutsChosen (o : Column) (t : Tree) : Type 0 where
  pub chosen : (u : Table) (x : Entry) → IsIn u t.tables → IsIn x u.entries → is_put x.change ≡ true → meets o o.last_level x.key ≡ true → is_chosen t.shape.chosen x.key ≡ true

chosen_right : (cs ds : List Chosen) (k : Bytes) → is_chosen ds k ≡ true → is_chosen (cs ++ ds) k ≡ true
chosen_right [] ds k h = h
chosen_right (c ∷ cs) ds k h = or_right (key_eq k c.key) _ (chosen_right cs ds k h)

put_key_in : (x : Entry) (es : List Entry) → IsIn x es → is_put x.change ≡ true → IsIn x.key (put_keys es)
put_key_in x [] i p = absurd i
put_key_in x (e ∷ es) i p = by (is_put e.change) (has_key e.key (put_keys es)) refl refl i (λ r. put_key_in x es r p)
  where
    key_in : (k : Bytes) (ks : List Bytes) → has_key k ks ≡ true → IsIn k ks
    key_in k [] h = absurd (false≢true h)
    key_in k (q ∷ ks) h = elim (or_cases (key_eq k q) (has_key k ks) h) [ inl s ↦ inl ((bytes_decides k q).0 s) | inr r ↦ inr (key_in k ks r) ]

    by : (a b : Bool) → is_put e.change ≡ a → has_key e.key (put_keys es) ≡ b → (x ≡ e) ⊎ IsIn x es → (IsIn x es → IsIn x.key (put_keys es))
        → IsIn x.key (cond (a && not b) (e.key ∷ put_keys es) (put_keys es))
    by true true ea eb i ih = elim i [ inl s ↦ subst (λ (z : Entry). IsIn z.key (put_keys es)) (sym s) (key_in e.key (put_keys es) eb) | inr r ↦ ih r ]
    by true false ea eb i ih = elim i [ inl s ↦ inl (ap (λ (z : Entry). z.key) s) | inr r ↦ inr (ih r) ]
    by false b ea eb i ih = elim i [ inl s ↦ absurd (true≢false (sym p ∙ ap (λ (z : Entry). is_put z.change) s ∙ ea)) | inr r ↦ ih r ]

choice_in : (o : Column) (k : Bytes) (m : ℕ) (ks : List Bytes) → IsIn k ks → level_of o k ≡ Some m → is_chosen (choices o ks) k ≡ true
choice_in o k m [] i h = absurd i
choice_in o k m (q ∷ ks) i h = elim i [
  | inl s ↦
      let one : is_chosen (chosen_at k (level_of o k)) k ≡ true = rw h (or_left (key_eq k k) false ((bytes_decides k k).1 refl)) in
      chosen_left (chosen_at q (level_of o q)) (choices o ks) k (subst (λ z. is_chosen (chosen_at z (level_of o z)) k ≡ true) s one)
  | inr r ↦ chosen_right (chosen_at q (level_of o q)) (choices o ks) k (choice_in o k m ks r h)
]

-- a put of a flush whose bits meet the last level's need is chosen then, or was before
flush_chooses : (o : Column) (s : Shape) (es : List Entry) (x : Entry) → 0 < o.last_level → IsIn x es → is_put x.change ≡ true → meets o o.last_level x.key ≡ true
    → is_chosen (s.chosen ++ chosen_by o s es) x.key ≡ true
flush_chooses o s es x d i p m = elim (cases_Bool (is_chosen s.chosen x.key)) [
  | inl there ↦ chosen_left s.chosen (chosen_by o s es) x.key there
  | inr absent ↦
      let l = level_some o x.key o.last_level 1 o.last_level d (omega arith) m in
      chosen_right s.chosen (chosen_by o s es) x.key
      (choice_in o x.key l.0 (filter (λ k. not (is_chosen s.chosen k)) (put_keys es)) (in_kept (λ k. not (is_chosen s.chosen k)) x.key (put_keys es) (put_key_in x es i p) (ap not absent)) l.1)
]

pub puts_step : (o : Column) (bs : Batches) (t : Tree) (e : Edit) → 0 < o.last_level → Chooses o bs t e → PutsChosen o t → PutsChosen o (tree_after o bs t e)
puts_step o bs t (Open session log) d c h =
    record { chosen = λ u x i q. elim (after o bs t (Open session log) u i) [ inl a ↦ h.chosen u x a.0 q | inr b ↦ absurd b ] }
puts_step o bs t (Flush row from to log chosen) d c h =
    let es : List Entry = in_order (entries_between from to (entries_of bs)) in
    record {
      chosen = λ u x i q p m. elim (after o bs t (Flush row from to log chosen) u i) [
        | inl a ↦ chosen_left t.shape.chosen chosen x.key (h.chosen u x a.0 q p m)
        | inr b ↦
            let here : IsIn u.entries (es ∷ []) = (in_paired u (row ∷ []) (contents o bs t (Flush row from to log chosen)) b).1 in
            let same : u.entries ≡ es = elim here [ inl s ↦ s | inr r ↦ absurd r ] in
            subst (λ cs. is_chosen (t.shape.chosen ++ cs) x.key ≡ true) (sym c) (flush_chooses o t.shape es x d (subst (IsIn x) same q) p m)
      ];
    }
puts_step o bs t (Move level floor inputs outputs) d c h =
    record {
      chosen = λ u x i q p m. elim (after o bs t (Move level floor inputs outputs) u i) [
        | inl a ↦ h.chosen u x a.0 q p m
        | inr b ↦ let v = from_move o bs t level floor inputs outputs u x b q in h.chosen v.0 x v.1 v.3 p m
      ];
    }
puts_step o bs t (Cut level keys inputs outputs) d c h =
    record {
      chosen = λ u x i q p m. elim (after o bs t (Cut level keys inputs outputs) u i) [
        | inl a ↦ h.chosen u x a.0 q p m
        | inr b ↦ let v = from_cut o bs t level keys inputs outputs u x b q in h.chosen v.0 x v.1 v.3 p m
      ];
    }
puts_step o bs t (Merge floor whole inputs outputs) d c h =
    record {
      chosen = λ u x i q p m. elim (after o bs t (Merge floor whole inputs outputs) u i) [
        | inl a ↦ h.chosen u x a.0 q p m
        | inr b ↦ let v = from_merge o bs t floor whole inputs outputs u x b q in h.chosen v.0 x v.1 v.3 p m
      ];
    }

puts_from : (o : Column) (bs : Batches) (t : Tree) (r : Record) → 0 < o.last_level → DescribedFrom o bs t r → PutsChosen o t → PutsChosen o (tree_from o bs t r)
puts_from o bs t [] d h p = p
puts_from o bs t (e ∷ es) d h p = puts_from o bs (tree_after o bs t e) es d h.2 (puts_step o bs t e d h.1 p)

pub puts_now : (o : Column) (w : Standing) → 0 < o.last_level → All o w → PutsChosen o w.tree
puts_now o w d h =
    let b = h.told.books in
    subst (PutsChosen o) (sym b.tree) (puts_from o w.batches (empty_tree o) w.edits d b.described (record { chosen = λ u x i. absurd i }))

-- each chosen key stands at its level
choices_now : (o : Column) (w : Standing) → All o w → (c : Chosen) → IsIn c w.tree.shape.chosen → level_of o c.key ≡ Some c.level
choices_now o w h =
    let b = h.told.books in
    (subst (IsBounded o) (sym (shape_told o w.batches w.edits w.tree b)) (bound_from o (empty_shape o) w.edits b.legal (empty_bounded o))).choices

-- ---- a Move in flight has its candidates cut

pub record IsCutFor (o : Column) (t : Tree) (j : Job) : Type 0 where
  pub cut : j.kind ≡ MoveJob → (u : Table) (x : Entry) → IsIn u t.tables → has_number u.row.number j.inputs ≡ true → IsIn x u.entries → is_put x.change ≡ true
      → meets o (suc j.level) x.key ≡ true → is_guard t.shape (suc j.level) x.key ≡ true

first_guard : (s : Shape) (k : Bytes) (level count : ℕ) → 0 < count → is_guard_from s k level count ≡ true → is_guard s level k ≡ true
first_guard s k level zero l h = absurd (omega arith)
first_guard s k level (suc count) l h = (and_parts _ _ h).0

cut_starts : (o : Column) → 0 < o.last_level → (w : Standing) (n : Session) (j : Job) → All o w → w.session ≡ Some n → IsLawful o w n j → IsCutFor o w.tree j
cut_starts o d w n j al eq l = record { cut = λ k u x i m q p me. by k (subst (λ a. IsOfKind a o w.tree.shape n j) k l.kind) u x i m q p me }
  where
    by : j.kind ≡ MoveJob → IsMove o w.tree.shape n j → (u : Table) (x : Entry) → IsIn u w.tree.tables → has_number u.row.number j.inputs ≡ true → IsIn x u.entries → is_put x.change ≡ true
        → meets o (suc j.level) x.key ≡ true → is_guard w.tree.shape (suc j.level) x.key ≡ true
    by k mv u x i m q p me =
        let f = move_facts o w.tree.shape j.level j.floor j.inputs [] mv.fit in
        let ch : is_chosen w.tree.shape.chosen x.key ≡ true = (puts_now o w d al).chosen u x i q p (meets_deeper o (suc j.level) o.last_level x.key f.above me) in
        let c = any_in (λ (c : Chosen). key_eq x.key c.key) w.tree.shape.chosen ch in
        let same : x.key ≡ c.0.key = (bytes_decides x.key c.0.key).0 c.2 in
        let inside : in_range j.lo j.hi x.key ≡ true = keys_inside o w.tree j al.holds.sound.rows al.holds.sound.spans al.holds.sound.known mv.inside u x i m q in
        let level : nat_le c.0.level (suc j.level) ≡ true = level-meets o c.0.key (suc j.level) c.0.level (choices_now o w al c.0 c.1) (omega arith) ∙ subst (λ z. meets o (suc j.level) z ≡ true) same me in
        let all = all_in (λ (c : Chosen). not (nat_le c.level (suc j.level) && in_range j.lo j.hi c.key) || is_guard_from w.tree.shape c.key (suc j.level) (suc o.last_level - suc j.level)) c.0 w.tree.shape.chosen mv.committed c.1 in
        elim (or_cases _ _ all) [
          | inl absent ↦ absurd (true≢false (sym (and_from _ _ level (subst (λ z. in_range j.lo j.hi z ≡ true) same inside)) ∙ not-true _ absent))
          | inr g ↦ subst (λ z. is_guard w.tree.shape (suc j.level) z ≡ true) (sym same) (first_guard w.tree.shape c.0.key (suc j.level) (suc o.last_level - suc j.level) (omega (arith, f.above)) g)
        ]

cut_kept : (o : Column) (w : Standing) (n : Session) (j k : Job) (e : Edit) → All o w → w.session ≡ Some n → Ends o w n j k e → IsCutFor o w.tree j → IsCutFor o w.tree k → IsCutFor o (tree_after o w.batches w.tree e) k
cut_kept o w n j k e al eq en hj hk =
    let jobs : JobsIn o w.tree n = subst (JobsHold o w.tree) eq al.holds.jobs in
    record {
      cut = λ kind u x i m q p me. elim (after o w.batches w.tree e u i) [
        | inl a ↦ guard_stays o w.tree.shape e (suc k.level) x.key al.holds.sound.guards en.outcome.formed.fit (hk.cut kind u x a.0 m q p me)
        | inr b ↦ absurd (true≢false (sym m ∙ no_input o w.batches w.tree e k u (fresh_rows o w.tree.shape e en.outcome.formed.fit) (jobs.now.each (en.other.0, k) en.other.1) b))
      ];
    }

-- the outcome of a job in flight finds its candidates cut
cut_outcome : (o : Column) (w : Standing) (n : Session) (j : Job) (e : Edit) → All o w → IsOutcome o w n j e → IsCutFor o w.tree j → CutBefore w.tree e
cut_outcome o w n j e al out h = by j.kind refl e out.formed.same
  where
    met : (level : ℕ) (k : Bytes) → is_candidate w.tree.shape.chosen (suc level) k ≡ true → meets o (suc level) k ≡ true
    met level k c =
        let d = any_in (λ (z : Chosen). nat_le z.level (suc level) && key_eq k z.key) w.tree.shape.chosen c in
        let p = and_parts (nat_le d.0.level (suc level)) (key_eq k d.0.key) d.2 in
        subst (λ z. meets o (suc level) z ≡ true) (sym ((bytes_decides k d.0.key).0 p.1))
        (sym (level-meets o d.0.key (suc level) d.0.level (choices_now o w al d.0 d.1) (omega arith)) ∙ p.0)

    by : (a : JobKind) → j.kind ≡ a → (e : Edit) → IsEditOf a n j e → CutBefore w.tree e
    by FlushJob k (Flush row from to log chosen) q = tt
    by FlushJob k (Open session log) q = absurd q
    by FlushJob k (Move level fl inputs outputs) q = absurd q
    by FlushJob k (Cut level keys inputs outputs) q = absurd q
    by FlushJob k (Merge fl whole inputs outputs) q = absurd q
    by MoveJob k (Move level fl inputs outputs) q =
        λ u x i m r p c.
        subst (λ l. is_guard w.tree.shape (suc l) x.key ≡ true) (sym q.0)
        (h.cut k u x i (subst (λ ns. has_number u.row.number ns ≡ true) q.2 m) r p (subst (λ l. meets o (suc l) x.key ≡ true) q.0 (met level x.key c)))
    by MoveJob k (Open session log) q = absurd q
    by MoveJob k (Flush row from to log chosen) q = absurd q
    by MoveJob k (Cut level keys inputs outputs) q = absurd q
    by MoveJob k (Merge fl whole inputs outputs) q = absurd q
    by CutJob k (Cut level keys inputs outputs) q = tt
    by CutJob k (Open session log) q = absurd q
    by CutJob k (Flush row from to log chosen) q = absurd q
    by CutJob k (Move level fl inputs outputs) q = absurd q
    by CutJob k (Merge fl whole inputs outputs) q = absurd q
    by MergeJob k (Merge fl whole inputs outputs) q = tt
    by MergeJob k (Open session log) q = absurd q
    by MergeJob k (Flush row from to log chosen) q = absurd q
    by MergeJob k (Move level fl inputs outputs) q = absurd q
    by MergeJob k (Cut level keys inputs outputs) q = absurd q

-- ---- over the edits since the base

cut_same : (o : Column) (bs cs : Batches) (k : ℕ) (t : Tree) (r : Record) → Agree bs cs k → fit_from o t.shape r ≡ true → (shape_from t.shape r).to ≤ k → CutBeforeFrom o bs t r → CutBeforeFrom o cs t r
cut_same o bs cs k t [] a f l d = tt
cut_same o bs cs k t (e ∷ es) a f l d =
    let p = and_parts (fits o t.shape e) _ f in
    let le : (shape_after t.shape e).to ≤ k = omega (arith, to_grows_from o (shape_after t.shape e) es p.1) in
    (d.0, subst (λ u. CutBeforeFrom o cs u es) (installed_same o bs cs k t e a le) (cut_same o bs cs k (tree_after o bs t e) es a p.1 l d.1))

cut_push : (o : Column) (bs : Batches) (t : Tree) (r : Record) (e : Edit) → CutBeforeFrom o bs t r → CutBefore (tree_from o bs t r) e → CutBeforeFrom o bs t (r ++ e ∷ [])
cut_push o bs t [] e d c = (c, tt)
cut_push o bs t (x ∷ r) e d c = (d.0, cut_push o bs (tree_after o bs t x) r e d.1 c)

tree_append : (o : Column) (bs : Batches) (t : Tree) (r es : Record) → tree_from o bs t (r ++ es) ≡ tree_from o bs (tree_from o bs t r) es
tree_append o bs t [] es = refl
tree_append o bs t (x ∷ r) es = tree_append o bs (tree_after o bs t x) r es

shape_append : (s : Shape) (r es : Record) → shape_from s (r ++ es) ≡ shape_from (shape_from s r) es
shape_append s [] es = refl
shape_append s (x ∷ r) es = shape_append (shape_after s x) r es

pub fit_append : (o : Column) (s : Shape) (r es : Record) → fit_from o s (r ++ es) ≡ true → (fit_from o s r ≡ true) × (fit_from o (shape_from s r) es ≡ true)
fit_append o s [] es h = (refl, h)
fit_append o s (x ∷ r) es h =
    let p = and_parts (fits o s x) _ h in
    let q = fit_append o (shape_after s x) r es p.1 in
    (and_from _ _ p.0 q.0, q.1)

assoc : (r es : Record) (e : Edit) → (r ++ es) ++ e ∷ [] ≡ r ++ (es ++ e ∷ [])
assoc [] es e = refl
assoc (x ∷ r) es e = ap (λ z. x ∷ z) (assoc r es e)

-- one edit more
moves_edit : (o : Column) (r : Record) (w : Standing) (e : Edit) (w2 : Standing) → w2.batches ≡ w.batches → w2.edits ≡ w.edits ++ e ∷ [] → All o w → CutBefore w.tree e → MovesAreCut o r w → MovesAreCut o r w2
moves_edit o r w e w2 sb se al c h =
    let now : w.tree ≡ tree_from o w.batches (tree_of o w.batches r) h.since =
    al.told.books.tree ∙ ap (tree_of o w.batches) h.edits ∙ tree_append o w.batches (empty_tree o) r h.since in
    record {
      since = h.since ++ e ∷ [];
      edits = se ∙ ap (λ z. z ++ e ∷ []) h.edits ∙ assoc r h.since e;
      cut = subst (λ bs. CutBeforeFrom o bs (tree_of o bs r) (h.since ++ e ∷ [])) (sym sb) (cut_push o w.batches (tree_of o w.batches r) h.since e h.cut (subst (λ t. CutBefore t e) now c));
    }

-- other batches
moves_batches : (o : Column) (r : Record) (w : Standing) (w2 : Standing) (k : ℕ) → w2.edits ≡ w.edits → Agree w.batches w2.batches k → w.tree.shape.to ≤ k → Books o w.batches w.edits w.tree → MovesAreCut o r w → MovesAreCut o r w2
moves_batches o r w w2 k se a le b h =
    let bs = w.batches in
    let cs = w2.batches in
    let f = fit_append o (empty_shape o) r h.since (subst (λ z. fit_from o (empty_shape o) z ≡ true) h.edits b.legal) in
    let le2 : (shape_from (shape_from (empty_shape o) r) h.since).to ≤ k =
    subst (λ s. s.to ≤ k) (shape_told o bs w.edits w.tree b ∙ ap (shape_of o) h.edits ∙ shape_append (empty_shape o) r h.since) le in
    let le3 : (shape_from (empty_shape o) r).to ≤ k = omega (arith, to_grows_from o (shape_from (empty_shape o) r) h.since f.1) in
    let shape : (tree_of o bs r).shape ≡ shape_from (empty_shape o) r = shape_same o bs (empty_tree o) r in
    record {
      since = h.since;
      edits = se ∙ h.edits;
      cut = subst (λ t. CutBeforeFrom o cs t h.since) (tree_same o bs cs k (empty_tree o) r a f.0 le3)
          (cut_same o bs cs k (tree_of o bs r) h.since a (subst (λ s. fit_from o s h.since ≡ true) (sym shape) f.1) (subst (λ s. (shape_from s h.since).to ≤ k) (sym shape) le2) h.cut);
    }

same_moves : (o : Column) (r : Record) (w w2 : Standing) → w2.batches ≡ w.batches → w2.edits ≡ w.edits → MovesAreCut o r w → MovesAreCut o r w2
same_moves o r w w2 sb se h = record { since = h.since; edits = se ∙ h.edits; cut = subst (λ bs. CutBeforeFrom o bs (tree_of o bs r) h.since) (sym sb) h.cut }

last_each : (J : Tree → Job → Type 0) (t : Tree) (n : Session) → EachJob J t n.running × FaultJobs J t n.faulted → EachJob J t (last_running n)
last_each J t n h = by n.faulted h.1
  where
    by : (x : Option (List Running)) → FaultJobs J t x → EachJob J t (unwrap_or x n.running)
    by None y = h.0
    by (Some rs) y = y

pub moves_step : (o : Column) (r : Record) (w : Standing) (e : Event) → All o w → InEach (IsCutFor o) w.tree w.session → MovesAreCut o r w → Allowed o w w.session e → MovesAreCut o r (step o w e)
moves_step o r w (Opened session log) al ea h a = moves_edit o r w (Open session log) _ refl refl al tt h
moves_step o r w (Commit actor first ops) al ea h a = by w.session a al.placed.within
  where
    by : (s : Option Session) → Allowed o w s (Commit actor first ops) → Within (last_number w.batches) w.tree.shape.session s → MovesAreCut o r (step o w (Commit actor first ops))
    by None x y = absurd x
    by (Some n) x y =
        let above : w.tree.shape.to < first = omega (arith, al.shows.to_last, x.3, y.0) in
        moves_batches o r w _ w.tree.shape.to refl (agree_push w.batches first ops w.tree.shape.to above) (omega arith) al.told.books h
moves_step o r w (Synced actor m) al ea h a = same_moves o r w _ refl refl h
moves_step o r w (Look actor m) al ea h a = h
moves_step o r w (Hold actor m) al ea h a = same_moves o r w _ refl refl h
moves_step o r w (Release actor m) al ea h a = same_moves o r w _ refl refl h
moves_step o r w (Freeze m) al ea h a = same_moves o r w _ refl refl h
moves_step o r w (Begin actor job) al ea h a = same_moves o r w _ refl refl h
moves_step o r w (Done actor e) al ea h a = by w.session a ea
  where
    by : (s : Option Session) → Allowed o w s (Done actor e) → InEach (IsCutFor o) w.tree s → MovesAreCut o r (step o w (Done actor e))
    by None x y = absurd x
    by (Some n) x y =
        let out = job_in n.running actor (λ k. IsOutcome o w n k e) x.1 in
        moves_edit o r w e _ refl refl al (cut_outcome o w n out.0 e al out.2 (y.0 (actor, out.0) out.1)) h
moves_step o r w (Short actor cause bytes) al ea h a = same_moves o r w _ refl refl h
moves_step o r w JournalFault al ea h a = same_moves o r w _ refl refl h
moves_step o r w (Stop m None) al ea h a = by w.session a al.shows.session
  where
    by : (s : Option Session) → Allowed o w s (Stop m None) → SessionShows w.tree.shape.to (last_number w.batches) s → MovesAreCut o r (step o w (Stop m None))
    by None x y = absurd x
    by (Some n) x y = moves_batches o r w _ m refl (agree_drop 0 m w.batches al.placed.ordered (end_of_batch w m al.holds.tells x.0)) (omega (arith, y.stable, x.1)) al.told.books h
moves_step o r w (Stop m (Some e)) al ea h a = by w.session a ea al.shows.session
  where
    by : (s : Option Session) → Allowed o w s (Stop m (Some e)) → InEach (IsCutFor o) w.tree s → SessionShows w.tree.shape.to (last_number w.batches) s → MovesAreCut o r (step o w (Stop m (Some e)))
    by None x y z = absurd x
    by (Some n) x y z =
        let out = job_in (last_running n) x.2.0 (λ q. IsOutcome o w n q e) x.2.1 in
        let mid : Standing = with_edit o w e in
        let one : MovesAreCut o r mid = moves_edit o r w e mid refl refl al (cut_outcome o w n out.0 e al out.2 (last_each (IsCutFor o) w.tree n y (x.2.0, out.0) out.1)) h in
        let books : Books o mid.batches mid.edits mid.tree = books_edit o w.batches w.edits w.tree e al.told.books out.2.formed.fit (out.2.holds al.holds.tells) (out.2.chooses al.holds.tells) in
        moves_batches o r mid _ m refl (agree_drop 0 m w.batches al.placed.ordered (end_of_batch w m al.holds.tells x.0)) (omega (arith, to_after o w n out.0 e out.2.formed.same z, x.1)) books one

-- ---- the law

pub record AllCut (o : Column) (r : Record) (w : Standing) : Type 0 where
  pub stands : Stands o w
  pub each : InEach (IsCutFor o) w.tree w.session
  pub moves : MovesAreCut o r w

cut_run : (o : Column) (r : Record) (w : Standing) (es : List Event) → 0 < o.last_level → AllCut o r w → IsLegal o w es → AllCut o r (run o w es)
cut_run o r w [] d h l = h
cut_run o r w (e ∷ es) d h l =
    cut_run o r (step o w e) es d (record {
      stands = stands_step o w e d h.stands l.0;
      each = each_step o (Stands o) (IsCutFor o) (λ v st. (st.formed.apart, st.formed.numbers)) (λ v n j st. cut_starts o d v n j st.all) (λ v n j k x st. cut_kept o v n j k x st.all)
          w e h.stands h.each l.0;
      moves = moves_step o r w e h.stands.all h.each h.moves l.0;
    }) l.1

append_none : (r : Record) → r ≡ r ++ []
append_none [] = refl
append_none (e ∷ r) = ap (λ z. e ∷ z) (append_none r)

pub always_cut : AlwaysCut
always_cut p bs r h base_true legal =
    (cut_run (column p) r (base true (column p) bs r) h (deep p)
    (record { stands = stands_base (column p) bs r base_true; each = tt; moves = record { since = []; edits = append_none r; cut = tt } }) legal).moves
