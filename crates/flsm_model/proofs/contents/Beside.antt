-- What holds of a job in flight is kept while other jobs end.
use Rattle.std.proofs.Common.{◌≡◌, ℕ, suc, ◌≤◌, ◌≢◌, Bool, true, false, ◌&&◌, ◌||◌, not, List, [], ◌∷◌, ◌++◌, map, ◌⊎◌, inl, inr, refl, sym, ◌∙◌, ap, subst, arith}
use Rattle.std.specs.Prelude.{nat_lt, ◌==◌}
use Rattle.std.specs.List.{list_any}
use Rattle.std.proofs.lemmas.Bool.{and_parts, and_from, cases_Bool, eq-eqb, true≢false, false≢true, not-true}
use Rattle.flsm_model.specs.Ranges.{in_range, ranges_meet, range_of, first_of}
use Rattle.peb_base.specs.Batches.{Batches}
use Rattle.peb_base.specs.Numbers.{session_of, count_of}
use Rattle.flsm_model.proofs.guards.RangeFacts.{common_key}
use Rattle.peb_base.specs.declared.table_row.TableRow.{TableRow}
use Rattle.peb_base.specs.Profiles.{Column}
use Rattle.flsm_model.specs.declared.edit.Edit.{Edit}
use Rattle.flsm_model.specs.declared.edit.Edit.TheVariants.{Open, Flush, Move, Cut, Merge}
use Rattle.flsm_model.specs.declared.job_kind.JobKind.{JobKind}
use Rattle.flsm_model.specs.declared.job_kind.JobKind.TheVariants.{Flush as FlushJob, Move as MoveJob, Cut as CutJob, Merge as MergeJob}
use Rattle.flsm_model.specs.declared.job.Job.{Job}
use Rattle.flsm_model.specs.Shape.{Shape, has_number, outputs_of, shape_after, guards_at}
use Rattle.peb_base.specs.Tables.{is_row}
use Rattle.flsm_model.specs.Fits.{fits, is_of_session, is_new, rows_are_new, is_straddled}
use Rattle.flsm_model.specs.Trees.{Table, Tree, rows_of, contents, tree_after, written_by, tables_numbered}
use Rattle.flsm_model.specs.Claims.{jobs_conflict, claims_at, claims_conflict}
use Rattle.flsm_model.proofs.lists.Totals.{levels-paired}
use Rattle.flsm_model.proofs.guards.Facts.{move_facts, flush_facts, cut_facts, merge_facts}
use Rattle.flsm_model.proofs.contents.Bound.{inputs_at, inputs_pass}
use Rattle.flsm_model.proofs.lists.Members.{IsIn, in_paired, from_move, from_merge, from_cut, from_flush}
use Rattle.flsm_model.proofs.contents.Falls.{Newer, AllFlushed, InFlight, IsFor, is_fresh, is_full, after, levels_in_cut}
use Rattle.flsm_model.proofs.lists.Lists.{Each, in_kept, each_in, all_in}

-- ---- claims

abbrev pub conflict_at : JobKind → JobKind → Job → Job → Bool
conflict_at a b j k = list_any (λ x. list_any (claims_conflict x) (claims_at b k)) (claims_at a j)

pub at_kinds : (a b : JobKind) (j k : Job) → j.kind ≡ a → k.kind ≡ b → jobs_conflict j k ≡ false → conflict_at a b j k ≡ false
at_kinds a b j k p q h = subst (λ x. conflict_at a x j k ≡ false) q (subst (λ x. conflict_at x k.kind j k ≡ false) p h)

cut_take : (j k : Job) → (j.level == k.level) ≡ true → ranges_meet j.lo j.hi k.lo k.hi ≡ true → conflict_at CutJob MoveJob j k ≡ true
cut_take j k e m = rw (e, m) refl

cut_merge : (j k : Job) → (j.level == k.level) ≡ true → ranges_meet j.lo j.hi k.lo k.hi ≡ true → conflict_at CutJob MergeJob j k ≡ true
cut_merge j k e m = rw (e, m) refl

merge_merge : (j k : Job) → (j.level == k.level) ≡ true → ranges_meet j.lo j.hi k.lo k.hi ≡ true → conflict_at MergeJob MergeJob j k ≡ true
merge_merge j k e m = rw (e, m) refl

full_kind : (k : Job) → is_full k.kind k.whole ≡ true → (k.kind ≡ MoveJob) ⊎ (k.kind ≡ MergeJob)
full_kind k h = by k.kind refl h
  where
    by : (a : JobKind) → k.kind ≡ a → is_full a k.whole ≡ true → (k.kind ≡ MoveJob) ⊎ (k.kind ≡ MergeJob)
    by FlushJob e f = absurd (false≢true f)
    by MoveJob e f = inl e
    by CutJob e f = absurd (false≢true f)
    by MergeJob e f = inr e

-- ---- fresh numbers

pub has_more : (n : ℕ) (ns ms : List ℕ) → has_number n ns ≡ true → has_number n (ns ++ ms) ≡ true
has_more n [] ms h = absurd (false≢true h)
has_more n (a ∷ ns) ms h = by (n == a) h (has_more n ns ms)
  where
    by : (b : Bool) → (b || has_number n ns) ≡ true → (has_number n ns ≡ true → has_number n (ns ++ ms) ≡ true) → (b || has_number n (ns ++ ms)) ≡ true
    by true x ih = refl
    by false x ih = ih x

pub fresh_less : (s : Shape) (ms : List ℕ) (n : ℕ) → is_fresh s n ≡ false → (session_of n == s.session && not (has_number n (s.used ++ ms))) ≡ false
fresh_less s ms n h = by (session_of n == s.session) (has_number n s.used) refl h
  where
    by : (a b : Bool) → has_number n s.used ≡ b → (a && not b) ≡ false → (a && not (has_number n (s.used ++ ms))) ≡ false
    by false b e x = refl
    by true true e x = ap not (has_more n s.used ms e)
    by true false e x = absurd (true≢false x)

pub new_is_fresh : (session : ℕ) (used : List ℕ) (rs : List TableRow) (r : TableRow) → rows_are_new session used rs ≡ true → IsIn r rs
    → ((session_of r.number == session) ≡ true) × (has_number r.number used ≡ false)
new_is_fresh session used rs r h i =
    let p = and_parts (is_row 0 r && is_of_session session r.number) (not (has_number r.number used)) (all_in (is_new session used) r rs (and_parts _ _ h).0 i) in
    let q = and_parts (is_row 0 r) (is_of_session session r.number) p.0 in
    ((and_parts (session_of r.number == session) (nat_lt 0 (count_of r.number)) q.1).0, not-true _ p.1)

-- a new table is no input of a job in flight
pub no_input : (o : Column) (bs : Batches) (t : Tree) (e : Edit) (k : Job) (w : Table) → rows_are_new t.shape.session t.shape.used (outputs_of e) ≡ true
    → InFlight o t k → IsIn w (written_by o bs t e) → has_number w.row.number k.inputs ≡ false
no_input o bs t e k w new run i = by (has_number w.row.number k.inputs) refl
  where
    fresh : is_fresh t.shape w.row.number ≡ true
    fresh =
        let p = new_is_fresh t.shape.session t.shape.used (outputs_of e) w.row new (in_paired w (outputs_of e) (contents o bs t e) i).0 in
        and_from _ _ p.0 (ap not p.1)

    by : (b : Bool) → has_number w.row.number k.inputs ≡ b → has_number w.row.number k.inputs ≡ false
    by true x = absurd (true≢false (sym fresh ∙ run.known w.row.number x))
    by false x = x

-- ---- another job's end

-- all but the order: the numbers, the level and the keys of the inputs
beside : (o : Column) (bs : Batches) (t : Tree) (e : Edit) (k : Job) → rows_are_new t.shape.session t.shape.used (outputs_of e) ≡ true
    → (shape_after t.shape e).session ≡ t.shape.session → (shape_after t.shape e).used ≡ t.shape.used ++ map (λ (r : TableRow). r.number) (outputs_of e)
    → InFlight o t k
    → ((w u : Table) → IsIn w (written_by o bs t e) → IsIn u t.tables → has_number u.row.number k.inputs ≡ true → is_full k.kind k.whole ≡ true → w.row.level ≤ k.level → Newer w u)
    → InFlight o (tree_after o bs t e) k
beside o bs t e k new session used run newer =
    record {
      shallow = run.shallow;
      deepest = run.deepest;
      known = λ n h. rw (session, used) (fresh_less t.shape (map (λ (r : TableRow). r.number) (outputs_of e)) n (run.known n h));
      at = λ u i h. run.at u (old u i h) h;
      inside = λ u y i h p. run.inside u y (old u i h) h p;
      newer = λ full w u i m h g l. elim (after o bs t e w i) [
        | inl a ↦ run.newer full w u a.0 (old u m h) h g l
        | inr b ↦ newer w u b (old u m h) h full l
      ];
    }
  where
    old : (u : Table) → IsIn u (tree_after o bs t e).tables → has_number u.row.number k.inputs ≡ true → IsIn u t.tables
    old u i h = elim (after o bs t e u i) [
      | inl a ↦ a.0
      | inr b ↦ absurd (true≢false (sym h ∙ no_input o bs t e k u new run b))
    ]

pub beside_step : (o : Column) (bs : Batches) (t : Tree) (j k : Job) (e : Edit) → fits o t.shape e ≡ true → rows_of t.tables ≡ t.shape.live
    → AllFlushed t.tables t.shape.to → InFlight o t j → IsFor j e → jobs_conflict j k ≡ false → ((s l : ℕ) → e ≢ Open s l)
    → InFlight o t k → InFlight o (tree_after o bs t e) k
beside_step o bs t j k (Open session log) fit rows fl run for apart other running = absurd (other session log refl)
beside_step o bs t j k (Flush row from to log chosen) fit rows fl run for apart other running =
    let f = flush_facts o t.shape row from to log chosen fit in
    beside o bs t (Flush row from to log chosen) k f.fresh refl refl running
    (λ w u i m h full l x y p q same. omega (arith, (from_flush o bs t row from to log chosen w x i p).0, f.follows, fl.flushed u y m q))
beside_step o bs t j k (Move level floor inputs outputs) fit rows fl run for apart other running =
    let f = move_facts o t.shape level floor inputs outputs fit in
    let e : Edit = Move level floor inputs outputs in
    let ins : Each (λ u. u.row.level ≡ level) (tables_numbered inputs t.tables) = inputs_at level inputs t.tables t.shape.live rows f.at in
    let outs : Each (λ u. u.row.level ≡ suc level) (written_by o bs t e) = levels-paired (suc level) outputs (contents o bs t e) f.below in
    beside o bs t e k f.fresh refl refl running
    (λ w u i m h full l x y p q same.
    let v = from_move o bs t level floor inputs outputs w x i p in
    let from : v.0.row.level ≡ level = each_in (λ (a : Table). a.row.level ≡ level) v.0 (tables_numbered inputs t.tables) ins (in_kept (λ (a : Table). has_number a.row.number inputs) v.0 t.tables v.1 v.2) in
    let to : w.row.level ≡ suc level = each_in (λ (a : Table). a.row.level ≡ suc level) w (written_by o bs t e) outs i in
    elim (cases_Bool (has_number v.0.row.number k.inputs)) [
      | inl there ↦ absurd (omega (arith, running.at v.0 v.1 there))
      | inr absent ↦ running.newer full v.0 u v.1 m h absent (omega arith) x y v.3 q same
    ])
beside_step o bs t j k (Cut level keys inputs outputs) fit rows fl run for apart other running =
    let f = cut_facts o t.shape level keys inputs outputs fit in
    let e : Edit = Cut level keys inputs outputs in
    let range = range_of (guards_at t.shape level) (first_of keys) in
    let ins : Each (λ u. u.row.level ≡ level) (tables_numbered inputs t.tables) =
    levels_in_cut level range keys (tables_numbered inputs t.tables) (inputs_pass (is_straddled level range keys) inputs t.tables t.shape.live rows f.straddled) in
    let outs : Each (λ u. u.row.level ≡ level) (written_by o bs t e) = levels-paired level outputs (contents o bs t e) f.at in
    beside o bs t e k f.fresh refl refl running
    (λ w u i m h full l x y p q same.
    let v = from_cut o bs t level keys inputs outputs w x i p in
    let from : v.0.row.level ≡ level = each_in (λ (a : Table). a.row.level ≡ level) v.0 (tables_numbered inputs t.tables) ins (in_kept (λ (a : Table). has_number a.row.number inputs) v.0 t.tables v.1 v.2) in
    let to : w.row.level ≡ level = each_in (λ (a : Table). a.row.level ≡ level) w (written_by o bs t e) outs i in
    elim (cases_Bool (has_number v.0.row.number k.inputs)) [
      | inl there ↦
          let mine : in_range j.lo j.hi x.key ≡ true = run.inside v.0 x v.1 (subst (λ ns. has_number v.0.row.number ns ≡ true) for.2 v.2) v.3 in
          let meet : ranges_meet j.lo j.hi k.lo k.hi ≡ true = common_key j.lo k.lo x.key j.hi k.hi mine (running.inside v.0 x v.1 there v.3) in
          let level_same : (j.level == k.level) ≡ true = eq-eqb j.level k.level (omega (arith, for.1, running.at v.0 v.1 there)) in
          elim (full_kind k full) [
            | inl move ↦ absurd (true≢false (sym (cut_take j k level_same meet) ∙ at_kinds CutJob MoveJob j k for.0 move apart))
            | inr merge ↦ absurd (true≢false (sym (cut_merge j k level_same meet) ∙ at_kinds CutJob MergeJob j k for.0 merge apart))
          ]
      | inr absent ↦ running.newer full v.0 u v.1 m h absent (omega arith) x y v.3 q same
    ])
beside_step o bs t j k (Merge floor whole inputs outputs) fit rows fl run for apart other running =
    let f = merge_facts o t.shape floor whole inputs outputs fit in
    let e : Edit = Merge floor whole inputs outputs in
    let ins : Each (λ u. u.row.level ≡ o.last_level) (tables_numbered inputs t.tables) = inputs_at o.last_level inputs t.tables t.shape.live rows f.at in
    let outs : Each (λ u. u.row.level ≡ o.last_level) (written_by o bs t e) = levels-paired o.last_level outputs (contents o bs t e) f.below in
    beside o bs t e k f.fresh refl refl running
    (λ w u i m h full l x y p q same.
    let v = from_merge o bs t floor whole inputs outputs w x i p in
    let from : v.0.row.level ≡ o.last_level = each_in (λ (a : Table). a.row.level ≡ o.last_level) v.0 (tables_numbered inputs t.tables) ins (in_kept (λ (a : Table). has_number a.row.number inputs) v.0 t.tables v.1 v.2) in
    let to : w.row.level ≡ o.last_level = each_in (λ (a : Table). a.row.level ≡ o.last_level) w (written_by o bs t e) outs i in
    elim (cases_Bool (has_number v.0.row.number k.inputs)) [
      | inl there ↦
          let mine : in_range j.lo j.hi x.key ≡ true = run.inside v.0 x v.1 (subst (λ ns. has_number v.0.row.number ns ≡ true) for.1 v.2) v.3 in
          let meet : ranges_meet j.lo j.hi k.lo k.hi ≡ true = common_key j.lo k.lo x.key j.hi k.hi mine (running.inside v.0 x v.1 there v.3) in
          let level_same : (j.level == k.level) ≡ true = eq-eqb j.level k.level (run.deepest for.0 ∙ sym from ∙ running.at v.0 v.1 there) in
          elim (full_kind k full) [
            | inl move ↦ absurd (omega (arith, running.shallow move, running.at v.0 v.1 there))
            | inr merge ↦ absurd (true≢false (sym (merge_merge j k level_same meet) ∙ at_kinds MergeJob MergeJob j k for.0 merge apart))
          ]
      | inr absent ↦ running.newer full v.0 u v.1 m h absent (omega arith) x y v.3 q same
    ])
