-- An edit writes no more entries than it takes.
use Rattle.std.proofs.Common.{◌≡◌, ℕ, suc, ◌+◌, ◌≤◌, Bool, true, false, cond, ◌||◌, List, [], ◌∷◌, length, refl, sym, ◌∙◌, ap, subst, arith}
use Rattle.std.specs.Prelude.{◌==◌, flat_map}
use Rattle.std.specs.List.{AllZip}
use Rattle.std.proofs.lemmas.Bool.{eqb-true}
use Rattle.peb_base.specs.Keys.{Bytes, key_lt}
use Rattle.peb_base.specs.Batches.{Batches, entries_of}
use Rattle.peb_base.specs.Entries.{in_order, put_in, entry_lt, entries_between}
use Rattle.peb_base.specs.Profiles.{column, Column}
use Rattle.peb_base.specs.declared.entry.Entry.{Entry}
use Rattle.peb_base.specs.declared.table_row.TableRow.{TableRow}
use Rattle.flsm_model.specs.declared.edit.Edit.{Edit}
use Rattle.flsm_model.specs.declared.edit.Edit.TheVariants.{Flush, Move, Cut, Merge}
use Rattle.flsm_model.specs.declared.job.Job.{Job}
use Rattle.flsm_model.specs.Compaction.{kept, is_kept, pieces, some_entries, before_key, from_key}
use Rattle.flsm_model.specs.Shape.{guards_at, has_number, rows_numbered, outputs_of, inputs_of}
use Rattle.flsm_model.specs.Fits.{numbers_ascend}
use Rattle.flsm_model.specs.Trees.{Describes, Table, Tree, rows_of, content_of, merged, contents, paired, written_by, tables_numbered, tables_without, tree_after}
use Rattle.flsm_model.specs.Writes.{total}
use Rattle.flsm_model.specs.Settling.{entries_in, entries_taken, entries_frozen, OutcomesConserve}
use Rattle.flsm_model.specs.Shape.{Record}
use Rattle.flsm_model.specs.Fits.{fits}
use Rattle.flsm_model.specs.Trees.{empty_tree, tree_from}
use Rattle.flsm_model.specs.TrueRecord.{DescribedFrom}
use Rattle.flsm_model.specs.Events.{Session, Standing, base}
use Rattle.flsm_model.specs.Outcomes.{frozen_entries, IsEditOf, IsOutcome}
use Rattle.flsm_model.specs.Legal.{Always}
use Rattle.flsm_model.specs.Steps.{run}
use Rattle.flsm_model.proofs.guards.Facts.{move_facts, flush_facts, cut_facts, merge_facts}
use Rattle.flsm_model.proofs.histories.Truth.{All}
use Rattle.flsm_model.proofs.histories.Undisturb.{EditIs, IsFlushOf, IsMoveOf, IsCutOf, IsMergeOf, edit_is}
use Rattle.flsm_model.proofs.histories.Whole.{stands_always}
use Rattle.flsm_model.proofs.lists.Totals.{total-append, total-parts, total-filter, total-flat_map, total-same, not_in_rest, ascend_rest}
use Rattle.flsm_model.proofs.lists.Lists.{Each, each-filter, each-append}

abbrev pub size : List Entry → ℕ
size es = total (λ (e : Entry). 1) es

size_length : (es : List Entry) → length es ≡ size es
size_length [] = refl
size_length (e ∷ es) = omega (arith, size_length es)

size_put_in : (e : Entry) (es : List Entry) → size (put_in e es) ≡ 1 + size es
size_put_in e [] = refl
size_put_in e (f ∷ fs) = by (entry_lt e f) (size_put_in e fs)
  where
    by : (b : Bool) → size (put_in e fs) ≡ 1 + size fs → size (cond b (e ∷ f ∷ fs) (f ∷ put_in e fs)) ≡ 1 + (1 + size fs)
    by true h = refl
    by false h = omega arith

size_in_order : (es : List Entry) → size (in_order es) ≡ size es
size_in_order [] = refl
size_in_order (e ∷ es) = omega (arith, size_put_in e (in_order es), size_in_order es)

size_some : (es : List Entry) → total size (some_entries es) ≡ size es
size_some [] = refl
size_some (e ∷ es) = omega arith

size_pieces : (es : List Entry) (ks : List Bytes) → total size (pieces es ks) ≡ size es
size_pieces es [] = size_some es
size_pieces es (k ∷ ks) =
    omega (
      arith,
      total-append size (some_entries (before_key k es)) (pieces (from_key k es) ks),
      size_some (before_key k es),
      size_pieces (from_key k es) ks,
      total-parts (λ (e : Entry). 1) (λ e. key_lt e.key k) es,
    )

one_more : (t : Table) (ts : List Table) (ns : List ℕ) → numbers_ascend ns ≡ true
    → total (λ n. size (content_of (t ∷ ts) n)) ns ≤ cond (has_number t.row.number ns) (size t.entries) 0 + total (λ n. size (content_of ts n)) ns
one_more t ts [] h = omega arith
one_more t ts (n ∷ ns) h = by (t.row.number == n) refl (one_more t ts ns (ascend_rest n ns h))
  where
    by : (b : Bool) → (t.row.number == n) ≡ b
        → total (λ n. size (content_of (t ∷ ts) n)) ns ≤ cond (has_number t.row.number ns) (size t.entries) 0 + total (λ n. size (content_of ts n)) ns
        → size (cond b t.entries (content_of ts n)) + total (λ n. size (content_of (t ∷ ts) n)) ns
        ≤ cond (b || has_number t.row.number ns) (size t.entries) 0 + (size (content_of ts n) + total (λ n. size (content_of ts n)) ns)
    by true e ih =
        let same : t.row.number ≡ n = eqb-true t.row.number n e in
        let none : has_number t.row.number ns ≡ false = rw same (not_in_rest n ns h) in
        let ih2 = rw none at ih in
        omega arith
    by false e ih = omega arith

size_inputs : (ts : List Table) (ns : List ℕ) → numbers_ascend ns ≡ true → total (λ n. size (content_of ts n)) ns ≤ total (λ (t : Table). size t.entries) (tables_numbered ns ts)
size_inputs [] [] h = omega arith
size_inputs [] (n ∷ ns) h = omega (arith, size_inputs [] ns (ascend_rest n ns h))
size_inputs (t ∷ ts) ns h = by (has_number t.row.number ns) (one_more t ts ns h) (size_inputs ts ns h)
  where
    by : (b : Bool)
        → total (λ n. size (content_of (t ∷ ts) n)) ns ≤ cond b (size t.entries) 0 + total (λ n. size (content_of ts n)) ns
        → total (λ n. size (content_of ts n)) ns ≤ total (λ (t : Table). size t.entries) (tables_numbered ns ts)
        → total (λ n. size (content_of (t ∷ ts) n)) ns ≤ total (λ (t : Table). size t.entries) (cond b (t ∷ tables_numbered ns ts) (tables_numbered ns ts))
    by true x y = omega arith
    by false x y = omega arith

size_merged : (ts : List Table) (ns : List ℕ) → numbers_ascend ns ≡ true → size (merged ts ns) ≤ total (λ (t : Table). size t.entries) (tables_numbered ns ts)
size_merged ts ns h =
    omega (arith, size_in_order (flat_map (content_of ts) ns), total-flat_map (λ (e : Entry). 1) (content_of ts) ns, size_inputs ts ns h)

-- ---- rows and their entries

abbrev pub Counted : List Table → Type 0
Counted ts = Each (λ t. t.row.entries ≡ size t.entries) ts

sizes_described : (o : Column) (rows : List TableRow) (cs : List (List Entry)) → AllZip (Describes o) rows cs → entries_in rows ≡ total size cs
sizes_described o [] [] h = refl
sizes_described o [] (c ∷ cs) h = absurd h
sizes_described o (r ∷ rs) [] h = absurd h
sizes_described o (r ∷ rs) (c ∷ cs) h = omega (arith, h.0.tells.entries, size_length c, sizes_described o rs cs h.1)

counted_paired : (o : Column) (rows : List TableRow) (cs : List (List Entry)) → AllZip (Describes o) rows cs → Counted (paired rows cs)
counted_paired o [] [] h = tt
counted_paired o [] (c ∷ cs) h = absurd h
counted_paired o (r ∷ rs) [] h = absurd h
counted_paired o (r ∷ rs) (c ∷ cs) h = (h.0.tells.entries ∙ size_length c, counted_paired o rs cs h.1)

pub counted_step : (o : Column) (bs : Batches) (t : Tree) (e : Edit) → AllZip (Describes o) (outputs_of e) (contents o bs t e) → Counted t.tables → Counted (tree_after o bs t e).tables
counted_step o bs t e d h =
    each-append (λ (x : Table). x.row.entries ≡ size x.entries) (tables_without (inputs_of e) t.tables) (written_by o bs t e)
    (each-filter (λ (x : Table). x.row.entries ≡ size x.entries) _ t.tables h) (counted_paired o (outputs_of e) (contents o bs t e) d)

numbered_rows : (ns : List ℕ) (ts : List Table) → rows_numbered ns (rows_of ts) ≡ rows_of (tables_numbered ns ts)
numbered_rows ns [] = refl
numbered_rows ns (t ∷ ts) = by (has_number t.row.number ns) (numbered_rows ns ts)
  where
    by : (b : Bool) → rows_numbered ns (rows_of ts) ≡ rows_of (tables_numbered ns ts)
        → cond b (t.row ∷ rows_numbered ns (rows_of ts)) (rows_numbered ns (rows_of ts)) ≡ rows_of (cond b (t ∷ tables_numbered ns ts) (tables_numbered ns ts))
    by true e = ap (λ rs. t.row ∷ rs) e
    by false e = e

counted_rows : (ts : List Table) → Counted ts → entries_in (rows_of ts) ≡ total (λ (t : Table). size t.entries) ts
counted_rows [] h = refl
counted_rows (t ∷ ts) h = omega (arith, h.0, counted_rows ts h.1)

taken : (t : Tree) (ns : List ℕ) → rows_of t.tables ≡ t.shape.live → Counted t.tables → entries_in (rows_numbered ns t.shape.live) ≡ total (λ (x : Table). size x.entries) (tables_numbered ns t.tables)
taken t ns r c =
    ap (λ rs. entries_in (rows_numbered ns rs)) (sym r) ∙ ap entries_in (numbered_rows ns t.tables)
    ∙ counted_rows (tables_numbered ns t.tables) (each-filter (λ (x : Table). x.row.entries ≡ size x.entries) (λ x. has_number x.row.number ns) t.tables c)

-- ---- edits

pub move_conserves : (o : Column) (bs : Batches) (t : Tree) (level floor : ℕ) (inputs : List ℕ) (outputs : List TableRow)
    → AllZip (Describes o) outputs (contents o bs t (Move level floor inputs outputs)) → rows_of t.tables ≡ t.shape.live → Counted t.tables → numbers_ascend inputs ≡ true
    → entries_in outputs ≤ entries_in (rows_numbered inputs t.shape.live)
move_conserves o bs t level floor inputs outputs d r c a =
    let m : List Entry = merged t.tables inputs in
    omega (
      arith,
      sizes_described o outputs (contents o bs t (Move level floor inputs outputs)) d,
      size_pieces (kept m floor false) (guards_at t.shape (suc level)),
      total-filter (λ (e : Entry). 1) (is_kept m floor false) m,
      size_merged t.tables inputs a,
      taken t inputs r c,
    )

pub cut_conserves : (o : Column) (bs : Batches) (t : Tree) (level : ℕ) (keys : List Bytes) (inputs : List ℕ) (outputs : List TableRow)
    → AllZip (Describes o) outputs (contents o bs t (Cut level keys inputs outputs)) → rows_of t.tables ≡ t.shape.live → Counted t.tables → numbers_ascend inputs ≡ true
    → entries_in outputs ≤ entries_in (rows_numbered inputs t.shape.live)
cut_conserves o bs t level keys inputs outputs d r c a =
    omega (
      arith,
      sizes_described o outputs (contents o bs t (Cut level keys inputs outputs)) d,
      total-flat_map size (λ n. pieces (content_of t.tables n) keys) inputs,
      total-same (λ n. total size (pieces (content_of t.tables n) keys)) (λ n. size (content_of t.tables n)) inputs (λ n. size_pieces (content_of t.tables n) keys),
      size_inputs t.tables inputs a,
      taken t inputs r c,
    )

pub merge_conserves : (o : Column) (bs : Batches) (t : Tree) (floor : ℕ) (whole : Bool) (inputs : List ℕ) (outputs : List TableRow)
    → AllZip (Describes o) outputs (contents o bs t (Merge floor whole inputs outputs)) → rows_of t.tables ≡ t.shape.live → Counted t.tables → numbers_ascend inputs ≡ true
    → entries_in outputs ≤ entries_in (rows_numbered inputs t.shape.live)
merge_conserves o bs t floor whole inputs outputs d r c a =
    let m : List Entry = merged t.tables inputs in
    omega (
      arith,
      sizes_described o outputs (contents o bs t (Merge floor whole inputs outputs)) d,
      size_some (kept m floor whole),
      total-filter (λ (e : Entry). 1) (is_kept m floor whole) m,
      size_merged t.tables inputs a,
      taken t inputs r c,
    )

-- ---- over a history

pub counted_from : (o : Column) (bs : Batches) (t : Tree) (r : Record) → DescribedFrom o bs t r → Counted t.tables → Counted (tree_from o bs t r).tables
counted_from o bs t [] d c = c
counted_from o bs t (e ∷ es) d c = counted_from o bs (tree_after o bs t e) es d.2 (counted_step o bs t e d.0 c)

pub conserves : (o : Column) (w : Standing) (n : Session) (j : Job) (e : Edit) → All o w → IsOutcome o w n j e → Counted w.tree.tables
    → entries_in (outputs_of e) ≤ entries_taken w.tree.shape (entries_frozen w n) e
conserves o w n j e al out c = by (edit_is n j e out.formed.same)
  where
    Goal : Edit → Type 0
    Goal x = entries_in (outputs_of x) ≤ entries_taken w.tree.shape (entries_frozen w n) x

    Holds : Edit → Type 0
    Holds x = AllZip (Describes o) (outputs_of x) (contents o w.batches w.tree x)

    holds : Holds e
    holds = out.holds al.holds.tells

    rows : rows_of w.tree.tables ≡ w.tree.shape.live
    rows = al.holds.sound.rows

    by : EditIs j e → Goal e
    by (IsFlushOf q row from to log chosen s) =
        let f = flush_facts o w.tree.shape row from to log chosen (subst (λ x. fits o w.tree.shape x ≡ true) s out.formed.fit) in
        let same = subst (λ a. IsEditOf a n j (Flush row from to log chosen)) q (subst (IsEditOf j.kind n j) s out.formed.same) in
        let d = subst Holds s holds in
        let back : w.tree.shape.to ≡ from = sym f.follows in
        let is : entries_frozen w n ≡ length (in_order (entries_between from to (entries_of w.batches))) + 0 =
        (λ i. total (λ (es : List Entry). length es) (frozen_entries w.batches (back i) (same.0 i))) in
        subst Goal (sym s) (omega (arith, is, d.0.tells.entries))
    by (IsMoveOf q floor outputs s) =
        let f = move_facts o w.tree.shape j.level floor j.inputs outputs (subst (λ x. fits o w.tree.shape x ≡ true) s out.formed.fit) in
        subst Goal (sym s) (move_conserves o w.batches w.tree j.level floor j.inputs outputs (subst Holds s holds) rows c f.ascend)
    by (IsCutOf q outputs s) =
        let f = cut_facts o w.tree.shape j.level j.keys j.inputs outputs (subst (λ x. fits o w.tree.shape x ≡ true) s out.formed.fit) in
        subst Goal (sym s) (cut_conserves o w.batches w.tree j.level j.keys j.inputs outputs (subst Holds s holds) rows c f.ascend)
    by (IsMergeOf q floor whole outputs s) =
        let f = merge_facts o w.tree.shape floor whole j.inputs outputs (subst (λ x. fits o w.tree.shape x ≡ true) s out.formed.fit) in
        subst Goal (sym s) (merge_conserves o w.batches w.tree floor whole j.inputs outputs (subst Holds s holds) rows c f.ascend)

pub outcomes_conserve : Always OutcomesConserve
outcomes_conserve p bs r h base_true legal n eq x i e out =
    let o = column p in
    let w = run o (base true o bs r) h in
    let al : All o w = (stands_always p bs r h base_true legal).all in
    conserves o w n x.1 e al out (subst (λ (t : Tree). Counted t.tables) (sym al.told.books.tree) (counted_from o w.batches (empty_tree o) w.edits al.told.books.described tt))
