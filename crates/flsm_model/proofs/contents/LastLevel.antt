-- Into the last level each entry is written once, once for each cut, and else by Merges.
use Rattle.std.proofs.Common.{◌≡◌, ℕ, suc, ◌+◌, ◌≤◌, Bool, true, false, cond, ◌||◌, List, [], ◌∷◌, ◌++◌, inl, inr, refl, sym, subst, arith}
use Rattle.std.specs.Prelude.{if◌then◌else◌, nat_lt}
use Rattle.std.specs.List.{list_any}
use Rattle.std.proofs.lemmas.Bool.{and_parts, eqb-true, true≢false, eq-eqb, cases_order}
use Rattle.peb_base.specs.Batches.{Batches, entries_of, are_in_order}
use Rattle.peb_base.specs.Entries.{entries_between, in_order}
use Rattle.peb_base.specs.Keys.{Bytes}
use Rattle.flsm_model.specs.Compaction.{straddles}
use Rattle.flsm_model.specs.Trees.{Table, Tree, rows_of, written_by, tables_without, tables_numbered, tree_after, tree_from}
use Rattle.peb_base.specs.declared.table_row.TableRow.{TableRow}
use Rattle.peb_base.specs.Profiles.{Column}
use Rattle.flsm_model.specs.declared.edit.Edit.{Edit}
use Rattle.flsm_model.specs.declared.edit.Edit.TheVariants.{Open, Flush, Move, Cut, Merge}
use Rattle.flsm_model.specs.Shape.{Record, guards_at, has_number}
use Rattle.flsm_model.specs.Fits.{fits, fit_from, is_straddled}
use Rattle.flsm_model.specs.Ranges.{range_of, first_of}
use Rattle.flsm_model.specs.Writes.{total, one_if, copies, copies_in, copies_above, holds, tables_holding, writes, cuts_of, writes_from, cuts_from}
use Rattle.flsm_model.specs.TrueRecord.{DescribedFrom}
use Rattle.flsm_model.proofs.guards.Facts.{move_facts, flush_facts, cut_facts, merge_facts}
use Rattle.flsm_model.proofs.lists.Lists.{Each, each_weaker}
use Rattle.flsm_model.proofs.lists.Totals.{total-append, total-parts, total-filter, none_held, held_at, above_all, all_above, none_above, none_at, levels-paired}
use Rattle.flsm_model.proofs.contents.Bound.{unflushed, flushed_once, inputs_at, inputs_pass, move_copies, cut_copies, place_step, rows_step}
use Rattle.flsm_model.specs.LastLevel.{merged_of, merges_from, WrittenByMerges}
use Rattle.flsm_model.specs.TrueRecord.{IsTrueRecord}
use Rattle.flsm_model.specs.Trees.{empty_tree}
use Rattle.peb_base.specs.Profiles.{column}
use Rattle.peb_base.specs.declared.profile.Profile.{Profile}
use Rattle.flsm_model.specs.Legal.{Always}
use Rattle.flsm_model.proofs.histories.Truth.{record_is_true}

-- ---- the bound

above-parts : (q level : ℕ) (ns : List ℕ) (ts : List Table)
    → copies_above q level (tables_numbered ns ts) + copies_above q level (tables_without ns ts) ≡ copies_above q level ts
above-parts q level ns ts = total-parts (λ t. if nat_lt t.row.level level then copies q t.entries else 0) (λ t. has_number t.row.number ns) ts

above-append : (q level : ℕ) (xs ys : List Table) → copies_above q level (xs ++ ys) ≡ copies_above q level xs + copies_above q level ys
above-append q level xs ys = total-append (λ t. if nat_lt t.row.level level then copies q t.entries else 0) xs ys

-- inputs of one level go down by one: the writes into a level are paid by what stood above it
down_step : (q level at : ℕ) (ns : List ℕ) (ts out : List Table)
    → Each (λ t. t.row.level ≡ at) (tables_numbered ns ts) → Each (λ t. t.row.level ≡ suc at) out
    → copies_in q out ≤ copies_in q (tables_numbered ns ts)
    → tables_holding q level out + copies_above q level (tables_without ns ts ++ out) ≤ copies_above q level ts
down_step q level at ns ts out ins outs le = elim (cases_order level (suc at)) [
  | inl same ↦
      omega (
        arith,
        above-append q level (tables_without ns ts) out,
        above-parts q level ns ts,
        held_at q level out,
        all_above q level at (tables_numbered ns ts) ins (omega arith),
        none_above q level (suc at) out outs (omega arith),
      )
  | inr (inl l) ↦
      omega (
        arith,
        above-append q level (tables_without ns ts) out,
        above-parts q level ns ts,
        none_at q level (suc at) out outs (omega arith),
        none_above q level (suc at) out outs (omega arith),
      )
  | inr (inr l) ↦
      omega (
        arith,
        above-append q level (tables_without ns ts) out,
        above-parts q level ns ts,
        none_at q level (suc at) out outs (omega arith),
        all_above q level at (tables_numbered ns ts) ins (omega arith),
        all_above q level (suc at) out outs l,
      )
]

some_straddle : (row : TableRow) (keys : List Bytes) → list_any (straddles row) keys ≡ true → 1 ≤ total (λ k. one_if (straddles row k)) keys
some_straddle row [] h = absurd (true≢false (sym h))
some_straddle row (k ∷ ks) h = by (straddles row k) h (some_straddle row ks)
  where
    by : (b : Bool) → (b || list_any (straddles row) ks) ≡ true → (list_any (straddles row) ks ≡ true → 1 ≤ total (λ k. one_if (straddles row k)) ks)
        → 1 ≤ one_if b + total (λ k. one_if (straddles row k)) ks
    by true x y = omega arith
    by false x y = omega (arith, y x)

-- a table that holds the entry once pays by each key that straddles it
paid_by_cuts : (q : ℕ) (keys : List Bytes) (ts : List Table) → Each (λ t. list_any (straddles t.row) keys ≡ true) ts → copies_in q ts ≤ 1
    → copies_in q ts ≤ total (λ x. if holds q x.entries then total (λ k. one_if (straddles x.row k)) keys else 0) ts
paid_by_cuts q keys [] s h = omega arith
paid_by_cuts q keys (t ∷ ts) s h = by (holds q t.entries) refl (paid_by_cuts q keys ts s.1 (omega arith))
  where
    by : (b : Bool) → holds q t.entries ≡ b
        → copies_in q ts ≤ total (λ x. if holds q x.entries then total (λ k. one_if (straddles x.row k)) keys else 0) ts
        → copies q t.entries + copies_in q ts
        ≤ cond b (total (λ k. one_if (straddles t.row k)) keys) 0 + total (λ x. if holds q x.entries then total (λ k. one_if (straddles x.row k)) keys else 0) ts
    by true e r = omega (arith, some_straddle t.row keys s.0)
    by false e r = omega (arith, none_held q t.entries e)

last_step : (o : Column) (bs : Batches) (t : Tree) (e : Edit) (q level : ℕ) → are_in_order bs ≡ true → fits o t.shape e ≡ true
    → rows_of t.tables ≡ t.shape.live → copies_in q t.tables ≤ 1 → level ≤ o.last_level
    → writes o bs t q level e + (copies_above q level (tree_after o bs t e).tables + unflushed q (tree_after o bs t e).shape.to)
    ≤ merged_of o bs t q level e + cuts_of t q level e + (copies_above q level t.tables + unflushed q t.shape.to)
last_step o bs t (Open session log) q level b f rows one l =
    omega (arith, above-append q level (tables_without [] t.tables) [], above-parts q level [] t.tables)
last_step o bs t (Flush row from to log chosen) q level b f rows one l =
    let k = flush_facts o t.shape row from to log chosen f in
    let es = in_order (entries_between from to (entries_of bs)) in
    let most : copies q es + unflushed q to ≤ unflushed q t.shape.to =
    subst (λ n. copies q es + unflushed q to ≤ unflushed q n) k.follows (flushed_once q from to bs b k.rises) in
    let out : List Table = record { row = row; entries = es } ∷ [] in
    let at : Each (λ x. x.row.level ≡ 0) out = (k.at, tt) in
    elim (cases_order level 0) [
      | inl z ↦ omega (arith, above-append q level (tables_without [] t.tables) out, above-parts q level [] t.tables, held_at q level out, none_above q level 0 out at (omega arith))
      | inr (inl z) ↦ absurd (omega arith)
      | inr (inr z) ↦ omega (arith, above-append q level (tables_without [] t.tables) out, above-parts q level [] t.tables, none_at q level 0 out at (omega arith), above_all q level out)
    ]
last_step o bs t (Move at floor inputs outputs) q level b f rows one l =
    let k = move_facts o t.shape at floor inputs outputs f in
    omega (
      arith,
      down_step q level at inputs t.tables (written_by o bs t (Move at floor inputs outputs))
          (inputs_at at inputs t.tables t.shape.live rows k.at) (levels-paired (suc at) outputs _ k.below)
          (move_copies q t.tables inputs floor false (guards_at t.shape (suc at)) outputs k.ascend),
    )
last_step o bs t (Cut at keys inputs outputs) q level b f rows one l =
    let k = cut_facts o t.shape at keys inputs outputs f in
    let range = range_of (guards_at t.shape at) (first_of keys) in
    let out = written_by o bs t (Cut at keys inputs outputs) in
    let pass : Each (λ x. is_straddled at range keys x.row ≡ true) (tables_numbered inputs t.tables) =
    inputs_pass (is_straddled at range keys) inputs t.tables t.shape.live rows k.straddled in
    let ins : Each (λ x. x.row.level ≡ at) (tables_numbered inputs t.tables) =
    each_weaker (λ x. is_straddled at range keys x.row ≡ true) (λ x. x.row.level ≡ at) (tables_numbered inputs t.tables)
    (λ x h. eqb-true x.row.level at (and_parts _ _ (and_parts _ _ h).0).0) pass in
    let cuts : Each (λ x. list_any (straddles x.row) keys ≡ true) (tables_numbered inputs t.tables) =
    each_weaker (λ x. is_straddled at range keys x.row ≡ true) (λ x. list_any (straddles x.row) keys ≡ true) (tables_numbered inputs t.tables)
    (λ x h. (and_parts _ _ h).1) pass in
    let outs : Each (λ x. x.row.level ≡ at) out = levels-paired at outputs _ k.at in
    let less : copies_in q out ≤ copies_in q (tables_numbered inputs t.tables) = cut_copies q t.tables inputs keys outputs k.ascend in
    let few : copies_in q (tables_numbered inputs t.tables) ≤ 1 =
    omega (arith, one, total-filter (λ x. copies q x.entries) (λ x. has_number x.row.number inputs) t.tables) in
    elim (cases_order level at) [
      | inl same ↦
          rw (eq-eqb at level (sym same)) (omega (
            arith,
            above-append q level (tables_without inputs t.tables) out,
            above-parts q level inputs t.tables,
            held_at q level out,
            none_above q level at out outs (omega arith),
            paid_by_cuts q keys (tables_numbered inputs t.tables) cuts few,
          ))
      | inr (inl z) ↦
          omega (
            arith,
            above-append q level (tables_without inputs t.tables) out,
            above-parts q level inputs t.tables,
            none_at q level at out outs (omega arith),
            none_above q level at out outs (omega arith),
          )
      | inr (inr z) ↦
          omega (
            arith,
            above-append q level (tables_without inputs t.tables) out,
            above-parts q level inputs t.tables,
            none_at q level at out outs (omega arith),
            all_above q level at out outs z,
            all_above q level at (tables_numbered inputs t.tables) ins z,
          )
    ]
last_step o bs t (Merge floor whole inputs outputs) q level b f rows one l =
    let k = merge_facts o t.shape floor whole inputs outputs f in
    let out = written_by o bs t (Merge floor whole inputs outputs) in
    omega (
      arith,
      above-append q level (tables_without inputs t.tables) out,
      above-parts q level inputs t.tables,
      none_above q level o.last_level out (levels-paired o.last_level outputs _ k.below) l,
    )

last_from : (o : Column) (bs : Batches) (t : Tree) (r : Record) (q level : ℕ) → are_in_order bs ≡ true → fit_from o t.shape r ≡ true
    → DescribedFrom o bs t r → rows_of t.tables ≡ t.shape.live → copies_in q t.tables + unflushed q t.shape.to ≤ 1 → level ≤ o.last_level
    → writes_from o bs t q level r + (copies_above q level (tree_from o bs t r).tables + unflushed q (tree_from o bs t r).shape.to)
    ≤ merges_from o bs t q level r + cuts_from o bs t q level r + (copies_above q level t.tables + unflushed q t.shape.to)
last_from o bs t [] q level b f d rows one l = omega arith
last_from o bs t (e ∷ es) q level b f d rows one l =
    let p = and_parts (fits o t.shape e) _ f in
    omega (
      arith,
      last_step o bs t e q level b p.0 rows (omega arith) l,
      last_from o bs (tree_after o bs t e) es q level b p.1 d.2 (rows_step o bs t e d.0 rows) (omega (arith, place_step o bs t e q b p.0)) l,
    )

fits_one : (q to : ℕ) → unflushed q to ≤ 1
fits_one q to = by (nat_lt to q)
  where
    by : (b : Bool) → one_if b ≤ 1
    by true = omega arith
    by false = omega arith

record_last : (p : Profile) (bs : Batches) (r : Record) (q level : ℕ) → IsTrueRecord (column p) r bs → level ≤ (column p).last_level
    → writes_from (column p) bs (empty_tree (column p)) q level r
    ≤ 1 + cuts_from (column p) bs (empty_tree (column p)) q level r + merges_from (column p) bs (empty_tree (column p)) q level r
record_last p bs r q level h l =
    let o = column p in
    let b = last_from o bs (empty_tree o) r q level h.ordered h.legal h.described refl (omega (arith, fits_one q 0)) l in
    omega (arith, b, fits_one q 0)

pub written_by_merges : Always WrittenByMerges
written_by_merges p bs r h base_true legal q level l =
    let t = record_is_true p bs r h base_true legal in
    omega (arith, record_last p _ _ q level t.holds l)
