-- Each entry stands in one live table at most, and is written into each level above the last once and once for each cut.
use Rattle.std.proofs.Common.{◌≡◌, ℕ, suc, ◌+◌, ◌-◌, ◌<◌, ◌≤◌, Bool, true, false, cond, ◌&&◌, ◌||◌, not, List, [], ◌∷◌, ◌++◌, length, inl, inr, refl, sym, ◌∙◌, ap, subst, arith}
use Rattle.std.specs.Prelude.{if◌then◌else◌, nat_lt, nat_le, ◌==◌, filter, flat_map}
use Rattle.std.specs.List.{list_any, list_all, AllZip}
use Rattle.std.proofs.lemmas.Bool.{and_parts, eqb-true, ltb-true, ltb-false, leb-true, leb-false, true≢false, ne_eqb, eq-eqb, cases_lt, cases_order}
use Rattle.peb_base.specs.Batches.{Batches, entries_of, numbered, ordered_above, are_in_order}
use Rattle.peb_base.specs.Entries.{entries_between, in_order}
use Rattle.peb_base.specs.Keys.{Bytes}
use Rattle.flsm_model.specs.Compaction.{straddles, kept, is_kept, pieces, some_entries}
use Rattle.flsm_model.specs.Trees.{Describes, Table, Tree, rows_of, content_of, merged, contents, paired, written_by, tables_without, tables_numbered, tree_after, tree_from}
use Rattle.peb_base.specs.declared.op.Op.{Op}
use Rattle.peb_base.specs.declared.entry.Entry.{Entry}
use Rattle.peb_base.specs.declared.table_row.TableRow.{TableRow}
use Rattle.peb_base.specs.Profiles.{Column}
use Rattle.flsm_model.specs.declared.edit.Edit.{Edit}
use Rattle.flsm_model.specs.declared.edit.Edit.TheVariants.{Open, Flush, Move, Cut, Merge}
use Rattle.flsm_model.specs.Shape.{Record, guards_at, has_number, rows_numbered, rows_without, inputs_of, outputs_of}
use Rattle.flsm_model.specs.Fits.{fits, fit_from, is_straddled, numbers_ascend}
use Rattle.flsm_model.specs.Ranges.{range_of, first_of}
use Rattle.flsm_model.specs.Writes.{total, one_if, copies, copies_in, copies_above, holds, tables_holding, writes, cuts_of, writes_from, cuts_from}
use Rattle.flsm_model.specs.TrueRecord.{DescribedFrom}
use Rattle.flsm_model.proofs.lists.Totals.{total-append, total-parts, total-filter, total-flat_map, total-same, copies-in_order, copies-some_entries, copies-pieces, copies-inputs, none_held, held_at, copies-paired, above_all, all_above, none_above, none_at, levels-paired}
use Rattle.flsm_model.proofs.guards.Facts.{move_facts, flush_facts, cut_facts, merge_facts}
use Rattle.flsm_model.proofs.lists.Lists.{Each, each_weaker}

-- ---- a flushed entry stands in the batches once

before_first : (q first : ℕ) (ops : List Op) → q < first → copies q (numbered first ops) ≡ 0
before_first q first [] l = refl
before_first q first (op ∷ ops) l =
    let no : (first == q) ≡ false = ne_eqb first q (λ e. omega arith) in
    rw no (omega (arith, before_first q (suc first) ops (omega arith)))

after_last : (q first : ℕ) (ops : List Op) → first + length ops ≤ q → copies q (numbered first ops) ≡ 0
after_last q first [] l = refl
after_last q first (op ∷ ops) l =
    let no : (first == q) ≡ false = ne_eqb first q (λ e. omega arith) in
    rw no (omega (arith, after_last q (suc first) ops (omega arith)))

once_numbered : (q first : ℕ) (ops : List Op) → copies q (numbered first ops) ≤ 1
once_numbered q first [] = omega arith
once_numbered q first (op ∷ ops) = by (first == q) refl (once_numbered q (suc first) ops)
  where
    by : (b : Bool) → (first == q) ≡ b → copies q (numbered (suc first) ops) ≤ 1 → one_if b + copies q (numbered (suc first) ops) ≤ 1
    by true e h = omega (arith, eqb-true first q e, before_first q (suc first) ops (omega (arith, eqb-true first q e)))
    by false e h = omega arith

none_below : (q low : ℕ) (bs : Batches) → ordered_above low bs ≡ true → q ≤ low → copies q (entries_of bs) ≡ 0
none_below q low [] h l = refl
none_below q low (b ∷ bs) h l =
    let p3 = and_parts _ _ h in
    let p2 = and_parts _ _ p3.0 in
    let p1 = and_parts _ _ p2.0 in
    let first : low < b.0 = ltb-true low b.0 p1.0 in
    let some : 0 < length b.1 = ltb-true 0 (length b.1) p1.1 in
    omega (
      arith,
      total-append (λ e. one_if (e.number == q)) (numbered b.0 b.1) (entries_of bs),
      before_first q b.0 b.1 (omega arith),
      none_below q (b.0 + length b.1 - 1) bs p3.1 (omega arith),
    )

once_in_batches : (q low : ℕ) (bs : Batches) → ordered_above low bs ≡ true → copies q (entries_of bs) ≤ 1
once_in_batches q low [] h = omega arith
once_in_batches q low (b ∷ bs) h =
    let p3 = and_parts _ _ h in
    elim (cases_lt q (b.0 + length b.1)) [
      | inl l ↦
          let rest : copies q (entries_of bs) ≡ 0 = none_below q (b.0 + length b.1 - 1) bs p3.1 (omega arith) in
          omega (arith, total-append (λ e. one_if (e.number == q)) (numbered b.0 b.1) (entries_of bs), once_numbered q b.0 b.1)
      | inr l ↦
          omega (
            arith,
            total-append (λ e. one_if (e.number == q)) (numbered b.0 b.1) (entries_of bs),
            after_last q b.0 b.1 l,
            once_in_batches q (b.0 + length b.1 - 1) bs p3.1,
          )
    ]

-- a filter by number takes the entry whole or leaves it
pub not_passed : (q : ℕ) (p : ℕ → Bool) (es : List Entry) → p q ≡ false → copies q (filter (λ e. p e.number) es) ≡ 0
not_passed q p [] h = refl
not_passed q p (e ∷ es) h = by (p e.number) refl (not_passed q p es h)
  where
    by : (b : Bool) → p e.number ≡ b → copies q (filter (λ f. p f.number) es) ≡ 0
        → copies q (cond b (e ∷ filter (λ f. p f.number) es) (filter (λ f. p f.number) es)) ≡ 0
    by true a r =
        let no : (e.number == q) ≡ false = ne_eqb e.number q (λ s. true≢false (sym a ∙ ap p s ∙ h)) in
        rw no (omega arith)
    by false a r = r

-- 1 where the entry isn't flushed yet
abbrev pub unflushed : ℕ → ℕ → ℕ
unflushed q to = one_if (nat_lt to q)

-- what a flush adds it takes from what isn't flushed
pub flushed_once : (q from to : ℕ) (bs : Batches) → are_in_order bs ≡ true → from < to
    → copies q (in_order (entries_between from to (entries_of bs))) + unflushed q to ≤ unflushed q from
flushed_once q from to bs h l = by (nat_lt from q) (nat_le q to) (nat_lt to q) refl refl refl
  where
    es : List Entry
    es = entries_between from to (entries_of bs)

    most : copies q (in_order es) ≤ 1
    most = omega (arith, copies-in_order q es, total-filter (λ e. one_if (e.number == q)) (λ e. nat_lt from e.number && nat_le e.number to) (entries_of bs), once_in_batches q 0 bs h)

    none : (nat_lt from q && nat_le q to) ≡ false → copies q (in_order es) ≡ 0
    none f = omega (arith, copies-in_order q es, not_passed q (λ n. nat_lt from n && nat_le n to) (entries_of bs) f)

    by : (a b c : Bool) → nat_lt from q ≡ a → nat_le q to ≡ b → nat_lt to q ≡ c → copies q (in_order es) + one_if c ≤ one_if a
    by true true true x y z = absurd (omega (arith, leb-true q to y, ltb-true to q z))
    by true true false x y z = omega (arith, most)
    by true false true x y z = omega (arith, none (grind (arith, x, y)))
    by true false false x y z = absurd (omega (arith, leb-false q to y, ltb-false to q z))
    by false b true x y z = absurd (omega (arith, ltb-false from q x, ltb-true to q z))
    by false b false x y z = omega (arith, none (grind (arith, x)))

-- ---- what the tables of a tree tell by their rows

numbered_rows : (ns : List ℕ) (ts : List Table) → rows_numbered ns (rows_of ts) ≡ rows_of (tables_numbered ns ts)
numbered_rows ns [] = refl
numbered_rows ns (t ∷ ts) = by (has_number t.row.number ns) (numbered_rows ns ts)
  where
    by : (b : Bool) → rows_numbered ns (rows_of ts) ≡ rows_of (tables_numbered ns ts)
        → cond b (t.row ∷ rows_numbered ns (rows_of ts)) (rows_numbered ns (rows_of ts)) ≡ rows_of (cond b (t ∷ tables_numbered ns ts) (tables_numbered ns ts))
    by true e = ap (λ rs. t.row ∷ rs) e
    by false e = e

each_row : (p : TableRow → Bool) (ts : List Table) → list_all p (rows_of ts) ≡ true → Each (λ t. p t.row ≡ true) ts
each_row p [] h = tt
each_row p (t ∷ ts) h = let a = and_parts (p t.row) (list_all p (rows_of ts)) h in (a.0, each_row p ts a.1)

-- a test of the rows of the inputs holds of the input tables
pub inputs_pass : (p : TableRow → Bool) (ns : List ℕ) (ts : List Table) (live : List TableRow) → rows_of ts ≡ live
    → list_all p (rows_numbered ns live) ≡ true → Each (λ t. p t.row ≡ true) (tables_numbered ns ts)
inputs_pass p ns ts live e h =
    each_row p (tables_numbered ns ts) (subst (λ rs. list_all p rs ≡ true) (ap (rows_numbered ns) (sym e) ∙ numbered_rows ns ts) h)

pub inputs_at : (level : ℕ) (ns : List ℕ) (ts : List Table) (live : List TableRow) → rows_of ts ≡ live
    → list_all (λ r. r.level == level) (rows_numbered ns live) ≡ true → Each (λ t. t.row.level ≡ level) (tables_numbered ns ts)
inputs_at level ns ts live e h =
    each_weaker (λ t. (t.row.level == level) ≡ true) (λ t. t.row.level ≡ level) (tables_numbered ns ts) (λ t x. eqb-true t.row.level level x)
    (inputs_pass (λ r. r.level == level) ns ts live e h)

-- ---- an edit makes no copy

copies-merged : (q : ℕ) (ts : List Table) (ns : List ℕ) → numbers_ascend ns ≡ true → copies q (merged ts ns) ≤ copies_in q (tables_numbered ns ts)
copies-merged q ts ns h =
    omega (arith, copies-in_order q (flat_map (content_of ts) ns), total-flat_map (λ e. one_if (e.number == q)) (content_of ts) ns, copies-inputs q ts ns h)

pub move_copies : (q : ℕ) (ts : List Table) (ns : List ℕ) (floor : ℕ) (whole : Bool) (guards : List Bytes) (rows : List TableRow) → numbers_ascend ns ≡ true
    → copies_in q (paired rows (pieces (kept (merged ts ns) floor whole) guards)) ≤ copies_in q (tables_numbered ns ts)
move_copies q ts ns floor whole guards rows h =
    omega (
      arith,
      copies-paired q rows (pieces (kept (merged ts ns) floor whole) guards),
      copies-pieces q (kept (merged ts ns) floor whole) guards,
      total-filter (λ e. one_if (e.number == q)) (is_kept (merged ts ns) floor whole) (merged ts ns),
      copies-merged q ts ns h,
    )

pub merge_copies : (q : ℕ) (ts : List Table) (ns : List ℕ) (floor : ℕ) (whole : Bool) (rows : List TableRow) → numbers_ascend ns ≡ true
    → copies_in q (paired rows (some_entries (kept (merged ts ns) floor whole))) ≤ copies_in q (tables_numbered ns ts)
merge_copies q ts ns floor whole rows h =
    omega (
      arith,
      copies-paired q rows (some_entries (kept (merged ts ns) floor whole)),
      copies-some_entries q (kept (merged ts ns) floor whole),
      total-filter (λ e. one_if (e.number == q)) (is_kept (merged ts ns) floor whole) (merged ts ns),
      copies-merged q ts ns h,
    )

pub cut_copies : (q : ℕ) (ts : List Table) (ns : List ℕ) (keys : List Bytes) (rows : List TableRow) → numbers_ascend ns ≡ true
    → copies_in q (paired rows (flat_map (λ n. pieces (content_of ts n) keys) ns)) ≤ copies_in q (tables_numbered ns ts)
cut_copies q ts ns keys rows h =
    omega (
      arith,
      copies-paired q rows (flat_map (λ n. pieces (content_of ts n) keys) ns),
      total-flat_map (copies q) (λ n. pieces (content_of ts n) keys) ns,
      total-same (λ n. total (copies q) (pieces (content_of ts n) keys)) (λ n. copies q (content_of ts n)) ns (λ n. copies-pieces q (content_of ts n) keys),
      copies-inputs q ts ns h,
    )

-- the tables after an exchange
exchange : (q : ℕ) (ns : List ℕ) (ts out : List Table) → copies_in q out ≤ copies_in q (tables_numbered ns ts)
    → copies_in q (tables_without ns ts ++ out) ≤ copies_in q ts
exchange q ns ts out h =
    omega (arith, total-append (λ t. copies q t.entries) (tables_without ns ts) out, total-parts (λ t. copies q t.entries) (λ t. has_number t.row.number ns) ts)

-- copies and what isn't flushed never grow
pub place_step : (o : Column) (bs : Batches) (t : Tree) (e : Edit) (q : ℕ) → are_in_order bs ≡ true → fits o t.shape e ≡ true
    → copies_in q (tree_after o bs t e).tables + unflushed q (tree_after o bs t e).shape.to ≤ copies_in q t.tables + unflushed q t.shape.to
place_step o bs t (Open session log) q b f = omega (arith, exchange q [] t.tables [] (omega arith))
place_step o bs t (Flush row from to log chosen) q b f =
    let k = flush_facts o t.shape row from to log chosen f in
    let out = paired (row ∷ []) (in_order (entries_between from to (entries_of bs)) ∷ []) in
    let most : copies q (in_order (entries_between from to (entries_of bs))) + unflushed q to ≤ unflushed q t.shape.to =
    subst (λ n. copies q (in_order (entries_between from to (entries_of bs))) + unflushed q to ≤ unflushed q n) k.follows (flushed_once q from to bs b k.rises) in
    omega (arith, most, total-append (λ x. copies q x.entries) (tables_without [] t.tables) out, total-filter (λ x. copies q x.entries) (λ x. not (has_number x.row.number [])) t.tables)
place_step o bs t (Move level floor inputs outputs) q b f =
    let k = move_facts o t.shape level floor inputs outputs f in
    omega (arith, exchange q inputs t.tables _ (move_copies q t.tables inputs floor false (guards_at t.shape (suc level)) outputs k.ascend))
place_step o bs t (Cut level keys inputs outputs) q b f =
    let k = cut_facts o t.shape level keys inputs outputs f in
    omega (arith, exchange q inputs t.tables _ (cut_copies q t.tables inputs keys outputs k.ascend))
place_step o bs t (Merge floor whole inputs outputs) q b f =
    let k = merge_facts o t.shape floor whole inputs outputs f in
    omega (arith, exchange q inputs t.tables _ (merge_copies q t.tables inputs floor whole outputs k.ascend))

-- ---- the bound

above-parts : (q level : ℕ) (ns : List ℕ) (ts : List Table)
    → copies_above q level (tables_numbered ns ts) + copies_above q level (tables_without ns ts) ≡ copies_above q level ts
above-parts q level ns ts = total-parts (λ t. if nat_lt t.row.level level then copies q t.entries else 0) (λ t. has_number t.row.number ns) ts

above-append : (q level : ℕ) (xs ys : List Table) → copies_above q level (xs ++ ys) ≡ copies_above q level xs + copies_above q level ys
above-append q level xs ys = total-append (λ t. if nat_lt t.row.level level then copies q t.entries else 0) xs ys

-- inputs of one level go down by one: the writes into a level are paid by what stood above it
down_step : (q level at : ℕ) (ns : List ℕ) (ts out : List Table)
    → Each (λ t. t.row.level ≡ at) (tables_numbered ns ts) → Each (λ t. t.row.level ≡ suc at) out
    → copies_in q out ≤ copies_in q (tables_numbered ns ts)
    → tables_holding q level out + copies_above q level (tables_without ns ts ++ out) ≤ copies_above q level ts
down_step q level at ns ts out ins outs le = elim (cases_order level (suc at)) [
  | inl same ↦
      omega (
        arith,
        above-append q level (tables_without ns ts) out,
        above-parts q level ns ts,
        held_at q level out,
        all_above q level at (tables_numbered ns ts) ins (omega arith),
        none_above q level (suc at) out outs (omega arith),
      )
  | inr (inl l) ↦
      omega (
        arith,
        above-append q level (tables_without ns ts) out,
        above-parts q level ns ts,
        none_at q level (suc at) out outs (omega arith),
        none_above q level (suc at) out outs (omega arith),
      )
  | inr (inr l) ↦
      omega (
        arith,
        above-append q level (tables_without ns ts) out,
        above-parts q level ns ts,
        none_at q level (suc at) out outs (omega arith),
        all_above q level at (tables_numbered ns ts) ins (omega arith),
        all_above q level (suc at) out outs l,
      )
]

some_straddle : (row : TableRow) (keys : List Bytes) → list_any (straddles row) keys ≡ true → 1 ≤ total (λ k. one_if (straddles row k)) keys
some_straddle row [] h = absurd (true≢false (sym h))
some_straddle row (k ∷ ks) h = by (straddles row k) h (some_straddle row ks)
  where
    by : (b : Bool) → (b || list_any (straddles row) ks) ≡ true → (list_any (straddles row) ks ≡ true → 1 ≤ total (λ k. one_if (straddles row k)) ks)
        → 1 ≤ one_if b + total (λ k. one_if (straddles row k)) ks
    by true x y = omega arith
    by false x y = omega (arith, y x)

-- a table that holds the entry once pays by each key that straddles it
paid_by_cuts : (q : ℕ) (keys : List Bytes) (ts : List Table) → Each (λ t. list_any (straddles t.row) keys ≡ true) ts → copies_in q ts ≤ 1
    → copies_in q ts ≤ total (λ x. if holds q x.entries then total (λ k. one_if (straddles x.row k)) keys else 0) ts
paid_by_cuts q keys [] s h = omega arith
paid_by_cuts q keys (t ∷ ts) s h = by (holds q t.entries) refl (paid_by_cuts q keys ts s.1 (omega arith))
  where
    by : (b : Bool) → holds q t.entries ≡ b
        → copies_in q ts ≤ total (λ x. if holds q x.entries then total (λ k. one_if (straddles x.row k)) keys else 0) ts
        → copies q t.entries + copies_in q ts
        ≤ cond b (total (λ k. one_if (straddles t.row k)) keys) 0 + total (λ x. if holds q x.entries then total (λ k. one_if (straddles x.row k)) keys else 0) ts
    by true e r = omega (arith, some_straddle t.row keys s.0)
    by false e r = omega (arith, none_held q t.entries e)

pub bound_step : (o : Column) (bs : Batches) (t : Tree) (e : Edit) (q level : ℕ) → are_in_order bs ≡ true → fits o t.shape e ≡ true
    → rows_of t.tables ≡ t.shape.live → copies_in q t.tables ≤ 1 → level < o.last_level
    → writes o bs t q level e + (copies_above q level (tree_after o bs t e).tables + unflushed q (tree_after o bs t e).shape.to)
    ≤ cuts_of t q level e + (copies_above q level t.tables + unflushed q t.shape.to)
bound_step o bs t (Open session log) q level b f rows one l =
    omega (arith, above-append q level (tables_without [] t.tables) [], above-parts q level [] t.tables)
bound_step o bs t (Flush row from to log chosen) q level b f rows one l =
    let k = flush_facts o t.shape row from to log chosen f in
    let es = in_order (entries_between from to (entries_of bs)) in
    let most : copies q es + unflushed q to ≤ unflushed q t.shape.to =
    subst (λ n. copies q es + unflushed q to ≤ unflushed q n) k.follows (flushed_once q from to bs b k.rises) in
    let out : List Table = record { row = row; entries = es } ∷ [] in
    let at : Each (λ x. x.row.level ≡ 0) out = (k.at, tt) in
    elim (cases_order level 0) [
      | inl z ↦ omega (arith, above-append q level (tables_without [] t.tables) out, above-parts q level [] t.tables, held_at q level out, none_above q level 0 out at (omega arith))
      | inr (inl z) ↦ absurd (omega arith)
      | inr (inr z) ↦ omega (arith, above-append q level (tables_without [] t.tables) out, above-parts q level [] t.tables, none_at q level 0 out at (omega arith), above_all q level out)
    ]
bound_step o bs t (Move at floor inputs outputs) q level b f rows one l =
    let k = move_facts o t.shape at floor inputs outputs f in
    omega (
      arith,
      down_step q level at inputs t.tables (written_by o bs t (Move at floor inputs outputs))
          (inputs_at at inputs t.tables t.shape.live rows k.at) (levels-paired (suc at) outputs _ k.below)
          (move_copies q t.tables inputs floor false (guards_at t.shape (suc at)) outputs k.ascend),
    )
bound_step o bs t (Cut at keys inputs outputs) q level b f rows one l =
    let k = cut_facts o t.shape at keys inputs outputs f in
    let range = range_of (guards_at t.shape at) (first_of keys) in
    let out = written_by o bs t (Cut at keys inputs outputs) in
    let pass : Each (λ x. is_straddled at range keys x.row ≡ true) (tables_numbered inputs t.tables) =
    inputs_pass (is_straddled at range keys) inputs t.tables t.shape.live rows k.straddled in
    let ins : Each (λ x. x.row.level ≡ at) (tables_numbered inputs t.tables) =
    each_weaker (λ x. is_straddled at range keys x.row ≡ true) (λ x. x.row.level ≡ at) (tables_numbered inputs t.tables)
    (λ x h. eqb-true x.row.level at (and_parts _ _ (and_parts _ _ h).0).0) pass in
    let cuts : Each (λ x. list_any (straddles x.row) keys ≡ true) (tables_numbered inputs t.tables) =
    each_weaker (λ x. is_straddled at range keys x.row ≡ true) (λ x. list_any (straddles x.row) keys ≡ true) (tables_numbered inputs t.tables)
    (λ x h. (and_parts _ _ h).1) pass in
    let outs : Each (λ x. x.row.level ≡ at) out = levels-paired at outputs _ k.at in
    let less : copies_in q out ≤ copies_in q (tables_numbered inputs t.tables) = cut_copies q t.tables inputs keys outputs k.ascend in
    let few : copies_in q (tables_numbered inputs t.tables) ≤ 1 =
    omega (arith, one, total-filter (λ x. copies q x.entries) (λ x. has_number x.row.number inputs) t.tables) in
    elim (cases_order level at) [
      | inl same ↦
          rw (eq-eqb at level (sym same)) (omega (
            arith,
            above-append q level (tables_without inputs t.tables) out,
            above-parts q level inputs t.tables,
            held_at q level out,
            none_above q level at out outs (omega arith),
            paid_by_cuts q keys (tables_numbered inputs t.tables) cuts few,
          ))
      | inr (inl z) ↦
          omega (
            arith,
            above-append q level (tables_without inputs t.tables) out,
            above-parts q level inputs t.tables,
            none_at q level at out outs (omega arith),
            none_above q level at out outs (omega arith),
          )
      | inr (inr z) ↦
          omega (
            arith,
            above-append q level (tables_without inputs t.tables) out,
            above-parts q level inputs t.tables,
            none_at q level at out outs (omega arith),
            all_above q level at out outs z,
            all_above q level at (tables_numbered inputs t.tables) ins z,
          )
    ]
bound_step o bs t (Merge floor whole inputs outputs) q level b f rows one l =
    let k = merge_facts o t.shape floor whole inputs outputs f in
    let out = written_by o bs t (Merge floor whole inputs outputs) in
    omega (
      arith,
      above-append q level (tables_without inputs t.tables) out,
      above-parts q level inputs t.tables,
      none_at q level o.last_level out (levels-paired o.last_level outputs _ k.below) (omega arith),
      none_above q level o.last_level out (levels-paired o.last_level outputs _ k.below) (omega arith),
    )

-- ---- whole records

-- rows and contents, as many of the one as of the other
rows-paired : (o : Column) (rows : List TableRow) (cs : List (List Entry)) → AllZip (Describes o) rows cs → rows_of (paired rows cs) ≡ rows
rows-paired o [] [] h = refl
rows-paired o [] (c ∷ cs) h = absurd h
rows-paired o (r ∷ rs) [] h = absurd h
rows-paired o (r ∷ rs) (c ∷ cs) h = ap (λ xs. r ∷ xs) (rows-paired o rs cs h.1)

rows-append : (xs ys : List Table) → rows_of (xs ++ ys) ≡ rows_of xs ++ rows_of ys
rows-append [] ys = refl
rows-append (x ∷ xs) ys = ap (λ rs. x.row ∷ rs) (rows-append xs ys)

without_rows : (ns : List ℕ) (ts : List Table) → rows_of (tables_without ns ts) ≡ rows_without ns (rows_of ts)
without_rows ns [] = refl
without_rows ns (t ∷ ts) = by (has_number t.row.number ns) (without_rows ns ts)
  where
    by : (b : Bool) → rows_of (tables_without ns ts) ≡ rows_without ns (rows_of ts)
        → rows_of (cond (not b) (t ∷ tables_without ns ts) (tables_without ns ts)) ≡ cond (not b) (t.row ∷ rows_without ns (rows_of ts)) (rows_without ns (rows_of ts))
    by true e = e
    by false e = ap (λ rs. t.row ∷ rs) e

exchanged_rows : (o : Column) (bs : Batches) (t : Tree) (e : Edit) → AllZip (Describes o) (outputs_of e) (contents o bs t e) → rows_of t.tables ≡ t.shape.live
    → rows_of (tables_without (inputs_of e) t.tables ++ written_by o bs t e) ≡ rows_without (inputs_of e) t.shape.live ++ outputs_of e
exchanged_rows o bs t e d r =
    let a = rows-append (tables_without (inputs_of e) t.tables) (written_by o bs t e) in
    let b = without_rows (inputs_of e) t.tables in
    let c = rows-paired o (outputs_of e) (contents o bs t e) d in
    rw (a, b, c, r) refl

without_none : (rs : List TableRow) → rows_without [] rs ++ [] ≡ rs
without_none [] = refl
without_none (r ∷ rs) = ap (λ xs. r ∷ xs) (without_none rs)

pub rows_step : (o : Column) (bs : Batches) (t : Tree) (e : Edit) → AllZip (Describes o) (outputs_of e) (contents o bs t e)
    → rows_of t.tables ≡ t.shape.live → rows_of (tree_after o bs t e).tables ≡ (tree_after o bs t e).shape.live
rows_step o bs t (Open session log) d r =
    rows-append (tables_without [] t.tables) [] ∙ ap (λ xs. xs ++ []) (without_rows [] t.tables) ∙ without_none (rows_of t.tables) ∙ r
rows_step o bs t (Flush row from to log chosen) d r = exchanged_rows o bs t (Flush row from to log chosen) d r
rows_step o bs t (Move level floor inputs outputs) d r = exchanged_rows o bs t (Move level floor inputs outputs) d r
rows_step o bs t (Cut level keys inputs outputs) d r = exchanged_rows o bs t (Cut level keys inputs outputs) d r
rows_step o bs t (Merge floor whole inputs outputs) d r = exchanged_rows o bs t (Merge floor whole inputs outputs) d r

pub place_from : (o : Column) (bs : Batches) (t : Tree) (r : Record) (q : ℕ) → are_in_order bs ≡ true → fit_from o t.shape r ≡ true
    → copies_in q (tree_from o bs t r).tables + unflushed q (tree_from o bs t r).shape.to ≤ copies_in q t.tables + unflushed q t.shape.to
place_from o bs t [] q b f = omega arith
place_from o bs t (e ∷ es) q b f =
    let p = and_parts (fits o t.shape e) _ f in
    omega (arith, place_step o bs t e q b p.0, place_from o bs (tree_after o bs t e) es q b p.1)

pub bound_from : (o : Column) (bs : Batches) (t : Tree) (r : Record) (q level : ℕ) → are_in_order bs ≡ true → fit_from o t.shape r ≡ true
    → DescribedFrom o bs t r → rows_of t.tables ≡ t.shape.live → copies_in q t.tables + unflushed q t.shape.to ≤ 1 → level < o.last_level
    → writes_from o bs t q level r + (copies_above q level (tree_from o bs t r).tables + unflushed q (tree_from o bs t r).shape.to)
    ≤ cuts_from o bs t q level r + (copies_above q level t.tables + unflushed q t.shape.to)
bound_from o bs t [] q level b f d rows one l = omega arith
bound_from o bs t (e ∷ es) q level b f d rows one l =
    let p = and_parts (fits o t.shape e) _ f in
    omega (
      arith,
      bound_step o bs t e q level b p.0 rows (omega arith) l,
      bound_from o bs (tree_after o bs t e) es q level b p.1 d.2 (rows_step o bs t e d.0 rows) (omega (arith, place_step o bs t e q b p.0)) l,
    )
