-- Steps of the ledger.
use Rattle.std.proofs.Common.{◌≡◌, ℕ, ◌+◌, ◌<◌, Bool, true, false, cond, List, [], ◌∷◌, ◌++◌, length, refl, sym, ◌∙◌, ap, subst, append-nil, append_assoc, take, get_or, arith}
use Rattle.std.specs.Prelude.{◌==◌, filter, flat_map, sum_by, slice_index_or, slice_set}
use Rattle.std.proofs.lemmas.Bool.{eqb-true, eqb-false}
use Rattle.std.proofs.lemmas.List.{get_or-set_other, get_or-set_same, length-append}
use Rattle.std.proofs.Math.ListN.{length-set}
use Rattle.std.proofs.lemmas.List.Elements.{filter-append}
use Rattle.std.proofs.lemmas.List.Sums.{sum_by_push}
use Rattle.std.proofs.lemmas.Grind.{flat_map-append, take_at_read}
use Rattle.peb_base.specs.declared.table_row.TableRow.{TableRow}
use Rattle.flsm_model.specs.declared.edit.Edit.{Edit}
use Rattle.flsm_model.specs.declared.level_count.LevelCount.{LevelCount}
use Rattle.flsm_model.specs.Shape.{Record, outputs_of}
use Rattle.flsm_model.specs.Ledgers.{capped, nothing, cut_rows, rows_at, Shorts, shorts_at, level_count, Counts, IsLedger, with_row, with_cut_row}

same_counts : (a b : LevelCount) → a.tables ≡ b.tables → a.entries ≡ b.entries → a.bytes ≡ b.bytes → a.cuts ≡ b.cuts → a.short ≡ b.short → a.lost ≡ b.lost → a ≡ b
same_counts a b p q r s t u = λ i. record { tables = p i; entries = q i; bytes = r i; cuts = s i; short = t i; lost = u i }

-- the elements of which the test holds, with one more
filter_push : {X : Type 0} (p : X → Bool) (xs : List X) (x : X) (b : Bool) → p x ≡ b → filter p (xs ++ x ∷ []) ≡ filter p xs ++ cond b (x ∷ []) []
filter_push p xs x b e = filter-append p xs (x ∷ []) ∙ ap (λ c. filter p xs ++ cond c (x ∷ []) []) e

-- a level's counts, changed at that level
changed : (old : List LevelCount) (at : ℕ) (new : LevelCount) (level : ℕ) → at < length old
    → slice_index_or (slice_set old at new) level nothing ≡ cond (at == level) new (slice_index_or old level nothing)
changed old at new level within = by (at == level) refl
  where
    by : (b : Bool) → (at == level) ≡ b → slice_index_or (slice_set old at new) level nothing ≡ cond b new (slice_index_or old level nothing)
    by true e = ap (λ k. slice_index_or (slice_set old at new) k nothing) (sym (eqb-true at level e)) ∙ get_or-set_same old at new nothing within
    by false e = get_or-set_other old at level new nothing (λ s. eqb-false at level e (sym s))

-- the counts of a level go by its rows
level_same : (xs ys rows cuts : List TableRow) (shorts : Shorts) (level : ℕ) → rows_at level xs ≡ rows_at level rows → rows_at level ys ≡ rows_at level cuts
    → level_count xs ys shorts level ≡ level_count rows cuts shorts level
level_same xs ys rows cuts shorts level p q = λ i. record {
  tables = capped (length (p i));
  entries = capped (sum_by (λ r. r.entries) (p i));
  bytes = capped (sum_by (λ r. r.bytes) (p i));
  cuts = capped (sum_by (λ r. r.entries) (q i));
  short = capped (length (shorts_at level shorts));
  lost = capped (sum_by (λ p. p.1) (shorts_at level shorts));
}

-- a row of another level
other_row : (rows : List TableRow) (row : TableRow) (level : ℕ) → (row.level == level) ≡ false → rows_at level (rows ++ row ∷ []) ≡ rows_at level rows
other_row rows row level e = filter_push (λ r. r.level == level) rows row false e ∙ append-nil (rows_at level rows)

one_more : (rows cuts : List TableRow) (shorts : Shorts) (row : TableRow) (level : ℕ) → rows_at level (rows ++ row ∷ []) ≡ rows_at level rows ++ row ∷ []
    → with_row row (level_count rows cuts shorts level) ≡ level_count (rows ++ row ∷ []) cuts shorts level
one_more rows cuts shorts row level more =
    rw more (same_counts _ _ (omega (arith, length-append (rows_at level rows) (row ∷ [])))
    (omega (arith, sum_by_push (λ r. r.entries) (rows_at level rows) row)) (omega (arith, sum_by_push (λ r. r.bytes) (rows_at level rows) row)) refl refl refl)

one_cut_more : (rows cuts : List TableRow) (shorts : Shorts) (row : TableRow) (level : ℕ) → rows_at level (rows ++ row ∷ []) ≡ rows_at level rows ++ row ∷ []
    → rows_at level (cuts ++ row ∷ []) ≡ rows_at level cuts ++ row ∷ []
    → with_cut_row row (level_count rows cuts shorts level) ≡ level_count (rows ++ row ∷ []) (cuts ++ row ∷ []) shorts level
one_cut_more rows cuts shorts row level more more_cuts =
    rw (more, more_cuts) (same_counts _ _ (omega (arith, length-append (rows_at level rows) (row ∷ [])))
    (omega (arith, sum_by_push (λ r. r.entries) (rows_at level rows) row)) (omega (arith, sum_by_push (λ r. r.bytes) (rows_at level rows) row))
    (omega (arith, sum_by_push (λ r. r.entries) (rows_at level cuts) row)) refl refl)

-- one row more, at its level
pub counts_row : (old : List LevelCount) (rows cuts : List TableRow) (shorts : Shorts) (row : TableRow) → row.level < length old → Counts old rows cuts shorts
    → Counts (slice_set old row.level (with_row row (slice_index_or old row.level nothing))) (rows ++ row ∷ []) cuts shorts
counts_row old rows cuts shorts row within counts level l =
    changed old row.level (with_row row (slice_index_or old row.level nothing)) level within ∙ by (row.level == level) refl
  where
    here : slice_index_or old level nothing ≡ level_count rows cuts shorts level
    here = counts level (omega (arith, l, length-set old row.level (with_row row (slice_index_or old row.level nothing))))

    by : (b : Bool) → (row.level == level) ≡ b
        → cond b (with_row row (slice_index_or old row.level nothing)) (slice_index_or old level nothing) ≡ level_count (rows ++ row ∷ []) cuts shorts level
    by true e =
        ap (with_row row) (ap (λ k. slice_index_or old k nothing) (eqb-true row.level level e) ∙ here)
        ∙ one_more rows cuts shorts row level (filter_push (λ r. r.level == level) rows row true e)
    by false e = here ∙ sym (level_same (rows ++ row ∷ []) cuts rows cuts shorts level (other_row rows row level e) refl)

-- one row more that a Cut wrote, at its level
pub counts_cut_row : (old : List LevelCount) (rows cuts : List TableRow) (shorts : Shorts) (row : TableRow) → row.level < length old → Counts old rows cuts shorts
    → Counts (slice_set old row.level (with_cut_row row (slice_index_or old row.level nothing))) (rows ++ row ∷ []) (cuts ++ row ∷ []) shorts
counts_cut_row old rows cuts shorts row within counts level l =
    changed old row.level (with_cut_row row (slice_index_or old row.level nothing)) level within ∙ by (row.level == level) refl
  where
    here : slice_index_or old level nothing ≡ level_count rows cuts shorts level
    here = counts level (omega (arith, l, length-set old row.level (with_cut_row row (slice_index_or old row.level nothing))))

    by : (b : Bool) → (row.level == level) ≡ b
        → cond b (with_cut_row row (slice_index_or old row.level nothing)) (slice_index_or old level nothing) ≡ level_count (rows ++ row ∷ []) (cuts ++ row ∷ []) shorts level
    by true e =
        ap (with_cut_row row) (ap (λ k. slice_index_or old k nothing) (eqb-true row.level level e) ∙ here)
        ∙ one_cut_more rows cuts shorts row level (filter_push (λ r. r.level == level) rows row true e) (filter_push (λ r. r.level == level) cuts row true e)
    by false e = here ∙ sym (level_same (rows ++ row ∷ []) (cuts ++ row ∷ []) rows cuts shorts level (other_row rows row level e) (other_row cuts row level e))

-- one more of the rows that are added
pub taken_more : (rows added : List TableRow) (k : ℕ) (row : TableRow) → k < length added → row ≡ get_or added k row
    → rows ++ take (k + 1) added ≡ (rows ++ take k added) ++ row ∷ []
taken_more rows added k row within is =
    ap (λ x. rows ++ x) ((take_at_read added k row within).1 ∙ ap (λ x. take k added ++ x ∷ []) (sym is)) ∙ sym (append_assoc rows (take k added) (row ∷ []))

-- the edit's rows behind those of the edits before it
pub ledger_push : (counts : List LevelCount) (es : Record) (e : Edit) (shorts : Shorts)
    → Counts counts (flat_map outputs_of es ++ outputs_of e) (flat_map cut_rows es ++ cut_rows e) shorts → IsLedger counts (es ++ e ∷ []) shorts
ledger_push counts es e shorts h =
    let pushed : (f : Edit → List TableRow) → flat_map f (es ++ e ∷ []) ≡ flat_map f es ++ f e =
    λ f. flat_map-append f es (e ∷ []) ∙ ap (λ x. flat_map f es ++ x) (append-nil (f e)) in
    subst (λ rs. Counts counts rs (flat_map cut_rows (es ++ e ∷ [])) shorts) (sym (pushed outputs_of))
    (subst (λ cs. Counts counts (flat_map outputs_of es ++ outputs_of e) cs shorts) (sym (pushed cut_rows)) h)

-- the same of an edit that is no Cut
pub ledger_push_plain : (counts : List LevelCount) (es : Record) (e : Edit) (shorts : Shorts) → cut_rows e ≡ []
    → Counts counts (flat_map outputs_of es ++ outputs_of e) (flat_map cut_rows es) shorts → IsLedger counts (es ++ e ∷ []) shorts
ledger_push_plain counts es e shorts none h =
    ledger_push counts es e shorts (subst (λ cs. Counts counts (flat_map outputs_of es ++ outputs_of e) cs shorts) (sym (ap (λ x. flat_map cut_rows es ++ x) none ∙ append-nil (flat_map cut_rows es))) h)
