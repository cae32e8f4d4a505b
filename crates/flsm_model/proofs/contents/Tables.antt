-- Live tables hold entries in their strict order; what entries show at a key.
use Rattle.std.proofs.Common.{◌≡◌, ℕ, ◌<◌, ◌≤◌, true, not, List, [], ◌∷◌, inl, inr, refl, sym, ◌∙◌, ap, subst, arith}
use Rattle.std.specs.Prelude.{◌==◌, nat_lt, nat_le, filter, None}
use Rattle.std.proofs.lemmas.Bool.{and_from, or_left, or_right, cases_Bool, eq-eqb, leb-true, le-leb, lt-ltb, cases_lt}
use Rattle.peb_base.specs.Keys.{Bytes, key_lt, key_eq}
use Rattle.peb_base.specs.KeyLaws.{same_key}
use Rattle.peb_base.specs.Batches.{Batches, entries_of}
use Rattle.peb_base.specs.Entries.{in_order, comes_before, IsEntry, AscendFrom}
use Rattle.peb_base.specs.EntryLaws.{after_none}
use Rattle.peb_base.specs.Members.{IsIn}
use Rattle.peb_base.specs.Profiles.{column, Column}
use Rattle.peb_base.specs.declared.entry.Entry.{Entry}
use Rattle.flsm_model.specs.Shape.{Record, outputs_of}
use Rattle.flsm_model.specs.Trees.{Describes, Table, Tree, contents, tree_after, tree_from, empty_tree}
use Rattle.flsm_model.specs.TrueRecord.{DescribedFrom, IsNewest}
use Rattle.flsm_model.specs.Writes.{copies, copies_in, one_if}
use Rattle.flsm_model.specs.Contents.{TablesStand, NumbersDiffer, entries_here, put_value, LooksUp, NewestIsShown, NewestIsInMap}
use Rattle.flsm_model.specs.Events.{Standing, base}
use Rattle.flsm_model.specs.Shown.{all_entries, in_memory}
use Rattle.flsm_model.specs.Legal.{Always}
use Rattle.flsm_model.specs.Steps.{run}
use Rattle.peb_base.specs.Map.{lookup}
use Rattle.peb_base.specs.Shown.{shown, firsts}
use Rattle.flsm_model.proofs.contents.Base.{deep}
use Rattle.flsm_model.proofs.contents.Covers.{sorted_has}
use Rattle.flsm_model.proofs.contents.Falls.{after}
use Rattle.flsm_model.proofs.contents.MapList.{Sourced, sourced_from, map_shows}
use Rattle.flsm_model.proofs.lists.Members.{in_sorted}
use Rattle.flsm_model.proofs.lists.Newest.{Rising, rising_entries, same_number, first_at, firsts_first, KeysRise, firsts_rise, lookup_puts, Found, Nowhere, At, found_first, Falling, falling_in_order}
use Rattle.flsm_model.proofs.contents.Places.{one_place}
use Rattle.flsm_model.proofs.contents.Sorts.{Sorted, sorted_in_order, of_step, described}
use Rattle.flsm_model.proofs.histories.Truth.{All, all_run, all_base}
use Rattle.flsm_model.proofs.guards.NewRows.{le_ne_lt}
use Rattle.flsm_model.proofs.lists.Lists.{in_append, in_flat, in_filter, in_kept, each_before-filter}

-- ---- numbers fall along each key

abbrev AllFall : List Table → Type 0
AllFall ts = (t : Table) → IsIn t ts → Falling t.entries

fall_from : (o : Column) (bs : Batches) (t : Tree) (r : Record) → AllFall t.tables → AllFall (tree_from o bs t r).tables
fall_from o bs t [] h = h
fall_from o bs t (e ∷ es) h = fall_from o bs (tree_after o bs t e) es (of_step Falling tt falling_in_order (each_before-filter _) o bs t e h)

-- ---- rows tell of their tables

abbrev AllTell : Column → List Table → Type 0
AllTell o ts = (t : Table) → IsIn t ts → Describes o t.row t.entries

tell_from : (o : Column) (bs : Batches) (t : Tree) (r : Record) → DescribedFrom o bs t r → AllTell o t.tables → AllTell o (tree_from o bs t r).tables
tell_from o bs t [] d h = h
tell_from o bs t (e ∷ es) d h =
    tell_from o bs (tree_after o bs t e) es d.2 (λ u i. elim (after o bs t e u i) [
      | inl a ↦ h u a.0
      | inr b ↦ described o u (outputs_of e) (contents o bs t e) d.0 b
    ])

-- ---- strictly

copies_here : (x : Entry) (es : List Entry) → IsIn x es → 1 ≤ copies x.number es
copies_here x [] i = absurd i
copies_here x (e ∷ es) i = elim i [
  | inl s ↦ let one : one_if (e.number == x.number) ≡ 1 = ap one_if (eq-eqb e.number x.number (ap (λ (z : Entry). z.number) (sym s))) in omega (arith, one)
  | inr m ↦ omega (arith, copies_here x es m)
]

copies_table : (q : ℕ) (t : Table) (ts : List Table) → IsIn t ts → copies q t.entries ≤ copies_in q ts
copies_table q t [] i = absurd i
copies_table q t (u ∷ ts) i = elim i [
  | inl s ↦ let same : copies q t.entries ≡ copies q u.entries = ap (λ (z : Table). copies q z.entries) s in omega (arith, same)
  | inr m ↦ omega (arith, copies_table q t ts m)
]

-- an entry that comes behind another one comes strictly behind it
behind : (e f : Entry) → not (key_lt f.key e.key) ≡ true → (f.key ≡ e.key → f.number < e.number) → comes_before e.key e.number f.key f.number ≡ true
behind e f le less = elim (cases_Bool (key_eq e.key f.key)) [
  | inl s ↦ or_right (key_lt e.key f.key) _ (and_from _ _ s (lt-ltb f.number e.number (less (sym (same_key e.key f.key s)))))
  | inr n ↦ or_left _ _ (le_ne_lt e.key f.key le n)
]

strict_from : (k : Bytes) (n : ℕ) (es : List Entry) → ((x : Entry) → IsIn x es → IsEntry x) → Sorted es → Falling es → ((x : Entry) → IsIn x es → copies x.number es ≤ 1)
    → ((x : Entry) → IsIn x es → comes_before k n x.key x.number ≡ true) → AscendFrom k n es
strict_from k n [] entry so fa one after = tt
strict_from k n (e ∷ es) entry so fa one after = (
  entry e (inl refl),
  after e (inl refl),
  strict_from e.key e.number es (λ x i. entry x (inr i)) so.1 fa.1 (λ x i. omega (arith, one x (inr i)))
      (λ x i. behind e x (so.0 x i) (λ same. less x i (fa.0 x i same))),
)
  where
    less : (x : Entry) → IsIn x es → x.number ≤ e.number → x.number < e.number
    less x i l = elim (cases_lt x.number e.number) [
      | inl lt ↦ lt
      | inr ge ↦
          let same : e.number ≡ x.number = omega (arith, l, ge) in
          let two : one_if (e.number == x.number) ≡ 1 = ap one_if (eq-eqb e.number x.number same) in
          absurd (omega (arith, two, copies_here x es i, one x (inr i)))
    ]

-- the entries of tables and memtables are those of batches, of which no two have one number
here_differ : (w : Standing) → Sourced w.batches w.tree → Rising (entries_of w.batches) → NumbersDiffer (entries_here w)
here_differ w src rising x y i k same = same_number (entries_of w.batches) x y rising (from x i) (from y k) same
  where
    from : (z : Entry) → IsIn z (entries_here w) → IsIn z (entries_of w.batches)
    from z i = elim (in_append z (all_entries w.tree.tables) (in_memory w.batches w.tree.shape.to) i) [
      | inl a ↦ let u = in_flat (λ (t : Table). t.entries) z w.tree.tables a in src.source u.0 z u.1 u.2
      | inr b ↦ (in_filter (λ (e : Entry). nat_lt w.tree.shape.to e.number) z (entries_of w.batches) b).0
    ]

pub tables_stand : Always TablesStand
tables_stand p bs r h base_true legal =
    let o = column p in
    let w = run o (base true o bs r) h in
    let al : All o w = all_run o (base true o bs r) h (deep p) (all_base o bs r base_true) legal in
    let falls : AllFall w.tree.tables = subst (λ (t : Tree). AllFall t.tables) (sym al.told.books.tree) (fall_from o w.batches (empty_tree o) w.edits (λ t i. absurd i)) in
    let tells : AllTell o w.tree.tables = subst (λ (t : Tree). AllTell o t.tables) (sym al.told.books.tree) (tell_from o w.batches (empty_tree o) w.edits al.told.books.described (λ t i. absurd i)) in
    let src : Sourced w.batches w.tree = subst (Sourced w.batches) (sym al.told.books.tree) (sourced_from o w.batches (empty_tree o) w.edits (record { source = λ u x i. absurd i })) in
    record {
      rows = al.holds.sound.rows;
      described = tells;
      sorted = λ entries t i. strict_from [] 0 t.entries (λ x m. entries x (src.source t x i m)) (al.holds.sound.sorted.sorted t i) (falls t i)
          (λ x m. omega (arith, copies_table x.number t w.tree.tables i, one_place p bs r h base_true legal x.number))
          (λ x m. after_none x (entries x (src.source t x i m)));
      differ = here_differ w src (rising_entries 0 w.batches al.placed.ordered);
    }

-- ---- look-ups

pub newest_is_shown : NewestIsShown
newest_is_shown es n differ = record { found = found; absent = absent }
  where
    low : List Entry
    low = in_order (filter (λ (e : Entry). nat_le e.number n) es)

    in_low : (x : Entry) → IsIn x low → IsIn x es × (x.number ≤ n)
    in_low x i = let p = in_filter (λ (e : Entry). nat_le e.number n) x es (in_sorted x (filter (λ (e : Entry). nat_le e.number n) es) i) in (p.0, leb-true x.number n p.1)

    low_has : (x : Entry) → IsIn x es → x.number ≤ n → IsIn x low
    low_has x i l = sorted_has x (filter (λ (e : Entry). nat_le e.number n) es) (in_kept (λ (e : Entry). nat_le e.number n) x es i (le-leb x.number n l))

    rise : KeysRise (firsts low)
    rise = firsts_rise low (sorted_in_order (filter (λ (e : Entry). nat_le e.number n) es))

    is : (k : Bytes) → lookup k (shown es n) ≡ first_at k low
    is k = lookup_puts k (firsts low) rise ∙ firsts_first k low

    at : (k : Bytes) → Found low k (first_at k low)
    at k = found_first k low (falling_in_order (filter (λ (e : Entry). nat_le e.number n) es))

    found : (x : Entry) → IsNewest (λ y. IsIn y es) x n → lookup x.key (shown es n) ≡ put_value x.change
    found x newest = is x.key ∙ by (at x.key)
      where
        by : Found low x.key (first_at x.key low) → first_at x.key low ≡ put_value x.change
        by (Nowhere never q) = absurd (never x (low_has x newest.here newest.below) refl)
        by (At y i s q m) =
            let p = in_low y i in
            let same : x.number ≡ y.number = omega (arith, m x (low_has x newest.here newest.below) refl, newest.newest y p.0 s p.1) in
            q ∙ ap (λ (z : Entry). put_value z.change) (sym (differ x y newest.here p.0 same))

    absent : (k : Bytes) → ((x : Entry) → IsIn x es → x.number ≤ n → x.key ≡ k → ⊥) → lookup k (shown es n) ≡ None
    absent k never = is k ∙ by (at k)
      where
        by : Found low k (first_at k low) → first_at k low ≡ None
        by (Nowhere none q) = q
        by (At y i s q m) = let p = in_low y i in absurd (never y p.0 p.1 s)

pub newest_is_in_map : Always NewestIsInMap
newest_is_in_map p bs r h base_true legal n eq m rd =
    let w = run (column p) (base true (column p) bs r) h in
    subst (LooksUp (entries_here w) m) ((map_shows p bs r h base_true legal).read n eq m rd) (newest_is_shown (entries_here w) m (tables_stand p bs r h base_true legal).differ)
