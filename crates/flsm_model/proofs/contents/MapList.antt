-- What entries show is the map of the batches where their newest puts are those of the batches.
use Rattle.std.proofs.Common.{◌≡◌, ℕ, ◌≤◌, true, ◌&&◌, List, [], ◌∷◌, ◌++◌, ◌⊎◌, inl, inr, sym, ◌∙◌, ap, subst, arith}
use Rattle.std.specs.Prelude.{nat_lt, nat_le, filter, ◌↔◌, Option, Some, None}
use Rattle.std.proofs.lemmas.Bool.{and_parts, and_from, cases_Bool, ltb-true, lt-ltb, leb-true, le-leb}
use Rattle.peb_base.specs.Keys.{Bytes}
use Rattle.peb_base.specs.Batches.{Batches, entries_of, are_in_order}
use Rattle.peb_base.specs.Map.{map_at}
use Rattle.peb_base.specs.Entries.{entries_between, in_order}
use Rattle.peb_base.specs.Profiles.{column, Column}
use Rattle.flsm_model.specs.Compaction.{is_put}
use Rattle.peb_base.specs.declared.entry.Entry.{Entry}
use Rattle.flsm_model.specs.declared.edit.Edit.{Edit}
use Rattle.flsm_model.specs.declared.edit.Edit.TheVariants.{Open, Flush, Move, Cut, Merge}
use Rattle.flsm_model.specs.Shape.{Record}
use Rattle.flsm_model.specs.Trees.{Table, Tree, contents, tree_after, tree_from, empty_tree}
use Rattle.flsm_model.specs.Events.{Session, Standing, base}
use Rattle.flsm_model.specs.Steps.{run}
use Rattle.flsm_model.specs.TrueRecord.{IsNewest, Live, Flushed, SamePuts}
use Rattle.peb_base.specs.Members.{IsIn}
use Rattle.flsm_model.specs.Reading.{InMemory, IsRead, MapShows}
use Rattle.flsm_model.specs.Legal.{Always}
use Rattle.peb_base.specs.Shown.{firsts, shown}
use Rattle.flsm_model.specs.Shown.{all_entries, in_memory}
use Rattle.flsm_model.proofs.lists.Members.{in_sorted, in_paired, from_move, from_merge, from_cut}
use Rattle.flsm_model.proofs.contents.Falls.{after}
use Rattle.flsm_model.proofs.contents.Sorts.{sorted_in_order}
use Rattle.flsm_model.proofs.contents.Covers.{flat_in, sorted_has, newest_same}
use Rattle.flsm_model.proofs.contents.Shown.{above_low}
use Rattle.flsm_model.proofs.contents.Base.{deep}
use Rattle.flsm_model.proofs.contents.MapBase.{map_holds}
use Rattle.flsm_model.proofs.histories.Truth.{All, all_run, all_base}
use Rattle.flsm_model.proofs.lists.Lists.{in_filter, in_append, in_flat, in_left, in_right, in_kept, each_before-filter}
use Rattle.flsm_model.proofs.lists.MapLists.{no_value, maps_same, apply_sorted, latest, lookup_applied}
use Rattle.flsm_model.specs.Contents.{put_value}
use Rattle.flsm_model.proofs.lists.Newest.{first_at, firsts_first, KeysRise, firsts_rise, rise_sorted, lookup_puts, Found, Rising, found_last, falling_in_order, found_first, rising_entries, same_number, Nowhere, At}

-- ---- the join

pub joined : (bs : Batches) (es : List Entry) (m : ℕ) → are_in_order bs ≡ true → ((x : Entry) → IsIn x es → IsIn x (entries_of bs))
    → SamePuts (λ x. IsIn x es) (λ x. IsIn x (entries_of bs)) m → shown es m ≡ map_at bs m
joined bs es m ordered sub same = maps_same (shown es m) (map_at bs m) (rise_sorted (firsts low) rise) (apply_sorted high [] tt) (λ k. lookup_puts k (firsts low) rise ∙ firsts_first k low ∙ equal k ∙ sym (lookup_applied k high []))
  where
    low : List Entry
    low = in_order (filter (λ (e : Entry). nat_le e.number m) es)

    high : List Entry
    high = entries_between 0 m (entries_of bs)

    rise : KeysRise (firsts low)
    rise = firsts_rise low (sorted_in_order (filter (λ (e : Entry). nat_le e.number m) es))

    in_low : (x : Entry) → IsIn x low → IsIn x es × (x.number ≤ m)
    in_low x i = let p = in_filter (λ (e : Entry). nat_le e.number m) x es (in_sorted x (filter (λ (e : Entry). nat_le e.number m) es) i) in (p.0, leb-true x.number m p.1)

    low_has : (x : Entry) → IsIn x es → x.number ≤ m → IsIn x low
    low_has x i l = sorted_has x (filter (λ (e : Entry). nat_le e.number m) es) (in_kept (λ (e : Entry). nat_le e.number m) x es i (le-leb x.number m l))

    in_high : (x : Entry) → IsIn x high → IsIn x (entries_of bs) × (x.number ≤ m)
    in_high x i =
        let p = in_filter (λ (e : Entry). nat_lt 0 e.number && nat_le e.number m) x (entries_of bs) i in
        (p.0, leb-true x.number m (and_parts (nat_lt 0 x.number) (nat_le x.number m) p.1).1)

    high_has : (x : Entry) → IsIn x (entries_of bs) → x.number ≤ m → IsIn x high
    high_has x i l = in_kept (λ (e : Entry). nat_lt 0 e.number && nat_le e.number m) x (entries_of bs) i (and_from _ _ (lt-ltb 0 x.number (above_low 0 bs x ordered i)) (le-leb x.number m l))

    newest_low : (k : Bytes) (x : Entry) → IsIn x low → x.key ≡ k → ((y : Entry) → IsIn y low → y.key ≡ k → y.number ≤ x.number) → IsNewest (λ z. IsIn z es) x m
    newest_low k x i q n = let p = in_low x i in record { here = p.0; below = p.1; newest = λ f g s l. n f (low_has f g l) (s ∙ q) }

    newest_high : (k : Bytes) (x : Entry) → IsIn x high → x.key ≡ k → ((y : Entry) → IsIn y high → y.key ≡ k → y.number ≤ x.number) → IsNewest (λ z. IsIn z (entries_of bs)) x m
    newest_high k x i q n = let p = in_high x i in record { here = p.0; below = p.1; newest = λ f g s l. n f (high_has f g l) (s ∙ q) }

    rising : Rising (entries_of bs)
    rising = rising_entries 0 bs ordered

    both : (k : Bytes) (r1 r2 : Option Bytes) → Found low k r1 → Found high k r2 → r1 ≡ r2
    both k r1 r2 (Nowhere never q) (Nowhere never2 q2) = q ∙ sym q2
    both k r1 r2 (At x i s q n) (Nowhere never2 q2) = let p = in_low x i in absurd (never2 x (high_has x (sub x p.0) p.1) s)
    both k r1 r2 (Nowhere never q) (At y i s q2 n) = elim (cases_Bool (is_put y.change)) [
      | inl put ↦ let z = (same y put).1 (newest_high k y i s n) in absurd (never y (low_has y z.here z.below) s)
      | inr no_put ↦ q ∙ sym (q2 ∙ no_value y.change no_put)
    ]
    both k r1 r2 (At x i s q n) (At y i2 s2 q2 n2) = elim (cases_Bool (is_put x.change)) [
      | inl put ↦
          let z = (same x put).0 (newest_low k x i s n) in
          let p = in_high y i2 in
          one (omega (arith, n2 x (high_has x z.here z.below) s, z.newest y p.0 (s2 ∙ sym s) p.1))
      | inr no_put ↦ elim (cases_Bool (is_put y.change)) [
        | inl put ↦
            let z = (same y put).1 (newest_high k y i2 s2 n2) in
            let p = in_low x i in
            one (omega (arith, n y (low_has y z.here z.below) s2, n2 x (high_has x (sub x p.0) p.1) s))
        | inr no_put2 ↦ q ∙ no_value x.change no_put ∙ sym (q2 ∙ no_value y.change no_put2)
      ]
    ]
      where
        one : x.number ≡ y.number → r1 ≡ r2
        one e = q ∙ ap (λ (z : Entry). put_value z.change) (same_number (entries_of bs) x y rising (sub x (in_low x i).0) (in_high y i2).0 e) ∙ sym q2

    equal : (k : Bytes) → first_at k low ≡ latest k high None
    equal k = both k (first_at k low) (latest k high None) (found_first k low (falling_in_order (filter (λ (e : Entry). nat_le e.number m) es)))
        (found_last k high (each_before-filter _ _ (entries_of bs) rising))

-- ---- live entries are entries of the batches

pub record Sourced (bs : Batches) (t : Tree) : Type 0 where
  pub source : (u : Table) (x : Entry) → IsIn u t.tables → IsIn x u.entries → IsIn x (entries_of bs)

sourced_step : (o : Column) (bs : Batches) (t : Tree) (e : Edit) → Sourced bs t → Sourced bs (tree_after o bs t e)
sourced_step o bs t (Open session log) h = record { source = λ u x i p. elim (after o bs t (Open session log) u i) [ inl a ↦ h.source u x a.0 p | inr b ↦ absurd b ] }
sourced_step o bs t (Flush row from to log chosen) h = record {
  source = λ u x i p. elim (after o bs t (Flush row from to log chosen) u i) [
    | inl a ↦ h.source u x a.0 p
    | inr b ↦
        let es : List Entry = in_order (entries_between from to (entries_of bs)) in
        let c : IsIn u.entries (es ∷ []) = (in_paired u (row ∷ []) (contents o bs t (Flush row from to log chosen)) b).1 in
        let s : u.entries ≡ es = elim c [ inl q ↦ q | inr r ↦ absurd r ] in
        (in_filter (λ (y : Entry). nat_lt from y.number && nat_le y.number to) x (entries_of bs) (in_sorted x (entries_between from to (entries_of bs)) (subst (IsIn x) s p))).0
  ];
}
sourced_step o bs t (Move level floor inputs outputs) h = record {
  source = λ u x i p. elim (after o bs t (Move level floor inputs outputs) u i) [
    | inl a ↦ h.source u x a.0 p
    | inr b ↦ let v = from_move o bs t level floor inputs outputs u x b p in h.source v.0 x v.1 v.3
  ];
}
sourced_step o bs t (Cut level keys inputs outputs) h = record {
  source = λ u x i p. elim (after o bs t (Cut level keys inputs outputs) u i) [
    | inl a ↦ h.source u x a.0 p
    | inr b ↦ let v = from_cut o bs t level keys inputs outputs u x b p in h.source v.0 x v.1 v.3
  ];
}
sourced_step o bs t (Merge floor whole inputs outputs) h = record {
  source = λ u x i p. elim (after o bs t (Merge floor whole inputs outputs) u i) [
    | inl a ↦ h.source u x a.0 p
    | inr b ↦ let v = from_merge o bs t floor whole inputs outputs u x b p in h.source v.0 x v.1 v.3
  ];
}

pub sourced_from : (o : Column) (bs : Batches) (t : Tree) (r : Record) → Sourced bs t → Sourced bs (tree_from o bs t r)
sourced_from o bs t [] h = h
sourced_from o bs t (e ∷ es) h = sourced_from o bs (tree_after o bs t e) es (sourced_step o bs t e h)

-- ---- the law

in_all : (x : Entry) (ts : List Table) (t : Table) → IsIn t ts → IsIn x t.entries → IsIn x (all_entries ts)
in_all x ts t i p = flat_in (λ (u : Table). u.entries) x t ts i p

pub map_shows : Always MapShows
map_shows p bs r es base_true legal = record { flushed = at_flush; read = at_read }
  where
    o : Column
    o = column p

    w : Standing
    w = run o (base true o bs r) es

    all : All o w
    all = all_run o (base true o bs r) es (deep p) (all_base o bs r base_true) legal

    to : ℕ
    to = w.tree.shape.to

    src : Sourced w.batches w.tree
    src = subst (Sourced w.batches) (sym all.told.books.tree) (sourced_from o w.batches (empty_tree o) w.edits (record { source = λ u x i. absurd i }))

    live : (x : Entry) → Live w.tree x ↔ IsIn x (all_entries w.tree.tables)
    live x = (
      λ l. in_all x w.tree.tables l.table l.among l.inside,
      λ i. let u = in_flat (λ (t : Table). t.entries) x w.tree.tables i in record { table = u.0; among = u.1; inside = u.2 },
    )

    sub : (x : Entry) → IsIn x (all_entries w.tree.tables) → IsIn x (entries_of w.batches)
    sub x i = let u = in_flat (λ (t : Table). t.entries) x w.tree.tables i in src.source u.0 x u.1 u.2

    flip : {P Q : Entry → Type 0} → ((x : Entry) → P x ↔ Q x) → (x : Entry) → Q x ↔ P x
    flip h x = ((h x).1, (h x).0)

    at_flush : shown (all_entries w.tree.tables) to ≡ map_at w.batches to
    at_flush =
        joined w.batches (all_entries w.tree.tables) to all.placed.ordered sub (λ x put.
        let s = all.shows.shown to (inl (omega arith)) x put in (
          λ n. up x (s.0 (newest_same (λ z. IsIn z (all_entries w.tree.tables)) (Live w.tree) x to (flip live) n)),
          λ n. newest_same (Live w.tree) (λ z. IsIn z (all_entries w.tree.tables)) x to live (s.1 (down x n)),
        ))
      where
        up : (x : Entry) → IsNewest (Flushed w.batches to) x to → IsNewest (λ z. IsIn z (entries_of w.batches)) x to
        up x n = record { here = n.here.entry; below = n.below; newest = λ f i k l. n.newest f (record { entry = i; upto = l }) k l }

        down : (x : Entry) → IsNewest (λ z. IsIn z (entries_of w.batches)) x to → IsNewest (Flushed w.batches to) x to
        down x n = record { here = record { entry = n.here; upto = n.below }; below = n.below; newest = λ f i k l. n.newest f i.entry k l }

    listed : (x : Entry) → (Live w.tree x ⊎ InMemory w.batches to x) ↔ IsIn x (all_entries w.tree.tables ++ in_memory w.batches to)
    listed x = (
      λ h. elim h [
        | inl a ↦ in_left x (all_entries w.tree.tables) (in_memory w.batches to) ((live x).0 a)
        | inr b ↦ in_right x (all_entries w.tree.tables) (in_memory w.batches to) (in_kept (λ (z : Entry). nat_lt to z.number) x (entries_of w.batches) b.entry (lt-ltb to x.number b.above))
      ],
      λ i. elim (in_append x (all_entries w.tree.tables) (in_memory w.batches to) i) [
        | inl a ↦ inl ((live x).1 a)
        | inr b ↦ let q = in_filter (λ (z : Entry). nat_lt to z.number) x (entries_of w.batches) b in inr (record { entry = q.0; above = ltb-true to x.number q.1 })
      ],
    )

    at_read : (n : Session) → w.session ≡ Some n → (m : ℕ) → IsRead w n m → shown (all_entries w.tree.tables ++ in_memory w.batches to) m ≡ map_at w.batches m
    at_read n eq m rd =
        let es2 : List Entry = all_entries w.tree.tables ++ in_memory w.batches to in
        joined w.batches es2 m all.placed.ordered
        (λ x i. elim (in_append x (all_entries w.tree.tables) (in_memory w.batches to) i) [ inl a ↦ sub x a | inr b ↦ (in_filter (λ (z : Entry). nat_lt to z.number) x (entries_of w.batches) b).0 ])
        (λ x put.
        let s = map_holds p bs r es base_true legal n eq m rd x put in (
          λ q. s.0 (newest_same (λ z. IsIn z es2) (λ z. Live w.tree z ⊎ InMemory w.batches to z) x m (flip listed) q),
          λ q. newest_same (λ z. Live w.tree z ⊎ InMemory w.batches to z) (λ z. IsIn z es2) x m listed (s.1 q),
        ))
