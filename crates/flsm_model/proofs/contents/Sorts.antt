-- The contents of tables are in order, so that rows span them; and numbers stay known.
use Rattle.std.proofs.Common.{◌≡◌, ℕ, suc, Bool, true, false, cond, ◌&&◌, not, List, [], ◌∷◌, inl, inr, refl, sym, ap, subst}
use Rattle.std.specs.Prelude.{nat_lt, ◌==◌, filter, flat_map}
use Rattle.std.specs.List.{AllZip}
use Rattle.std.specs.Cmp.Lexicographic.{bytes_decides}
use Rattle.std.proofs.lemmas.Bool.{and_parts, or_parts, or_cases}
use Rattle.peb_base.specs.Keys.{Bytes, key_lt, key_le, key_eq}
use Rattle.peb_base.specs.Batches.{Batches, entries_of}
use Rattle.peb_base.specs.Entries.{in_order, put_in, entry_lt, entries_between}
use Rattle.peb_base.specs.Tables.{first_key, last_key}
use Rattle.flsm_model.specs.Compaction.{pieces, some_entries, before_key, from_key, kept}
use Rattle.flsm_model.specs.Trees.{Describes, Table, Tree, content_of, merged, contents, paired, tree_after}
use Rattle.peb_base.specs.KeyLaws.{le_trans, le_refl, lt_le_weak}
use Rattle.peb_base.specs.declared.entry.Entry.{Entry}
use Rattle.peb_base.specs.declared.table_row.TableRow.{TableRow}
use Rattle.peb_base.specs.Profiles.{Column}
use Rattle.flsm_model.specs.declared.edit.Edit.{Edit}
use Rattle.flsm_model.specs.declared.edit.Edit.TheVariants.{Open, Flush, Move, Cut, Merge}
use Rattle.flsm_model.specs.Shape.{guards_at, outputs_of}
use Rattle.flsm_model.proofs.lists.Members.{IsIn, in_put, in_paired}
use Rattle.flsm_model.proofs.contents.Falls.{after}
use Rattle.flsm_model.proofs.contents.Begin.{Spans}
use Rattle.flsm_model.proofs.lists.Lists.{in_append, in_flat, EachBefore, each_before-filter}

abbrev pub Sorted : List Entry → Type 0
Sorted es = EachBefore (λ e f. key_le e.key f.key ≡ true) es

entry_le : (e f : Entry) → entry_lt e f ≡ true → key_le e.key f.key ≡ true
entry_le e f h = elim (or_cases (key_lt e.key f.key) (key_eq e.key f.key && nat_lt f.number e.number) h) [
  | inl a ↦ lt_le_weak e.key f.key a
  | inr b ↦ subst (λ k. key_le e.key k ≡ true) ((bytes_decides e.key f.key).0 (and_parts _ _ b).0) (le_refl e.key)
]

sorted_put : (e : Entry) (es : List Entry) → Sorted es → Sorted (put_in e es)
sorted_put e [] h = ((λ f i. absurd i), tt)
sorted_put e (f ∷ fs) h = by (entry_lt e f) refl (sorted_put e fs h.1)
  where
    by : (b : Bool) → entry_lt e f ≡ b → Sorted (put_in e fs) → Sorted (cond b (e ∷ f ∷ fs) (f ∷ put_in e fs))
    by true x r = ((λ g i. elim i [ inl s ↦ subst (λ (z : Entry). key_le e.key z.key ≡ true) (sym s) (entry_le e f x) | inr m ↦ le_trans e.key f.key g.key (entry_le e f x) (h.0 g m) ]), h)
    by false x r = (
      (λ g i. elim (in_put g e fs i) [
        | inl s ↦ subst (λ (z : Entry). key_le f.key z.key ≡ true) (sym s) (ap not (or_parts (key_lt e.key f.key) _ x).0)
        | inr m ↦ h.0 g m
      ]),
      r,
    )

pub sorted_in_order : (es : List Entry) → Sorted (in_order es)
sorted_in_order [] = tt
sorted_in_order (e ∷ es) = sorted_put e (in_order es) (sorted_in_order es)

-- what holds of entries in order, and then of some of them, holds of the contents of all tables

module _ (Q : List Entry → Type 0) (none : Q []) (order : (es : List Entry) → Q (in_order es)) (less : (p : Entry → Bool) (es : List Entry) → Q es → Q (filter p es)) where
  of_some : (c es : List Entry) → Q es → IsIn c (some_entries es) → Q c
  of_some c [] h i = absurd i
  of_some c (e ∷ es) h i = elim i [ inl s ↦ subst Q (sym s) h | inr r ↦ absurd r ]

  of_pieces : (c es : List Entry) (ks : List Bytes) → Q es → IsIn c (pieces es ks) → Q c
  of_pieces c es [] h i = of_some c es h i
  of_pieces c es (k ∷ ks) h i = elim (in_append c (some_entries (before_key k es)) (pieces (from_key k es) ks) i) [
    | inl a ↦ of_some c (before_key k es) (less _ es h) a
    | inr b ↦ of_pieces c (from_key k es) ks (less _ es h) b
  ]

  of_content : (ts : List Table) (n : ℕ) → ((t : Table) → IsIn t ts → Q t.entries) → Q (content_of ts n)
  of_content [] n h = none
  of_content (t ∷ ts) n h = by (t.row.number == n) (of_content ts n (λ u i. h u (inr i)))
    where
      by : (b : Bool) → Q (content_of ts n) → Q (cond b t.entries (content_of ts n))
      by true r = h t (inl refl)
      by false r = r

  pub of_contents : (o : Column) (bs : Batches) (t : Tree) (e : Edit) (c : List Entry) → ((u : Table) → IsIn u t.tables → Q u.entries) → IsIn c (contents o bs t e) → Q c
  of_contents o bs t (Open session log) c h i = absurd i
  of_contents o bs t (Flush row from to log chosen) c h i =
      elim i [ inl s ↦ subst Q (sym s) (order (entries_between from to (entries_of bs))) | inr r ↦ absurd r ]
  of_contents o bs t (Move level floor inputs outputs) c h i =
      of_pieces c (kept (merged t.tables inputs) floor false) (guards_at t.shape (suc level)) (less _ (merged t.tables inputs) (order (flat_map (content_of t.tables) inputs))) i
  of_contents o bs t (Cut level keys inputs outputs) c h i =
      let r = in_flat (λ n. pieces (content_of t.tables n) keys) c inputs i in
      of_pieces c (content_of t.tables r.0) keys (of_content t.tables r.0 h) r.2
  of_contents o bs t (Merge floor whole inputs outputs) c h i =
      of_some c (kept (merged t.tables inputs) floor whole) (less _ (merged t.tables inputs) (order (flat_map (content_of t.tables) inputs))) i

  pub of_step : (o : Column) (bs : Batches) (t : Tree) (e : Edit) → ((u : Table) → IsIn u t.tables → Q u.entries) → (u : Table) → IsIn u (tree_after o bs t e).tables → Q u.entries
  of_step o bs t e h u i = elim (after o bs t e u i) [
    | inl a ↦ h u a.0
    | inr b ↦ of_contents o bs t e u.entries h (in_paired u (outputs_of e) (contents o bs t e) b).1
  ]

-- ---- by their keys

pub record AllSorted (ts : List Table) : Type 0 where
  pub sorted : (t : Table) → IsIn t ts → Sorted t.entries

pub sorted_contents : (o : Column) (bs : Batches) (t : Tree) (e : Edit) (c : List Entry) → AllSorted t.tables → IsIn c (contents o bs t e) → Sorted c
sorted_contents o bs t e c h i = of_contents Sorted tt sorted_in_order (each_before-filter _) o bs t e c h.sorted i

pub sorted_step : (o : Column) (bs : Batches) (t : Tree) (e : Edit) → AllSorted t.tables → AllSorted (tree_after o bs t e).tables
sorted_step o bs t e h = record { sorted = of_step Sorted tt sorted_in_order (each_before-filter _) o bs t e h.sorted }

-- the ends of a sorted list
pub first_least : (es : List Entry) (y : Entry) → Sorted es → IsIn y es → key_le (first_key es) y.key ≡ true
first_least [] y h i = absurd i
first_least (e ∷ es) y h i = elim i [ inl s ↦ subst (λ (z : Entry). key_le e.key z.key ≡ true) (sym s) (le_refl e.key) | inr r ↦ h.0 y r ]

pub last_greatest : (es : List Entry) (y : Entry) → Sorted es → IsIn y es → key_le y.key (last_key es) ≡ true
last_greatest [] y h i = absurd i
last_greatest (e ∷ []) y h i = elim i [ inl s ↦ subst (λ (z : Entry). key_le z.key e.key ≡ true) (sym s) (le_refl e.key) | inr r ↦ absurd r ]
last_greatest (e ∷ f ∷ es) y h i = elim i [
  | inl s ↦ subst (λ (z : Entry). key_le z.key (last_key (f ∷ es)) ≡ true) (sym s) (le_trans e.key f.key (last_key (f ∷ es)) (h.0 f (inl refl)) (last_greatest (f ∷ es) f h.1 (inl refl)))
  | inr r ↦ last_greatest (f ∷ es) y h.1 r
]

pub described : (o : Column) (w : Table) (rows : List TableRow) (cs : List (List Entry)) → AllZip (Describes o) rows cs → IsIn w (paired rows cs) → Describes o w.row w.entries
described o w [] [] d i = absurd i
described o w [] (c ∷ cs) d i = absurd i
described o w (r ∷ rs) [] d i = absurd i
described o w (r ∷ rs) (c ∷ cs) d i = elim i [
  | inl s ↦ subst (λ (t : Table). Describes o t.row t.entries) (sym s) d.0
  | inr m ↦ described o w rs cs d.1 m
]

pub spans_step : (o : Column) (bs : Batches) (t : Tree) (e : Edit) → AllZip (Describes o) (outputs_of e) (contents o bs t e) → AllSorted t.tables → Spans t.tables
    → Spans (tree_after o bs t e).tables
spans_step o bs t e d h sp =
    record {
      spans = λ u y i p. elim (after o bs t e u i) [
        | inl a ↦ sp.spans u y a.0 p
        | inr b ↦
            let ds = described o u (outputs_of e) (contents o bs t e) d b in
            let so : Sorted u.entries = (sorted_step o bs t e h).sorted u i in
            (subst (λ k. key_le k y.key ≡ true) (sym ds.tells.smallest) (first_least u.entries y so p), subst (λ k. key_le y.key k ≡ true) (sym ds.tells.largest) (last_greatest u.entries y so p))
      ];
    }
