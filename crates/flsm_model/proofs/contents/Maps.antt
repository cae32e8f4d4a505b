-- The newest puts of the live tables are those of the flushed batches, in every legal history.
use Rattle.std.proofs.Common.{◌≡◌, ℕ, ◌<◌, ◌≤◌, true, ◌&&◌, not, List, [], ◌∷◌, ◌⊎◌, inl, inr, refl, sym, ap, subst, arith}
use Rattle.std.specs.Prelude.{nat_lt, nat_le, ◌↔◌}
use Rattle.std.specs.List.{AllZip}
use Rattle.std.proofs.lemmas.Bool.{and_from, cases_Bool, cases_lt, lt-ltb, le-leb}
use Rattle.peb_base.specs.Batches.{Batches, entries_of}
use Rattle.peb_base.specs.Entries.{in_order, entries_between}
use Rattle.peb_base.specs.Keys.{Bytes}
use Rattle.flsm_model.specs.Compaction.{pieces}
use Rattle.flsm_model.specs.Trees.{Describes, Table, Tree, content_of, contents, written_by, tree_after, tables_without}
use Rattle.peb_base.specs.declared.entry.Entry.{Entry}
use Rattle.peb_base.specs.declared.table_row.TableRow.{TableRow}
use Rattle.peb_base.specs.Profiles.{Column}
use Rattle.flsm_model.specs.declared.chosen.Chosen.{Chosen}
use Rattle.flsm_model.specs.declared.edit.Edit.{Edit}
use Rattle.flsm_model.specs.declared.edit.Edit.TheVariants.{Flush, Cut}
use Rattle.flsm_model.specs.Fits.{fits}
use Rattle.flsm_model.specs.Shape.{has_number}
pub use Rattle.flsm_model.specs.TrueRecord.{Flushed}
use Rattle.flsm_model.proofs.guards.Facts.{flush_facts}
use Rattle.flsm_model.proofs.lists.Members.{IsIn, in_sorted, in_paired, from_cut, from_flush}
use Rattle.flsm_model.proofs.contents.Falls.{after, AllFlushed}
use Rattle.flsm_model.proofs.contents.Keeps.{IsNewest}
use Rattle.flsm_model.proofs.contents.Covers.{Live, OneByNumber, flat_in, sorted_has, number_in, pieces_has, paired_has, content_has, newest_same}
use Rattle.flsm_model.proofs.lists.Lists.{in_filter, in_left, in_right, in_kept}

-- ---- a cut changes no entry's being live

pub cut_live : (o : Column) (bs : Batches) (t : Tree) (level : ℕ) (keys : List Bytes) (ns : List ℕ) (outputs : List TableRow)
    → AllZip (Describes o) outputs (contents o bs t (Cut level keys ns outputs)) → OneByNumber t.tables
    → (x : Entry) → Live t x ↔ Live (tree_after o bs t (Cut level keys ns outputs)) x
cut_live o bs t level keys ns outputs d one x = (to, from)
  where
    e : Edit
    e = Cut level keys ns outputs

    to : Live t x → Live (tree_after o bs t e) x
    to l = elim (cases_Bool (has_number l.table.row.number ns)) [
      | inl y ↦
          let n : ℕ = l.table.row.number in
          let c = pieces_has x (content_of t.tables n) keys (content_has t.tables l.table x (λ v m s. one.one v l.table m l.among s) l.among l.inside) in
          let w = paired_has o c.0 outputs (contents o bs t e) d (flat_in (λ k. pieces (content_of t.tables k) keys) c.0 n ns (number_in n ns y) c.1) in
          record { table = w.0; among = in_right w.0 (tables_without ns t.tables) (written_by o bs t e) w.1; inside = subst (IsIn x) (sym w.2) c.2 }
      | inr z ↦
          record { table = l.table; among = in_left l.table (tables_without ns t.tables) (written_by o bs t e) (in_kept (λ (u : Table). not (has_number u.row.number ns)) l.table t.tables l.among (ap not z)); inside = l.inside }
    ]

    from : Live (tree_after o bs t e) x → Live t x
    from l = elim (after o bs t e l.table l.among) [
      | inl a ↦ record { table = l.table; among = a.0; inside = l.inside }
      | inr b ↦ let u = from_cut o bs t level keys ns outputs l.table x b l.inside in record { table = u.0; among = u.1; inside = u.3 }
    ]

-- ---- a flush adds the newest entries on both sides

pub union_shows : (P Q F : Entry → Type 0) (to m : ℕ) → ((x : Entry) → Q x → x.number ≤ to) → ((x : Entry) → F x → to < x.number)
    → (x : Entry) → (IsNewest P x m → IsNewest Q x m) → IsNewest (λ y. P y ⊎ F y) x m → IsNewest (λ y. Q y ⊎ F y) x m
union_shows P Q F to m low high x same n = elim n.here [
  | inl p ↦
      let old : IsNewest P x m = record { here = p; below = n.below; newest = λ f g. n.newest f (inl g) } in
      let new = same old in
      record { here = inl new.here; below = n.below; newest = λ f g k l. elim g [ inl a ↦ new.newest f a k l | inr b ↦ n.newest f (inr b) k l ] }
  | inr q ↦
      record { here = inr q; below = n.below; newest = λ f g k l. elim g [ inl a ↦ omega (arith, low f a, high x q) | inr b ↦ n.newest f (inr b) k l ] }
]

pub record Between (bs : Batches) (from to : ℕ) (x : Entry) : Type 0 where
  pub entry : IsIn x (entries_of bs)
  pub above : from < x.number
  pub upto : x.number ≤ to

flush_live : (o : Column) (bs : Batches) (t : Tree) (row : TableRow) (from to log : ℕ) (chosen : List Chosen) → AllZip (Describes o) (row ∷ []) (contents o bs t (Flush row from to log chosen))
    → (x : Entry) → Live (tree_after o bs t (Flush row from to log chosen)) x ↔ (Live t x ⊎ Between bs from to x)
flush_live o bs t row from to log chosen d x = (there, back)
  where
    e : Edit
    e = Flush row from to log chosen

    es : List Entry
    es = in_order (entries_between from to (entries_of bs))

    there : Live (tree_after o bs t e) x → Live t x ⊎ Between bs from to x
    there l = elim (after o bs t e l.table l.among) [
      | inl a ↦ inl (record { table = l.table; among = a.0; inside = l.inside })
      | inr b ↦
          let c : IsIn l.table.entries (es ∷ []) = (in_paired l.table (row ∷ []) (contents o bs t e) b).1 in
          let s : l.table.entries ≡ es = elim c [ inl q ↦ q | inr r ↦ absurd r ] in
          let i = in_filter (λ y. nat_lt from y.number && nat_le y.number to) x (entries_of bs) (in_sorted x (entries_between from to (entries_of bs)) (subst (IsIn x) s l.inside)) in
          let p = from_flush o bs t row from to log chosen l.table x b l.inside in
          inr (record { entry = i.0; above = p.0; upto = p.1 })
    ]

    back : Live t x ⊎ Between bs from to x → Live (tree_after o bs t e) x
    back p = elim p [
      | inl l ↦ record { table = l.table; among = in_left l.table (tables_without [] t.tables) (written_by o bs t e) (in_kept (λ (u : Table). not (has_number u.row.number [])) l.table t.tables l.among refl); inside = l.inside }
      | inr b ↦
          record {
            table = record { row = row; entries = es };
            among = in_right (record { row = row; entries = es }) (tables_without [] t.tables) (written_by o bs t e) (inl refl);
            inside = sorted_has x (entries_between from to (entries_of bs)) (in_kept (λ y. nat_lt from y.number && nat_le y.number to) x (entries_of bs) b.entry (and_from _ _ (lt-ltb from x.number b.above) (le-leb x.number to b.upto)));
          }
    ]

flushed_parts : (bs : Batches) (from to : ℕ) → from ≤ to → (x : Entry) → Flushed bs to x ↔ (Flushed bs from x ⊎ Between bs from to x)
flushed_parts bs from to l x = (
  λ f. elim (cases_lt from x.number) [ inl a ↦ inr (record { entry = f.entry; above = a; upto = f.upto }) | inr b ↦ inl (record { entry = f.entry; upto = b }) ],
  λ p. elim p [ inl f ↦ record { entry = f.entry; upto = omega (arith, f.upto) } | inr b ↦ record { entry = b.entry; upto = b.upto } ],
)

pub flush_shows : (o : Column) (bs : Batches) (t : Tree) (row : TableRow) (from to log : ℕ) (chosen : List Chosen) → AllZip (Describes o) (row ∷ []) (contents o bs t (Flush row from to log chosen))
    → fits o t.shape (Flush row from to log chosen) ≡ true → AllFlushed t.tables t.shape.to → (m : ℕ) (x : Entry)
    → IsNewest (Live t) x m ↔ IsNewest (Flushed bs t.shape.to) x m
    → IsNewest (Live (tree_after o bs t (Flush row from to log chosen))) x m ↔ IsNewest (Flushed bs to) x m
flush_shows o bs t row from to log chosen d f fl m x same =
    let k = flush_facts o t.shape row from to log chosen f in
    let a = flush_live o bs t row from to log chosen d in
    let b = flushed_parts bs from to (omega (arith, k.rises)) in
    let low_live : (y : Entry) → Live t y → y.number ≤ from = λ y l. omega (arith, fl.flushed l.table y l.among l.inside, k.follows) in
    let low : (y : Entry) → Flushed bs from y → y.number ≤ from = λ y l. l.upto in
    let high : (y : Entry) → Between bs from to y → from < y.number = λ y l. l.above in
    let same2 : IsNewest (Live t) x m ↔ IsNewest (Flushed bs from) x m = subst (λ n. IsNewest (Live t) x m ↔ IsNewest (Flushed bs n) x m) (sym k.follows) same in (
      λ n. newest_same (λ y. Flushed bs from y ⊎ Between bs from to y) (Flushed bs to) x m (λ y. ((b y).1, (b y).0))
          (union_shows (Live t) (Flushed bs from) (Between bs from to) from m low high x same2.0
          (newest_same (Live (tree_after o bs t (Flush row from to log chosen))) (λ y. Live t y ⊎ Between bs from to y) x m a n)),
      λ n. newest_same (λ y. Live t y ⊎ Between bs from to y) (Live (tree_after o bs t (Flush row from to log chosen))) x m (λ y. ((a y).1, (a y).0))
          (union_shows (Flushed bs from) (Live t) (Between bs from to) from m low_live high x same2.1
          (newest_same (Flushed bs to) (λ y. Flushed bs from y ⊎ Between bs from to y) x m b n)),
    )
