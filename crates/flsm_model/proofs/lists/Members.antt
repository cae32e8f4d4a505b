-- What stands in a list, and where what an edit writes comes from.
use Rattle.std.proofs.Common.{◌≡◌, ℕ, suc, ◌<◌, ◌≤◌, Bool, true, false, cond, ◌&&◌, ◌||◌, not, List, [], ◌∷◌, ◌⊎◌, inl, inr, refl, sym, ap, subst, map}
use Rattle.std.specs.Prelude.{nat_lt, nat_le, ◌==◌, flat_map}
use Rattle.std.proofs.lemmas.Bool.{and_parts, eqb-true, eq-eqb, ltb-true, leb-true, or_left, or_right}
use Rattle.peb_base.specs.Keys.{Bytes, key_lt}
use Rattle.peb_base.specs.Batches.{Batches, entries_of}
use Rattle.peb_base.specs.Entries.{in_order, put_in, entry_lt, entries_between}
use Rattle.flsm_model.specs.Compaction.{pieces, some_entries, before_key, from_key, kept, is_kept}
use Rattle.peb_base.specs.declared.entry.Entry.{Entry}
use Rattle.peb_base.specs.declared.table_row.TableRow.{TableRow}
use Rattle.peb_base.specs.Profiles.{Column}
use Rattle.flsm_model.specs.declared.chosen.Chosen.{Chosen}
use Rattle.flsm_model.specs.declared.edit.Edit.TheVariants.{Flush, Move, Cut, Merge}
use Rattle.flsm_model.specs.Shape.{has_number, guards_at}
pub use Rattle.peb_base.specs.Members.{IsIn}
use Rattle.flsm_model.specs.Trees.{Table, Tree, content_of, merged, contents, paired, written_by}
use Rattle.flsm_model.proofs.lists.Lists.{in_filter, in_append, in_flat}

pub in_put : (x e : Entry) (es : List Entry) → IsIn x (put_in e es) → (x ≡ e) ⊎ IsIn x es
in_put x e [] h = h
in_put x e (f ∷ fs) h = by (entry_lt e f) h (in_put x e fs)
  where
    by : (b : Bool) → IsIn x (cond b (e ∷ f ∷ fs) (f ∷ put_in e fs)) → (IsIn x (put_in e fs) → (x ≡ e) ⊎ IsIn x fs) → (x ≡ e) ⊎ ((x ≡ f) ⊎ IsIn x fs)
    by true h ih = h
    by false h ih = elim h [ inl s ↦ inr (inl s) | inr r ↦ elim (ih r) [ inl a ↦ inl a | inr b ↦ inr (inr b) ] ]

pub in_sorted : (x : Entry) (es : List Entry) → IsIn x (in_order es) → IsIn x es
in_sorted x [] h = h
in_sorted x (e ∷ es) h = elim (in_put x e (in_order es) h) [ inl s ↦ inl s | inr r ↦ inr (in_sorted x es r) ]

pub in_some : (c es : List Entry) → IsIn c (some_entries es) → c ≡ es
in_some c [] h = absurd h
in_some c (e ∷ es) h = elim h [ inl s ↦ s | inr r ↦ absurd r ]

pub in_some_entries : (x : Entry) (c es : List Entry) → IsIn c (some_entries es) → IsIn x c → IsIn x es
in_some_entries x c es h i = subst (IsIn x) (in_some c es h) i

pub in_pieces : (x : Entry) (c es : List Entry) (ks : List Bytes) → IsIn c (pieces es ks) → IsIn x c → IsIn x es
in_pieces x c es [] h i = in_some_entries x c es h i
in_pieces x c es (k ∷ ks) h i = elim (in_append c (some_entries (before_key k es)) (pieces (from_key k es) ks) h) [
  | inl a ↦ (in_filter (λ e. key_lt e.key k) x es (in_some_entries x c (before_key k es) a i)).0
  | inr b ↦ (in_filter (λ e. not (key_lt e.key k)) x es (in_pieces x c (from_key k es) ks b i)).0
]

-- an entry of a content stands in a table of that number
pub in_content : (x : Entry) (ts : List Table) (n : ℕ) → IsIn x (content_of ts n) → (t : Table) × IsIn t ts × (t.row.number ≡ n) × IsIn x t.entries
in_content x [] n h = absurd h
in_content x (t ∷ ts) n h = by (t.row.number == n) refl h (in_content x ts n)
  where
    by : (b : Bool) → (t.row.number == n) ≡ b → IsIn x (cond b t.entries (content_of ts n))
        → (IsIn x (content_of ts n) → (u : Table) × IsIn u ts × (u.row.number ≡ n) × IsIn x u.entries)
        → (u : Table) × ((u ≡ t) ⊎ IsIn u ts) × (u.row.number ≡ n) × IsIn x u.entries
    by true e h ih = (t, inl refl, eqb-true t.row.number n e, h)
    by false e h ih = let r = ih h in (r.0, inr r.1, r.2, r.3)

pub in_paired : (w : Table) (rows : List TableRow) (cs : List (List Entry)) → IsIn w (paired rows cs) → IsIn w.row rows × IsIn w.entries cs
in_paired w [] cs h = absurd h
in_paired w (r ∷ rs) [] h = absurd h
in_paired w (r ∷ rs) (c ∷ cs) h = elim h [
  | inl s ↦ (inl (ap (λ (t : Table). t.row) s), inl (ap (λ (t : Table). t.entries) s))
  | inr b ↦ let p = in_paired w rs cs b in (inr p.0, inr p.1)
]

pub has_in : (n : ℕ) (ns : List ℕ) → IsIn n ns → has_number n ns ≡ true
has_in n [] h = absurd h
has_in n (m ∷ ms) h = elim h [
  | inl s ↦ rw (eq-eqb n m s) refl
  | inr r ↦ by (n == m) (has_in n ms r)
]
  where
    by : (b : Bool) → has_number n ms ≡ true → (b || has_number n ms) ≡ true
    by true e = refl
    by false e = e

-- an input table that holds the entry
abbrev pub FromInput : Tree → List ℕ → Entry → Type 0
FromInput t ns x = (u : Table) × IsIn u t.tables × (has_number u.row.number ns ≡ true) × IsIn x u.entries

pub from_content : (t : Tree) (ns : List ℕ) (n : ℕ) (x : Entry) → IsIn n ns → IsIn x (content_of t.tables n) → FromInput t ns x
from_content t ns n x i h =
    let r = in_content x t.tables n h in (r.0, r.1, subst (λ k. has_number k ns ≡ true) (sym r.2) (has_in n ns i), r.3)

pub from_merged : (t : Tree) (ns : List ℕ) (floor : ℕ) (whole : Bool) (x : Entry) → IsIn x (kept (merged t.tables ns) floor whole) → FromInput t ns x
from_merged t ns floor whole x h =
    let a = in_sorted x (flat_map (content_of t.tables) ns) (in_filter (is_kept (merged t.tables ns) floor whole) x (merged t.tables ns) h).0 in
    let r = in_flat (content_of t.tables) x ns a in
    from_content t ns r.0 x r.1 r.2

pub from_move : (o : Column) (bs : Batches) (t : Tree) (level floor : ℕ) (ns : List ℕ) (outputs : List TableRow) (w : Table) (x : Entry)
    → IsIn w (written_by o bs t (Move level floor ns outputs)) → IsIn x w.entries → FromInput t ns x
from_move o bs t level floor ns outputs w x h i =
    from_merged t ns floor false x (in_pieces x w.entries (kept (merged t.tables ns) floor false) (guards_at t.shape (suc level)) (in_paired w outputs _ h).1 i)

pub from_merge : (o : Column) (bs : Batches) (t : Tree) (floor : ℕ) (whole : Bool) (ns : List ℕ) (outputs : List TableRow) (w : Table) (x : Entry)
    → IsIn w (written_by o bs t (Merge floor whole ns outputs)) → IsIn x w.entries → FromInput t ns x
from_merge o bs t floor whole ns outputs w x h i =
    from_merged t ns floor whole x (in_some_entries x w.entries (kept (merged t.tables ns) floor whole) (in_paired w outputs _ h).1 i)

pub from_cut : (o : Column) (bs : Batches) (t : Tree) (level : ℕ) (keys : List Bytes) (ns : List ℕ) (outputs : List TableRow) (w : Table) (x : Entry)
    → IsIn w (written_by o bs t (Cut level keys ns outputs)) → IsIn x w.entries → FromInput t ns x
from_cut o bs t level keys ns outputs w x h i =
    let r = in_flat (λ n. pieces (content_of t.tables n) keys) w.entries ns (in_paired w outputs _ h).1 in
    from_content t ns r.0 x r.1 (in_pieces x w.entries (content_of t.tables r.0) keys r.2 i)

-- an entry of a flush is numbered above the one before and up to it
pub from_flush : (o : Column) (bs : Batches) (t : Tree) (row : TableRow) (from to log : ℕ) (chosen : List Chosen) (w : Table) (x : Entry)
    → IsIn w (written_by o bs t (Flush row from to log chosen)) → IsIn x w.entries → (from < x.number) × (x.number ≤ to)
from_flush o bs t row from to log chosen w x h i =
    let c : IsIn w.entries (in_order (entries_between from to (entries_of bs)) ∷ []) = (in_paired w (row ∷ []) (contents o bs t (Flush row from to log chosen)) h).1 in
    let e : w.entries ≡ in_order (entries_between from to (entries_of bs)) = elim c [ inl s ↦ s | inr r ↦ absurd r ] in
    let p = (in_filter (λ y. nat_lt from y.number && nat_le y.number to) x (entries_of bs) (in_sorted x (entries_between from to (entries_of bs)) (subst (IsIn x) e i))).1 in
    let q = and_parts (nat_lt from x.number) (nat_le x.number to) p in
    (ltb-true from x.number q.0, leb-true x.number to q.1)

-- the number of a row of these
pub has_number_in : (r : TableRow) (rs : List TableRow) → IsIn r rs → has_number r.number (map (λ (x : TableRow). x.number) rs) ≡ true
has_number_in r [] i = absurd i
has_number_in r (q ∷ rs) i = elim i [
  | inl s ↦ or_left _ _ (eq-eqb r.number q.number (ap (λ (x : TableRow). x.number) s))
  | inr m ↦ or_right (r.number == q.number) _ (has_number_in r rs m)
]
