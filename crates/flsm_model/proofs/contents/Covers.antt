-- An edit loses no entry but those that it drops: what stands in its inputs or is kept stands in tables before and after it.
use Rattle.std.proofs.Common.{◌≡◌, ℕ, suc, ◌<◌, ◌≤◌, Bool, true, false, cond, not, List, [], ◌∷◌, ◌⊎◌, inl, inr, refl, sym, ◌∙◌, ap, subst, arith, map}
use Rattle.std.specs.Prelude.{◌==◌, flat_map, ◌↔◌}
use Rattle.std.specs.List.{AllZip}
use Rattle.std.proofs.lemmas.Bool.{and_parts, and_from, or_cases, cases_Bool, eqb-true, eqb-false, true≢false, false≢true, not-true}
use Rattle.peb_base.specs.Keys.{Bytes, key_lt}
use Rattle.peb_base.specs.Batches.{Batches}
use Rattle.peb_base.specs.Entries.{in_order, put_in, entry_lt}
use Rattle.flsm_model.specs.Compaction.{pieces, some_entries, before_key, from_key, kept, is_put}
use Rattle.flsm_model.specs.Trees.{Describes, Table, Tree, content_of, merged, contents, paired, written_by, tree_after, tables_without}
use Rattle.peb_base.specs.declared.entry.Entry.{Entry}
use Rattle.peb_base.specs.declared.table_row.TableRow.{TableRow}
use Rattle.peb_base.specs.Profiles.{Column}
use Rattle.flsm_model.specs.declared.edit.Edit.{Edit}
use Rattle.flsm_model.specs.declared.edit.Edit.TheVariants.{Move, Merge}
use Rattle.flsm_model.specs.Shape.{has_number, inputs_of, outputs_of, guards_at}
use Rattle.flsm_model.specs.Fits.{rows_are_new, numbers_differ}
pub use Rattle.flsm_model.specs.TrueRecord.{Live}
use Rattle.flsm_model.proofs.lists.Members.{IsIn, in_sorted, in_paired, in_some_entries, in_pieces, in_content, has_in, has_number_in}
use Rattle.flsm_model.proofs.contents.Falls.{after, is_fresh, AllFlushed, Newer}
use Rattle.flsm_model.proofs.contents.Beside.{new_is_fresh}
use Rattle.flsm_model.proofs.contents.Keeps.{IsNewest, Before, After, keeps_shown}
use Rattle.flsm_model.proofs.lists.Lists.{in_flat, in_left, in_right, in_kept}

pub flat_in : {X Y : Type 0} (g : X → List Y) (y : Y) (n : X) (ns : List X) → IsIn n ns → IsIn y (g n) → IsIn y (flat_map g ns)
flat_in g y n [] i h = absurd i
flat_in g y n (m ∷ ns) i h = elim i [
  | inl s ↦ in_left y (g m) (flat_map g ns) (subst (λ z. IsIn y (g z)) s h)
  | inr r ↦ in_right y (g m) (flat_map g ns) (flat_in g y n ns r h)
]

put_has : (x e : Entry) (es : List Entry) → (x ≡ e) ⊎ IsIn x es → IsIn x (put_in e es)
put_has x e [] h = h
put_has x e (f ∷ fs) h = by (entry_lt e f) h (put_has x e fs)
  where
    by : (b : Bool) → (x ≡ e) ⊎ ((x ≡ f) ⊎ IsIn x fs) → ((x ≡ e) ⊎ IsIn x fs → IsIn x (put_in e fs)) → IsIn x (cond b (e ∷ f ∷ fs) (f ∷ put_in e fs))
    by true h ih = h
    by false h ih = elim h [ inl s ↦ inr (ih (inl s)) | inr r ↦ elim r [ inl a ↦ inl a | inr b ↦ inr (ih (inr b)) ] ]

pub sorted_has : (x : Entry) (es : List Entry) → IsIn x es → IsIn x (in_order es)
sorted_has x [] h = h
sorted_has x (e ∷ es) h = put_has x e (in_order es) (elim h [ inl s ↦ inl s | inr r ↦ inr (sorted_has x es r) ])

pub number_in : (n : ℕ) (ns : List ℕ) → has_number n ns ≡ true → IsIn n ns
number_in n [] h = absurd (false≢true h)
number_in n (m ∷ ms) h = elim (or_cases (n == m) (has_number n ms) h) [ inl s ↦ inl (eqb-true n m s) | inr r ↦ inr (number_in n ms r) ]

some_has : (x : Entry) (es : List Entry) → IsIn x es → (c : List Entry) × IsIn c (some_entries es) × IsIn x c
some_has x [] h = absurd h
some_has x (e ∷ es) h = (e ∷ es, inl refl, h)

pub pieces_has : (x : Entry) (es : List Entry) (ks : List Bytes) → IsIn x es → (c : List Entry) × IsIn c (pieces es ks) × IsIn x c
pieces_has x es [] h = some_has x es h
pieces_has x es (k ∷ ks) h = elim (cases_Bool (key_lt x.key k)) [
  | inl low ↦
      let r = some_has x (before_key k es) (in_kept (λ (e : Entry). key_lt e.key k) x es h low) in
      (r.0, in_left r.0 (some_entries (before_key k es)) (pieces (from_key k es) ks) r.1, r.2)
  | inr high ↦
      let r = pieces_has x (from_key k es) ks (in_kept (λ (e : Entry). not (key_lt e.key k)) x es h (ap not high)) in
      (r.0, in_right r.0 (some_entries (before_key k es)) (pieces (from_key k es) ks) r.1, r.2)
]

pub paired_has : (o : Column) (c : List Entry) (rows : List TableRow) (cs : List (List Entry)) → AllZip (Describes o) rows cs → IsIn c cs → (w : Table) × IsIn w (paired rows cs) × (w.entries ≡ c)
paired_has o c [] [] d i = absurd i
paired_has o c [] (x ∷ cs) d i = absurd d
paired_has o c (r ∷ rs) [] d i = absurd d
paired_has o c (r ∷ rs) (x ∷ cs) d i = elim i [
  | inl s ↦ (record { row = r; entries = x }, inl refl, sym s)
  | inr m ↦ let w = paired_has o c rs cs d.1 m in (w.0, inr w.1, w.2)
]

-- ---- a number names one table

pub record OneByNumber (ts : List Table) : Type 0 where
  pub one : (t u : Table) → IsIn t ts → IsIn u ts → t.row.number ≡ u.row.number → t ≡ u

differ_of : (rows : List TableRow) (cs : List (List Entry)) (t u : Table) → numbers_differ (map (λ (r : TableRow). r.number) rows) ≡ true
    → IsIn t (paired rows cs) → IsIn u (paired rows cs) → t.row.number ≡ u.row.number → t ≡ u
differ_of [] cs t u h i k e = absurd i
differ_of (r ∷ rs) [] t u h i k e = absurd i
differ_of (r ∷ rs) (c ∷ cs) t u h i k e =
    let rest = and_parts (not (has_number r.number (map (λ (x : TableRow). x.number) rs))) (numbers_differ (map (λ (x : TableRow). x.number) rs)) h in
    let later : (z : Table) → IsIn z (paired rs cs) → z.row.number ≡ r.number → ⊥ = λ z m s.
    true≢false (sym (has_number_in z.row rs (in_paired z rs cs m).0) ∙ ap (λ n. has_number n (map (λ (x : TableRow). x.number) rs)) s ∙ not-true _ rest.0) in
    elim i [
      | inl a ↦ elim k [
        | inl b ↦ a ∙ sym b
        | inr b ↦ absurd (later u b (sym e ∙ ap (λ (z : Table). z.row.number) a))
      ]
      | inr a ↦ elim k [
        | inl b ↦ absurd (later t a (e ∙ ap (λ (z : Table). z.row.number) b))
        | inr b ↦ differ_of rs cs t u rest.1 a b e
      ]
    ]

apart_new : (session : ℕ) (used : List ℕ) (rows : List TableRow) (cs : List (List Entry)) (t u : Table) → rows_are_new session used rows ≡ true
    → IsIn t (paired rows cs) → IsIn u (paired rows cs) → t.row.number ≡ u.row.number → t ≡ u
apart_new session used rows cs t u h i k e = differ_of rows cs t u (and_parts _ _ h).1 i k e

pub one_step : (o : Column) (bs : Batches) (t : Tree) (e : Edit) → rows_are_new t.shape.session t.shape.used (outputs_of e) ≡ true
    → ((u : Table) → IsIn u t.tables → is_fresh t.shape u.row.number ≡ false) → OneByNumber t.tables → OneByNumber (tree_after o bs t e).tables
one_step o bs t e new known h = record { one = go }
  where
    fresh : (u : Table) → IsIn u (written_by o bs t e) → is_fresh t.shape u.row.number ≡ true
    fresh u i = let p = new_is_fresh t.shape.session t.shape.used (outputs_of e) u.row new (in_paired u (outputs_of e) (contents o bs t e) i).0 in and_from _ _ p.0 (ap not p.1)

    go : (a b : Table) → IsIn a (tree_after o bs t e).tables → IsIn b (tree_after o bs t e).tables → a.row.number ≡ b.row.number → a ≡ b
    go a b i k s = elim (after o bs t e a i) [
      | inl x ↦ elim (after o bs t e b k) [
        | inl y ↦ h.one a b x.0 y.0 s
        | inr y ↦ absurd (true≢false (sym (fresh b y) ∙ ap (is_fresh t.shape) (sym s) ∙ known a x.0))
      ]
      | inr x ↦ elim (after o bs t e b k) [
        | inl y ↦ absurd (true≢false (sym (fresh a x) ∙ ap (is_fresh t.shape) s ∙ known b y.0))
        | inr y ↦ apart_new t.shape.session t.shape.used (outputs_of e) (contents o bs t e) a b new x y s
      ]
    ]

pub content_has : (ts : List Table) (u : Table) (x : Entry) → ((t : Table) → IsIn t ts → t.row.number ≡ u.row.number → t ≡ u) → IsIn u ts → IsIn x u.entries → IsIn x (content_of ts u.row.number)
content_has [] u x one i p = absurd i
content_has (t ∷ ts) u x one i p = by (t.row.number == u.row.number) refl i (λ r. content_has ts u x (λ v m s. one v (inr m) s) r p)
  where
    by : (b : Bool) → (t.row.number == u.row.number) ≡ b → (u ≡ t) ⊎ IsIn u ts → (IsIn u ts → IsIn x (content_of ts u.row.number)) → IsIn x (cond b t.entries (content_of ts u.row.number))
    by true e i ih = subst (λ (z : Table). IsIn x z.entries) (sym (one t (inl refl) (eqb-true t.row.number u.row.number e))) p
    by false e i ih = elim i [ inl s ↦ absurd (eqb-false t.row.number u.row.number e (ap (λ (z : Table). z.row.number) (sym s))) | inr r ↦ ih r ]

-- ---- what is live before and after

-- live in a table that is no input
pub record Aside (t : Tree) (ns : List ℕ) (x : Entry) : Type 0 where
  pub table : Table
  pub among : IsIn table t.tables
  pub no_input : has_number table.row.number ns ≡ false
  pub inside : IsIn x table.entries

pub live_before : (t : Tree) (ns : List ℕ) → OneByNumber t.tables → (x : Entry) → Live t x ↔ Before (merged t.tables ns) (Aside t ns) x
live_before t ns h x = (to, from)
  where
    to : Live t x → Before (merged t.tables ns) (Aside t ns) x
    to l = elim (cases_Bool (has_number l.table.row.number ns)) [
      | inl y ↦ inl (sorted_has x (flat_map (content_of t.tables) ns)
          (flat_in (content_of t.tables) x l.table.row.number ns (number_in l.table.row.number ns y) (content_has t.tables l.table x (λ v m s. h.one v l.table m l.among s) l.among l.inside)))
      | inr z ↦ inr (record { table = l.table; among = l.among; no_input = z; inside = l.inside })
    ]

    from : Before (merged t.tables ns) (Aside t ns) x → Live t x
    from p = elim p [
      | inl i ↦
          let r = in_flat (content_of t.tables) x ns (in_sorted x (flat_map (content_of t.tables) ns) i) in
          let c = in_content x t.tables r.0 r.2 in
          record { table = c.0; among = c.1; inside = c.3 }
      | inr a ↦ record { table = a.table; among = a.among; inside = a.inside }
    ]

-- after a compaction, whose outputs hold what is kept and nothing else
compacted : (o : Column) (bs : Batches) (t : Tree) (e : Edit) (floor : ℕ) (whole : Bool) → AllZip (Describes o) (outputs_of e) (contents o bs t e)
    → ((x : Entry) (c : List Entry) → IsIn c (contents o bs t e) → IsIn x c → IsIn x (kept (merged t.tables (inputs_of e)) floor whole))
    → ((x : Entry) → IsIn x (kept (merged t.tables (inputs_of e)) floor whole) → (c : List Entry) × IsIn c (contents o bs t e) × IsIn x c)
    → (x : Entry) → Live (tree_after o bs t e) x ↔ After (merged t.tables (inputs_of e)) floor whole (Aside t (inputs_of e)) x
compacted o bs t e floor whole d source covered x = (to, from)
  where
    to : Live (tree_after o bs t e) x → After (merged t.tables (inputs_of e)) floor whole (Aside t (inputs_of e)) x
    to l = elim (after o bs t e l.table l.among) [
      | inl a ↦ inr (record { table = l.table; among = a.0; no_input = a.1; inside = l.inside })
      | inr b ↦ inl (source x l.table.entries (in_paired l.table (outputs_of e) (contents o bs t e) b).1 l.inside)
    ]

    from : After (merged t.tables (inputs_of e)) floor whole (Aside t (inputs_of e)) x → Live (tree_after o bs t e) x
    from p = elim p [
      | inl i ↦
          let c = covered x i in
          let w = paired_has o c.0 (outputs_of e) (contents o bs t e) d c.1 in
          record { table = w.0; among = in_right w.0 (tables_without (inputs_of e) t.tables) (written_by o bs t e) w.1; inside = subst (IsIn x) (sym w.2) c.2 }
      | inr a ↦
          record {
            table = a.table;
            among = in_left a.table (tables_without (inputs_of e) t.tables) (written_by o bs t e) (in_kept (λ (u : Table). not (has_number u.row.number (inputs_of e))) a.table t.tables a.among (ap not a.no_input));
            inside = a.inside;
          }
    ]

pub newest_same : (P Q : Entry → Type 0) (x : Entry) (m : ℕ) → ((y : Entry) → P y ↔ Q y) → IsNewest P x m → IsNewest Q x m
newest_same P Q x m h n = record { here = (h x).0 n.here; below = n.below; newest = λ f p. n.newest f ((h f).1 p) }

-- a Move or a Merge hides and shows nothing at numbers at or above its floor, or above all that is flushed
module _ (o : Column) (bs : Batches) (t : Tree) (one : OneByNumber t.tables) (fl : AllFlushed t.tables t.shape.to) where
  numbers_below : (ns : List ℕ) (m : ℕ) → t.shape.to ≤ m → (x : Entry) → Before (merged t.tables ns) (Aside t ns) x → x.number ≤ m
  numbers_below ns m l x p = let v = (live_before t ns one x).1 p in omega (arith, fl.flushed v.table x v.among v.inside)

  pub same_shown : (e : Edit) (floor : ℕ) (whole : Bool) → AllZip (Describes o) (outputs_of e) (contents o bs t e)
      → ((x : Entry) (c : List Entry) → IsIn c (contents o bs t e) → IsIn x c → IsIn x (kept (merged t.tables (inputs_of e)) floor whole))
      → ((x : Entry) → IsIn x (kept (merged t.tables (inputs_of e)) floor whole) → (c : List Entry) × IsIn c (contents o bs t e) × IsIn x c)
      → (whole ≡ true → (x y : Entry) → Aside t (inputs_of e) x → IsIn y (merged t.tables (inputs_of e)) → x.key ≡ y.key → y.number < x.number)
      → (m : ℕ) → (floor ≤ m) ⊎ (t.shape.to ≤ m) → (x : Entry) → is_put x.change ≡ true
      → IsNewest (Live t) x m ↔ IsNewest (Live (tree_after o bs t e)) x m
  same_shown e floor whole d source covered newer m low x put =
      let es = merged t.tables (inputs_of e) in
      let b = live_before t (inputs_of e) one in
      let a = compacted o bs t e floor whole d source covered in
      let low2 : (floor ≤ m) ⊎ ((y : Entry) → Before es (Aside t (inputs_of e)) y → y.number ≤ m) =
      elim low [ inl f ↦ inl f | inr l ↦ inr (numbers_below (inputs_of e) m l) ] in
      let k = keeps_shown es floor whole (Aside t (inputs_of e)) m low2 newer x put in (
        λ n. newest_same (After es floor whole (Aside t (inputs_of e))) (Live (tree_after o bs t e)) x m (λ y. ((a y).1, (a y).0)) (k.0 (newest_same (Live t) (Before es (Aside t (inputs_of e))) x m b n)),
        λ n. newest_same (Before es (Aside t (inputs_of e))) (Live t) x m (λ y. ((b y).1, (b y).0)) (k.1 (newest_same (Live (tree_after o bs t e)) (After es floor whole (Aside t (inputs_of e))) x m a n)),
      )

  pub move_shows : (level floor : ℕ) (inputs : List ℕ) (outputs : List TableRow) → AllZip (Describes o) outputs (contents o bs t (Move level floor inputs outputs))
      → (m : ℕ) → (floor ≤ m) ⊎ (t.shape.to ≤ m) → (x : Entry) → is_put x.change ≡ true
      → IsNewest (Live t) x m ↔ IsNewest (Live (tree_after o bs t (Move level floor inputs outputs))) x m
  move_shows level floor inputs outputs d =
      same_shown (Move level floor inputs outputs) floor false d
      (λ x c i p. in_pieces x c (kept (merged t.tables inputs) floor false) (guards_at t.shape (suc level)) i p)
      (λ x i. pieces_has x (kept (merged t.tables inputs) floor false) (guards_at t.shape (suc level)) i)
      (λ w. absurd (false≢true w))

  pub merge_shows : (floor : ℕ) (whole : Bool) (inputs : List ℕ) (outputs : List TableRow) → AllZip (Describes o) outputs (contents o bs t (Merge floor whole inputs outputs))
      → (whole ≡ true → (v u : Table) → IsIn v t.tables → IsIn u t.tables → has_number u.row.number inputs ≡ true → has_number v.row.number inputs ≡ false → Newer v u)
      → (m : ℕ) → (floor ≤ m) ⊎ (t.shape.to ≤ m) → (x : Entry) → is_put x.change ≡ true
      → IsNewest (Live t) x m ↔ IsNewest (Live (tree_after o bs t (Merge floor whole inputs outputs))) x m
  merge_shows floor whole inputs outputs d newer =
      same_shown (Merge floor whole inputs outputs) floor whole d
      (λ x c i p. in_some_entries x c (kept (merged t.tables inputs) floor whole) i p)
      (λ x i. some_has x (kept (merged t.tables inputs) floor whole) i)
      (λ w x y a i same.
      let r = in_flat (content_of t.tables) y inputs (in_sorted y (flat_map (content_of t.tables) inputs) i) in
      let c = in_content y t.tables r.0 r.2 in
      newer w a.table c.0 a.among c.1 (subst (λ n. has_number n inputs ≡ true) (sym c.2) (has_in r.0 inputs r.1)) a.no_input x y a.inside c.3 same)
