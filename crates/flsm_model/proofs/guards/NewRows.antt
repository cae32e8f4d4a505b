-- Rows that their contents describe are in their form, each in its guard.
use Rattle.std.proofs.Common.{◌≡◌, ℕ, ◌<◌, ◌≤◌, Bool, true, false, cond, ◌&&◌, not, List, [], ◌∷◌, ◌++◌, map, length, ◌⊎◌, inl, inr, refl, sym, ◌∙◌, ap, subst, arith}
use Rattle.std.specs.Prelude.{◌==◌, filter, Option, Some, None, ⊤}
use Rattle.std.specs.List.{list_any, list_all, AllZip}
use Rattle.std.specs.declared.cmp.Ordering.{Ordering}
use Rattle.std.specs.declared.cmp.Ordering.TheVariants.{Less, Equal, Greater}
use Rattle.std.specs.Ordering.{nat_cmp, is_lt, ordering_reverse}
use Rattle.std.specs.Cmp.Lexicographic.{slice_cmp, nat_list_cmp_total, bytes_decides}
use Rattle.std.proofs.lemmas.Map.Lookups.{exact_bytes}
use Rattle.std.proofs.lemmas.Bool.{and_parts, and_from, or_left, or_right, cases_Bool, cases_lt, eq-eqb, lt-ltb, le-leb, true≢false, false≢true, not-true}
use Rattle.peb_base.specs.Keys.{Bytes, key_lt, key_le, key_eq}
use Rattle.flsm_model.specs.Ranges.{neighbours, is_below, in_range, has_key, keys_ascend, range_after, range_of}
use Rattle.peb_base.specs.Tables.{first_key, last_key, least_number, greatest_number}
use Rattle.flsm_model.specs.Compaction.{pieces, some_entries, before_key, from_key, straddles, is_put}
use Rattle.flsm_model.specs.Trees.{Describes}
use Rattle.peb_base.specs.KeyLaws.{le_lt, lt_le, lt_le_weak, le_refl}
use Rattle.peb_base.specs.declared.entry.Entry.{Entry}
use Rattle.peb_base.specs.declared.table_row.TableRow.{TableRow}
use Rattle.peb_base.specs.Profiles.{Column}
use Rattle.peb_base.specs.Choice.{level_of}
use Rattle.flsm_model.specs.declared.chosen.Chosen.{Chosen}
use Rattle.flsm_model.specs.Choices.{put_keys, choices, chosen_at, chosen_by}
use Rattle.flsm_model.specs.Shape.{Shape, has_number, rows_numbered}
use Rattle.flsm_model.specs.Fits.{is_chosen, is_level, are_choices, lies_in, first_smallest, is_some_list, is_live, begins_past, lie_apart, is_of_session, is_new, numbers_differ, rows_are_new, rows_ascend}
use Rattle.peb_base.specs.Members.{IsIn}
use Rattle.flsm_model.proofs.lists.Members.{in_pieces, in_some_entries}
use Rattle.flsm_model.proofs.guards.Guards.{AscendFrom, same_range}
use Rattle.flsm_model.proofs.guards.InGuards.{start_in}
use Rattle.flsm_model.proofs.contents.Sorts.{Sorted, first_least}
use Rattle.flsm_model.proofs.lists.Lists.{in_filter, in_append, all_of, any_in, in_kept, EachBefore, each_before-filter}

-- ---- keys and numbers of a content

pub first_entry : (c : List Entry) → 0 < length c → (x : Entry) × IsIn x c × (x.key ≡ first_key c)
first_entry [] l = absurd (omega arith)
first_entry (x ∷ xs) l = (x, inl refl, refl)

pub last_entry : (c : List Entry) → 0 < length c → (x : Entry) × IsIn x c × (x.key ≡ last_key c)
last_entry [] l = absurd (omega arith)
last_entry (x ∷ []) l = (x, inl refl, refl)
last_entry (x ∷ y ∷ ys) l = let r = last_entry (y ∷ ys) (omega arith) in (r.0, inr r.1, r.2)

pub some_number : (c : List Entry) → 0 < length c → (x : Entry) × IsIn x c × (x.number ≡ least_number c)
some_number [] l = absurd (omega arith)
some_number (x ∷ []) l = (x, inl refl, refl)
some_number (x ∷ y ∷ ys) l =
    let r = some_number (y ∷ ys) (omega arith) in
    elim (cases_lt x.number (least_number (y ∷ ys))) [
      | inl a ↦ (x, inl refl, omega (arith, a))
      | inr b ↦ (r.0, inr r.1, omega (arith, r.2, b))
    ]

pub greatest_above : (c : List Entry) (x : Entry) → IsIn x c → x.number ≤ greatest_number c
greatest_above [] x i = absurd i
greatest_above (y ∷ ys) x i = elim i [ inl s ↦ omega (arith, ap (λ (z : Entry). z.number) s) | inr r ↦ omega (arith, greatest_above ys x r) ]

pub greatest_at_most : (c : List Entry) (m : ℕ) → ((x : Entry) → IsIn x c → x.number ≤ m) → greatest_number c ≤ m
greatest_at_most [] m h = omega arith
greatest_at_most (y ∷ ys) m h = omega (arith, h y (inl refl), greatest_at_most ys m (λ x i. h x (inr i)))

-- what a row of a sorted content tells
pub record RowOf (r : TableRow) (c : List Entry) : Type 0 where
  pub some : 0 < length c
  pub low : (x : Entry) × IsIn x c × (x.key ≡ r.smallest)
  pub high : (x : Entry) × IsIn x c × (x.key ≡ r.largest)
  pub order : key_le r.smallest r.largest ≡ true
  pub numbers : r.first ≤ r.last
  pub entries : 0 < r.entries

pub row_of : (o : Column) (r : TableRow) (c : List Entry) → Describes o r c → Sorted c → RowOf r c
row_of o r c d so =
    let l : 0 < length c = d.tells.some in
    let a = first_entry c l in
    let b = last_entry c l in
    let m = some_number c l in
    record {
      some = l;
      low = (a.0, a.1, a.2 ∙ sym d.tells.smallest);
      high = (b.0, b.1, b.2 ∙ sym d.tells.largest);
      order = subst (λ k. key_le k r.largest ≡ true) (sym d.tells.smallest) (subst (λ k. key_le (first_key c) k ≡ true) (b.2 ∙ sym d.tells.largest) (first_least c b.0 so b.1));
      numbers = omega (arith, d.tells.first, d.tells.last, m.2, greatest_above c m.0 m.1);
      entries = omega (arith, d.tells.entries);
    }

-- ---- the forms of rows

pub zip_of : (o : Column) (r : TableRow) (rs : List TableRow) (cs : List (List Entry)) → AllZip (Describes o) rs cs → IsIn r rs → (c : List Entry) × IsIn c cs × Describes o r c
zip_of o r [] cs d i = absurd i
zip_of o r (q ∷ rs) [] d i = absurd d
zip_of o r (q ∷ rs) (c ∷ cs) d i = elim i [
  | inl s ↦ (c, inl refl, subst (λ (z : TableRow). Describes o z c) (sym s) d.0)
  | inr m ↦ let p = zip_of o r rs cs d.1 m in (p.0, inr p.1, p.2)
]

pub rows_new : (o : Column) (session : ℕ) (used : List ℕ) (rs : List TableRow) (cs : List (List Entry)) → AllZip (Describes o) rs cs → ((c : List Entry) → IsIn c cs → Sorted c)
    → ((r : TableRow) → IsIn r rs → (r.tier ≡ 0) × (is_of_session session r.number ≡ true) × (has_number r.number used ≡ false))
    → numbers_differ (map (λ (r : TableRow). r.number) rs) ≡ true → rows_are_new session used rs ≡ true
rows_new o session used rs cs d so h df = and_from _ _ (all_of (is_new session used) rs new) df
  where
    new : (r : TableRow) → IsIn r rs → is_new session used r ≡ true
    new r i =
        let c = zip_of o r rs cs d i in
        let f = row_of o r c.0 c.2 (so c.0 c.1) in
        let g = h r i in
        and_from _ _ (and_from _ _ (and_from _ _ (and_from _ _ (and_from _ _ f.order (le-leb r.first r.last f.numbers)) (lt-ltb 0 r.entries f.entries)) (eq-eqb r.tier 0 g.0)) g.1) (ap not g.2)

-- ---- rows in one range

pub lies_between : (range : Bytes × Option Bytes) (r : TableRow) (c : List Entry) → RowOf r c → ((x : Entry) → IsIn x c → in_range range.0 range.1 x.key ≡ true) → lies_in range r ≡ true
lies_between range r c f h =
    and_from _ _ (subst (λ k. key_le range.0 k ≡ true) f.low.2 (and_parts _ _ (h f.low.0 f.low.1)).0) (subst (λ k. is_below k range.1 ≡ true) f.high.2 (and_parts _ _ (h f.high.0 f.high.1)).1)

-- the guard in which the first of rows of a guard's range begins
pub first_range : (gs : List Bytes) (lo : Bytes) (hi : Option Bytes) (rs : List TableRow) → AscendFrom [] gs → range_of gs lo ≡ (lo, hi) → is_some_list rs ≡ true
    → ((r : TableRow) → IsIn r rs → (key_le r.smallest r.largest ≡ true) × (lies_in (lo, hi) r ≡ true)) → range_of gs (first_smallest rs) ≡ (lo, hi)
first_range gs lo hi [] a e some h = absurd (false≢true some)
first_range gs lo hi (r ∷ rs) a e some h =
    let p = h r (inl refl) in
    same_range [] gs lo r.smallest a (subst (λ z. in_range z.0 z.1 r.smallest ≡ true) (sym e) (start_in (lo, hi) r p.0 p.1)) ∙ e

-- inputs that are live have rows
pub some_rows : (s : Shape) (ns : List ℕ) → is_some_list ns ≡ true → list_all (is_live s) ns ≡ true → is_some_list (rows_numbered ns s.live) ≡ true
some_rows s [] some live = absurd (false≢true some)
some_rows s (n ∷ ns) some live =
    let r = any_in (λ (r : TableRow). r.number == n) s.live (and_parts _ _ live).0 in
    among (rows_numbered (n ∷ ns) s.live) r.0 (in_kept (λ (r : TableRow). has_number r.number (n ∷ ns)) r.0 s.live r.1 (or_left _ _ r.2))
  where
    among : (rs : List TableRow) (r : TableRow) → IsIn r rs → is_some_list rs ≡ true
    among [] r i = absurd i
    among (q ∷ rs) r i = refl

-- ---- rows of the pieces between guards

abbrev pub ApartFrom : Bytes → List Bytes → List TableRow → Type 0
ApartFrom lo gs [] = ⊤
ApartFrom lo gs (r ∷ rs) = (lies_in (range_after lo gs r.smallest) r ≡ true) × (list_all (λ s. not (is_below s.smallest (range_after lo gs r.smallest).1)) rs ≡ true) × ApartFrom lo gs rs

pub apart_lie : (gs : List Bytes) (rs : List TableRow) → ApartFrom [] gs rs → lie_apart gs rs ≡ true
apart_lie gs rs h = and_from _ _ (each rs h) (pairs rs h)
  where
    each : (rs : List TableRow) → ApartFrom [] gs rs → list_all (λ r. lies_in (range_of gs r.smallest) r) rs ≡ true
    each [] h = refl
    each (r ∷ rs) h = and_from _ _ h.0 (each rs h.2)

    pairs : (rs : List TableRow) → ApartFrom [] gs rs → list_all (λ (p : TableRow × TableRow). begins_past gs p.0 p.1) (neighbours rs) ≡ true
    pairs [] h = refl
    pairs (r ∷ []) h = refl
    pairs (r ∷ q ∷ rs) h = and_from _ _ (and_parts _ _ h.1).0 (pairs (q ∷ rs) h.2)

-- rows at or above the first guard
apart_next : (lo g : Bytes) (gs : List Bytes) (rs : List TableRow) → ((r : TableRow) → IsIn r rs → key_lt r.smallest g ≡ false) → ApartFrom g gs rs → ApartFrom lo (g ∷ gs) rs
apart_next lo g gs [] h a = tt
apart_next lo g gs (r ∷ rs) h a =
    let e : range_after lo (g ∷ gs) r.smallest ≡ range_after g gs r.smallest = rw (h r (inl refl)) refl in
    (subst (λ z. lies_in z r ≡ true) (sym e) a.0, subst (λ z. list_all (λ (s : TableRow). not (is_below s.smallest z.1)) rs ≡ true) (sym e) a.1, apart_next lo g gs rs (λ q i. h q (inr i)) a.2)

-- the rows of two lists of contents
split_zip : (o : Column) (rs : List TableRow) (as1 bs2 : List (List Entry)) → AllZip (Describes o) rs (as1 ++ bs2)
    → (xs : List TableRow) × (ys : List TableRow) × (rs ≡ xs ++ ys) × AllZip (Describes o) xs as1 × AllZip (Describes o) ys bs2
split_zip o rs [] bs2 d = ([], rs, refl, tt, d)
split_zip o [] (a ∷ as2) bs2 d = absurd d
split_zip o (r ∷ rs) (a ∷ as2) bs2 d = let p = split_zip o rs as2 bs2 d.1 in (r ∷ p.0, p.1, ap (λ z. r ∷ z) p.2, (d.0, p.3), p.4)

-- the rows of the entries below the first guard, which are one or none, and those of the others
below_first : (o : Column) (lo g : Bytes) (gs : List Bytes) (xs ys : List TableRow) (b : List Entry) → Sorted b → ((x : Entry) → IsIn x b → (key_le lo x.key ≡ true) × (key_lt x.key g ≡ true))
    → ((r : TableRow) → IsIn r ys → key_lt r.smallest g ≡ false) → AllZip (Describes o) xs (some_entries b) → ApartFrom lo (g ∷ gs) ys → ApartFrom lo (g ∷ gs) (xs ++ ys)
below_first o lo g gs [] ys b so h up d a = a
below_first o lo g gs (r ∷ xs) ys [] so h up d a = absurd d
below_first o lo g gs (r ∷ q ∷ xs) ys (e ∷ es) so h up d a = absurd d.1
below_first o lo g gs (r ∷ []) ys (e ∷ es) so h up d a =
    let f = row_of o r (e ∷ es) d.0 so in
    let less : key_lt r.smallest g ≡ true = subst (λ k. key_lt k g ≡ true) f.low.2 (h f.low.0 f.low.1).1 in
    let range : range_after lo (g ∷ gs) r.smallest ≡ (lo, Some g) = rw less refl in (
      subst (λ z. lies_in z r ≡ true) (sym range) (lies_between (lo, Some g) r (e ∷ es) f (λ x i. let p = h x i in and_from _ _ p.0 p.1)),
      subst (λ z. list_all (λ (s : TableRow). not (is_below s.smallest z.1)) ys ≡ true) (sym range) (all_of (λ (s : TableRow). not (is_below s.smallest (Some g))) ys (λ s i. ap not (up s i))),
      a,
    )

pub pieces_apart : (o : Column) (lo : Bytes) (gs : List Bytes) (es : List Entry) (rs : List TableRow) → AscendFrom lo gs → Sorted es → ((x : Entry) → IsIn x es → key_le lo x.key ≡ true)
    → AllZip (Describes o) rs (pieces es gs) → ApartFrom lo gs rs
pieces_apart o lo [] [] [] a so low d = tt
pieces_apart o lo [] [] (r ∷ rs) a so low d = absurd d
pieces_apart o lo [] (e ∷ es) [] a so low d = tt
pieces_apart o lo [] (e ∷ es) (r ∷ q ∷ rs) a so low d = absurd d.1
pieces_apart o lo [] (e ∷ es) (r ∷ []) a so low d =
    (lies_between (lo, None) r (e ∷ es) (row_of o r (e ∷ es) d.0 so) (λ x i. and_from _ _ (low x i) refl), refl, tt)
pieces_apart o lo (g ∷ gs) es rs a so low d =
    let p = split_zip o rs (some_entries (before_key g es)) (pieces (from_key g es) gs) d in
    let from_in : (x : Entry) → IsIn x (from_key g es) → key_le g x.key ≡ true = λ x i. (in_filter (λ (e : Entry). not (key_lt e.key g)) x es i).1 in
    let rest : ApartFrom g gs p.1 = pieces_apart o g gs (from_key g es) p.1 a.1 (each_before-filter _ _ es so) from_in p.4 in
    let up : (r : TableRow) → IsIn r p.1 → key_lt r.smallest g ≡ false = λ r i.
    let c = zip_of o r p.1 (pieces (from_key g es) gs) p.4 i in
    let l = first_entry c.0 c.2.tells.some in
    not-true _ (subst (λ k. key_le g k ≡ true) (l.2 ∙ sym c.2.tells.smallest) (from_in l.0 (in_pieces l.0 c.0 (from_key g es) gs c.1 l.1))) in
    subst (ApartFrom lo (g ∷ gs)) (sym p.2)
    (below_first o lo g gs p.0 p.1 (before_key g es) (each_before-filter _ _ es so)
    (λ x i. let q = in_filter (λ (e : Entry). key_lt e.key g) x es i in (low x q.0, q.1)) up p.3 (apart_next lo g gs p.1 up rest))

pub apart_ascends : (lo : Bytes) (gs : List Bytes) (rs : List TableRow) → ((r : TableRow) → IsIn r rs → key_le r.smallest r.largest ≡ true) → ApartFrom lo gs rs → rows_ascend rs ≡ true
apart_ascends lo gs [] h a = refl
apart_ascends lo gs (r ∷ []) h a = refl
apart_ascends lo gs (r ∷ q ∷ rs) h a =
    and_from _ _ (by (range_after lo gs r.smallest).1 (and_parts _ _ a.0).1 (and_parts _ _ a.1).0) (apart_ascends lo gs (q ∷ rs) (λ x i. h x (inr i)) a.2)
  where
    by : (hi : Option Bytes) → is_below r.largest hi ≡ true → not (is_below q.smallest hi) ≡ true → key_lt r.smallest q.smallest ≡ true
    by None x y = absurd (false≢true y)
    by (Some z) x y = lt_le r.smallest z q.smallest (le_lt r.smallest r.largest z (h r (inl refl)) x) y

-- ---- no key of a cut falls into a piece

ascend_of : (k : Bytes) (ks : List Bytes) → keys_ascend (k ∷ ks) ≡ true → AscendFrom k ks
ascend_of k [] h = tt
ascend_of k (q ∷ ks) h = let p = and_parts (key_lt k q) (keys_ascend (q ∷ ks)) h in (lt_le_weak k q p.0, ascend_of q ks p.1)

ascend_tail : (k : Bytes) (ks : List Bytes) → keys_ascend (k ∷ ks) ≡ true → keys_ascend ks ≡ true
ascend_tail k [] h = refl
ascend_tail k (q ∷ ks) h = (and_parts (key_lt k q) (keys_ascend (q ∷ ks)) h).1

clear_above : (r : TableRow) (b : Bytes) (ks : List Bytes) → key_lt r.largest b ≡ true → AscendFrom b ks → list_any (straddles r) ks ≡ false
clear_above r b [] l a = refl
clear_above r b (k ∷ ks) l a =
    let less : key_lt r.largest k ≡ true = lt_le r.largest b k l a.0 in
    let no : straddles r k ≡ false = above (key_lt r.smallest k) less in
    rw no (clear_above r k ks less a.1)
  where
    above : (x : Bool) → key_lt r.largest k ≡ true → (x && not (key_lt r.largest k)) ≡ false
    above true e = ap not e
    above false e = refl

pub pieces_clear : (ks : List Bytes) (es : List Entry) (c : List Entry) (r : TableRow) → keys_ascend ks ≡ true → RowOf r c → IsIn c (pieces es ks) → list_any (straddles r) ks ≡ false
pieces_clear [] es c r a f i = refl
pieces_clear (k ∷ ks) es c r a f i = elim (in_append c (some_entries (before_key k es)) (pieces (from_key k es) ks) i) [
  | inl low ↦
      let less : key_lt r.largest k ≡ true =
      subst (λ z. key_lt z k ≡ true) f.high.2 (in_filter (λ (e : Entry). key_lt e.key k) f.high.0 es (in_some_entries f.high.0 c (before_key k es) low f.high.1)).1 in
      clear_above r k (k ∷ ks) less (le_refl k, ascend_of k ks a)
  | inr high ↦
      let ge : key_lt r.smallest k ≡ false =
      not-true _ (subst (λ z. key_le k z ≡ true) f.low.2 (in_filter (λ (e : Entry). not (key_lt e.key k)) f.low.0 es (in_pieces f.low.0 c (from_key k es) ks high f.low.1)).1) in
      rw ge (pieces_clear ks (from_key k es) c r (ascend_tail k ks a) f high)
]

-- ---- the keys that a flush chooses

pub le_ne_lt : (a b : Bytes) → key_le a b ≡ true → key_eq a b ≡ false → key_lt a b ≡ true
le_ne_lt a b l n = by (slice_cmp nat_cmp a b) refl
  where
    by : (z : Ordering) → slice_cmp nat_cmp a b ≡ z → key_lt a b ≡ true
    by Less e = ap is_lt e
    by Equal e = absurd (true≢false (sym ((bytes_decides a b).1 (exact_bytes a b e)) ∙ n))
    by Greater e =
        let ba : slice_cmp nat_cmp b a ≡ Less = nat_list_cmp_total.antisymm b a ∙ ap ordering_reverse e in
        absurd (true≢false (sym (ap is_lt ba) ∙ not-true _ l))

abbrev pub Strict : List Bytes → Type 0
Strict ks = EachBefore (λ k x. key_lt k x ≡ true) ks

put_from : (k : Bytes) (es : List Entry) → IsIn k (put_keys es) → (f : Entry) × IsIn f es × (f.key ≡ k)
put_from k [] i = absurd i
put_from k (e ∷ es) i = by (is_put e.change && not (has_key e.key (put_keys es))) i (put_from k es)
  where
    by : (b : Bool) → IsIn k (cond b (e.key ∷ put_keys es) (put_keys es)) → (IsIn k (put_keys es) → (f : Entry) × IsIn f es × (f.key ≡ k)) → (f : Entry) × ((f ≡ e) ⊎ IsIn f es) × (f.key ≡ k)
    by true i ih = elim i [ inl s ↦ (e, inl refl, sym s) | inr r ↦ let f = ih r in (f.0, inr f.1, f.2) ]
    by false i ih = let f = ih i in (f.0, inr f.1, f.2)

has_key_in : (k : Bytes) (ks : List Bytes) → IsIn k ks → has_key k ks ≡ true
has_key_in k [] i = absurd i
has_key_in k (q ∷ ks) i = elim i [ inl s ↦ or_left _ _ ((bytes_decides k q).1 s) | inr r ↦ or_right (key_eq k q) _ (has_key_in k ks r) ]

puts_strict : (es : List Entry) → Sorted es → Strict (put_keys es)
puts_strict [] h = tt
puts_strict (e ∷ es) h = by (is_put e.change) (has_key e.key (put_keys es)) refl (puts_strict es h.1)
  where
    by : (a b : Bool) → has_key e.key (put_keys es) ≡ b → Strict (put_keys es) → Strict (cond (a && not b) (e.key ∷ put_keys es) (put_keys es))
    by true true q r = r
    by true false q r = (
      (λ x i.
          let f = put_from x es i in
          let le : key_le e.key x ≡ true = subst (λ z. key_le e.key z ≡ true) f.2 (h.0 f.0 f.1) in
          elim (cases_Bool (key_eq e.key x)) [
            | inl same ↦ absurd (true≢false (sym (has_key_in e.key (put_keys es) (subst (λ z. IsIn z (put_keys es)) (sym ((bytes_decides e.key x).0 same)) i)) ∙ q))
            | inr other ↦ le_ne_lt e.key x le other
          ]),
      r,
    )
    by false b q r = r

choice_of : (o : Column) (c : Chosen) (ks : List Bytes) → IsIn c (choices o ks) → IsIn c.key ks × (level_of o c.key ≡ Some c.level)
choice_of o c [] i = absurd i
choice_of o c (k ∷ ks) i = elim (in_append c (chosen_at k (level_of o k)) (choices o ks) i) [
  | inl a ↦ let p = by (level_of o k) refl a in (inl p.0, p.1)
  | inr b ↦ let p = choice_of o c ks b in (inr p.0, p.1)
]
  where
    by : (l : Option ℕ) → level_of o k ≡ l → IsIn c (chosen_at k l) → (c.key ≡ k) × (level_of o c.key ≡ Some c.level)
    by None e m = absurd m
    by (Some l) e m = elim m [
      | inl s ↦ (ap (λ (z : Chosen). z.key) s, ap (level_of o) (ap (λ (z : Chosen). z.key) s) ∙ e ∙ ap (λ (z : Chosen). Some z.level) (sym s))
      | inr r ↦ absurd r
    ]

mapped_key : (o : Column) (x : Bytes) (cs : List Chosen) → IsIn x (map (λ (c : Chosen). c.key) cs) → (c : Chosen) × IsIn c cs × (x ≡ c.key)
mapped_key o x [] i = absurd i
mapped_key o x (c ∷ cs) i = elim i [ inl s ↦ (c, inl refl, s) | inr r ↦ let p = mapped_key o x cs r in (p.0, inr p.1, p.2) ]

strict_choices : (o : Column) (ks : List Bytes) → Strict ks → Strict (map (λ (c : Chosen). c.key) (choices o ks))
strict_choices o [] h = tt
strict_choices o (k ∷ ks) h = by (level_of o k) (strict_choices o ks h.1)
  where
    by : (l : Option ℕ) → Strict (map (λ (c : Chosen). c.key) (choices o ks)) → Strict (map (λ (c : Chosen). c.key) (chosen_at k l ++ choices o ks))
    by None r = r
    by (Some l) r =
        ((λ x i. let c = mapped_key o x (choices o ks) i in h.0 x (subst (λ z. IsIn z ks) (sym c.2) (choice_of o c.0 ks c.1).0)), r)

chosen_ascend : (cs : List Chosen) → Strict (map (λ (c : Chosen). c.key) cs) → list_all (λ (p : Chosen × Chosen). key_lt p.0.key p.1.key) (neighbours cs) ≡ true
chosen_ascend [] h = refl
chosen_ascend (c ∷ []) h = refl
chosen_ascend (c ∷ d ∷ cs) h = and_from _ _ (h.0 d.key (inl refl)) (chosen_ascend (d ∷ cs) h.1)

pub choices_fit : (o : Column) (s : Shape) (es : List Entry) → Sorted es → are_choices o s (chosen_by o s es) ≡ true
choices_fit o s es so =
    let free : Bytes → Bool = λ k. not (is_chosen s.chosen k) in
    let ks : List Bytes = filter free (put_keys es) in
    and_from _ _ (chosen_ascend _ (strict_choices o ks (each_before-filter _ free (put_keys es) (puts_strict es so))))
    (all_of (λ (c : Chosen). not (is_chosen s.chosen c.key) && is_level (level_of o c.key) c.level) (choices o ks) (λ c i.
    let p = choice_of o c ks i in
    and_from _ _ (in_filter free c.key (put_keys es) p.0).1 (rw p.1 (eq-eqb c.level c.level refl))))
