-- How rows lie among guards, where a job's own keys tell it.
use Rattle.std.proofs.Common.{◌≡◌, Bool, true, false, ◌&&◌, not, List, [], ◌∷◌, inl, inr, refl, sym, ◌∙◌, ap, subst}
use Rattle.std.specs.Prelude.{Option, Some, None, filter, if◌then◌else◌}
use Rattle.std.specs.List.{list_any, list_all}
use Rattle.std.proofs.lemmas.Bool.{and_parts, and_from, and_right, cases_Bool, true≢false, false≢true}
use Rattle.peb_base.specs.Keys.{Bytes, key_lt, key_le}
use Rattle.peb_base.specs.KeyLaws.{le_lt, lt_le, le_trans, lt_le_weak, le_refl}
use Rattle.peb_base.specs.declared.table_row.TableRow.{TableRow}
use Rattle.flsm_model.specs.Compaction.{straddles}
use Rattle.flsm_model.specs.Ranges.{is_below, in_range, range_after, range_of, keys_ascend, neighbours}
use Rattle.flsm_model.specs.Fits.{lies_in, range_of_row, begins_past, rows_ascend}
use Rattle.peb_base.specs.Members.{IsIn}
use Rattle.flsm_model.proofs.guards.Guards.{AscendFrom, least}
use Rattle.flsm_model.proofs.lists.Lists.{in_kept, none_any, any_none, list_all-weaker}

-- ---- keys that ascend

rise_keys : (k : Bytes) (ks : List Bytes) → keys_ascend (k ∷ ks) ≡ true → AscendFrom k ks
rise_keys k [] h = tt
rise_keys k (q ∷ ks) h = let p = and_parts (key_lt k q) (keys_ascend (q ∷ ks)) h in (lt_le_weak k q p.0, rise_keys q ks p.1)

pub ascend_from : (ks : List Bytes) → keys_ascend ks ≡ true → AscendFrom [] ks
ascend_from [] h = tt
ascend_from (k ∷ ks) h = (least k, rise_keys k ks h)

from_lower : (a b : Bytes) (ks : List Bytes) → key_le a b ≡ true → AscendFrom b ks → AscendFrom a ks
from_lower a b [] l h = tt
from_lower a b (k ∷ ks) l h = (le_trans a b k l h.0, h.1)

above_all : (g : Bytes) (gs : List Bytes) (x : Bytes) → AscendFrom g gs → IsIn x gs → key_le g x ≡ true
above_all g [] x a i = absurd i
above_all g (q ∷ gs) x a i = elim i [ inl s ↦ subst (λ z. key_le g z ≡ true) (sym s) a.0 | inr r ↦ le_trans g q x a.0 (above_all q gs x a.1 r) ]

pub ascend_filter : (p : Bytes → Bool) (lo : Bytes) (ks : List Bytes) → AscendFrom lo ks → AscendFrom lo (filter p ks)
ascend_filter p lo [] h = tt
ascend_filter p lo (k ∷ ks) h = by (p k) refl (ascend_filter p k ks h.1)
  where
    by : (b : Bool) → p k ≡ b → AscendFrom k (filter p ks) → AscendFrom lo (filter p (k ∷ ks))
    by true e r = rw e (h.0, r)
    by false e r = rw e (from_lower lo k (filter p ks) h.0 r)

-- ---- a row between neighbouring keys is split by none

end_clear : (r : TableRow) (k q : Bytes) → key_lt r.largest k ≡ true → key_le k q ≡ true → straddles r q ≡ false
end_clear r k q l h = and_right (key_lt r.smallest q) _ (ap not (lt_le r.largest k q l h))

clear_after : (r : TableRow) (lo : Bytes) (ks : List Bytes) → AscendFrom lo ks → lies_in (range_after lo ks r.smallest) r ≡ true → (q : Bytes) → IsIn q ks → straddles r q ≡ false
clear_after r lo [] a h q i = absurd i
clear_after r lo (k ∷ ks) a h q i = by (key_lt r.smallest k) refl (λ l m. clear_after r k ks a.1 l q m)
  where
    by : (b : Bool) → key_lt r.smallest k ≡ b → (lies_in (range_after k ks r.smallest) r ≡ true → IsIn q ks → straddles r q ≡ false) → straddles r q ≡ false
    by true e ih =
        let p = and_parts (key_le lo r.smallest) (key_lt r.largest k) (subst (λ (b : Bool). lies_in (if b then (lo, Some k) else range_after k ks r.smallest) r ≡ true) e h) in
        end_clear r k q p.1 (elim i [ inl s ↦ subst (λ z. key_le k z ≡ true) (sym s) (le_refl k) | inr m ↦ above_all k ks q a.1 m ])
    by false e ih = elim i [
      | inl s ↦ subst (λ z. straddles r z ≡ false) (sym s) (ap (λ (b : Bool). b && key_le k r.largest) e)
      | inr m ↦ ih (subst (λ (b : Bool). lies_in (if b then (lo, Some k) else range_after k ks r.smallest) r ≡ true) e h) m
    ]

pub row_clear : (r : TableRow) (ks : List Bytes) → AscendFrom [] ks → lies_in (range_of_row ks r) r ≡ true → list_any (straddles r) ks ≡ false
row_clear r ks a h = none_any (straddles r) ks (λ q i. clear_after r [] ks a h q i)

-- ---- the same among more guards, if those in the row's range are among the keys

clear_lies : (r : TableRow) (lo : Bytes) (gs : List Bytes) → key_le lo r.smallest ≡ true → ((g : Bytes) → IsIn g gs → straddles r g ≡ false) → lies_in (range_after lo gs r.smallest) r ≡ true
clear_lies r lo [] h c = and_from _ _ h refl
clear_lies r lo (g ∷ gs) h c = by (key_lt r.smallest g) refl (λ l. clear_lies r g gs l (λ x i. c x (inr i)))
  where
    under : (b : Bool) → b ≡ true → (b && key_le g r.largest) ≡ false → key_lt r.largest g ≡ true
    under true e f = above (key_lt r.largest g) f
      where
        above : (b : Bool) → not b ≡ false → b ≡ true
        above true z = refl
        above false z = absurd (true≢false z)
    under false e f = absurd (false≢true e)

    by : (b : Bool) → key_lt r.smallest g ≡ b → (key_le g r.smallest ≡ true → lies_in (range_after g gs r.smallest) r ≡ true)
        → lies_in (if b then (lo, Some g) else range_after g gs r.smallest) r ≡ true
    by true e ih = and_from _ _ h (under (key_lt r.smallest g) e (c g (inl refl)))
    by false e ih = ih (ap not e)

pub row_lies : (r : TableRow) (gs : List Bytes) → ((g : Bytes) → IsIn g gs → straddles r g ≡ false) → lies_in (range_of gs r.smallest) r ≡ true
row_lies r gs c = clear_lies r [] gs (least r.smallest) c

-- a key that splits a row of the range lies in the range
pub split_inside : (lo : Bytes) (hi : Option Bytes) (r : TableRow) (g : Bytes) → lies_in (lo, hi) r ≡ true → straddles r g ≡ true → in_range lo hi g ≡ true
split_inside lo hi r g h s =
    let p = and_parts (key_le lo r.smallest) (is_below r.largest hi) h in
    let q = and_parts (key_lt r.smallest g) (key_le g r.largest) s in
    and_from _ _ (lt_le_weak lo g (le_lt lo r.smallest g p.0 q.0)) (below hi p.1 q.1)
  where
    below : (hi : Option Bytes) → is_below r.largest hi ≡ true → key_le g r.largest ≡ true → is_below g hi ≡ true
    below None a b = refl
    below (Some z) a b = le_lt g r.largest z b a

-- no guard of the level splits it, where no guard of its range does
pub all_clear : (lo : Bytes) (hi : Option Bytes) (r : TableRow) (gs : List Bytes) → lies_in (lo, hi) r ≡ true → list_any (straddles r) (filter (in_range lo hi) gs) ≡ false
    → (g : Bytes) → IsIn g gs → straddles r g ≡ false
all_clear lo hi r gs h c g i = elim (cases_Bool (straddles r g)) [
  | inl s ↦ absurd (true≢false (sym s ∙ any_none (straddles r) g (filter (in_range lo hi) gs) c (in_kept (in_range lo hi) g gs i (split_inside lo hi r g h s))))
  | inr n ↦ n
]

-- ---- rows with a guard between them

-- a key lies above the one and at or below the other
abbrev pub Between : List Bytes → Bytes → Bytes → Type 0
Between ks x y = (k : Bytes) × IsIn k ks × (key_lt x k ≡ true) × (key_le k y ≡ true)

past_between : (lo : Bytes) (ks : List Bytes) (x y : Bytes) → not (is_below y (range_after lo ks x).1) ≡ true → Between ks x y
past_between lo [] x y h = absurd (false≢true h)
past_between lo (k ∷ ks) x y h = by (key_lt x k) refl (λ l. past_between k ks x y l)
  where
    by : (b : Bool) → key_lt x k ≡ b → (not (is_below y (range_after k ks x).1) ≡ true → Between ks x y) → Between (k ∷ ks) x y
    by true e ih = (k, inl refl, e, subst (λ (b : Bool). not (is_below y (if b then (lo, Some k) else range_after k ks x).1) ≡ true) e h)
    by false e ih = let r = ih (subst (λ (b : Bool). not (is_below y (if b then (lo, Some k) else range_after k ks x).1) ≡ true) e h) in (r.0, inr r.1, r.2, r.3)

between_past : (lo : Bytes) (gs : List Bytes) (x y : Bytes) → AscendFrom lo gs → Between gs x y → not (is_below y (range_after lo gs x).1) ≡ true
between_past lo [] x y a b = absurd b.1
between_past lo (g ∷ gs) x y a b = by (key_lt x g) refl (λ c. between_past g gs x y a.1 c)
  where
    by : (c : Bool) → key_lt x g ≡ c → (Between gs x y → not (is_below y (range_after g gs x).1) ≡ true) → not (is_below y (if c then (lo, Some g) else range_after g gs x).1) ≡ true
    by true e ih = elim b.1 [
      | inl s ↦ subst (λ z. key_le z y ≡ true) s b.3
      | inr m ↦ le_trans g b.0 y (above_all g gs b.0 a.1 m) b.3
    ]
    by false e ih = elim b.1 [
      | inl s ↦ absurd (true≢false (sym (subst (λ z. key_lt x z ≡ true) s b.2) ∙ e))
      | inr m ↦ ih (b.0, m, b.2, b.3)
    ]

more_between : (ks gs : List Bytes) (x y : Bytes) → ((k : Bytes) → IsIn k ks → IsIn k gs) → Between ks x y → Between gs x y
more_between ks gs x y h b = (b.0, h b.0 b.1, b.2, b.3)

-- rows that lie apart between keys lie apart between guards among which the keys are
pub apart_more : (ks gs : List Bytes) (rows : List TableRow) → AscendFrom [] gs → ((k : Bytes) → IsIn k ks → IsIn k gs)
    → list_all (λ (p : TableRow × TableRow). begins_past ks p.0 p.1) (neighbours rows) ≡ true → list_all (λ (p : TableRow × TableRow). begins_past gs p.0 p.1) (neighbours rows) ≡ true
apart_more ks gs rows a h l =
    list_all-weaker (λ (p : TableRow × TableRow). begins_past ks p.0 p.1) (λ (p : TableRow × TableRow). begins_past gs p.0 p.1) (neighbours rows)
    (λ p q. between_past [] gs p.0.smallest p.1.smallest a (more_between ks gs p.0.smallest p.1.smallest h (past_between [] ks p.0.smallest p.1.smallest q))) l

-- and they ascend
pub apart_rise : (ks : List Bytes) (rows : List TableRow) → list_all (λ (p : TableRow × TableRow). begins_past ks p.0 p.1) (neighbours rows) ≡ true → rows_ascend rows ≡ true
apart_rise ks rows l =
    list_all-weaker (λ (p : TableRow × TableRow). begins_past ks p.0 p.1) (λ (p : TableRow × TableRow). key_lt p.0.smallest p.1.smallest) (neighbours rows)
    (λ p q. let b = past_between [] ks p.0.smallest p.1.smallest q in lt_le p.0.smallest b.0 p.1.smallest b.2 b.3) l
