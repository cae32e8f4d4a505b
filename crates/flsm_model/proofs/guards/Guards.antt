-- Each live table below level 0 lies in one guard's range of its level.
use Rattle.std.proofs.Common.{◌≡◌, Bool, true, false, cond, not, List, [], ◌∷◌, refl, sym, ◌∙◌, ap, arith}
use Rattle.std.specs.Prelude.{Option, Some, None, ⊤}
use Rattle.std.specs.List.{list_any}
use Rattle.std.proofs.lemmas.Bool.{and_parts, and_from, or_parts, true≢false, not-true, not-false}
use Rattle.peb_base.specs.Keys.{Bytes, key_lt, key_le, key_eq}
use Rattle.flsm_model.specs.Ranges.{is_below, in_range, range_after, range_of, with_key, with_keys}
use Rattle.flsm_model.specs.Compaction.{straddles}
use Rattle.peb_base.specs.KeyLaws.{lt_trans, le_trans, lt_le_weak, le_refl}
use Rattle.peb_base.specs.declared.table_row.TableRow.{TableRow}
use Rattle.flsm_model.specs.Fits.{lies_in}

-- the keys are all at or above the bound, and ascend
abbrev pub AscendFrom : Bytes → List Bytes → Type 0
AscendFrom lo [] = ⊤
AscendFrom lo (g ∷ gs) = (key_le lo g ≡ true) × AscendFrom g gs

-- the guard found begins at or above the bound
begins : (lo : Bytes) (gs : List Bytes) (k : Bytes) → AscendFrom lo gs → key_le lo (range_after lo gs k).0 ≡ true
begins lo [] k h = le_refl lo
begins lo (g ∷ gs) k h = by (key_lt k g) (begins g gs k h.1)
  where
    by : (b : Bool) → key_le g (range_after g gs k).0 ≡ true → key_le lo (cond b (lo, Some g) (range_after g gs k)).0 ≡ true
    by true r = le_refl lo
    by false r = le_trans lo g _ h.0 r

-- a key of a guard's range has this guard
pub same_range : (lo : Bytes) (gs : List Bytes) (a b : Bytes) → AscendFrom lo gs
    → in_range (range_after lo gs a).0 (range_after lo gs a).1 b ≡ true → range_after lo gs b ≡ range_after lo gs a
same_range lo [] a b h i = refl
same_range lo (g ∷ gs) a b h i = by (key_lt a g) i (same_range g gs a b h.1) (begins g gs a h.1)
  where
    by : (t : Bool) → in_range (cond t (lo, Some g) (range_after g gs a)).0 (cond t (lo, Some g) (range_after g gs a)).1 b ≡ true
        → (in_range (range_after g gs a).0 (range_after g gs a).1 b ≡ true → range_after g gs b ≡ range_after g gs a)
        → key_le g (range_after g gs a).0 ≡ true
        → cond (key_lt b g) (lo, Some g) (range_after g gs b) ≡ cond t (lo, Some g) (range_after g gs a)
    by true j ih up = let e : key_lt b g ≡ true = (and_parts (key_le lo b) (is_below b (Some g)) j).1 in rw e refl
    by false j ih up =
        let ge : key_lt b g ≡ false = not-true (key_lt b g) (le_trans g (range_after g gs a).0 b up (and_parts _ _ j).0) in
        rw ge (ih j)

-- a key more keeps a row in one range unless the key straddles it
pub range_kept : (lo : Bytes) (gs : List Bytes) (k : Bytes) (row : TableRow)
    → lies_in (range_after lo gs row.smallest) row ≡ true → straddles row k ≡ false → key_le row.smallest row.largest ≡ true
    → lies_in (range_after lo (with_key k gs) row.smallest) row ≡ true
range_kept lo [] k row h s o = by (key_lt row.smallest k) refl
  where
    by : (b : Bool) → key_lt row.smallest k ≡ b → lies_in (cond b (lo, Some k) (k, None)) row ≡ true
    by true e =
        let above : key_le k row.largest ≡ false = grind (arith, s, e) in
        and_from _ _ (and_parts _ _ h).0 (not-false (key_lt row.largest k) above)
    by false e = and_from _ _ (ap not e) refl
range_kept lo (g ∷ gs) k row h s o =
    by (key_lt k g) (key_eq k g) (key_lt row.smallest k) (key_lt row.smallest g) refl refl refl h (range_kept g gs k row)
  where
    new : Bytes × Option Bytes
    new = range_after g (with_key k gs) row.smallest

    old : Bytes × Option Bytes
    old = range_after g gs row.smallest

    by : (kg e sk sg : Bool) → key_lt k g ≡ kg → key_lt row.smallest k ≡ sk → key_lt row.smallest g ≡ sg
        → lies_in (cond sg (lo, Some g) old) row ≡ true
        → (lies_in old row ≡ true → straddles row k ≡ false → key_le row.smallest row.largest ≡ true → lies_in new row ≡ true)
        → lies_in (range_after lo (cond kg (k ∷ g ∷ gs) (cond e (g ∷ gs) (g ∷ with_key k gs))) row.smallest) row ≡ true
    by true e true true x y z h ih =
        let above : key_le k row.largest ≡ false = grind (arith, s, y) in
        rw y (and_from _ _ (and_parts _ _ h).0 (not-false (key_lt row.largest k) above))
    by true e true false x y z h ih = absurd (true≢false (sym (lt_trans row.smallest k g y x) ∙ z))
    by true e false true x y z h ih = rw (y, z) (and_from _ _ (ap not y) (and_parts _ _ h).1)
    by true e false false x y z h ih = rw (y, z) h
    by false true sk true x y z h ih = rw z h
    by false true sk false x y z h ih = rw z h
    by false false sk true x y z h ih = rw z h
    by false false sk false x y z h ih = rw z (ih h s o)

pub ranges_kept : (gs : List Bytes) (ks : List Bytes) (row : TableRow)
    → lies_in (range_of gs row.smallest) row ≡ true → list_any (straddles row) ks ≡ false → key_le row.smallest row.largest ≡ true
    → lies_in (range_of (with_keys ks gs) row.smallest) row ≡ true
ranges_kept gs [] row h s o = h
ranges_kept gs (k ∷ ks) row h s o =
    let p = or_parts (straddles row k) (list_any (straddles row) ks) s in
    range_kept [] (with_keys ks gs) k row (ranges_kept gs ks row h p.1 o) p.0 o

-- the guards stay in order
ascend_key : (lo : Bytes) (gs : List Bytes) (k : Bytes) → AscendFrom lo gs → key_le lo k ≡ true → AscendFrom lo (with_key k gs)
ascend_key lo [] k h l = (l, tt)
ascend_key lo (g ∷ gs) k h l = by (key_lt k g) (key_eq k g) refl (ascend_key g gs k h.1)
  where
    by : (a b : Bool) → key_lt k g ≡ a → (key_le g k ≡ true → AscendFrom g (with_key k gs))
        → AscendFrom lo (cond a (k ∷ g ∷ gs) (cond b (g ∷ gs) (g ∷ with_key k gs)))
    by true b e ih = (l, (lt_le_weak k g e, h.1))
    by false true e ih = h
    by false false e ih = (h.0, ih (ap not e))

pub least : (k : Bytes) → key_le [] k ≡ true
least [] = refl
least (b ∷ bs) = refl

pub ascend_keys : (gs ks : List Bytes) → AscendFrom [] gs → AscendFrom [] (with_keys ks gs)
ascend_keys gs [] h = h
ascend_keys gs (k ∷ ks) h = ascend_key [] (with_keys ks gs) k (ascend_keys gs ks h) (least k)
