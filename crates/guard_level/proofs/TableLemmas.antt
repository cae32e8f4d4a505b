-- Steps through a list of tables.
use Rattle.std.proofs.Common.{◌≡◌, ℕ, zero, suc, ◌+◌, ◌<◌, true, false, List, [], ◌∷◌, ◌++◌, length, take, drop, refl, sym, ap, ◌∙◌, arith, append_assoc, take-append-drop}
use Rattle.std.specs.Prelude.{slice_index_or}
use Rattle.std.proofs.lemmas.List.{take_more, drop_more, take_at, drop_at, length-take-le}
use Rattle.peb_base.specs.Keys.{Bytes, key_lt}
use Rattle.peb_base.specs.declared.table_row.TableRow.{TableRow}
use Rattle.guard_level.specs.TableLists.{below, above}

-- the element at a place stands between what is before and what is behind
pub front : {T : Type 0} (xs : List T) (at : ℕ) (x : T) → at < length xs → x ≡ slice_index_or xs at x → drop at xs ≡ x ∷ drop (at + 1) xs
front xs at x within is = drop_more xs at x within ∙ ap (λ y. y ∷ drop (at + 1) xs) (sym is)

pub back : {T : Type 0} (xs : List T) (at : ℕ) (x : T) → at < length xs → x ≡ slice_index_or xs at x → take (at + 1) xs ≡ take at xs ++ x ∷ []
back xs at x within is = take_more xs at x within ∙ ap (λ y. take at xs ++ y ∷ []) (sym is)

-- a table below the key is kept
pub below_on : {T : Type 0} (row : T → TableRow) (key : Bytes) (xs k : List T) (at : ℕ) (x : T) → at < length xs → x ≡ slice_index_or xs at x
    → key_lt (row x).smallest key ≡ true
    → take at xs ++ below row key (drop at xs) ≡ k → take (at + 1) xs ++ below row key (drop (at + 1) xs) ≡ k
below_on row key xs k at x within is low h =
    let rest = below row key (drop (at + 1) xs) in
    let kept : below row key (x ∷ drop (at + 1) xs) ≡ x ∷ rest = rw low refl in
    ap (λ ys. ys ++ rest) (back xs at x within is) ∙ append_assoc (take at xs) (x ∷ []) rest
    ∙ ap (λ ys. take at xs ++ ys) (sym kept ∙ sym (ap (below row key) (front xs at x within is))) ∙ h

-- and isn't given
pub above_on : {T : Type 0} (row : T → TableRow) (key : Bytes) (xs : List T) (at : ℕ) (x : T) → at < length xs → x ≡ slice_index_or xs at x
    → key_lt (row x).smallest key ≡ true → above row key (drop at xs) ≡ above row key (drop (at + 1) xs)
above_on row key xs at x within is low =
    let left : above row key (x ∷ drop (at + 1) xs) ≡ above row key (drop (at + 1) xs) = rw low refl in
    ap (above row key) (front xs at x within is) ∙ left

-- a table that isn't below the key is given, and not kept
pub below_off : {T : Type 0} (row : T → TableRow) (key : Bytes) (xs : List T) (at : ℕ) (x : T) → at < length xs → x ≡ slice_index_or xs at x
    → key_lt (row x).smallest key ≡ false → below row key (drop at xs) ≡ below row key (drop (at + 1) xs)
below_off row key xs at x within is high =
    let left : below row key (x ∷ drop (at + 1) xs) ≡ below row key (drop (at + 1) xs) = rw high refl in
    ap (below row key) (front xs at x within is) ∙ left

pub above_off : {T : Type 0} (row : T → TableRow) (key : Bytes) (xs : List T) (at : ℕ) (x : T) → at < length xs → x ≡ slice_index_or xs at x
    → key_lt (row x).smallest key ≡ false → above row key (drop at xs) ≡ x ∷ above row key (drop (at + 1) xs)
above_off row key xs at x within is high =
    let given : above row key (x ∷ drop (at + 1) xs) ≡ x ∷ above row key (drop (at + 1) xs) = rw high refl in
    ap (above row key) (front xs at x within is) ∙ given

-- what is left after a removal
pub take_left : {T : Type 0} (xs ys : List T) (at : ℕ) → at < length xs → ys ≡ take at xs ++ drop (at + 1) xs → take at ys ≡ take at xs
take_left xs ys at within is = ap (take at) is ∙ take_at (take at xs) (drop (at + 1) xs) at (length-take-le at xs (omega (arith, within)))

pub drop_left : {T : Type 0} (xs ys : List T) (at : ℕ) → at < length xs → ys ≡ take at xs ++ drop (at + 1) xs → drop at ys ≡ drop (at + 1) xs
drop_left xs ys at within is = ap (drop at) is ∙ drop_at (take at xs) (drop (at + 1) xs) at (length-take-le at xs (omega (arith, within)))

-- a list is what is before a place, the element there, and what is behind it
pub parted : {T : Type 0} (xs : List T) (at : ℕ) (x : T) → at < length xs → x ≡ slice_index_or xs at x → xs ≡ take at xs ++ x ∷ drop (at + 1) xs
parted xs at x within is = sym (take-append-drop at xs) ∙ ap (λ ys. take at xs ++ ys) (front xs at x within is)

-- an element is read alike, whatever stands for one that isn't there
pub same_at : {T : Type 0} (xs : List T) (at : ℕ) (x y : T) → at < length xs → x ≡ slice_index_or xs at x → y ≡ slice_index_or xs at y → x ≡ y
same_at [] at x y within is is' = absurd (omega (arith, within))
same_at (z ∷ zs) zero x y within is is' = is ∙ sym is'
same_at (z ∷ zs) (suc at) x y within is is' = same_at zs at x y (omega (arith, within)) is is'
