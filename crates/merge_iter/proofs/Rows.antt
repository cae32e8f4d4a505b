-- What a number sees, as the rows of the model.
use Rattle.std.proofs.Common.{◌≡◌, ℕ, ◌<◌, ◌⊎◌, inl, inr, Bool, true, false, not, ◌&&◌, ◌||◌, List, [], ◌∷◌, ◌++◌, length, map, refl, sym, ap, ◌∙◌, subst, arith}
use Rattle.std.specs.Prelude.{if◌then◌else◌, filter, flat_map, nat_lt, nat_le}
use Rattle.std.proofs.lemmas.Bool.{true≢false, false_from_ne_true}
use Rattle.std.proofs.lemmas.Bool.Decides.{nat_tests}
use Rattle.peb_base.specs.Keys.{Bytes, key_lt, key_eq}
use Rattle.peb_base.specs.KeyLaws.{same_key, lt_asym}
use Rattle.peb_base.specs.Entries.{AscendFrom, comes_before, value_of}
use Rattle.peb_base.specs.EntryLaws.{before_trans}
use Rattle.peb_base.specs.Map.{Map}
use Rattle.peb_base.specs.Members.{IsIn}
use Rattle.peb_base.specs.Shown.{firsts, put_of}
use Rattle.peb_base.specs.Sorting.{sorted_is_in_order, behind_first}
use Rattle.peb_base.specs.declared.change.Change.{Change}
use Rattle.peb_base.specs.declared.change.Change.TheVariants.{Put, Delete}
use Rattle.peb_base.specs.declared.entry.Entry.{Entry}
use Rattle.merge_iter.specs.Seeing.{puts, is_passed, seen, ShowsVisible}
use Rattle.merge_iter.proofs.Going.{seen_passed, seen_deleted, seen_put}

abbrev row : Entry → Bytes × Bytes
row e = (e.key, value_of e.change)

abbrev rows : List Entry → Map
rows es = flat_map (λ (e : Entry). put_of e.key e.change) es

abbrev at_most : ℕ → List Entry → List Entry
at_most n es = filter (λ e. nat_le e.number n) es

abbrev other_keys : Bytes → List Entry → List Entry
other_keys key es = filter (λ f. not (key_eq f.key key)) es

-- ---- what is kept

filter_in : (p : Entry → Bool) (xs : List Entry) (x : Entry) → IsIn x (filter p xs) → IsIn x xs
filter_in p [] x i = i
filter_in p (y ∷ xs) x i = by (p y) i (filter_in p xs x)
  where
    by : (b : Bool) → IsIn x (if b then y ∷ filter p xs else filter p xs)
        → (IsIn x (filter p xs) → IsIn x xs) → (x ≡ y) ⊎ IsIn x xs
    by true (inl s) ih = inl s
    by true (inr m) ih = inr (ih m)
    by false i ih = inr (ih i)

firsts_in : (xs : List Entry) (x : Entry) → IsIn x (firsts xs) → IsIn x xs
firsts_in [] x i = i
firsts_in (y ∷ xs) x (inl s) = inl s
firsts_in (y ∷ xs) x (inr m) =
    inr (firsts_in xs x (filter_in (λ f. not (key_eq f.key y.key)) (firsts xs) x m))

-- where no key is this one, all are kept
all_kept : (key : Bytes) (xs : List Entry) → ((x : Entry) → IsIn x xs → key_eq x.key key ≡ false)
    → other_keys key xs ≡ xs
all_kept key [] h = refl
all_kept key (y ∷ xs) h =
    ap (λ b. if not b then y ∷ other_keys key xs else other_keys key xs) (h y (inl refl))
    ∙ ap (λ ys. y ∷ ys) (all_kept key xs (λ x i. h x (inr i)))

-- what was kept for a key stays so
kept_once : (key : Bytes) (xs : List Entry) → other_keys key (other_keys key xs) ≡ other_keys key xs
kept_once key [] = refl
kept_once key (y ∷ xs) = by (key_eq y.key key) refl (kept_once key xs)
  where
    by : (b : Bool) → key_eq y.key key ≡ b
        → other_keys key (other_keys key xs) ≡ other_keys key xs
        → other_keys key (if not b then y ∷ other_keys key xs else other_keys key xs)
        ≡ (if not b then y ∷ other_keys key xs else other_keys key xs)
    by true t ih = ih
    by false t ih =
        ap (λ b. if not b then y ∷ other_keys key (other_keys key xs) else other_keys key (other_keys key xs)) t
        ∙ ap (λ ys. y ∷ ys) ih

-- ---- keys of later entries

later_key : (key : Bytes) (y x : Entry) → comes_before y.key y.number x.key x.number ≡ true
    → key_lt y.key key ≡ false → key_eq y.key key ≡ false → key_eq x.key key ≡ false
later_key key y x lt low other =
    false_from_ne_true (key_eq x.key key) (λ same. at (key_lt y.key x.key) refl (same_key x.key key same))
  where
    at : (b : Bool) → key_lt y.key x.key ≡ b → x.key ≡ key → ⊥
    at true t same = true≢false (sym t ∙ ap (key_lt y.key) same ∙ low)
    at false t same = true≢false (sym (equal (key_eq y.key x.key)
        (sym (ap (λ b. b || (key_eq y.key x.key && nat_lt x.number y.number)) t) ∙ lt)) ∙ ap (key_eq y.key) same ∙ other)
      where
        equal : (b : Bool) → (b && nat_lt x.number y.number) ≡ true → b ≡ true
        equal true h = refl
        equal false h = h

not_lower : (y x : Entry) → comes_before y.key y.number x.key x.number ≡ true → key_lt x.key y.key ≡ false
not_lower y x lt = at (key_lt y.key x.key) refl
  where
    at : (b : Bool) → key_lt y.key x.key ≡ b → key_lt x.key y.key ≡ false
    at true t = lt_asym y.key x.key t
    at false t =
        let same : y.key ≡ x.key = same_key y.key x.key (equal (key_eq y.key x.key)
        (sym (ap (λ b. b || (key_eq y.key x.key && nat_lt x.number y.number)) t) ∙ lt)) in
        ap (λ k. key_lt k y.key) (sym same) ∙ irrefl y.key
      where
        equal : (b : Bool) → (b && nat_lt x.number y.number) ≡ true → b ≡ true
        equal true h = refl
        equal false h = h

        irrefl : (k : Bytes) → key_lt k k ≡ false
        irrefl k = false_from_ne_true (key_lt k k) (λ t. true≢false (sym t ∙ lt_asym k k t))

-- ---- rows

le_lt : (n m : ℕ) (b : Bool) → nat_le m n ≡ b → nat_lt n m ≡ not b
le_lt n m true h = grind (arith, nat_tests, h)
le_lt n m false h = grind (arith, nat_tests, h)

rows_of : (n : ℕ) (key from : Bytes) (number : ℕ) (es : List Entry) → AscendFrom from number es
    → ((x : Entry) → IsIn x es → key_lt x.key key ≡ false)
    → rows (other_keys key (firsts (at_most n es))) ≡ map row (seen n key es)
rows_of n key from number [] h low = refl
rows_of n key from number (y ∷ es) h low =
    by (nat_le y.number n) refl (key_eq y.key key) refl y.change refl
    (rows_of n key y.key y.number es h.2 (λ x i. low x (inr i)))
    (rows_of n y.key y.key y.number es h.2 (λ x i. not_lower y x (behind_first y x es h.2 i)))
  where
    Rows : Bytes → Type 0
    Rows k = rows (other_keys k (firsts (at_most n es))) ≡ map row (seen n k es)

    F : List Entry
    F = firsts (at_most n es)

    passed_by : (b c : Bool) → nat_le y.number n ≡ b → key_eq y.key key ≡ c
        → is_passed n key y ≡ (not b || c)
    passed_by b c t e = λ i. le_lt n y.number b t i || e i

    head : nat_le y.number n ≡ true
        → other_keys key (firsts (at_most n (y ∷ es)))
        ≡ (if not (key_eq y.key key) then y ∷ other_keys key (other_keys y.key F) else other_keys key (other_keys y.key F))
    head t = ap (λ b. other_keys key (firsts (if b then y ∷ at_most n es else at_most n es))) t

    by : (b : Bool) → nat_le y.number n ≡ b → (c : Bool) → key_eq y.key key ≡ c
        → (change : Change) → y.change ≡ change → Rows key → Rows y.key
        → rows (other_keys key (firsts (at_most n (y ∷ es)))) ≡ map row (seen n key (y ∷ es))
    by false t c e change is here there =
        ap (λ b. rows (other_keys key (firsts (if b then y ∷ at_most n es else at_most n es)))) t ∙ here
        ∙ sym (ap (map row) (seen_passed n key y es (passed_by false c t e)))
    by true t true e change is here there =
        ap rows (head t
        ∙ ap (λ b. if not b then y ∷ other_keys key (other_keys y.key F) else other_keys key (other_keys y.key F)) e
        ∙ ap (λ k. other_keys key (other_keys k F)) (same_key y.key key e) ∙ kept_once key F) ∙ here
        ∙ sym (ap (map row) (seen_passed n key y es (passed_by true true t e)))
    by true t false e change is here there =
        ap rows (head t
        ∙ ap (λ b. if not b then y ∷ other_keys key (other_keys y.key F) else other_keys key (other_keys y.key F)) e
        ∙ ap (λ ys. y ∷ ys) (all_kept key (other_keys y.key F) (λ x i. later_key key y x
        (behind_first y x es h.2 (filter_in (λ f. nat_le f.number n) es x (firsts_in (at_most n es) x
        (filter_in (λ f. not (key_eq f.key y.key)) F x i)))) (low y (inl refl)) e)))
        ∙ at_change change is
      where
        at_change : (change : Change) → y.change ≡ change
            → put_of y.key y.change ++ rows (other_keys y.key F) ≡ map row (seen n key (y ∷ es))
        at_change (Put v) is =
            ap (λ d. put_of y.key d ++ rows (other_keys y.key F)) is
            ∙ ap (λ ps. (y.key, v) ∷ ps) there
            ∙ ap (λ d. (y.key, value_of d) ∷ map row (seen n y.key es)) (sym is)
            ∙ sym (ap (map row) (seen_put n key y es (passed_by true false t e) (ap puts is)))
        at_change Delete is =
            ap (λ d. put_of y.key d ++ rows (other_keys y.key F)) is ∙ there
            ∙ sym (ap (map row) (seen_deleted n key y es (passed_by true false t e) (ap puts is)))

-- ---- the whole

loosen : (k : Bytes) (m : ℕ) (y : Entry) (es : List Entry) → comes_before k m y.key y.number ≡ true
    → AscendFrom y.key y.number es → AscendFrom k m es
loosen k m y [] lt h = tt
loosen k m y (x ∷ es) lt h = (h.0, before_trans k m y.key y.number x.key x.number lt h.1, h.2)

still_sorted : (n : ℕ) (k : Bytes) (m : ℕ) (es : List Entry) → AscendFrom k m es
    → AscendFrom k m (at_most n es)
still_sorted n k m [] h = tt
still_sorted n k m (y ∷ es) h =
    by (nat_le y.number n) (still_sorted n y.key y.number es h.2) (still_sorted n k m es (loosen k m y es h.1 h.2))
  where
    by : (b : Bool) → AscendFrom y.key y.number (at_most n es) → AscendFrom k m (at_most n es)
        → AscendFrom k m (if b then y ∷ at_most n es else at_most n es)
    by true a b = (h.0, h.1, a)
    by false a b = b

some_keys : (from : Bytes) (number : ℕ) (es : List Entry) → AscendFrom from number es → (x : Entry)
    → IsIn x es → 0 < length x.key
some_keys from number [] h x i = absurd i
some_keys from number (y ∷ es) h x (inl s) = subst (λ (z : Entry). 0 < length z.key) (sym s) h.0.some
some_keys from number (y ∷ es) h x (inr m) = some_keys y.key y.number es h.2 x m

not_empty : (key : Bytes) → 0 < length key → key_eq key [] ≡ false
not_empty [] h = absurd (omega (arith, h))
not_empty (b ∷ bs) h = refl

not_below : (key : Bytes) → key_lt key [] ≡ false
not_below [] = refl
not_below (b ∷ bs) = refl

pub shows_visible : ShowsVisible
shows_visible n es sorted =
    sym (rows_of n [] [] 0 es sorted (λ x i. not_below x.key))
    ∙ ap rows (all_kept [] (firsts (at_most n es)) (λ x i. not_empty x.key (some_keys [] 0 es sorted x
    (filter_in (λ e. nat_le e.number n) es x (firsts_in (at_most n es) x i)))))
    ∙ ap (λ xs. rows (firsts xs)) (sym (sorted_is_in_order (at_most n es) (still_sorted n [] 0 es sorted)))
