-- Laws of cuts.
use Rattle.std.proofs.Common.{◌≡◌, ℕ, zero, suc, ◌<◌, ◌≤◌, ◌⊎◌, inl, inr, Bool, true, false, List, [], ◌∷◌, Option, Some, None, length, refl, sym, ap, ◌∙◌, subst, arith}
use Rattle.std.specs.Prelude.{if◌then◌else◌, slice_get, nat_lt}
use Rattle.std.proofs.lemmas.Bool.{true≢false, false_from_ne_true, ltb-true, lt-ltb}
use Rattle.peb_base.specs.Keys.{Bytes}
use Rattle.peb_base.specs.Cursors.{place_in, entry_at, previous_place}
use Rattle.peb_base.specs.Entries.{AreSorted, AscendFrom, entry_lt}
use Rattle.peb_base.specs.EntryLaws.{entry_split, entry_asym, entry_irrefl}
use Rattle.peb_base.specs.Members.{IsIn}
use Rattle.peb_base.specs.Sorting.{behind_first}
use Rattle.peb_base.specs.declared.entry.Entry.{Entry}
use Rattle.merge_iter.specs.Cuts.{passed, beside, Falls}
use Rattle.merge_iter.specs.Heads.{meets}

pub some_is : (a b : Entry) → Some a ≡ Some b → a ≡ b
some_is a b same = cc

-- of the entries on the side to which a walk goes this is the first
pub record IsEdge (back : Bool) (cut : Entry → Bool) (es : List Entry) (e : Entry) : Type 0 where
  pub among : IsIn e es
  pub side : cut e ≡ back
  pub first : (x : Entry) → IsIn x es → cut x ≡ back → meets back x e ≡ false

-- ---- the order in both directions

pub meets_irrefl : (back : Bool) (a : Entry) → meets back a a ≡ false
meets_irrefl false a = entry_irrefl a
meets_irrefl true a = entry_irrefl a

pub meets_asym : (back : Bool) (a b : Entry) → meets back a b ≡ true → meets back b a ≡ false
meets_asym false a b h = entry_asym a b h
meets_asym true a b h = entry_asym b a h

-- what a walk meets before c it meets before b, or b before c
pub meets_split : (back : Bool) (a b c : Entry) → meets back a c ≡ true → meets back a b ≡ false
    → meets back b c ≡ true
meets_split false a b c h g = entry_split a b c h g
meets_split true a b c h g = by (entry_lt c b) refl
  where
    by : (t : Bool) → entry_lt c b ≡ t → entry_lt c b ≡ true
    by true t = t
    by false t = absurd (true≢false (sym (entry_split c b a h t) ∙ g))

-- what isn't met before b, which isn't met before c, isn't met before c
pub not_met : (back : Bool) (a b c : Entry) → meets back a b ≡ false → meets back b c ≡ false
    → meets back a c ≡ false
not_met back a b c h g =
    false_from_ne_true (meets back a c) (λ t. true≢false (sym (meets_split back a b c t h) ∙ g))

-- ---- lists

pub in_at : (es : List Entry) (n : ℕ) (e : Entry) → slice_get es n ≡ Some e → IsIn e es
in_at [] n e h = cc
in_at (x ∷ es) zero e h = inl (some_is e x (sym h))
in_at (x ∷ es) (suc n) e h = inr (in_at es n e h)

pub get_inside : (es : List Entry) (n : ℕ) (e : Entry) → slice_get es n ≡ Some e → n < length es
get_inside [] n e h = cc
get_inside (x ∷ es) zero e h = omega arith
get_inside (x ∷ es) (suc n) e h = let r = get_inside es n e h in omega (arith, r)

pub got : (es : List Entry) (n : ℕ) → n < length es → (e : Entry) × (slice_get es n ≡ Some e)
got [] n lt = absurd (omega (arith, lt))
got (x ∷ es) zero lt = (x, refl)
got (x ∷ es) (suc n) lt = got es n (omega (arith, lt))

-- of two of sorted entries one comes before the other, or they are one
pub apart_in : (key : Bytes) (number : ℕ) (es : List Entry) (x y : Entry) → AscendFrom key number es
    → IsIn x es → IsIn y es → (x ≡ y) ⊎ ((entry_lt x y ≡ true) ⊎ (entry_lt y x ≡ true))
apart_in key number [] x y h i j = absurd i
apart_in key number (z ∷ es) x y h i j = by (λ m n. apart_in z.key z.number es x y h.2 m n) i j
  where
    by : (IsIn x es → IsIn y es → (x ≡ y) ⊎ ((entry_lt x y ≡ true) ⊎ (entry_lt y x ≡ true)))
        → ((x ≡ z) ⊎ IsIn x es) → ((y ≡ z) ⊎ IsIn y es)
        → (x ≡ y) ⊎ ((entry_lt x y ≡ true) ⊎ (entry_lt y x ≡ true))
    by ih (inl s) (inl t) = inl (s ∙ sym t)
    by ih (inl s) (inr n) = inr (inl (subst (λ (a : Entry). entry_lt a y ≡ true) (sym s)
        (behind_first z y es h.2 n)))
    by ih (inr m) (inl t) = inr (inr (subst (λ (a : Entry). entry_lt a x ≡ true) (sym t)
        (behind_first z x es h.2 m)))
    by ih (inr m) (inr n) = ih m n

-- of two of sorted entries, neither of which comes before the other, both are one
pub same_in : (back : Bool) (es : List Entry) (x y : Entry) → AreSorted es → IsIn x es → IsIn y es
    → meets back x y ≡ false → meets back y x ≡ false → x ≡ y
same_in back es x y sorted i j a b = by back a b (apart_in [] 0 es x y sorted i j)
  where
    by : (back : Bool) → meets back x y ≡ false → meets back y x ≡ false
        → (x ≡ y) ⊎ ((entry_lt x y ≡ true) ⊎ (entry_lt y x ≡ true)) → x ≡ y
    by back a b (inl s) = s
    by false a b (inr (inl t)) = absurd (true≢false (sym t ∙ a))
    by false a b (inr (inr t)) = absurd (true≢false (sym t ∙ b))
    by true a b (inr (inl t)) = absurd (true≢false (sym t ∙ b))
    by true a b (inr (inr t)) = absurd (true≢false (sym t ∙ a))

-- ---- places

pub place_there : (es : List Entry) (n : ℕ) (e : Entry) → slice_get es n ≡ Some e
    → place_in es n ≡ Some n
place_there es n e h =
    ap (λ b. if b then Some n else None) (lt-ltb n (length es) (get_inside es n e h))

-- the entry at a place in the list, where there is one
pub in_list : (es : List Entry) (n : ℕ) → entry_at es (place_in es n) ≡ slice_get es n
in_list es n = by (nat_lt n (length es)) refl (slice_get es n) refl
  where
    by : (b : Bool) → nat_lt n (length es) ≡ b → (o : Option Entry) → slice_get es n ≡ o
        → entry_at es (place_in es n) ≡ slice_get es n
    by true t o s = ap (λ c. entry_at es (if c then Some n else None)) t
    by false t None s = ap (λ c. entry_at es (if c then Some n else None)) t ∙ sym s
    by false t (Some e) s =
        absurd (true≢false (sym (lt-ltb n (length es) (get_inside es n e s)) ∙ t))

pub none_in_list : (es : List Entry) (n : ℕ) → slice_get es n ≡ None → place_in es n ≡ None
none_in_list es n h = by (nat_lt n (length es)) refl
  where
    by : (b : Bool) → nat_lt n (length es) ≡ b → place_in es n ≡ None
    by true t = let r = got es n (ltb-true n (length es) t) in cc (sym h ∙ r.1)
    by false t = ap (λ c. if c then Some n else None) t

-- ---- cuts

module _ (cut : Entry → Bool) where
  pub passed_true : (e : Entry) (es : List Entry) → cut e ≡ true
      → passed cut (e ∷ es) ≡ suc (passed cut es)
  passed_true e es h = ap (λ b. if b then suc (passed cut es) else 0) h

  pub passed_false : (e : Entry) (es : List Entry) → cut e ≡ false → passed cut (e ∷ es) ≡ 0
  passed_false e es h = ap (λ b. if b then suc (passed cut es) else 0) h

  -- no more than there are
  pub passed_low : (es : List Entry) → passed cut es ≤ length es
  passed_low [] = omega arith
  passed_low (e ∷ es) = by (cut e) refl (passed_low es)
    where
      by : (b : Bool) → cut e ≡ b → passed cut es ≤ length es
          → passed cut (e ∷ es) ≤ suc (length es)
      by true t h = let s = passed_true e es t in omega (arith, h, s)
      by false t h = let s = passed_false e es t in omega (arith, s)

  -- ---- going on

  ahead_edge : (key : Bytes) (number : ℕ) (es : List Entry) (e : Entry) → AscendFrom key number es
      → slice_get es (passed cut es) ≡ Some e → IsEdge false cut es e
  ahead_edge key number [] e h there = cc
  ahead_edge key number (y ∷ es) e h there =
      by (cut y) refl (λ deeper. ahead_edge y.key y.number es e h.2 deeper)
    where
      by : (b : Bool) → cut y ≡ b → (slice_get es (passed cut es) ≡ Some e → IsEdge false cut es e)
          → IsEdge false cut (y ∷ es) e
      by true t ih =
          let r = ih (ap (slice_get (y ∷ es)) (sym (passed_true y es t)) ∙ there) in
          record {
            among = inr r.among;
            side = r.side;
            first = λ x i f. elim i [
              | inl s ↦ absurd (true≢false (sym t ∙ subst (λ (z : Entry). cut z ≡ false) s f))
              | inr m ↦ r.first x m f
            ];
          }
      by false t ih =
          let same : y ≡ e =
          some_is y e (ap (slice_get (y ∷ es)) (sym (passed_false y es t)) ∙ there) in
          record {
            among = inl (sym same);
            side = subst (λ (z : Entry). cut z ≡ false) same t;
            first = λ x i f. elim i [
              | inl s ↦
                  subst (λ (z : Entry). entry_lt z e ≡ false) (sym (s ∙ same)) (entry_irrefl e)
              | inr m ↦
                  subst (λ (z : Entry). entry_lt x z ≡ false) same
                  (entry_asym y x (behind_first y x es h.2 m))
            ];
          }

  all_passed : (es : List Entry) → slice_get es (passed cut es) ≡ None → (x : Entry) → IsIn x es
      → cut x ≡ false → ⊥
  all_passed [] none x i f = absurd i
  all_passed (y ∷ es) none x i f = by (cut y) refl (λ deeper m. all_passed es deeper x m f)
    where
      by : (b : Bool) → cut y ≡ b → (slice_get es (passed cut es) ≡ None → IsIn x es → ⊥) → ⊥
      by true t ih = elim i [
        | inl s ↦ true≢false (sym t ∙ subst (λ (z : Entry). cut z ≡ false) s f)
        | inr m ↦ ih (ap (slice_get (y ∷ es)) (sym (passed_true y es t)) ∙ none) m
      ]
      by false t ih = cc (ap (slice_get (y ∷ es)) (sym (passed_false y es t)) ∙ none)

  -- ---- going back

  module _ (falls : Falls cut) where
    none_passed : (key : Bytes) (number : ℕ) (es : List Entry) → AscendFrom key number es
        → passed cut es ≡ 0 → (x : Entry) → IsIn x es → cut x ≡ true → ⊥
    none_passed key number [] h zero_is x i t = absurd i
    none_passed key number (y ∷ es) h zero_is x i t = by (cut y) refl
      where
        by : (b : Bool) → cut y ≡ b → ⊥
        by true c = let s = passed_true y es c in omega (arith, s, zero_is)
        by false c = elim i [
          | inl s ↦ true≢false (sym (subst (λ (z : Entry). cut z ≡ true) s t) ∙ c)
          | inr m ↦ true≢false
              (sym (falls y x (entry_asym y x (behind_first y x es h.2 m)) t) ∙ c)
        ]

    back_edge : (key : Bytes) (number : ℕ) (es : List Entry) (n : ℕ) (e : Entry)
        → AscendFrom key number es → passed cut es ≡ suc n → slice_get es n ≡ Some e
        → IsEdge true cut es e
    back_edge key number [] n e h is there = cc
    back_edge key number (y ∷ es) n e h is there =
        by (cut y) refl (λ m long got_it. back_edge y.key y.number es m e h.2 long got_it)
      where
        Deeper : Type 0
        Deeper = (m : ℕ) → passed cut es ≡ suc m → slice_get es m ≡ Some e → IsEdge true cut es e

        deeper : cut y ≡ true → passed cut es ≡ n
        deeper c = let s = passed_true y es c in omega (arith, s, is)

        at : (n : ℕ) → slice_get (y ∷ es) n ≡ Some e → cut y ≡ true → passed cut es ≡ n → Deeper
            → IsEdge true cut (y ∷ es) e
        at zero there c long ih =
            let same : y ≡ e = some_is y e there in
            record {
              among = inl (sym same);
              side = subst (λ (z : Entry). cut z ≡ true) same c;
              first = λ x i t. elim i [
                | inl s ↦
                    subst (λ (z : Entry). entry_lt e z ≡ false) (sym (s ∙ same)) (entry_irrefl e)
                | inr m ↦ absurd (none_passed y.key y.number es h.2 long x m t)
              ];
            }
        at (suc m) there c long ih =
            let r = ih m long there in
            record {
              among = inr r.among;
              side = r.side;
              first = λ x i t. elim i [
                | inl s ↦
                    subst (λ (z : Entry). entry_lt e z ≡ false) (sym s)
                    (entry_asym y e (behind_first y e es h.2 r.among))
                | inr o ↦ r.first x o t
              ];
            }

        by : (b : Bool) → cut y ≡ b → Deeper → IsEdge true cut (y ∷ es) e
        by true c ih = at n there c (deeper c) ih
        by false c ih = let s = passed_false y es c in absurd (omega (arith, s, is))

    -- ---- both

    -- where a cut leaves a walk there is the first entry on its side
    pub edge_at : (back : Bool) (es : List Entry) (e : Entry) → AreSorted es
        → entry_at es (beside back cut es) ≡ Some e → IsEdge back cut es e
    edge_at false es e sorted there =
        ahead_edge [] 0 es e sorted (sym (in_list es (passed cut es)) ∙ there)
    edge_at true es e sorted there = by (passed cut es) refl there
      where
        by : (n : ℕ) → passed cut es ≡ n → entry_at es (previous_place (Some n)) ≡ Some e
            → IsEdge true cut es e
        by zero is there = cc
        by (suc n) is there = back_edge [] 0 es n e sorted is there

    -- where it leaves a walk at no place there is none
    pub no_edge : (back : Bool) (es : List Entry) → AreSorted es
        → entry_at es (beside back cut es) ≡ None → (x : Entry) → IsIn x es → cut x ≡ back → ⊥
    no_edge false es sorted none x i f =
        all_passed es (sym (in_list es (passed cut es)) ∙ none) x i f
    no_edge true es sorted none x i t = by (passed cut es) refl none
      where
        by : (n : ℕ) → passed cut es ≡ n → entry_at es (previous_place (Some n)) ≡ None → ⊥
        by zero is none = none_passed [] 0 es sorted is x i t
        by (suc n) is none =
            let low = passed_low es in
            let r = got es n (omega (arith, low, is)) in
            cc (sym none ∙ r.1)

    pub none_beside : (back : Bool) (es : List Entry) → entry_at es (beside back cut es) ≡ None
        → beside back cut es ≡ None
    none_beside false es none =
        none_in_list es (passed cut es) (sym (in_list es (passed cut es)) ∙ none)
    none_beside true es none = by (passed cut es) refl none
      where
        by : (n : ℕ) → passed cut es ≡ n → entry_at es (previous_place (Some n)) ≡ None
            → previous_place (Some n) ≡ None
        by zero is none = refl
        by (suc n) is none =
            let low = passed_low es in
            let r = got es n (omega (arith, low, is)) in
            cc (sym none ∙ r.1)

    -- the first entry on its side is where a cut leaves a walk
    pub is_at_edge : (back : Bool) (es : List Entry) (e : Entry) → AreSorted es
        → IsEdge back cut es e
        → entry_at es (beside back cut es) ≡ Some e
    is_at_edge back es e sorted edge = by (entry_at es (beside back cut es)) refl
      where
        by : (o : Option Entry) → entry_at es (beside back cut es) ≡ o
            → entry_at es (beside back cut es) ≡ Some e
        by None none = absurd (no_edge back es sorted none e edge.among edge.side)
        by (Some h) some =
            let found = edge_at back es h sorted some in
            let same : h ≡ e = same_in back es h e sorted found.among edge.among
            (edge.first h found.among found.side) (found.first e edge.among edge.side) in
            some ∙ ap Some same
