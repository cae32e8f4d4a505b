-- Where a view's walk on begins.
use Rattle.std.proofs.Common.{◌≡◌, ℕ, suc, ◌<◌, ◌⊎◌, inl, inr, Bool, true, false, ◌&&◌, ◌||◌, List, [], ◌∷◌, Option, Some, None, length, drop, refl, sym, ap, ◌∙◌, subst, arith}
use Rattle.std.specs.Prelude.{if◌then◌else◌, slice_get, nat_lt, IfSome}
use Rattle.std.proofs.lemmas.Bool.{true≢false, false_from_ne_true, or_parts}
use Rattle.std.proofs.lemmas.Bool.Decides.{nat_tests}
use Rattle.peb_base.specs.Keys.{Bytes, key_lt, key_eq}
use Rattle.peb_base.specs.Cursors.{place_in, place_from, entry_at, first_place, next_place, StandsAmong}
use Rattle.peb_base.specs.Entries.{AreSorted, AscendFrom, comes_before, first_from}
use Rattle.peb_base.specs.EntryLaws.{before_trans}
use Rattle.peb_base.specs.KeyLaws.{same_key}
use Rattle.peb_base.specs.Members.{IsIn}
use Rattle.peb_base.specs.Sorting.{behind_first}
use Rattle.peb_base.specs.declared.cursor.Cursor.{Ghosts}
use Rattle.peb_base.specs.declared.entry.Entry.{Entry}
use Rattle.merge_iter.specs.CutLaws.{got}
use Rattle.merge_iter.specs.Seeing.{puts, is_passed, key_of, seen, visible, rest, IsAhead, Sees}
use Rattle.merge_iter.specs.StandLaws.{Among}
use Rattle.merge_iter.proofs.Going.{seen_in, seen_passed, seen_deleted, seen_put, behind_seen, rest_in, none_past}

-- ---- at the first entry

pub first_ahead : (n : ℕ) (es : List Entry) → IsAhead n [] es (first_place es) 0
first_ahead n es = ap (seen n []) (rest_in es 0)

-- ---- behind a visible entry

pub next_ahead : {C : Type 0} (g : Ghosts C) → Among g → (n : ℕ) (key : Bytes) (c : C) (es : List Entry)
    (place : Option ℕ) → (s : Sees g n c es place)
    → (p : ℕ) × IsAhead n (key_of key (g.shows c)) es (next_place es s.at) p
    × (place_in (visible n es) p ≡ next_place (visible n es) place)
next_ahead g among n key c es place s = by place s.at s.same s.inside st.inside st.shows
  where
    st : StandsAmong es s.at (g.shows c)
    st = among c es s.at s.stands

    vs : List Entry
    vs = visible n es

    past : (xs : List Entry) → place_in xs (length xs) ≡ None
    past xs = let same : nat_lt (length xs) (length xs) ≡ false = grind (arith, nat_tests) in
        ap (λ b. if b then Some (length xs) else None) same

    by : (place at : Option ℕ) → entry_at vs place ≡ entry_at es at → IfSome place (λ p. p < length vs)
        → IfSome at (λ k. k < length es) → g.shows c ≡ entry_at es at
        → (p : ℕ) × IsAhead n (key_of key (g.shows c)) es (next_place es at) p
        × (place_in vs p ≡ next_place vs place)
    by None None same inside within shown =
        (length vs, sym (none_past vs (length vs) (omega arith)), past vs)
    by None (Some k) same inside within shown = let r = got es k within in cc (same ∙ r.1)
    by (Some p) None same inside within shown = let r = got vs p inside in cc (sym same ∙ r.1)
    by (Some p) (Some k) same inside within shown =
        let r = got vs p inside in
        let at : slice_get es k ≡ Some r.0 = sym same ∙ r.1 in (
          suc p,
          ap (λ o. seen n (key_of key o) (rest es (place_in es (suc k)))) (shown ∙ at)
              ∙ ap (seen n r.0.key) (rest_in es (suc k))
              ∙ behind_seen n [] 0 [] es k p r.0 st.sorted at r.1,
          refl,
        )

-- ---- at a key

seen_same : (n : ℕ) (key other : Bytes) (es : List Entry)
    → ((x : Entry) → IsIn x es → key_eq x.key key ≡ false)
    → ((x : Entry) → IsIn x es → key_eq x.key other ≡ false) → seen n key es ≡ seen n other es
seen_same n key other [] a b = refl
seen_same n key other (y ∷ es) a b =
    ap (λ t. if t then seen n key es else if puts y.change then y ∷ seen n y.key es else seen n y.key es)
    same
    ∙ ap (λ vs. if is_passed n other y then vs
    else if puts y.change then y ∷ seen n y.key es else seen n y.key es)
    (seen_same n key other es (λ x i. a x (inr i)) (λ x i. b x (inr i)))
  where
    same : is_passed n key y ≡ is_passed n other y
    same = ap (λ t. nat_lt n y.number || t) (a y (inl refl) ∙ sym (b y (inl refl)))

pub no_empty : (from : Bytes) (number : ℕ) (es : List Entry) → AscendFrom from number es → (x : Entry)
    → IsIn x es → key_eq x.key [] ≡ false
no_empty from number [] h x i = absurd i
no_empty from number (y ∷ es) h x i = elim i [
  | inl s ↦ subst (λ (z : Entry). key_eq z.key [] ≡ false) (sym s) (some y.key h.0.some)
  | inr m ↦ no_empty y.key y.number es h.2 x m
]
  where
    some : (key : Bytes) → 0 < length key → key_eq key [] ≡ false
    some [] h = absurd (omega (arith, h))
    some (b ∷ bs) h = refl

none_first : (key : Bytes) (n : ℕ) (vs : List Entry)
    → ((x : Entry) → IsIn x vs → comes_before x.key x.number key n ≡ false) → first_from key n vs ≡ 0
none_first key n [] h = refl
none_first key n (x ∷ vs) h = ap (λ b. if b then suc (first_from key n vs) else 0) (h x (inl refl))

seek_seen : (n : ℕ) (key : Bytes) (from : Bytes) (number : ℕ) (kept : Bytes) (es : List Entry)
    → AscendFrom from number es
    → ((x : Entry) → IsIn x es → comes_before x.key x.number key n ≡ false → key_eq x.key kept ≡ false)
    → seen n [] (drop (first_from key n es) es)
    ≡ drop (first_from key n (seen n kept es)) (seen n kept es)
seek_seen n key from number kept [] h other = refl
seek_seen n key from number kept (y ∷ es) h other =
    by (comes_before y.key y.number key n) refl (is_passed n kept y) refl (puts y.change) refl
    (λ k o. seek_seen n key y.key y.number k es h.2 o)
  where
    Deeper : Type 0
    Deeper = (k : Bytes)
        → ((x : Entry) → IsIn x es → comes_before x.key x.number key n ≡ false → key_eq x.key k ≡ false)
        → seen n [] (drop (first_from key n es) es) ≡ drop (first_from key n (seen n k es)) (seen n k es)

    To : List Entry → Type 0
    To vs = seen n [] (drop (first_from key n (y ∷ es)) (y ∷ es)) ≡ drop (first_from key n vs) vs

    first_is : (b : Bool) → comes_before y.key y.number key n ≡ b
        → first_from key n (y ∷ es) ≡ (if b then suc (first_from key n es) else 0)
    first_is b t = ap (λ c. if c then suc (first_from key n es) else 0) t

    over : comes_before y.key y.number key n ≡ true
        → seen n [] (drop (first_from key n (y ∷ es)) (y ∷ es)) ≡ seen n [] (drop (first_from key n es) es)
    over t = ap (λ m. seen n [] (drop m (y ∷ es))) (first_is true t)

    older : comes_before y.key y.number key n ≡ true → is_passed n kept y ≡ false → (x : Entry)
        → IsIn x es → comes_before x.key x.number key n ≡ false → key_eq x.key y.key ≡ false
    older t p x i late =
        false_from_ne_true (key_eq x.key y.key)
        (λ same. true≢false (sym (before x.key (same_key x.key y.key same))
        ∙ (or_parts (key_lt x.key key) _ late).0))
      where
        low : key_lt y.key key ≡ true
        low = by_parts (key_lt y.key key) (key_eq y.key key)
            (sym (ap (λ b. key_lt y.key key || (key_eq y.key key && b)) (or_parts (nat_lt n y.number) _ p).0) ∙ t)
          where
            by_parts : (a b : Bool) → (a || (b && false)) ≡ true → a ≡ true
            by_parts true b h = refl
            by_parts false true h = h
            by_parts false false h = h

        before : (k : Bytes) → k ≡ y.key → key_lt k key ≡ true
        before k same = ap (λ j. key_lt j key) same ∙ low

    late_all : comes_before y.key y.number key n ≡ false → (x : Entry) → (x ≡ y) ⊎ IsIn x es
        → comes_before x.key x.number key n ≡ false
    late_all f x (inl s) = subst (λ (z : Entry). comes_before z.key z.number key n ≡ false) (sym s) f
    late_all f x (inr m) =
        false_from_ne_true (comes_before x.key x.number key n)
        (λ t. true≢false
        (sym (before_trans y.key y.number x.key x.number key n (behind_first y x es h.2 m) t) ∙ f))

    by : (b : Bool) → comes_before y.key y.number key n ≡ b → (p : Bool) → is_passed n kept y ≡ p
        → (d : Bool) → puts y.change ≡ d → Deeper → To (seen n kept (y ∷ es))
    by true t true p d e ih =
        subst To (sym (seen_passed n kept y es p)) (over t ∙ ih kept (λ x i. other x (inr i)))
    by true t false p false e ih =
        subst To (sym (seen_deleted n kept y es p e)) (over t ∙ ih y.key (older t p))
    by true t false p true e ih =
        subst To (sym (seen_put n kept y es p e))
        (over t ∙ ih y.key (older t p)
        ∙ ap (λ b. drop (if b then suc (first_from key n (seen n y.key es)) else 0) (y ∷ seen n y.key es)) (sym t))
    by false f p q d e ih =
        ap (λ m. seen n [] (drop m (y ∷ es))) (first_is false f)
        ∙ seen_same n [] kept (y ∷ es) (no_empty from number (y ∷ es) h)
        (λ x i. other x i (late_all f x i))
        ∙ ap (λ m. drop m (seen n kept (y ∷ es)))
        (sym (none_first key n (seen n kept (y ∷ es))
        (λ x i. late_all f x (seen_in n kept (y ∷ es) x i))))

pub seek_ahead : (n : ℕ) (key : Bytes) (es : List Entry) → AreSorted es
    → IsAhead n [] es (place_from key n es) (first_from key n (visible n es))
seek_ahead n key es sorted =
    ap (seen n []) (rest_in es (first_from key n es))
    ∙ seek_seen n key [] 0 [] es sorted (λ x i late. no_empty [] 0 es sorted x i)
