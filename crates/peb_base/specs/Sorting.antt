-- Entries put in order, one after another or all at once.
use Rattle.std.proofs.Common.{◌≡◌, ℕ, Bool, true, false, cond, List, [], ◌∷◌, ◌++◌, ◌⊎◌, inl, inr, refl, sym, ap, ◌∙◌, subst}
use Rattle.std.specs.Prelude.{◌↔◌}
use Rattle.std.specs.List.{AllByRecursion}
use Rattle.std.proofs.lemmas.Bool.{true≢false}
use Rattle.peb_base.specs.Keys.{Bytes}
use Rattle.peb_base.specs.Entries.{comes_before, entry_lt, put_in, in_order, IsEntry, AscendFrom, AreSorted}
use Rattle.peb_base.specs.EntryLaws.{entry_asym, entry_irrefl, entry_trans, after_none}
use Rattle.peb_base.specs.Members.{IsIn}
use Rattle.peb_base.specs.declared.entry.Entry.{Entry}

-- the entry comes before or after each of these
abbrev pub IsApart : Entry → List Entry → Type 0
IsApart e es = AllByRecursion (λ f. (entry_lt e f ≡ true) ⊎ (entry_lt f e ≡ true)) es

-- entries within their limits, of each two of which one comes before the other
abbrev pub Differ : List Entry → Type 0
Differ [] = Unit {0}
Differ (e ∷ es) = IsEntry e × IsApart e es × Differ es

-- ---- one entry after another

swap_before : (a b : Entry) (es : List Entry) → entry_lt a b ≡ true
    → put_in a (put_in b es) ≡ put_in b (put_in a es)
swap_before a b [] lt = ap (λ c. cond c (a ∷ b ∷ []) (b ∷ a ∷ [])) lt
    ∙ sym (ap (λ c. cond c (b ∷ a ∷ []) (a ∷ b ∷ [])) (entry_asym a b lt))
swap_before a b (f ∷ fs) lt = by (entry_lt a f) (entry_lt b f) refl refl (swap_before a b fs lt)
  where
    none : entry_lt b a ≡ false
    none = entry_asym a b lt

    by : (c d : Bool) → entry_lt a f ≡ c → entry_lt b f ≡ d
        → put_in a (put_in b fs) ≡ put_in b (put_in a fs)
        → put_in a (put_in b (f ∷ fs)) ≡ put_in b (put_in a (f ∷ fs))
    by true true af bf rest =
        ap (put_in a) (ap (λ c. cond c (b ∷ f ∷ fs) (f ∷ put_in b fs)) bf)
        ∙ ap (λ c. cond c (a ∷ b ∷ f ∷ fs) (b ∷ put_in a (f ∷ fs))) lt
        ∙ sym (ap (put_in b) (ap (λ c. cond c (a ∷ f ∷ fs) (f ∷ put_in a fs)) af)
        ∙ ap (λ c. cond c (b ∷ a ∷ f ∷ fs) (a ∷ put_in b (f ∷ fs))) none
        ∙ ap (λ es. a ∷ es) (ap (λ c. cond c (b ∷ f ∷ fs) (f ∷ put_in b fs)) bf))
    by true false af bf rest =
        ap (put_in a) (ap (λ c. cond c (b ∷ f ∷ fs) (f ∷ put_in b fs)) bf)
        ∙ ap (λ c. cond c (a ∷ f ∷ put_in b fs) (f ∷ put_in a (put_in b fs))) af
        ∙ sym (ap (put_in b) (ap (λ c. cond c (a ∷ f ∷ fs) (f ∷ put_in a fs)) af)
        ∙ ap (λ c. cond c (b ∷ a ∷ f ∷ fs) (a ∷ put_in b (f ∷ fs))) none
        ∙ ap (λ es. a ∷ es) (ap (λ c. cond c (b ∷ f ∷ fs) (f ∷ put_in b fs)) bf))
    by false true af bf rest = absurd (true≢false (sym (entry_trans a b f lt bf) ∙ af))
    by false false af bf rest =
        ap (put_in a) (ap (λ c. cond c (b ∷ f ∷ fs) (f ∷ put_in b fs)) bf)
        ∙ ap (λ c. cond c (a ∷ f ∷ put_in b fs) (f ∷ put_in a (put_in b fs))) af
        ∙ ap (λ es. f ∷ es) rest
        ∙ sym (ap (put_in b) (ap (λ c. cond c (a ∷ f ∷ fs) (f ∷ put_in a fs)) af)
        ∙ ap (λ c. cond c (b ∷ f ∷ put_in a fs) (f ∷ put_in b (put_in a fs))) bf)

-- two entries that differ in key or number may be put in either order
pub put_either : (a b : Entry) (es : List Entry) → (entry_lt a b ≡ true) ⊎ (entry_lt b a ≡ true)
    → put_in a (put_in b es) ≡ put_in b (put_in a es)
put_either a b es (inl lt) = swap_before a b es lt
put_either a b es (inr lt) = sym (swap_before b a es lt)

-- one entry more, which is apart from the others, is put in its place
pub in_order_push : (es : List Entry) (e : Entry) → IsApart e es
    → in_order (es ++ e ∷ []) ≡ put_in e (in_order es)
in_order_push [] e apart = refl
in_order_push (f ∷ fs) e apart =
    ap (put_in f) (in_order_push fs e apart.1) ∙ put_either f e (in_order fs) (turned apart.0)
  where
    turned : (entry_lt e f ≡ true) ⊎ (entry_lt f e ≡ true) → (entry_lt f e ≡ true)
        ⊎ (entry_lt e f ≡ true)
    turned (inl lt) = inr lt
    turned (inr lt) = inl lt

-- an entry in front of all is put in front
pub put_first : (e : Entry) (es : List Entry) → AscendFrom e.key e.number es → put_in e es ≡ e ∷ es
put_first e [] h = refl
put_first e (f ∷ fs) h = ap (λ c. cond c (e ∷ f ∷ fs) (f ∷ put_in e fs)) h.1

sorted_from : (k : Bytes) (n : ℕ) (es : List Entry) → AscendFrom k n es → in_order es ≡ es
sorted_from k n [] sorted = refl
sorted_from k n (e ∷ es) sorted =
    ap (put_in e) (sorted_from e.key e.number es sorted.2) ∙ put_first e es sorted.2

-- sorted entries are in order
pub sorted_is_in_order : (es : List Entry) → AreSorted es → in_order es ≡ es
sorted_is_in_order es sorted = sorted_from [] 0 es sorted

-- ---- which entries are in order

pub in_put : (x e : Entry) (es : List Entry) → IsIn x (put_in e es) → (x ≡ e) ⊎ IsIn x es
in_put x e [] h = h
in_put x e (f ∷ fs) h = by (entry_lt e f) h (in_put x e fs)
  where
    by : (b : Bool) → IsIn x (cond b (e ∷ f ∷ fs) (f ∷ put_in e fs))
        → (IsIn x (put_in e fs) → (x ≡ e) ⊎ IsIn x fs) → (x ≡ e) ⊎ ((x ≡ f) ⊎ IsIn x fs)
    by true h ih = h
    by false h ih = elim h [
      | inl s ↦ inr (inl s)
      | inr r ↦
          elim (ih r) [ inl a ↦ inl a | inr b ↦ inr (inr b) ]
    ]

pub put_has : (x e : Entry) (es : List Entry) → (x ≡ e) ⊎ IsIn x es → IsIn x (put_in e es)
put_has x e [] h = h
put_has x e (f ∷ fs) h = by (entry_lt e f) h (put_has x e fs)
  where
    by : (b : Bool) → (x ≡ e) ⊎ ((x ≡ f) ⊎ IsIn x fs) → ((x ≡ e) ⊎ IsIn x fs → IsIn x (put_in e fs))
        → IsIn x (cond b (e ∷ f ∷ fs) (f ∷ put_in e fs))
    by true h ih = h
    by false (inl s) ih = inr (ih (inl s))
    by false (inr (inl s)) ih = inl s
    by false (inr (inr r)) ih = inr (ih (inr r))

-- what is put in order is what was there
pub in_sorted : (x : Entry) (es : List Entry) → IsIn x (in_order es) → IsIn x es
in_sorted x [] h = h
in_sorted x (e ∷ es) h =
    elim (in_put x e (in_order es) h) [ inl s ↦ inl s | inr r ↦ inr (in_sorted x es r) ]

pub sorted_has : (x : Entry) (es : List Entry) → IsIn x es → IsIn x (in_order es)
sorted_has x [] h = h
sorted_has x (e ∷ es) h =
    put_has x e (in_order es) (elim h [ inl s ↦ inl s | inr r ↦ inr (sorted_has x es r) ])

-- every entry behind the first one comes after it
pub behind_first : (e x : Entry) (es : List Entry) → AscendFrom e.key e.number es → IsIn x es
    → entry_lt e x ≡ true
behind_first e x [] h i = absurd i
behind_first e x (y ∷ es) h i = elim i [
  | inl s ↦ subst (λ (z : Entry). entry_lt e z ≡ true) (sym s) h.1
  | inr r ↦ entry_trans e y x h.1 (behind_first y x es h.2 r)
]

-- ---- one order

apart_from : (e : Entry) (xs : List Entry) → IsApart e xs → (x : Entry) → IsIn x xs
    → (entry_lt e x ≡ true) ⊎ (entry_lt x e ≡ true)
apart_from e [] h x i = absurd i
apart_from e (y ∷ xs) h x i = elim i [
  | inl s ↦ subst (λ (z : Entry). (entry_lt e z ≡ true) ⊎ (entry_lt z e ≡ true)) (sym s) h.0
  | inr r ↦ apart_from e xs h.1 x r
]

put_from : (k : Bytes) (n : ℕ) (e : Entry) (es : List Entry) → IsEntry e
    → comes_before k n e.key e.number ≡ true → AscendFrom k n es
    → ((x : Entry) → IsIn x es → (entry_lt e x ≡ true) ⊎ (entry_lt x e ≡ true))
    → AscendFrom k n (put_in e es)
put_from k n e [] entry after h apart = (entry, after, tt)
put_from k n e (f ∷ fs) entry after h apart =
    by (entry_lt e f) refl
    (λ later. put_from f.key f.number e fs entry later h.2 (λ x i. apart x (inr i)))
  where
    by : (b : Bool) → entry_lt e f ≡ b
        → (comes_before f.key f.number e.key e.number ≡ true
        → AscendFrom f.key f.number (put_in e fs))
        → AscendFrom k n (cond b (e ∷ f ∷ fs) (f ∷ put_in e fs))
    by true lt ih = (entry, after, (h.0, lt, h.2))
    by false ge ih = (
      h.0,
      h.1,
      ih (elim (apart f (inl refl)) [ inl lt ↦ absurd (true≢false (sym lt ∙ ge)) | inr gt ↦ gt ]),
    )

-- an entry that is apart from sorted ones leaves them sorted at its place
pub put_sorted : (e : Entry) (es : List Entry) → IsEntry e → AreSorted es → IsApart e es
    → AreSorted (put_in e es)
put_sorted e es entry sorted apart =
    put_from [] 0 e es entry (after_none e entry) sorted (apart_from e es apart)

-- entries that differ are sorted once they are in order
pub order_sorts : (xs : List Entry) → Differ xs → AreSorted (in_order xs)
order_sorts [] d = tt
order_sorts (e ∷ xs) d =
    put_from [] 0 e (in_order xs) d.0 (after_none e d.0) (order_sorts xs d.2)
    (λ x i. apart_from e xs d.1 x (in_sorted x xs i))

same_lists : (k : Bytes) (n : ℕ) (l : Bytes) (m : ℕ) (es fs : List Entry) → AscendFrom k n es
    → AscendFrom l m fs → ((x : Entry) → IsIn x es → IsIn x fs)
    → ((x : Entry) → IsIn x fs → IsIn x es) → es ≡ fs
same_lists k n l m [] [] h g to from = refl
same_lists k n l m [] (f ∷ fs) h g to from = absurd (from f (inl refl))
same_lists k n l m (e ∷ es) [] h g to from = absurd (to e (inl refl))
same_lists k n l m (e ∷ es) (f ∷ fs) h g to from =
    let same : e ≡ f = first (to e (inl refl)) (from f (inl refl)) in
    let rest : es ≡ fs =
    same_lists e.key e.number f.key f.number es fs h.2 g.2
    (λ x i. drop_first x e f fs (behind_first e x es h.2 i) same (to x (inr i)))
    (λ x i. drop_first x f e es (behind_first f x fs g.2 i) (sym same) (from x (inr i))) in
    λ i. same i ∷ rest i
  where
    never_both : (a b : Entry) → entry_lt a b ≡ true → entry_lt b a ≡ true → ⊥
    never_both a b h g = true≢false (sym g ∙ entry_asym a b h)

    first : (e ≡ f) ⊎ IsIn e fs → (f ≡ e) ⊎ IsIn f es → e ≡ f
    first (inl s) b = s
    first (inr a) (inl s) = sym s
    first (inr a) (inr b) =
        absurd (never_both f e (behind_first f e fs g.2 a) (behind_first e f es h.2 b))

    drop_first : (x a b : Entry) (rest : List Entry) → entry_lt a x ≡ true → a ≡ b → (x ≡ b)
        ⊎ IsIn x rest → IsIn x rest
    drop_first x a b rest lt s (inl t) =
        absurd (true≢false
        (sym (subst (λ (z : Entry). entry_lt a z ≡ true) (t ∙ sym s) lt) ∙ entry_irrefl a))
    drop_first x a b rest lt s (inr r) = r

-- two sorted lists of the same entries are one
pub same_sorted : (es fs : List Entry) → AreSorted es → AreSorted fs
    → ((x : Entry) → IsIn x es ↔ IsIn x fs) → es ≡ fs
same_sorted es fs h g same = same_lists [] 0 [] 0 es fs h g (λ x. (same x).0) (λ x. (same x).1)

-- sorted entries are those of a list that differ, in order
pub one_order : (es xs : List Entry) → AreSorted es → Differ xs
    → ((x : Entry) → IsIn x es ↔ IsIn x xs) → es ≡ in_order xs
one_order es xs sorted differ same =
    same_lists [] 0 [] 0 es (in_order xs) sorted (order_sorts xs differ)
    (λ x i. sorted_has x xs ((same x).0 i)) (λ x i. (same x).1 (in_sorted x xs i))
