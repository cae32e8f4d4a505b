-- Elements of lists, and tests of each or some of them.
use Rattle.std.proofs.Common.{◌≡◌, Bool, true, false, cond, ◌&&◌, ◌||◌, List, [], ◌∷◌, ◌++◌, ◌⊎◌, inl, inr, refl, sym, ◌∙◌, ap, subst}
use Rattle.std.specs.Prelude.{filter, flat_map, ⊤}
use Rattle.std.specs.List.{list_any, list_all}
use Rattle.std.proofs.lemmas.Bool.{and_parts, and_from, or_parts, or_cases, true≢false, false≢true}
use Rattle.peb_base.specs.Members.{IsIn}

pub in_filter : {X : Type 0} (p : X → Bool) (x : X) (xs : List X) → IsIn x (filter p xs) → IsIn x xs × (p x ≡ true)
in_filter p x [] h = absurd h
in_filter {X} p x (y ∷ ys) h = by (p y) refl h (in_filter p x ys)
  where
    by : (b : Bool) → p y ≡ b → IsIn x (cond b (y ∷ filter p ys) (filter p ys)) → (IsIn x (filter p ys) → IsIn x ys × (p x ≡ true)) → ((x ≡ y) ⊎ IsIn x ys) × (p x ≡ true)
    by true e h ih = elim h [ inl s ↦ (inl s, ap p s ∙ e) | inr r ↦ (inr (ih r).0, (ih r).1) ]
    by false e h ih = (inr (ih h).0, (ih h).1)

pub in_append : {X : Type 0} (x : X) (xs ys : List X) → IsIn x (xs ++ ys) → IsIn x xs ⊎ IsIn x ys
in_append x [] ys h = inr h
in_append x (y ∷ xs) ys h = elim h [
  | inl s ↦ inl (inl s)
  | inr r ↦ elim (in_append x xs ys r) [ inl a ↦ inl (inr a) | inr b ↦ inr b ]
]

pub in_flat : {X Y : Type 0} (g : X → List Y) (y : Y) (xs : List X) → IsIn y (flat_map g xs) → (x : X) × IsIn x xs × IsIn y (g x)
in_flat g y [] h = absurd h
in_flat g y (x ∷ xs) h = elim (in_append y (g x) (flat_map g xs) h) [
  | inl a ↦ (x, inl refl, a)
  | inr b ↦ let r = in_flat g y xs b in (r.0, inr r.1, r.2)
]

-- what holds of each element, by recursion
abbrev pub Each : {X : Type 0} → (X → Type 0) → List X → Type 0
Each P [] = ⊤
Each P (x ∷ xs) = P x × Each P xs

pub all_in : {X : Type 0} (p : X → Bool) (x : X) (xs : List X) → list_all p xs ≡ true → IsIn x xs → p x ≡ true
all_in p x [] h i = absurd i
all_in p x (y ∷ ys) h i =
    let a = and_parts (p y) (list_all p ys) h in
    elim i [ inl s ↦ ap p s ∙ a.0 | inr r ↦ all_in p x ys a.1 r ]

pub any_in : {X : Type 0} (p : X → Bool) (xs : List X) → list_any p xs ≡ true → (x : X) × IsIn x xs × (p x ≡ true)
any_in p [] h = absurd (false≢true h)
any_in p (x ∷ xs) h = elim (or_cases (p x) (list_any p xs) h) [
  | inl s ↦ (x, inl refl, s)
  | inr r ↦ let y = any_in p xs r in (y.0, inr y.1, y.2)
]

pub in_any : {X : Type 0} (p : X → Bool) (x : X) (xs : List X) → IsIn x xs → p x ≡ true → list_any p xs ≡ true
in_any p x [] i h = absurd i
in_any p x (y ∷ ys) i h = by (p y) refl i (λ r. in_any p x ys r h)
  where
    by : (b : Bool) → p y ≡ b → (x ≡ y) ⊎ IsIn x ys → (IsIn x ys → list_any p ys ≡ true) → (b || list_any p ys) ≡ true
    by true e i rest = refl
    by false e i rest = elim i [ inl s ↦ absurd (true≢false (sym h ∙ ap p s ∙ e)) | inr r ↦ rest r ]

pub in_left : {X : Type 0} (x : X) (xs ys : List X) → IsIn x xs → IsIn x (xs ++ ys)
in_left x [] ys h = absurd h
in_left x (a ∷ xs) ys h = elim h [ inl s ↦ inl s | inr r ↦ inr (in_left x xs ys r) ]

pub in_right : {X : Type 0} (x : X) (xs ys : List X) → IsIn x ys → IsIn x (xs ++ ys)
in_right x [] ys h = h
in_right x (a ∷ xs) ys h = inr (in_right x xs ys h)

pub list_all-weaker : {X : Type 0} (p q : X → Bool) (xs : List X) → ((x : X) → p x ≡ true → q x ≡ true) → list_all p xs ≡ true → list_all q xs ≡ true
list_all-weaker p q [] w h = refl
list_all-weaker p q (x ∷ xs) w h =
    let a = and_parts (p x) (list_all p xs) h in and_from (q x) (list_all q xs) (w x a.0) (list_all-weaker p q xs w a.1)

pub in_kept : {X : Type 0} (p : X → Bool) (x : X) (xs : List X) → IsIn x xs → p x ≡ true → IsIn x (filter p xs)
in_kept p x [] h e = absurd h
in_kept {X} p x (y ∷ ys) h e = elim h [ inl s ↦ by (p y) (sym (ap p s) ∙ e) s | inr r ↦ more (p y) (in_kept p x ys r e) ]
  where
    by : (b : Bool) → b ≡ true → x ≡ y → IsIn x (cond b (y ∷ filter p ys) (filter p ys))
    by true f s = inl s
    by false f s = absurd (false≢true f)

    more : (b : Bool) → IsIn x (filter p ys) → IsIn x (cond b (y ∷ filter p ys) (filter p ys))
    more true r = inr r
    more false r = r

pub each_in : {X : Type 0} (P : X → Type 0) (x : X) (xs : List X) → Each P xs → IsIn x xs → P x
each_in P x [] h i = absurd i
each_in P x (y ∷ ys) h i = elim i [ inl s ↦ subst P (sym s) h.0 | inr r ↦ each_in P x ys h.1 r ]

pub each-filter : {X : Type 0} (P : X → Type 0) (p : X → Bool) (xs : List X) → Each P xs → Each P (filter p xs)
each-filter P p [] h = tt
each-filter {X} P p (x ∷ xs) h = by (p x) (each-filter P p xs h.1)
  where
    by : (b : Bool) → Each P (filter p xs) → Each P (cond b (x ∷ filter p xs) (filter p xs))
    by true r = (h.0, r)
    by false r = r

-- R holds of each element and every one behind it
abbrev pub EachBefore : {X : Type 0} → (X → X → Type 0) → List X → Type 0
EachBefore R [] = ⊤
EachBefore {X} R (x ∷ xs) = ((y : X) → IsIn y xs → R x y) × EachBefore R xs

pub each_before-filter : {X : Type 0} (R : X → X → Type 0) (p : X → Bool) (xs : List X) → EachBefore R xs
    → EachBefore R (filter p xs)
each_before-filter R p [] h = tt
each_before-filter {X} R p (x ∷ xs) h = by (p x) (each_before-filter R p xs h.1)
  where
    by : (b : Bool) → EachBefore R (filter p xs) → EachBefore R (cond b (x ∷ filter p xs) (filter p xs))
    by true r = ((λ y i. h.0 y (in_filter p y xs i).0), r)
    by false r = r

pub each-append : {X : Type 0} (P : X → Type 0) (xs ys : List X) → Each P xs → Each P ys → Each P (xs ++ ys)
each-append P [] ys h g = g
each-append P (x ∷ xs) ys h g = (h.0, each-append P xs ys h.1 g)

pub each_pass : {X : Type 0} (p : X → Bool) (xs : List X) → list_all p xs ≡ true → Each (λ x. p x ≡ true) xs
each_pass p [] h = tt
each_pass p (x ∷ xs) h = let a = and_parts (p x) (list_all p xs) h in (a.0, each_pass p xs a.1)

pub each_both : {X : Type 0} (P Q R : X → Type 0) (xs : List X) → ((x : X) → P x → Q x → R x) → Each P xs → Each Q xs → Each R xs
each_both P Q R [] w h g = tt
each_both P Q R (x ∷ xs) w h g = (w x h.0 g.0, each_both P Q R xs w h.1 g.1)

pub each_weaker : {X : Type 0} (P Q : X → Type 0) (xs : List X) → ((x : X) → P x → Q x) → Each P xs → Each Q xs
each_weaker P Q [] w h = tt
each_weaker P Q (x ∷ xs) w h = (w x h.0, each_weaker P Q xs w h.1)

pub any_none : {X : Type 0} (p : X → Bool) (x : X) (xs : List X) → list_any p xs ≡ false → IsIn x xs → p x ≡ false
any_none p x [] h i = absurd i
any_none p x (y ∷ ys) h i =
    let a = or_parts (p y) (list_any p ys) h in
    elim i [ inl s ↦ ap p s ∙ a.0 | inr r ↦ any_none p x ys a.1 r ]

pub none_any : {X : Type 0} (p : X → Bool) (xs : List X) → ((x : X) → IsIn x xs → p x ≡ false) → list_any p xs ≡ false
none_any p [] h = refl
none_any p (x ∷ xs) h = rw (h x (inl refl)) (none_any p xs (λ y i. h y (inr i)))

pub split_all : {X : Type 0} (p q : X → Bool) (xs : List X) → list_all (λ x. p x && q x) xs ≡ true → (list_all p xs ≡ true) × (list_all q xs ≡ true)
split_all p q [] h = (refl, refl)
split_all p q (x ∷ xs) h =
    let a = and_parts (p x && q x) _ h in
    let b = and_parts (p x) (q x) a.0 in
    let r = split_all p q xs a.1 in
    (and_from _ _ b.0 r.0, and_from _ _ b.1 r.1)

pub filter_all : {X : Type 0} (p : X → Bool) (xs : List X) → ((x : X) → IsIn x xs → p x ≡ true) → filter p xs ≡ xs
filter_all p [] h = refl
filter_all p (x ∷ xs) h = rw (h x (inl refl)) (ap (λ ys. x ∷ ys) (filter_all p xs (λ y i. h y (inr i))))

pub all_of : {X : Type 0} (p : X → Bool) (xs : List X) → ((x : X) → IsIn x xs → p x ≡ true) → list_all p xs ≡ true
all_of p [] h = refl
all_of p (x ∷ xs) h = and_from _ _ (h x (inl refl)) (all_of p xs (λ y i. h y (inr i)))

pub filter_no : {X : Type 0} (p : X → Bool) (xs : List X) → ((x : X) → IsIn x xs → p x ≡ false) → filter p xs ≡ []
filter_no p [] h = refl
filter_no p (x ∷ xs) h = rw (h x (inl refl)) (filter_no p xs (λ y i. h y (inr i)))

-- a filter that passes what another one passes changes nothing beneath it
pub filter_under : {X : Type 0} (p q : X → Bool) (xs : List X) → ((x : X) → IsIn x xs → p x ≡ true → q x ≡ true) → filter p (filter q xs) ≡ filter p xs
filter_under p q [] h = refl
filter_under {X} p q (x ∷ xs) h = by (q x) (p x) refl refl (filter_under p q xs (λ y i. h y (inr i)))
  where
    by : (a b : Bool) → q x ≡ a → p x ≡ b → filter p (filter q xs) ≡ filter p xs → filter p (cond a (x ∷ filter q xs) (filter q xs)) ≡ cond b (x ∷ filter p xs) (filter p xs)
    by true true e f ih = rw f (ap (λ ys. x ∷ ys) ih)
    by true false e f ih = rw f ih
    by false false e f ih = ih
    by false true e f ih = absurd (true≢false (sym (h x (inl refl) f) ∙ e))
