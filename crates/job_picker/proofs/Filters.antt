-- Lists that tests leave.
use Rattle.std.proofs.Common.{◌≡◌, Bool, true, false, ◌&&◌, ◌||◌, cond, List, [], ◌∷◌, ◌++◌, map, refl, sym, ap, ◌∙◌, inl, inr}
use Rattle.std.specs.Prelude.{filter, find, Some, None}
use Rattle.std.proofs.lemmas.Bool.{and_parts, and_from}
use Rattle.peb_base.specs.Guards.{Ascend}
use Rattle.peb_base.specs.Keys.{Bytes, key_lt, key_eq}
use Rattle.peb_base.specs.KeyLaws.{lt_le_weak, same_key}
use Rattle.peb_base.specs.Members.{IsIn}
use Rattle.flsm_model.specs.Fits.{is_some_list}
use Rattle.flsm_model.specs.Ranges.{has_key, keys_ascend}
use Rattle.job_picker.proofs.KeyPlaces.{ascend_from}

-- tests that agree on the list leave the same
pub filter_same : {X : Type 0} (p q : X → Bool) (xs : List X) → ((x : X) → IsIn x xs → p x ≡ q x) → filter p xs ≡ filter q xs
filter_same p q [] same = refl
filter_same p q (x ∷ xs) same =
    ap (λ b. cond b (x ∷ filter p xs) (filter p xs)) (same x (inl refl)) ∙ ap (λ ys. cond (q x) (x ∷ ys) ys) (filter_same p q xs (λ y h. same y (inr h)))

-- two tests, one after the other
pub filter_both : {X : Type 0} (p q : X → Bool) (xs : List X) → filter p (filter q xs) ≡ filter (λ x. q x && p x) xs
filter_both p q [] = refl
filter_both {X} p q (x ∷ xs) = by (q x) (filter_both p q xs)
  where
    by : (b : Bool) → filter p (filter q xs) ≡ filter (λ y. q y && p y) xs → filter p (cond b (x ∷ filter q xs) (filter q xs)) ≡ cond (b && p x) (x ∷ filter (λ y. q y && p y) xs) (filter (λ y. q y && p y) xs)
    by true rest = ap (λ ys. cond (p x) (x ∷ ys) ys) rest
    by false rest = rest

-- ---- ascending keys

-- ascending, by tests and by facts
up_tail : (k : Bytes) (ks : List Bytes) → keys_ascend (k ∷ ks) ≡ true → Ascend k ks
up_tail k [] up = tt
up_tail k (l ∷ ks) up = let parts = and_parts (key_lt k l) (keys_ascend (l ∷ ks)) up in (parts.0, up_tail l ks parts.1)

-- and back
tail_up : (k : Bytes) (ks : List Bytes) → Ascend k ks → keys_ascend (k ∷ ks) ≡ true
tail_up k [] up = refl
tail_up k (l ∷ ks) up = and_from (key_lt k l) (keys_ascend (l ∷ ks)) up.0 (tail_up l ks up.1)

-- from whatever bound
up_any : (low : Bytes) (ks : List Bytes) → Ascend low ks → keys_ascend ks ≡ true
up_any low [] up = refl
up_any low (k ∷ ks) up = tail_up k ks up.1

-- fewer keys ascend from the same bound
few_up : (p : Bytes → Bool) (low : Bytes) (ks : List Bytes) → Ascend low ks → Ascend low (filter p ks)
few_up p low [] up = tt
few_up p low (k ∷ ks) up = by (p k) (few_up p k ks up.1)
  where
    by : (b : Bool) → Ascend k (filter p ks) → Ascend low (cond b (k ∷ filter p ks) (filter p ks))
    by true rest = (up.0, rest)
    by false rest = ascend_from low k (filter p ks) (lt_le_weak low k up.0) rest

-- fewer keys ascend
pub few_ascend : (p : Bytes → Bool) (ks : List Bytes) → keys_ascend ks ≡ true → keys_ascend (filter p ks) ≡ true
few_ascend p [] up = refl
few_ascend p (k ∷ ks) up = by (p k) (few_up p k ks (up_tail k ks up))
  where
    by : (b : Bool) → Ascend k (filter p ks) → keys_ascend (cond b (k ∷ filter p ks) (filter p ks)) ≡ true
    by true rest = tail_up k (filter p ks) rest
    by false rest = up_any k (filter p ks) rest

-- a key is left where it was there and passes
pub has_left : (p : Bytes → Bool) (key : Bytes) (ks : List Bytes) → has_key key (filter p ks) ≡ (has_key key ks && p key)
has_left p key [] = refl
has_left p key (k ∷ ks) = by (p k) (key_eq key k) refl refl (has_left p key ks)
  where
    or_true : (a : Bool) → a ≡ true → (c d : Bool) → (a || c) ≡ true
    or_true a e c d = ap (λ b. b || c) e

    by : (b e : Bool) → p k ≡ b → key_eq key k ≡ e → has_key key (filter p ks) ≡ (has_key key ks && p key)
        → has_key key (cond b (k ∷ filter p ks) (filter p ks)) ≡ ((e || has_key key ks) && p key)
    by true true pk same rest = ap (λ b. b || has_key key (filter p ks)) same ∙ sym (ap p (same_key key k same) ∙ pk)
    by true false pk other rest = ap (λ b. b || has_key key (filter p ks)) other ∙ rest
    by false true pk same rest = rest ∙ ap (λ b. has_key key ks && b) low ∙ none (has_key key ks) ∙ sym low
      where
        low : p key ≡ false
        low = ap p (same_key key k same) ∙ pk

        none : (a : Bool) → (a && false) ≡ false
        none true = refl
        none false = refl
    by false false pk other rest = rest

-- ---- the first that passes

-- where none of the first list passes it is the first of the second
pub find_behind : {X : Type 0} (p : X → Bool) (xs ys : List X) → find p xs ≡ None → find p (xs ++ ys) ≡ find p ys
find_behind p [] ys none = refl
find_behind {X} p (x ∷ xs) ys none = by (p x) refl none (find_behind p xs ys)
  where
    some_none : Some x ≡ None → ⊥
    some_none e = cc

    by : (b : Bool) → p x ≡ b → cond b (Some x) (find p xs) ≡ None → (find p xs ≡ None → find p (xs ++ ys) ≡ find p ys) → cond b (Some x) (find p (xs ++ ys)) ≡ find p ys
    by true e h rest = absurd (some_none h)
    by false e h rest = rest h

-- where one does it is that one
pub find_before : {X : Type 0} (p : X → Bool) (xs ys : List X) (y : X) → find p xs ≡ Some y → find p (xs ++ ys) ≡ Some y
find_before p [] ys y is = absurd (none_some is)
  where
    none_some : None ≡ Some y → ⊥
    none_some e = cc
find_before {X} p (x ∷ xs) ys y is = by (p x) is (find_before p xs ys y)
  where
    by : (b : Bool) → cond b (Some x) (find p xs) ≡ Some y → (find p xs ≡ Some y → find p (xs ++ ys) ≡ Some y) → cond b (Some x) (find p (xs ++ ys)) ≡ Some y
    by true h rest = h
    by false h rest = rest h

-- ---- lists that hold something

-- one of two lists holds something
pub some_append : {X : Type 0} (xs ys : List X) → is_some_list (xs ++ ys) ≡ (is_some_list xs || is_some_list ys)
some_append [] ys = refl
some_append (x ∷ xs) ys = refl

-- a list holds something exactly where what it is mapped to does
pub some_map : {X Y : Type 0} (f : X → Y) (xs : List X) → is_some_list (map f xs) ≡ is_some_list xs
some_map f [] = refl
some_map f (x ∷ xs) = refl
