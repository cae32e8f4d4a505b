-- Parts of sorted entries, and where an entry is among them.
use Rattle.std.proofs.Common.{◌≡◌, ℕ, zero, suc, ◌+◌, ◌<◌, ◌≤◌, Bool, true, false, cond, List, [], ◌∷◌, ◌++◌, ◌⊎◌, inl, inr, length, map, take, get_or, Option, Some, None, refl, sym, ap, ◌∙◌, subst, arith}
use Rattle.std.specs.Prelude.{◌&&◌, ◌||◌, slice_get, find, nat_le, nat_lt}
use Rattle.std.specs.List.{AllWithin, insert}
use Rattle.std.specs.Coded.{Unit-prop}
use Rattle.std.proofs.Props.{props}
use Rattle.std.specs.declared.cmp.Ordering.{Ordering}
use Rattle.std.specs.declared.cmp.Ordering.TheVariants.{Less, Equal, Greater}
use Rattle.std.specs.Ordering.{nat_cmp, is_lt, is_eq, ordering_reverse}
use Rattle.std.specs.Cmp.Lexicographic.{slice_cmp, nat_list_cmp_total}
use Rattle.std.proofs.lemmas.Map.Text.{is_eq-slice_cmp}
use Rattle.std.proofs.lemmas.Bool.{and_parts, and_from, or_cases, true≢false, false≢true}
use Rattle.std.proofs.lemmas.Bool.Decides.{nat_tests}
use Rattle.peb_base.specs.Cursors.{ComesBeforeNone}
use Rattle.peb_base.specs.Entries.{IsEntry, AreSorted, AscendFrom, comes_before, entry_lt, first_from, put_in}
use Rattle.peb_base.specs.EntryLaws.{after_none, before_trans, entry_asym}
use Rattle.peb_base.specs.KeyLaws.{lt_trans, lt_asym, same_key}
use Rattle.peb_base.specs.Keys.{Bytes, key_eq, key_lt}
use Rattle.peb_base.specs.Sorting.{IsApart}
use Rattle.peb_base.specs.declared.entry.Entry.{Entry}

-- all entries come before this key and number
abbrev pub all_before : Bytes → ℕ → List Entry → Bool
all_before key number [] = true
all_before key number (e ∷ es) = comes_before e.key e.number key number && all_before key number es

-- ---- each of sorted entries

pub AscendFrom-prop : (key : Bytes) (number : ℕ) (es : List Entry)
    → IsProp (AscendFrom key number es)
AscendFrom-prop key number [] = Unit-prop
AscendFrom-prop key number (e ∷ es) =
    let entry : IsProp (IsEntry e) = Prim.hlevel props in
    let after : IsProp (comes_before key number e.key e.number ≡ true) = Prim.hlevel props in
    λ x y i. (entry x.0 y.0 i, after x.1 y.1 i, AscendFrom-prop e.key e.number es x.2 y.2 i)

same_some : (a b : Entry) → Some a ≡ Some b → a ≡ b
same_some a b same = cc

-- it is within its limits
pub entry_within : (key : Bytes) (number : ℕ) (es : List Entry) (place : ℕ) (e : Entry)
    → AscendFrom key number es → slice_get es place ≡ Some e → IsEntry e
entry_within key number [] place e each there = cc
entry_within key number (x ∷ es) zero e each there = subst IsEntry (same_some x e there) each.0
entry_within key number (x ∷ es) (suc place) e each there =
    entry_within x.key x.number es place e each.2 there

-- it comes behind what they all come behind
pub entry_behind : (key : Bytes) (number : ℕ) (es : List Entry) (place : ℕ) (e : Entry)
    → AscendFrom key number es → slice_get es place ≡ Some e
    → comes_before key number e.key e.number ≡ true
entry_behind key number [] place e each there = cc
entry_behind key number (x ∷ es) zero e each there =
    subst (λ (y : Entry). comes_before key number y.key y.number ≡ true)
    (same_some x e there) each.1
entry_behind key number (x ∷ es) (suc place) e each there =
    before_trans key number x.key x.number e.key e.number each.1
    (entry_behind x.key x.number es place e each.2 there)

-- it comes before none of those in front of it
pub behind_front : (key : Bytes) (number : ℕ) (es : List Entry) (place : ℕ) (e : Entry)
    → AscendFrom key number es → slice_get es place ≡ Some e → ComesBeforeNone e (take place es)
behind_front key number [] place e each there = cc
behind_front key number (x ∷ es) zero e each there = tt
behind_front key number (x ∷ es) (suc place) e each there = (
  entry_asym x e (entry_behind x.key x.number es place e each.2 there),
  behind_front x.key x.number es place e each.2 there,
)

-- it doesn't come before the one in front of it
pub behind_previous : (key : Bytes) (number : ℕ) (es : List Entry) (place : ℕ) (e f : Entry)
    → AscendFrom key number es → slice_get es (suc place) ≡ Some e → slice_get es place ≡ Some f
    → entry_lt e f ≡ false
behind_previous key number [] place e f each there before = cc
behind_previous key number (x ∷ es) zero e f each there before =
    subst (λ (y : Entry). entry_lt e y ≡ false) (same_some x f before)
    (entry_asym x e (entry_behind x.key x.number es zero e each.2 there))
behind_previous key number (x ∷ es) (suc place) e f each there before =
    behind_previous x.key x.number es place e f each.2 there before

-- ---- parts

-- the front of sorted entries is sorted
pub front_sorted : (key : Bytes) (number : ℕ) (xs ys : List Entry)
    → AscendFrom key number (xs ++ ys)
    → AscendFrom key number xs
front_sorted key number [] ys each = tt
front_sorted key number (x ∷ xs) ys each =
    (each.0, each.1, front_sorted x.key x.number xs ys each.2)

-- and so is the rest
pub rest_sorted : (key : Bytes) (number : ℕ) (xs ys : List Entry) → AscendFrom key number (xs ++ ys)
    → AreSorted ys
rest_sorted key number [] [] each = tt
rest_sorted key number [] (y ∷ ys) each = (each.0, after_none y each.0, each.2)
rest_sorted key number (x ∷ xs) ys each = rest_sorted x.key x.number xs ys each.2

-- where one of sorted entries comes before a key and number, so do all in front of it
pub front_before : (key : Bytes) (number : ℕ) (k : Bytes) (n : ℕ) (xs : List Entry) (y : Entry)
    (ys : List Entry) → AscendFrom k n (xs ++ y ∷ ys)
    → comes_before y.key y.number key number ≡ true
    → all_before key number xs ≡ true
front_before key number k n [] y ys each before = refl
front_before key number k n (x ∷ xs) y ys each before =
    and_from (comes_before x.key x.number key number) (all_before key number xs)
    (before_trans x.key x.number y.key y.number key number
    (reaches x.key x.number xs each.2) before)
    (front_before key number x.key x.number xs y ys each.2 before)
  where
    reaches : (k : Bytes) (n : ℕ) (xs : List Entry) → AscendFrom k n (xs ++ y ∷ ys)
        → comes_before k n y.key y.number ≡ true
    reaches k n [] h = h.1
    reaches k n (z ∷ zs) h =
        before_trans k n z.key z.number y.key y.number h.1 (reaches z.key z.number zs h.2)

-- ---- how many come before a key and number

pub first_from-bound : (key : Bytes) (number : ℕ) (es : List Entry)
    → first_from key number es ≤ length es
first_from-bound key number [] = omega arith
first_from-bound key number (e ∷ es) =
    by (comes_before e.key e.number key number) (first_from-bound key number es)
  where
    by : (b : Bool) → first_from key number es ≤ length es
        → cond b (suc (first_from key number es)) 0 ≤ length (e ∷ es)
    by true h = omega (arith, h)
    by false h = omega arith

-- the entry there doesn't
pub first_from-not_before : (key : Bytes) (number : ℕ) (es : List Entry) (e : Entry)
    → slice_get es (first_from key number es) ≡ Some e
    → comes_before e.key e.number key number ≡ false
first_from-not_before key number [] e there = cc
first_from-not_before key number (x ∷ es) e there =
    by (comes_before x.key x.number key number) refl there (first_from-not_before key number es e)
  where
    by : (b : Bool) → comes_before x.key x.number key number ≡ b
        → slice_get (x ∷ es) (cond b (suc (first_from key number es)) 0) ≡ Some e
        → (slice_get es (first_from key number es) ≡ Some e
        → comes_before e.key e.number key number ≡ false)
        → comes_before e.key e.number key number ≡ false
    by true is there ih = ih there
    by false is there ih =
        subst (λ (y : Entry). comes_before y.key y.number key number ≡ false)
        (same_some x e there) is

-- past entries that all do
pub first_from-past : (key : Bytes) (number : ℕ) (xs ys : List Entry)
    → all_before key number xs ≡ true
    → first_from key number (xs ++ ys) ≡ length xs + first_from key number ys
first_from-past key number [] ys all = omega arith
first_from-past key number (x ∷ xs) ys all =
    let parts = and_parts (comes_before x.key x.number key number) (all_before key number xs) all in
    ap (λ b. cond b (suc (first_from key number (xs ++ ys))) 0) parts.0
    ∙ ap suc (first_from-past key number xs ys parts.1) ∙ omega arith

-- within entries that don't all
pub first_from-within : (key : Bytes) (number : ℕ) (xs ys : List Entry)
    → all_before key number xs ≡ false
    → (first_from key number (xs ++ ys) ≡ first_from key number xs)
    × (first_from key number xs < length xs)
first_from-within key number [] ys not_all = absurd (true≢false not_all)
first_from-within key number (x ∷ xs) ys not_all =
    by (comes_before x.key x.number key number) not_all (first_from-within key number xs ys)
  where
    by : (b : Bool) → (b && all_before key number xs) ≡ false
        → (all_before key number xs ≡ false
        → (first_from key number (xs ++ ys) ≡ first_from key number xs)
        × (first_from key number xs < length xs))
        → (cond b (suc (first_from key number (xs ++ ys))) 0
        ≡ cond b (suc (first_from key number xs)) 0)
        × (cond b (suc (first_from key number xs)) 0 < length (x ∷ xs))
    by true h ih = let r = ih h in (ap suc r.0, omega (arith, r.1))
    by false h ih = (refl, omega arith)

-- where elements before a place pass a test, and those from it on don't, so many at the front pass it
pub place_is : {X A : Type 0} (f : X → A) (test : A → Bool) (count : List A → ℕ) → count [] ≡ 0
    → ((a : A) (rest : List A) → count (a ∷ rest) ≡ cond (test a) (suc (count rest)) 0)
    → (xs : List X) (i : ℕ) → i ≤ length xs → AllWithin (λ x. test (f x) ≡ true) xs 0 i
    → AllWithin (λ x. test (f x) ≡ false) xs i (length xs) → i ≡ count (map f xs)
place_is f test count none more [] i within low high = omega (arith, within) ∙ sym none
place_is f test count none more (x ∷ xs) zero within low high =
    let here : 0 ≤ 0 = omega arith in
    let some : 0 < length (x ∷ xs) = omega arith in
    sym (more (f x) (map f xs) ∙ ap (λ b. cond b (suc (count (map f xs))) 0) (high 0 x here some))
place_is f test count none more (x ∷ xs) (suc i) within low high =
    let here : 0 ≤ 0 = omega arith in
    let some : 0 < suc i = omega arith in
    let below : i ≤ length xs = omega (arith, within) in
    ap suc (place_is f test count none more xs i below
    (λ k d from upto. low (suc k) d (omega arith) (omega (arith, upto)))
    (λ k d from upto. high (suc k) d (omega (arith, from)) (omega (arith, upto))))
    ∙ sym (more (f x) (map f xs) ∙ ap (λ b. cond b (suc (count (map f xs))) 0) (low 0 x here some))

-- of sorted entries those that come before a key and number stand before those that don't
pub parted : {X : Type 0} (f : X → Entry) (key : Bytes) (number : ℕ) (k : Bytes) (n : ℕ)
    (xs : List X)
    → AscendFrom k n (map f xs) → (i j : ℕ) (d : X) → i ≤ j → j < length xs
    → comes_before (f (get_or xs j d)).key (f (get_or xs j d)).number key number ≡ true
    → comes_before (f (get_or xs i d)).key (f (get_or xs i d)).number key number ≡ true
parted f key number k n [] each i j d low within holds = absurd (omega (arith, within))
parted f key number k n (x ∷ xs) each zero zero d low within holds = holds
parted f key number k n (x ∷ xs) each (suc i) zero d low within holds = absurd (omega (arith, low))
parted {X = X} f key number k n (x ∷ xs) each zero (suc j) d low within holds =
    let there : j < length xs = omega (arith, within) in
    before_trans (f x).key (f x).number (f (get_or xs j d)).key
    (f (get_or xs j d)).number key number
    (is_after (f x).key (f x).number xs each.2 j there) holds
  where
    is_after : (k : Bytes) (n : ℕ) (ys : List X) → AscendFrom k n (map f ys) → (i : ℕ)
        → i < length ys
        → comes_before k n (f (get_or ys i d)).key (f (get_or ys i d)).number ≡ true
    is_after k n [] each i within = absurd (omega (arith, within))
    is_after k n (y ∷ ys) each zero within = each.1
    is_after k n (y ∷ ys) each (suc i) within =
        let there : i < length ys = omega (arith, within) in
        before_trans k n (f y).key (f y).number (f (get_or ys i d)).key
        (f (get_or ys i d)).number each.1
        (is_after (f y).key (f y).number ys each.2 i there)
parted f key number k n (x ∷ xs) each (suc i) (suc j) d low within holds =
    let under : i ≤ j = omega (arith, low) in
    let there : j < length xs = omega (arith, within) in
    parted f key number (f x).key (f x).number xs each.2 i j d under there holds

-- ---- an entry in its place

-- an entry that is apart from others goes behind those that come before it
pub put_at : (e : Entry) (es : List Entry) → IsApart e es
    → put_in e es ≡ insert es (first_from e.key e.number es) e
put_at e [] apart = refl
put_at e (f ∷ fs) apart = by apart.0 (put_at e fs apart.1)
  where
    rest : List Entry
    rest = insert fs (first_from e.key e.number fs) e

    before : entry_lt e f ≡ true → cond (entry_lt e f) (e ∷ f ∷ fs) (f ∷ put_in e fs)
        ≡ insert (f ∷ fs) (cond (entry_lt f e) (suc (first_from e.key e.number fs)) 0) e
    before lt = ap (λ b. cond b (e ∷ f ∷ fs) (f ∷ put_in e fs)) lt
        ∙ sym (ap (λ b. insert (f ∷ fs) (cond b (suc (first_from e.key e.number fs)) 0) e)
        (entry_asym e f lt))

    by : (entry_lt e f ≡ true) ⊎ (entry_lt f e ≡ true) → put_in e fs ≡ rest
        → cond (entry_lt e f) (e ∷ f ∷ fs) (f ∷ put_in e fs)
        ≡ insert (f ∷ fs) (cond (entry_lt f e) (suc (first_from e.key e.number fs)) 0) e
    by (inl lt) ih = before lt
    by (inr gt) ih = ap (λ b. cond b (e ∷ f ∷ fs) (f ∷ put_in e fs)) (entry_asym f e gt)
        ∙ ap (λ (l : List Entry). f ∷ l) ih
        ∙ sym (ap (λ b. insert (f ∷ fs) (cond b (suc (first_from e.key e.number fs)) 0) e) gt)

-- past entries that all come before it
pub put_in-past : (e : Entry) (xs ys : List Entry) → all_before e.key e.number xs ≡ true
    → put_in e (xs ++ ys) ≡ xs ++ put_in e ys
put_in-past e [] ys all = refl
put_in-past e (x ∷ xs) ys all =
    let parts = and_parts (entry_lt x e) (all_before e.key e.number xs) all in
    ap (λ b. cond b (e ∷ x ∷ xs ++ ys) (x ∷ put_in e (xs ++ ys))) (entry_asym x e parts.0)
    ∙ ap (λ (l : List Entry). x ∷ l) (put_in-past e xs ys parts.1)

-- within entries that don't all
pub put_in-within : (e : Entry) (xs ys : List Entry) → IsApart e xs
    → all_before e.key e.number xs ≡ false → put_in e (xs ++ ys) ≡ put_in e xs ++ ys
put_in-within e [] ys apart not_all = absurd (true≢false not_all)
put_in-within e (x ∷ xs) ys apart not_all =
    by apart.0 not_all (put_in-within e xs ys apart.1)
  where
    ahead : (b : Bool) → (b ≡ false → put_in e (xs ++ ys) ≡ put_in e xs ++ ys)
        → cond b (e ∷ x ∷ xs ++ ys) (x ∷ put_in e (xs ++ ys))
        ≡ cond b (e ∷ x ∷ xs) (x ∷ put_in e xs) ++ ys
    ahead true more = refl
    ahead false more = ap (λ (l : List Entry). x ∷ l) (more refl)

    left : (b c : Bool) → (b && c) ≡ false → b ≡ true → c ≡ false
    left true c h is = h
    left false c h is = absurd (false≢true is)

    lead : (b : Bool) → b ≡ true
        → cond b (e ∷ x ∷ xs ++ ys) (x ∷ put_in e (xs ++ ys))
        ≡ cond b (e ∷ x ∷ xs) (x ∷ put_in e xs) ++ ys
    lead true is = refl
    lead false is = absurd (false≢true is)

    by : (entry_lt e x ≡ true) ⊎ (entry_lt x e ≡ true)
        → (entry_lt x e && all_before e.key e.number xs) ≡ false
        → (all_before e.key e.number xs ≡ false → put_in e (xs ++ ys) ≡ put_in e xs ++ ys)
        → cond (entry_lt e x) (e ∷ x ∷ xs ++ ys) (x ∷ put_in e (xs ++ ys))
        ≡ cond (entry_lt e x) (e ∷ x ∷ xs) (x ∷ put_in e xs) ++ ys
    by (inl lt) h ih = lead (entry_lt e x) lt
    by (inr gt) h ih = ahead (entry_lt e x)
        (λ is. ih (left (entry_lt x e) (all_before e.key e.number xs) h gt))

-- in front of a rest that it comes before
pub put_in-ahead : (e : Entry) (xs : List Entry) (y : Entry) (ys : List Entry) → entry_lt e y ≡ true
    → put_in e (xs ++ y ∷ ys) ≡ put_in e xs ++ y ∷ ys
put_in-ahead e [] y ys lt = ap (λ b. cond b (e ∷ y ∷ ys) (y ∷ put_in e ys)) lt
put_in-ahead e (x ∷ xs) y ys lt = by (entry_lt e x) (put_in-ahead e xs y ys lt)
  where
    by : (b : Bool) → put_in e (xs ++ y ∷ ys) ≡ put_in e xs ++ y ∷ ys
        → cond b (e ∷ x ∷ xs ++ y ∷ ys) (x ∷ put_in e (xs ++ y ∷ ys))
        ≡ cond b (e ∷ x ∷ xs) (x ∷ put_in e xs) ++ y ∷ ys
    by true ih = refl
    by false ih = ap (λ (l : List Entry). x ∷ l) ih

-- an entry that is apart from others is so from those in front, and from the rest
pub apart_front : (e : Entry) (xs ys : List Entry) → IsApart e (xs ++ ys) → IsApart e xs
apart_front e [] ys apart = tt
apart_front e (x ∷ xs) ys apart = (apart.0, apart_front e xs ys apart.1)

pub apart_rest : (e : Entry) (xs ys : List Entry) → IsApart e (xs ++ ys) → IsApart e ys
apart_rest e [] ys apart = apart
apart_rest e (x ∷ xs) ys apart = apart_rest e xs ys apart.1

-- ---- the newest entry of a key

-- the entry, where it has this key
abbrev pub with_key : Bytes → Option Entry → Option Entry
with_key key None = None
with_key key (Some e) = cond (key_eq e.key key) (Some e) None

-- a key is not below itself
irrefl : (k : Bytes) → key_lt k k ≡ false
irrefl k = by (key_lt k k) refl
  where
    by : (t : Bool) → key_lt k k ≡ t → key_lt k k ≡ false
    by true is = lt_asym k k is
    by false is = is

differs : (a b : Bytes) → key_lt a b ≡ true → key_eq b a ≡ false
differs a b lt = by (key_eq b a) refl
  where
    by : (t : Bool) → key_eq b a ≡ t → key_eq b a ≡ false
    by true same = absurd (true≢false
        (sym lt ∙ ap (key_lt a) (same_key b a same) ∙ irrefl a))
    by false other = other

differs_below : (a b : Bytes) → key_lt a b ≡ true → key_eq a b ≡ false
differs_below a b lt = by (key_eq a b) refl
  where
    by : (t : Bool) → key_eq a b ≡ t → key_eq a b ≡ false
    by true same = absurd (true≢false
        (sym lt ∙ ap (λ k. key_lt k b) (same_key a b same) ∙ irrefl b))
    by false other = other

-- an entry of the key numbered at most so
abbrev pub is_shown : Bytes → ℕ → Entry → Bool
is_shown key number e = key_eq e.key key && nat_le e.number number

-- entries behind a later key
none_behind : (key : Bytes) (number : ℕ) (k : Bytes) (n : ℕ) (es : List Entry) → key_lt key k ≡ true
    → AscendFrom k n es → find (is_shown key number) es ≡ None
none_behind key number k n [] lt each = refl
none_behind key number k n (e ∷ es) lt each =
    let later : key_lt key e.key ≡ true =
    reach (or_cases (key_lt k e.key) (key_eq k e.key && nat_lt e.number n) each.1) in
    ap (λ t. cond (t && nat_le e.number number) (Some e) (find (is_shown key number) es))
    (differs key e.key later)
    ∙ none_behind key number e.key e.number es later each.2
  where
    reach : (key_lt k e.key ≡ true) ⊎ ((key_eq k e.key && nat_lt e.number n) ≡ true)
        → key_lt key e.key ≡ true
    reach (inl h) = lt_trans key k e.key lt h
    reach (inr h) = ap (key_lt key)
        (sym (same_key k e.key (and_parts (key_eq k e.key) (nat_lt e.number n) h).0)) ∙ lt

-- one of two different keys is below the other
pub above : (a b : Bytes) → key_lt a b ≡ false → key_eq a b ≡ false → key_lt b a ≡ true
above a b not_below other = by (slice_cmp nat_cmp a b) refl
  where
    by : (o : Ordering) → slice_cmp nat_cmp a b ≡ o → key_lt b a ≡ true
    by Less is = absurd (true≢false (sym (ap is_lt is) ∙ not_below))
    by Equal is = absurd (true≢false (sym (sym (is_eq-slice_cmp a b) ∙ ap is_eq is) ∙ other))
    by Greater is = ap is_lt (nat_list_cmp_total.antisymm b a ∙ ap ordering_reverse is)

-- the first of sorted entries at or behind a key and number is the newest that is shown, where it has the key
pub find_is : (key : Bytes) (number : ℕ) (k : Bytes) (n : ℕ) (es : List Entry) → AscendFrom k n es
    → find (is_shown key number) es ≡ with_key key (slice_get es (first_from key number es))
find_is key number k n [] each = refl
find_is key number k n (e ∷ es) each =
    by (key_lt e.key key) refl (key_eq e.key key) refl (nat_lt number e.number) refl
    (find_is key number e.key e.number es each.2)
  where
    rest : Option Entry
    rest = find (is_shown key number) es

    first : ℕ
    first = first_from key number es

    by_tests : (shown before : Bool) → (key_eq e.key key && nat_le e.number number) ≡ shown
        → (key_lt e.key key || (key_eq e.key key && nat_lt number e.number)) ≡ before
        → cond shown (Some e) rest ≡ with_key key (slice_get (e ∷ es) (cond before (suc first) 0))
        → cond (key_eq e.key key && nat_le e.number number) (Some e) rest
        ≡ with_key key (slice_get (e ∷ es)
        (cond (key_lt e.key key || (key_eq e.key key && nat_lt number e.number)) (suc first) 0))
    by_tests shown before s b h =
        ap (λ t. cond t (Some e) rest) s ∙ h
        ∙ sym (ap (λ t. with_key key (slice_get (e ∷ es) (cond t (suc first) 0))) b)

    by : (a : Bool) → key_lt e.key key ≡ a → (b : Bool) → key_eq e.key key ≡ b
        → (c : Bool) → nat_lt number e.number ≡ c → rest ≡ with_key key (slice_get es first)
        → cond (key_eq e.key key && nat_le e.number number) (Some e) rest
        ≡ with_key key (slice_get (e ∷ es)
        (cond (key_lt e.key key || (key_eq e.key key && nat_lt number e.number)) (suc first) 0))
    by true lower b same c later ih =
        by_tests false true (ap (λ t. t && nat_le e.number number) (differs_below e.key key lower))
        (ap (λ t. t || (key_eq e.key key && nat_lt number e.number)) lower) ih
    by false lower true same true later ih =
        let over : nat_le e.number number ≡ false = grind (arith, nat_tests, later) in
        by_tests false true
        (ap (λ t. t && nat_le e.number number) same ∙ over)
        (ap (λ t. t || (key_eq e.key key && nat_lt number e.number)) lower
        ∙ ap (λ t. t && nat_lt number e.number) same ∙ later) ih
    by false lower true same false later ih =
        let within : nat_le e.number number ≡ true = grind (arith, nat_tests, later) in
        by_tests true false
        (ap (λ t. t && nat_le e.number number) same ∙ within)
        (ap (λ t. t || (key_eq e.key key && nat_lt number e.number)) lower
        ∙ ap (λ t. t && nat_lt number e.number) same ∙ later)
        (sym (ap (λ t. cond t (Some e) None) same))
    by false lower false same c later ih =
        by_tests false false
        (ap (λ t. t && nat_le e.number number) same)
        (ap (λ t. t || (key_eq e.key key && nat_lt number e.number)) lower
        ∙ ap (λ t. t && nat_lt number e.number) same)
        (none_behind key number e.key e.number es (above e.key key lower same) each.2
        ∙ sym (ap (λ t. cond t (Some e) None) same))
