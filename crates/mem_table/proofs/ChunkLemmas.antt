-- Chunks of sorted entries.
use Rattle.std.proofs.Common.{◌≡◌, ℕ, zero, suc, ◌+◌, ◌-◌, ◌<◌, ◌≤◌, Bool, true, false, cond, List, [], ◌∷◌, ◌++◌, length, map, take, drop, set, get_or, Some, None, refl, sym, ap, ◌∙◌, subst, arith, length-append, append_assoc, append-nil}
use Rattle.std.proofs.lemmas.List.{take-append-drop, take-map, drop-map}
use Rattle.std.specs.Prelude.{min, ◌&&◌, find, slice_get, nat_lt}
use Rattle.std.specs.List.{insert}
use Rattle.std.proofs.lemmas.Bool.Decides.{nat_tests}
use Rattle.std.proofs.lemmas.Option.{slice_get_past}
use Rattle.peb_base.specs.Cursors.{place_from}
use Rattle.std.proofs.lemmas.Bool.{and_parts, and_from}
use Rattle.peb_base.specs.Entries.{AreSorted, AscendFrom, comes_before, entry_lt, first_from, put_in}
use Rattle.peb_base.specs.EntryLaws.{before_trans}
use Rattle.peb_base.specs.Keys.{Bytes, key_eq}
use Rattle.peb_base.specs.Sorting.{IsApart}
use Rattle.peb_base.specs.declared.entry.Entry.{Entry}
use Rattle.peb_base.specs.SortedParts.{all_before, find_is, is_shown, with_key, apart_front, apart_rest, front_before, front_sorted, rest_sorted, first_from-past, first_from-within, put_in-past, put_in-within}
use Rattle.mem_table.specs.Chunked.{joined, chunk_from, HaveEntries}

-- ---- where a key and number lie

-- the front of entries that all come before
all_front : (key : Bytes) (number : ℕ) (xs ys : List Entry)
    → all_before key number (xs ++ ys) ≡ true
    → all_before key number xs ≡ true
all_front key number [] ys all = refl
all_front key number (x ∷ xs) ys all =
    let parts = and_parts (comes_before x.key x.number key number)
    (all_before key number (xs ++ ys)) all in
    and_from (comes_before x.key x.number key number) (all_before key number xs) parts.0
    (all_front key number xs ys parts.1)

-- of sorted chunks those that end before a key and number stand before those that don't
pub chunks_parted : {X : Type 0} (f : X → List Entry) (key : Bytes) (number : ℕ) (xs : List X)
    → AreSorted (joined (map f xs)) → HaveEntries (map f xs) → (i j : ℕ) (d : X) → i ≤ j
    → j < length xs
    → all_before key number (f (get_or xs j d)) ≡ true
    → all_before key number (f (get_or xs i d)) ≡ true
chunks_parted f key number [] sorted each i j d low within holds = absurd (omega (arith, within))
chunks_parted f key number (x ∷ xs) sorted each zero zero d low within holds = holds
chunks_parted f key number (x ∷ xs) sorted each (suc i) zero d low within holds =
    absurd (omega (arith, low))
chunks_parted {X = X} f key number (x ∷ xs) sorted each zero (suc j) d low within holds =
    by xs j each.1 (omega (arith, within)) holds [] sorted
  where
    at_first : (c front rest : List Entry) → 0 < length c → all_before key number c ≡ true
        → AreSorted (f x ++ (front ++ (c ++ rest))) → all_before key number (f x) ≡ true
    at_first [] front rest some all sorted = absurd (omega (arith, some))
    at_first (e ∷ c) front rest some all sorted =
        let parts = and_parts (comes_before e.key e.number key number)
        (all_before key number c) all in
        let same : f x ++ (front ++ ((e ∷ c) ++ rest)) ≡ (f x ++ front) ++ e ∷ (c ++ rest) =
        sym (append_assoc (f x) front (e ∷ (c ++ rest))) in
        all_front key number (f x) front
        (front_before key number [] 0 (f x ++ front) e (c ++ rest)
        (subst AreSorted same sorted) parts.0)

    by : (ys : List X) (j : ℕ) → HaveEntries (map f ys) → j < length ys
        → all_before key number (f (get_or ys j d)) ≡ true → (front : List Entry)
        → AreSorted (f x ++ (front ++ joined (map f ys))) → all_before key number (f x) ≡ true
    by [] j each within holds front sorted = absurd (omega (arith, within))
    by (y ∷ ys) zero each within holds front sorted =
        at_first (f y) front (joined (map f ys)) each.0 holds sorted
    by (y ∷ ys) (suc j) each within holds front sorted =
        by ys j each.1 (omega (arith, within)) holds (front ++ f y)
        (subst (λ l. AreSorted (f x ++ l))
        (sym (append_assoc front (f y) (joined (map f ys)))) sorted)
chunks_parted f key number (x ∷ xs) sorted each (suc i) (suc j) d low within holds =
    chunks_parted f key number xs (rest_sorted [] 0 (f x) (joined (map f xs)) sorted) each.1 i j d
    (omega (arith, low)) (omega (arith, within)) holds

-- the last of sorted entries tells whether all come before a key and number
pub last_tells : {X : Type 0} (f : X → Entry) (key : Bytes) (number : ℕ) (k : Bytes) (n : ℕ)
    (xs : List X)
    (i : ℕ) (d : X) → AscendFrom k n (map f xs) → suc i ≡ length xs
    → comes_before (f (get_or xs i d)).key (f (get_or xs i d)).number key number
    ≡ all_before key number (map f xs)
last_tells f key number k n [] i d each last = absurd (omega (arith, last))
last_tells f key number k n (x ∷ []) zero d each last =
    alone (comes_before (f x).key (f x).number key number)
  where
    alone : (b : Bool) → b ≡ (b && true)
    alone true = refl
    alone false = refl
last_tells f key number k n (x ∷ y ∷ xs) zero d each last = absurd (omega (arith, last))
last_tells f key number k n (x ∷ []) (suc i) d each last = absurd (omega (arith, last))
last_tells f key number k n (x ∷ y ∷ xs) (suc i) d each last =
    last_tells f key number (f x).key (f x).number (y ∷ xs) i d each.2 (omega (arith, last))
    ∙ by (all_before key number (map f (y ∷ xs))) refl
  where
    first : all_before key number (map f (y ∷ xs)) ≡ true
        → comes_before (f x).key (f x).number key number ≡ true
    first all =
        before_trans (f x).key (f x).number (f y).key (f y).number key number each.2.1
        (and_parts (comes_before (f y).key (f y).number key number)
        (all_before key number (map f xs)) all).0

    by : (b : Bool) → all_before key number (map f (y ∷ xs)) ≡ b
        → all_before key number (map f (y ∷ xs))
        ≡ (comes_before (f x).key (f x).number key number && all_before key number (map f (y ∷ xs)))
    by true all = ap (λ b. b && all_before key number (map f (y ∷ xs))) (sym (first all))
    by false not_all = not_all
        ∙ none (comes_before (f x).key (f x).number key number)
        ∙ ap (λ b. comes_before (f x).key (f x).number key number && b) (sym not_all)
      where
        none : (b : Bool) → false ≡ (b && false)
        none true = refl
        none false = refl

-- the first entry at or behind a key and number lies in the first chunk that has one
pub first_in_chunk : (key : Bytes) (number : ℕ) (cs : List (List Entry)) (i : ℕ)
    → i ≡ chunk_from key number cs → i < length cs
    → (first_from key number (joined cs)
    ≡ length (joined (take i cs)) + first_from key number (get_or cs i []))
    × (first_from key number (get_or cs i []) < length (get_or cs i []))
first_in_chunk key number [] i is within = absurd (omega (arith, within))
first_in_chunk key number (c ∷ cs) i is within =
    by (all_before key number c) refl is within
    (λ j same under. first_in_chunk key number cs j same under)
  where
    past : all_before key number c ≡ true → (j : ℕ)
        → (first_from key number (joined cs)
        ≡ length (joined (take j cs)) + first_from key number (get_or cs j []))
        × (first_from key number (get_or cs j []) < length (get_or cs j []))
        → (first_from key number (c ++ joined cs)
        ≡ length (joined (take (suc j) (c ∷ cs))) + first_from key number
        (get_or (c ∷ cs) (suc j) []))
        × (first_from key number (get_or (c ∷ cs) (suc j) []) < length (get_or (c ∷ cs) (suc j) []))
    past all j there = (
      first_from-past key number c (joined cs) all
          ∙ omega (arith, there.0, length-append c (joined (take j cs))),
      there.1,
    )

    here : all_before key number c ≡ false
        → (first_from key number (c ++ joined cs)
        ≡ length (joined (take 0 (c ∷ cs))) + first_from key number (get_or (c ∷ cs) 0 []))
        × (first_from key number (get_or (c ∷ cs) 0 []) < length (get_or (c ∷ cs) 0 []))
    here not_all =
        let r = first_from-within key number c (joined cs) not_all in
        (omega (arith, r.0), r.1)

    Found : ℕ → Type 0
    Found j = (first_from key number (c ++ joined cs)
        ≡ length (joined (take j (c ∷ cs))) + first_from key number (get_or (c ∷ cs) j []))
        × (first_from key number (get_or (c ∷ cs) j []) < length (get_or (c ∷ cs) j []))

    by : (b : Bool) → all_before key number c ≡ b → i ≡ cond b (suc (chunk_from key number cs)) 0
        → i < length (c ∷ cs)
        → ((j : ℕ) → j ≡ chunk_from key number cs → j < length cs
        → (first_from key number (joined cs)
        ≡ length (joined (take j cs)) + first_from key number (get_or cs j []))
        × (first_from key number (get_or cs j []) < length (get_or cs j []))) → Found i
    by true all is within ih =
        let under : chunk_from key number cs < length cs = omega (arith, is, within) in
        subst Found (sym is)
        (past all (chunk_from key number cs) (ih (chunk_from key number cs) refl under))
    by false not_all is within ih = subst Found (sym is) (here not_all)

-- where there is none, all come before
pub none_in_chunks : (key : Bytes) (number : ℕ) (cs : List (List Entry))
    → length cs ≤ chunk_from key number cs
    → first_from key number (joined cs) ≡ length (joined cs)
none_in_chunks key number [] past = refl
none_in_chunks key number (c ∷ cs) past =
    by (all_before key number c) refl past (none_in_chunks key number cs)
  where
    by : (b : Bool) → all_before key number c ≡ b
        → length (c ∷ cs) ≤ cond b (suc (chunk_from key number cs)) 0
        → (length cs ≤ chunk_from key number cs
        → first_from key number (joined cs) ≡ length (joined cs))
        → first_from key number (c ++ joined cs) ≡ length (c ++ joined cs)
    by true all past ih =
        first_from-past key number c (joined cs) all
        ∙ ap (λ n. length c + n) (ih (omega (arith, past)))
        ∙ sym (length-append c (joined cs))
    by false all past ih = absurd (omega (arith, past))

-- ---- an entry in its chunk

-- the entry is put into the first chunk that doesn't end before it, or the last one
pub put_in_chunk_at : (e : Entry) (cs : List (List Entry)) (i : ℕ) → 0 < length cs
    → IsApart e (joined cs)
    → i ≡ min (chunk_from e.key e.number cs) (length cs - 1)
    → put_in e (joined cs) ≡ joined (set cs i (put_in e (get_or cs i [])))
put_in_chunk_at e [] i some apart is = absurd (omega (arith, some))
put_in_chunk_at e (c ∷ []) i some apart is =
    let zero_is : 0 ≡ i = omega (arith, is) in
    subst (λ j. put_in e (c ++ [])
    ≡ joined (set (c ∷ []) j (put_in e (get_or (c ∷ []) j [])))) zero_is
    (ap (put_in e) (append-nil c) ∙ sym (append-nil (put_in e c)))
put_in_chunk_at e (c ∷ d ∷ cs) i some apart is =
    by (all_before e.key e.number c) refl is
    (λ j same. put_in_chunk_at e (d ∷ cs) j (omega arith)
    (apart_rest e c (joined (d ∷ cs)) apart) same)
  where
    Put : ℕ → Type 0
    Put j = put_in e (c ++ joined (d ∷ cs))
        ≡ joined (set (c ∷ d ∷ cs) j (put_in e (get_or (c ∷ d ∷ cs) j [])))

    past : all_before e.key e.number c ≡ true → (j : ℕ)
        → put_in e (joined (d ∷ cs)) ≡ joined (set (d ∷ cs) j (put_in e (get_or (d ∷ cs) j [])))
        → Put (suc j)
    past all j ih = put_in-past e c (joined (d ∷ cs)) all ∙ ap (λ l. c ++ l) ih

    here : all_before e.key e.number c ≡ false → Put 0
    here not_all = put_in-within e c (joined (d ∷ cs))
        (apart_front e c (joined (d ∷ cs)) apart) not_all

    by : (b : Bool) → all_before e.key e.number c ≡ b
        → i ≡ min (cond b (suc (chunk_from e.key e.number (d ∷ cs))) 0) (length (c ∷ d ∷ cs) - 1)
        → ((j : ℕ) → j ≡ min (chunk_from e.key e.number (d ∷ cs)) (length (d ∷ cs) - 1)
        → put_in e (joined (d ∷ cs)) ≡ joined (set (d ∷ cs) j (put_in e (get_or (d ∷ cs) j []))))
        → Put i
    by true all is ih =
        let j = min (chunk_from e.key e.number (d ∷ cs)) (length (d ∷ cs) - 1) in
        let same : suc j ≡ i = later (chunk_from e.key e.number (d ∷ cs)) (length cs) i is in
        subst Put same (past all j (ih j refl))
      where
        later : (n m i : ℕ) → i ≡ min (suc n) (suc (suc m) - 1) → suc (min n (suc m - 1)) ≡ i
        later n m i is = omega (arith, is)
    by false not_all is ih =
        let same : 0 ≡ i = omega (arith, is) in subst Put same (here not_all)

-- the entry is apart from those of each chunk
pub chunk_apart : (e : Entry) (cs : List (List Entry)) (i : ℕ) → i < length cs
    → IsApart e (joined cs)
    → IsApart e (get_or cs i [])
chunk_apart e [] i within apart = absurd (omega (arith, within))
chunk_apart e (c ∷ cs) zero within apart = apart_front e c (joined cs) apart
chunk_apart e (c ∷ cs) (suc i) within apart =
    chunk_apart e cs i (omega (arith, within)) (apart_rest e c (joined cs) apart)

-- two chunks in the place of one
pub joined_cut : (cs : List (List Entry)) (i : ℕ) (low high : List Entry) → i < length cs
    → joined (set (insert cs (suc i) high) i low) ≡ joined (set cs i (low ++ high))
joined_cut [] i low high within = absurd (omega (arith, within))
joined_cut (c ∷ cs) zero low high within = sym (append_assoc low high (joined cs))
joined_cut (c ∷ cs) (suc i) low high within =
    let there : i < length cs = omega (arith, within) in
    ap (λ l. c ++ l) (joined_cut cs i low high there)

pub some_set : (cs : List (List Entry)) (i : ℕ) (c : List Entry) → HaveEntries cs → 0 < length c
    → HaveEntries (set cs i c)
some_set [] i c each some = tt
some_set (d ∷ cs) zero c each some = (some, each.1)
some_set (d ∷ cs) (suc i) c each some = (each.0, some_set cs i c each.1 some)

pub some_insert : (cs : List (List Entry)) (i : ℕ) (c : List Entry) → HaveEntries cs → 0 < length c
    → HaveEntries (insert cs i c)
some_insert [] zero c each some = (some, tt)
some_insert [] (suc i) c each some = (some, tt)
some_insert (d ∷ cs) zero c each some = (some, each)
some_insert (d ∷ cs) (suc i) c each some = (each.0, some_insert cs i c each.1 some)

pub put_some : (e : Entry) (es : List Entry) → 0 < length (put_in e es)
put_some e [] = omega arith
put_some e (f ∷ fs) = by (entry_lt e f)
  where
    by : (b : Bool) → 0 < length (cond b (e ∷ f ∷ fs) (f ∷ put_in e fs))
    by true = omega arith
    by false = omega arith

-- what a handle holds, after an insert of a handle
pub map_insert : {X A : Type 0} (f : X → A) (xs : List X) (i : ℕ) (x : X)
    → map f (insert xs i x) ≡ insert (map f xs) i (f x)
map_insert f [] zero x = refl
map_insert f [] (suc i) x = refl
map_insert f (y ∷ xs) zero x = refl
map_insert f (y ∷ xs) (suc i) x = ap (λ l. f y ∷ l) (map_insert f xs i x)

-- a part of sorted entries is sorted
pub part_sorted : (from n : ℕ) (es : List Entry) → AreSorted es → AreSorted (take n (drop from es))
part_sorted from n es sorted =
    let rest : AreSorted (drop from es) =
    rest_sorted [] 0 (take from es) (drop from es)
    (subst AreSorted (sym (take-append-drop from es)) sorted) in
    front_sorted [] 0 (take n (drop from es)) (drop n (drop from es))
    (subst AreSorted (sym (take-append-drop n (drop from es))) rest)

-- what handles hold, of a part of them
pub map_part : {X A : Type 0} (f : X → A) (from n : ℕ) (xs : List X)
    → map f (take n (drop from xs)) ≡ take n (drop from (map f xs))
map_part f from n xs = sym (take-map f n (drop from xs)) ∙ ap (take n) (sym (drop-map f from xs))

-- what a handle that is read holds
pub read_map : {X A : Type 0} (f : X → A) (xs : List X) (i : ℕ) (x : X) (d : A)
    → i < length (map f xs)
    → x ≡ get_or xs i x → f x ≡ get_or (map f xs) i d
read_map f [] i x d within read = absurd (omega (arith, within))
read_map f (y ∷ xs) zero x d within read = ap f read
read_map f (y ∷ xs) (suc i) x d within read = read_map f xs i x d (omega (arith, within)) read

-- ---- the newest entry of a key

-- where no entry is at or behind a key and number, none is shown
pub found_nowhere : (key : Bytes) (number : ℕ) (es : List Entry) → AreSorted es
    → None ≡ place_from key number es → None ≡ find (is_shown key number) es
found_nowhere key number es sorted none =
    by (nat_lt (first_from key number es) (length es)) refl none
  where
    by : (b : Bool) → nat_lt (first_from key number es) (length es) ≡ b
        → None ≡ cond b (Some (first_from key number es)) None
        → None ≡ find (is_shown key number) es
    by true inside none = cc
    by false inside none =
        let past : length es ≤ first_from key number es = grind (arith, nat_tests, inside) in
        sym (find_is key number [] 0 es sorted
        ∙ ap (with_key key) (slice_get_past es (first_from key number es) past))

-- the first one there is shown where it has the key, and else none is
pub found_there : (key : Bytes) (number : ℕ) (es : List Entry) (n : ℕ) (e : Entry) → AreSorted es
    → Some n ≡ place_from key number es → slice_get es n ≡ Some e
    → cond (key_eq e.key key) (Some e) None ≡ find (is_shown key number) es
found_there key number es n e sorted there get =
    by (nat_lt (first_from key number es) (length es)) there
  where
    by : (b : Bool) → Some n ≡ cond b (Some (first_from key number es)) None
        → cond (key_eq e.key key) (Some e) None ≡ find (is_shown key number) es
    by true there =
        let same : n ≡ first_from key number es = cc in
        sym (find_is key number [] 0 es sorted
        ∙ ap (with_key key) (ap (slice_get es) (sym same) ∙ get))
    by false there = cc
