-- Lists of rows, their numbers, and what a test leaves of them.
use Rattle.std.proofs.Common.{◌≡◌, ◌≢◌, ℕ, Bool, true, false, cond, not, ◌&&◌, ◌||◌, List, [], ◌∷◌, ◌++◌, refl, sym, ap, ◌∙◌, inl, inr, ◌⊎◌}
use Rattle.std.specs.Prelude.{map, filter, ◌==◌}
use Rattle.std.specs.List.{list_all}
use Rattle.std.proofs.lemmas.Bool.{eq-eqb, eqb-true, true≢false, and_parts, and_from}
use Rattle.std.proofs.lemmas.List.Elements.{filter-append}
use Rattle.peb_base.specs.Members.{IsIn}
use Rattle.peb_base.specs.declared.table_row.TableRow.{TableRow}
use Rattle.flsm_model.specs.Shape.{has_number, rows_numbered, rows_without}
use Rattle.flsm_model.specs.Fits.{numbers_differ}
use Rattle.flsm_model.specs.Ledgers.{rows_at}
use Rattle.version_set.specs.Changes.{Differ, AreAt}

-- the numbers of rows
abbrev pub numbers : List TableRow → List ℕ
numbers rows = map (λ r. r.number) rows

-- ---- tests of numbers

pub eqb_same : (n : ℕ) → (n == n) ≡ true
eqb_same n = eq-eqb n n refl

pub eqb_other : (a b : ℕ) → a ≢ b → (a == b) ≡ false
eqb_other a b differ = by (a == b) refl
  where
    by : (c : Bool) → (a == b) ≡ c → (a == b) ≡ false
    by true is = absurd (differ (eqb-true a b is))
    by false is = is

pub not_both : (b : Bool) → b ≡ true → not b ≡ true → ⊥
not_both true is none = true≢false (sym none)
not_both false is none = true≢false (sym is)

pub right_true : (a b : Bool) → b ≡ true → (a || b) ≡ true
right_true true b is = refl
right_true false b is = is

-- ---- members

pub in_middle : {X : Type 0} (xs ys : List X) (x : X) → IsIn x (xs ++ x ∷ ys)
in_middle [] ys x = inl refl
in_middle (y ∷ xs) ys x = inr (in_middle xs ys x)

pub in_filtered : {X : Type 0} (p : X → Bool) (x : X) (xs : List X) → IsIn x (filter p xs) → IsIn x xs × (p x ≡ true)
in_filtered p x [] among = absurd among
in_filtered {X} p x (y ∷ xs) among = by (p y) refl among (in_filtered p x xs)
  where
    by : (b : Bool) → p y ≡ b → IsIn x (cond b (y ∷ filter p xs) (filter p xs)) → (IsIn x (filter p xs) → IsIn x xs × (p x ≡ true)) → ((x ≡ y) ⊎ IsIn x xs) × (p x ≡ true)
    by true is h rest = elim h [ inl same ↦ (inl same, ap p same ∙ is) | inr later ↦ (inr (rest later).0, (rest later).1) ]
    by false is h rest = (inr (rest h).0, (rest h).1)

pub filtered_in : {X : Type 0} (p : X → Bool) (x : X) (xs : List X) → IsIn x xs → p x ≡ true → IsIn x (filter p xs)
filtered_in p x [] among is = absurd among
filtered_in {X} p x (y ∷ xs) among is = by (p y) refl among (λ h. filtered_in p x xs h is)
  where
    by : (b : Bool) → p y ≡ b → ((x ≡ y) ⊎ IsIn x xs) → (IsIn x xs → IsIn x (filter p xs)) → IsIn x (cond b (y ∷ filter p xs) (filter p xs))
    by true e h rest = elim h [ inl same ↦ inl same | inr later ↦ inr (rest later) ]
    by false e h rest = elim h [ inl same ↦ absurd (true≢false (sym is ∙ ap p same ∙ e)) | inr later ↦ rest later ]

pub numbered : (x : TableRow) (rows : List TableRow) → IsIn x rows → has_number x.number (numbers rows) ≡ true
numbered x [] among = absurd among
numbered x (r ∷ rows) among = elim among [
  | inl same ↦ ap (λ (y : TableRow). (x.number == y.number) || has_number x.number (numbers rows)) (sym same) ∙ ap (λ b. b || has_number x.number (numbers rows)) (eqb_same x.number)
  | inr rest ↦ right_true (x.number == r.number) (has_number x.number (numbers rows)) (numbered x rows rest)
]

-- rows of one number are one row
pub one_row : (rows : List TableRow) (x y : TableRow) → Differ rows → IsIn x rows → IsIn y rows → x.number ≡ y.number → x ≡ y
one_row [] x y differ one two same = absurd one
one_row (r ∷ rows) x y differ one two same =
    let parts = and_parts (not (has_number r.number (numbers rows))) (numbers_differ (numbers rows)) differ in
    elim one [
      | inl x_is ↦ elim two [
        | inl y_is ↦ x_is ∙ sym y_is
        | inr later ↦ absurd (not_both (has_number r.number (numbers rows))
            (ap (λ n. has_number n (numbers rows)) (sym (ap (λ (z : TableRow). z.number) x_is) ∙ same) ∙ numbered y rows later) parts.0)
      ]
      | inr earlier ↦ elim two [
        | inl y_is ↦ absurd (not_both (has_number r.number (numbers rows))
            (ap (λ n. has_number n (numbers rows)) (sym (ap (λ (z : TableRow). z.number) y_is) ∙ sym same) ∙ numbered x rows earlier) parts.0)
        | inr later ↦ one_row rows x y parts.1 earlier later same
      ]
    ]

-- ---- filters

-- tests that agree on the list leave the same
pub filter_same : {X : Type 0} (p q : X → Bool) (xs : List X) → ((x : X) → IsIn x xs → p x ≡ q x) → filter p xs ≡ filter q xs
filter_same p q [] same = refl
filter_same p q (x ∷ xs) same =
    ap (λ b. cond b (x ∷ filter p xs) (filter p xs)) (same x (inl refl)) ∙ ap (λ ys. cond (q x) (x ∷ ys) ys) (filter_same p q xs (λ y h. same y (inr h)))

-- a test that all pass, and one that none passes
pub all_pass : {X : Type 0} (p : X → Bool) (xs : List X) → ((x : X) → IsIn x xs → p x ≡ true) → filter p xs ≡ xs
all_pass p [] each = refl
all_pass p (x ∷ xs) each = ap (λ b. cond b (x ∷ filter p xs) (filter p xs)) (each x (inl refl)) ∙ ap (λ ys. x ∷ ys) (all_pass p xs (λ y among. each y (inr among)))

pub none_pass : {X : Type 0} (p : X → Bool) (xs : List X) → ((x : X) → IsIn x xs → p x ≡ false) → filter p xs ≡ []
none_pass p [] each = refl
none_pass p (x ∷ xs) each = ap (λ b. cond b (x ∷ filter p xs) (filter p xs)) (each x (inl refl)) ∙ none_pass p xs (λ y among. each y (inr among))

-- two tests, one after the other
pub filter_both : {X : Type 0} (p q : X → Bool) (xs : List X) → filter p (filter q xs) ≡ filter (λ x. q x && p x) xs
filter_both p q [] = refl
filter_both {X} p q (x ∷ xs) = by (q x) (filter_both p q xs)
  where
    by : (b : Bool) → filter p (filter q xs) ≡ filter (λ y. q y && p y) xs → filter p (cond b (x ∷ filter q xs) (filter q xs)) ≡ cond (b && p x) (x ∷ filter (λ y. q y && p y) xs) (filter (λ y. q y && p y) xs)
    by true rest = ap (λ ys. cond (p x) (x ∷ ys) ys) rest
    by false rest = rest

and_swap : (a b : Bool) → (a && b) ≡ (b && a)
and_swap true true = refl
and_swap true false = refl
and_swap false true = refl
and_swap false false = refl

-- two tests in either order
pub filters_swap : {X : Type 0} (p q : X → Bool) (xs : List X) → filter p (filter q xs) ≡ filter q (filter p xs)
filters_swap p q xs = filter_both p q xs ∙ filter_same (λ x. q x && p x) (λ x. p x && q x) xs (λ x among. and_swap (q x) (p x)) ∙ sym (filter_both q p xs)

-- a test of what each element is seen as
pub map_filter : {X Y : Type 0} (f : X → Y) (p : Y → Bool) (xs : List X) → map f (filter (λ x. p (f x)) xs) ≡ filter p (map f xs)
map_filter f p [] = refl
map_filter {X} {Y} f p (x ∷ xs) = by (p (f x)) (map_filter f p xs)
  where
    by : (b : Bool) → map f (filter (λ y. p (f y)) xs) ≡ filter p (map f xs) → map f (cond b (x ∷ filter (λ y. p (f y)) xs) (filter (λ y. p (f y)) xs)) ≡ cond b (f x ∷ filter p (map f xs)) (filter p (map f xs))
    by true rest = ap (λ ys. f x ∷ ys) rest
    by false rest = rest

-- ---- rows that are taken away

pub without_none : (rows : List TableRow) → rows_without [] rows ≡ rows
without_none rows = all_pass (λ r. true) rows (λ r among. refl)

not_or : (a b : Bool) → not (a || b) ≡ (not a && not b)
not_or true b = refl
not_or false b = refl

-- a first number, and then the others
pub without_more : (n : ℕ) (ns : List ℕ) (rows : List TableRow) → rows_without (n ∷ ns) rows ≡ rows_without ns (rows_without (n ∷ []) rows)
without_more n ns rows =
    filter_same (λ r. not (has_number r.number (n ∷ ns))) (λ r. not (has_number r.number (n ∷ [])) && not (has_number r.number ns)) rows
    (λ r among. not_or (r.number == n) (has_number r.number ns) ∙ ap (λ b. b && not (has_number r.number ns)) (sym (not_or (r.number == n) false ∙ and_true (not (r.number == n)))))
    ∙ sym (filter_both (λ r. not (has_number r.number ns)) (λ r. not (has_number r.number (n ∷ []))) rows)
  where
    and_true : (b : Bool) → (b && true) ≡ b
    and_true true = refl
    and_true false = refl

has_fewer : (n : ℕ) (p : TableRow → Bool) (rows : List TableRow) → has_number n (numbers (filter p rows)) ≡ true → has_number n (numbers rows) ≡ true
has_fewer n p [] has = has
has_fewer n p (r ∷ rows) has = by (p r) refl has (has_fewer n p rows)
  where
    later : (a b c : Bool) → (b ≡ true → c ≡ true) → (a || b) ≡ true → (a || c) ≡ true
    later true b c on h = refl
    later false b c on h = on h

    by : (b : Bool) → p r ≡ b → has_number n (numbers (cond b (r ∷ filter p rows) (filter p rows))) ≡ true → (has_number n (numbers (filter p rows)) ≡ true → has_number n (numbers rows) ≡ true)
        → ((n == r.number) || has_number n (numbers rows)) ≡ true
    by true is h rest = later (n == r.number) (has_number n (numbers (filter p rows))) (has_number n (numbers rows)) rest h
    by false is h rest = right_true (n == r.number) (has_number n (numbers rows)) (rest h)

none_fewer : (n : ℕ) (p : TableRow → Bool) (rows : List TableRow) → not (has_number n (numbers rows)) ≡ true → not (has_number n (numbers (filter p rows))) ≡ true
none_fewer n p rows none = by (has_number n (numbers (filter p rows))) refl
  where
    by : (b : Bool) → has_number n (numbers (filter p rows)) ≡ b → not (has_number n (numbers (filter p rows))) ≡ true
    by true is = absurd (not_both (has_number n (numbers rows)) (has_fewer n p rows is) none)
    by false is = ap not is

pub rest_differ : (r : TableRow) (rows : List TableRow) → Differ (r ∷ rows) → Differ rows
rest_differ r rows differ = (and_parts (not (has_number r.number (numbers rows))) (numbers_differ (numbers rows)) differ).1

pub differ_filter : (p : TableRow → Bool) (rows : List TableRow) → Differ rows → Differ (filter p rows)
differ_filter p [] differ = refl
differ_filter p (r ∷ rows) differ = by (p r) (differ_filter p rows (rest_differ r rows differ))
  where
    by : (b : Bool) → Differ (filter p rows) → Differ (cond b (r ∷ filter p rows) (filter p rows))
    by true rest = and_from (not (has_number r.number (numbers (filter p rows)))) (numbers_differ (numbers (filter p rows)))
        (none_fewer r.number p rows (and_parts (not (has_number r.number (numbers rows))) (numbers_differ (numbers rows)) differ).0) rest
    by false rest = rest

-- the row hasn't this number
abbrev pub is_other : ℕ → TableRow → Bool
is_other number r = not (has_number r.number (number ∷ []))

pub other_is : (number : ℕ) (r : TableRow) → r.number ≢ number → is_other number r ≡ true
other_is number r differ = ap (λ b. not (b || false)) (eqb_other r.number number differ)

same_is : (number : ℕ) (r : TableRow) → r.number ≡ number → is_other number r ≡ false
same_is number r same = ap (λ b. not (b || false)) (ap (λ n. n == number) same ∙ eqb_same number)

-- the first of rows that differ has a number of its own
first_apart : (r x : TableRow) (rows : List TableRow) → Differ (r ∷ rows) → IsIn x rows → x.number ≢ r.number
first_apart r x rows differ among same =
    not_both (has_number r.number (numbers rows)) (ap (λ n. has_number n (numbers rows)) (sym same) ∙ numbered x rows among)
    (and_parts (not (has_number r.number (numbers rows))) (numbers_differ (numbers rows)) differ).0

-- without it the others are left, in their order
pub without_one : (xs ys : List TableRow) (r : TableRow) → Differ (xs ++ r ∷ ys) → filter (is_other r.number) (xs ++ r ∷ ys) ≡ xs ++ ys
without_one [] ys r differ =
    ap (λ b. cond b (r ∷ filter (is_other r.number) ys) (filter (is_other r.number) ys)) (same_is r.number r refl)
    ∙ all_pass (is_other r.number) ys (λ x among. other_is r.number x (first_apart r x ys differ among))
without_one (x ∷ xs) ys r differ =
    ap (λ b. cond b (x ∷ filter (is_other r.number) (xs ++ r ∷ ys)) (filter (is_other r.number) (xs ++ r ∷ ys)))
    (other_is r.number x (λ same. first_apart x r (xs ++ r ∷ ys) differ (in_middle xs ys r) (sym same)))
    ∙ ap (λ rs. x ∷ rs) (without_one xs ys r (rest_differ x (xs ++ r ∷ ys) differ))

-- ---- rows of a level

pub at_of : {X : Type 0} (p : X → Bool) (xs : List X) (x : X) → list_all p xs ≡ true → IsIn x xs → p x ≡ true
at_of p [] x all among = absurd among
at_of p (y ∷ xs) x all among =
    let parts = and_parts (p y) (list_all p xs) all in
    elim among [ inl same ↦ ap p same ∙ parts.0 | inr later ↦ at_of p xs x parts.1 later ]

pub rows_here : (level : ℕ) (rows : List TableRow) → AreAt level rows → rows_at level rows ≡ rows
rows_here level rows are = all_pass (λ r. r.level == level) rows (λ r among. at_of (λ (x : TableRow). x.level == level) rows r are among)

pub rows_elsewhere : (level other : ℕ) (rows : List TableRow) → AreAt level rows → level ≢ other → rows_at other rows ≡ []
rows_elsewhere level other rows are apart =
    none_pass (λ r. r.level == other) rows
    (λ r among. eqb_other r.level other (λ same. apart (sym (eqb-true r.level level (at_of (λ (x : TableRow). x.level == level) rows r are among)) ∙ same)))

-- the rows of a level after inputs are taken away and outputs added
pub rows_after : (level : ℕ) (ns : List ℕ) (live outputs : List TableRow) → rows_at level (rows_without ns live ++ outputs) ≡ rows_without ns (rows_at level live) ++ rows_at level outputs
rows_after level ns live outputs =
    filter-append (λ (r : TableRow). r.level == level) (rows_without ns live) outputs
    ∙ ap (λ rs. rs ++ rows_at level outputs) (filters_swap (λ (r : TableRow). r.level == level) (λ r. not (has_number r.number ns)) live)

-- inputs of another level take none away
pub without_elsewhere : (level other : ℕ) (ns : List ℕ) (live : List TableRow) → AreAt level (rows_numbered ns live) → level ≢ other → rows_without ns (rows_at other live) ≡ rows_at other live
without_elsewhere level other ns live are apart = all_pass (λ r. not (has_number r.number ns)) (rows_at other live) each
  where
    each : (r : TableRow) → IsIn r (rows_at other live) → not (has_number r.number ns) ≡ true
    each r among = by (has_number r.number ns) refl
      where
        here : IsIn r live × ((r.level == other) ≡ true)
        here = in_filtered (λ (x : TableRow). x.level == other) r live among

        by : (b : Bool) → has_number r.number ns ≡ b → not b ≡ true
        by true is = absurd (apart (sym (eqb-true r.level level (at_of (λ (x : TableRow). x.level == level) (rows_numbered ns live) r are
            (filtered_in (λ (x : TableRow). has_number x.number ns) r live here.0 is))) ∙ eqb-true r.level other here.1))
        by false is = refl
