-- The rows of a level, and of level 0, as tables are taken out by their numbers.
use Rattle.std.proofs.Common.{◌≡◌, ◌≢◌, ℕ, zero, suc, ◌<◌, ◌≤◌, true, List, [], ◌∷◌, ◌++◌, length, refl, sym, ap, ◌∙◌, subst, inl, inr, ◌⊎◌, arith, append-nil, append_assoc, ◌+◌, drop}
use Rattle.std.specs.Prelude.{map, filter, ◌==◌, get_or, set, nat_lt}
use Rattle.std.specs.List.{AllByRecursion, list_all, zip}
use Rattle.std.proofs.lemmas.Bool.{cases_eq, cases_lt, eqb-true, ltb-true, and_parts}
use Rattle.std.proofs.lemmas.List.{get_or-set_same, get_or-set_other, map-append, drop_more, drop_all}
use Rattle.peb_base.specs.Guards.{guard_of}
use Rattle.peb_base.specs.Keys.{Bytes}
use Rattle.peb_base.specs.Members.{IsIn}
use Rattle.peb_base.specs.declared.table_row.TableRow.{TableRow}
use Rattle.flsm_model.specs.Shape.{rows_without}
use Rattle.flsm_model.specs.Fits.{numbers_ascend}
use Rattle.guard_level.specs.Guards.{Guards, tables_of, Takes}
use Rattle.guard_level.specs.TableLists.{IsAbsent, TakesOut}
use Rattle.version_set.specs.Shapes.{rows_of_guard, HasRows}
use Rattle.version_set.specs.Changes.{Differ, AreNumbersOf, AreInputs, IsTaken}
use Rattle.version_set.proofs.Rows.{is_other, other_is, without_one, without_more, without_none, one_row, in_middle, in_filtered, filtered_in, filters_swap, all_pass, differ_filter, eqb_same}

past_end : {X : Type 0} (xs : List (List X)) (i : ℕ) → length xs ≤ i → get_or xs i [] ≡ []
past_end [] i past = refl
past_end (x ∷ xs) zero past = absurd (omega (arith, past))
past_end (x ∷ xs) (suc i) past = past_end xs i (omega (arith, past))

none_is_some : {X : Type 0} (xs ys : List X) (x : X) → [] ≡ xs ++ x ∷ ys → ⊥
none_is_some [] ys x e = cc
none_is_some (z ∷ xs) ys x e = cc

-- a table is taken from a list
pub taken_out : {T : Type 0} (row : T → TableRow) (number : ℕ) (old new : List T) (t : T) (rows : List TableRow) → Differ rows → map row old ≡ rows → TakesOut row number old t new
    → map row new ≡ rows_without (number ∷ []) rows
taken_out {T} row number old new t rows differ is out =
    ap (map row) out.now ∙ map-append row out.before out.behind
    ∙ sym (without_one (map row out.before) (map row out.behind) (row t) (subst Differ (sym whole) differ))
    ∙ ap (λ n. filter (is_other n) (map row out.before ++ row t ∷ map row out.behind)) out.named ∙ ap (filter (is_other number)) whole
  where
    whole : map row out.before ++ row t ∷ map row out.behind ≡ rows
    whole = sym (map-append row out.before (t ∷ out.behind)) ∙ ap (map row) (sym out.was) ∙ is

-- and was one of them
pub taken_among : {T : Type 0} (row : T → TableRow) (number : ℕ) (old new : List T) (t : T) (rows : List TableRow) → map row old ≡ rows → TakesOut row number old t new → IsIn (row t) rows
taken_among row number old new t rows is out =
    subst (IsIn (row t)) (sym (map-append row out.before (t ∷ out.behind)) ∙ ap (map row) (sym out.was) ∙ is) (in_middle (map row out.before) (map row out.behind) (row t))

-- the rows of a guard, once a table was taken from one of the guards
taken_from : {T : Type 0} (row : T → TableRow) (number : ℕ) (keys : List Bytes) (tables : List (List T)) (rows : List TableRow) (i : ℕ) (rest : List T) (t : T) → Differ rows
    → ((guard : ℕ) → map row (get_or tables guard []) ≡ rows_of_guard keys guard rows) → TakesOut row number (get_or tables i []) t rest
    → (guard : ℕ) → map row (get_or (set tables i rest) guard []) ≡ rows_of_guard keys guard (filter (is_other number) rows)
taken_from {T} row number keys tables rows i rest t differ each out guard = by (cases_eq guard i) (cases_lt i (length tables)) ∙ filters_swap (is_other number) (λ r. guard_of r.smallest keys == guard) rows
  where
    here : map row rest ≡ filter (is_other number) (rows_of_guard keys i rows)
    here = taken_out row number (get_or tables i []) rest t (rows_of_guard keys i rows) (differ_filter (λ r. guard_of r.smallest keys == i) rows differ) (each i) out

    among : IsIn (row t) (rows_of_guard keys i rows)
    among = taken_among row number (get_or tables i []) rest t (rows_of_guard keys i rows) (each i) out

    others : guard ≢ i → (x : TableRow) → IsIn x (rows_of_guard keys guard rows) → is_other number x ≡ true
    others apart x h =
        let inside = in_filtered (λ (r : TableRow). guard_of r.smallest keys == guard) x rows h in
        let own = in_filtered (λ (r : TableRow). guard_of r.smallest keys == i) (row t) rows among in
        other_is number x (λ same. apart (sym (eqb-true (guard_of x.smallest keys) guard inside.1)
        ∙ ap (λ (r : TableRow). guard_of r.smallest keys) (one_row rows x (row t) differ inside.0 own.0 (same ∙ sym out.named)) ∙ eqb-true (guard_of (row t).smallest keys) i own.1))

    by : (guard ≡ i) ⊎ (guard ≢ i) → (i < length tables) ⊎ (length tables ≤ i) → map row (get_or (set tables i rest) guard []) ≡ filter (is_other number) (rows_of_guard keys guard rows)
    by (inl same) (inl within) =
        subst (λ (g : ℕ). map row (get_or (set tables i rest) g []) ≡ filter (is_other number) (rows_of_guard keys g rows)) (sym same) (ap (map row) (get_or-set_same tables i rest [] within) ∙ here)
    by (inl same) (inr past) = absurd (none_is_some out.before out.behind t (sym (past_end tables i past) ∙ out.was))
    by (inr apart) within = ap (map row) (get_or-set_other tables i guard rest [] apart) ∙ each guard ∙ sym (all_pass (is_other number) (rows_of_guard keys guard rows) (others apart))

-- a table is taken from the level
pub taken : {T : Type 0} (row : T → TableRow) (number : ℕ) (old new : Guards T) (t : T) (rows : List TableRow) → Differ rows → HasRows row old rows → Takes row number old t new
    → HasRows row new (rows_without (number ∷ []) rows)
taken {T} row number old new t rows differ each takes guard =
    subst (λ ks. map row (tables_of new guard) ≡ rows_of_guard ks guard (rows_without (number ∷ []) rows)) (sym takes.keys)
    (ap (λ (ts : List (List T)). map row (get_or ts guard [])) takes.tables.now
    ∙ taken_from row number old.keys old.tables rows takes.tables.guard takes.tables.rest t differ each takes.tables.out guard)

pub taken_row : {T : Type 0} (row : T → TableRow) (number : ℕ) (old new : Guards T) (t : T) (rows : List TableRow) → HasRows row old rows → Takes row number old t new → IsIn (row t) rows
taken_row row number old new t rows each takes =
    (in_filtered (λ (r : TableRow). guard_of r.smallest old.keys == takes.tables.guard) (row t) rows
    (taken_among row number (tables_of old takes.tables.guard) takes.tables.rest t (rows_of_guard old.keys takes.tables.guard rows) (each takes.tables.guard) takes.tables.out)).0

-- ---- a number that no table has

absent_at : {T : Type 0} (row : T → TableRow) (number : ℕ) (tables : List (List T)) (i : ℕ) → AllByRecursion (IsAbsent row number) tables → IsAbsent row number (get_or tables i [])
absent_at row number [] i absent = tt
absent_at row number (ts ∷ tables) zero absent = absent.0
absent_at row number (ts ∷ tables) (suc i) absent = absent_at row number tables i absent.1

pub none_named : {T : Type 0} (row : T → TableRow) (number : ℕ) (ts : List T) (r : TableRow) → IsAbsent row number ts → IsIn r (map row ts) → r.number ≢ number
none_named row number [] r absent among = absurd among
none_named row number (t ∷ ts) r absent among = elim among [
  | inl same ↦ λ is. absent.0 (ap (λ (x : TableRow). x.number) (sym same) ∙ is)
  | inr later ↦ none_named row number ts r absent.1 later
]

pub absent_row : {T : Type 0} (row : T → TableRow) (number : ℕ) (g : Guards T) (rows : List TableRow) (r : TableRow) → HasRows row g rows → AllByRecursion (IsAbsent row number) g.tables → IsIn r rows → r.number ≢ number
absent_row row number g rows r each absent among =
    let guard = guard_of r.smallest g.keys in
    let inside = filtered_in (λ (x : TableRow). guard_of x.smallest g.keys == guard) r rows among (eqb_same guard) in
    none_named row number (tables_of g guard) r (absent_at row number g.tables guard absent) (subst (IsIn r) (sym (each guard)) inside)

-- ---- many numbers

-- the numbers are all above this one
AllAbove : ℕ → List ℕ → Type 0
AllAbove low ns = AllByRecursion (λ n. low < n) ns

ascend_on : (a b : ℕ) (ns : List ℕ) → numbers_ascend (a ∷ b ∷ ns) ≡ true → (a < b) × (numbers_ascend (b ∷ ns) ≡ true)
ascend_on a b ns h =
    let parts = and_parts (nat_lt a b) (list_all (λ (p : ℕ × ℕ). nat_lt p.0 p.1) (zip (b ∷ ns) ns)) h in
    (ltb-true a b parts.0, parts.1)

ascend_tail : (n : ℕ) (ns : List ℕ) → numbers_ascend (n ∷ ns) ≡ true → numbers_ascend ns ≡ true
ascend_tail n [] h = refl
ascend_tail n (m ∷ ns) h = (ascend_on n m ns h).1

above_all : (low n : ℕ) (ns : List ℕ) → low < n → numbers_ascend (n ∷ ns) ≡ true → AllAbove low (n ∷ ns)
unfolding AllAbove
above_all low n [] less h = (less, tt)
above_all low n (m ∷ ns) less h =
    let on = ascend_on n m ns h in
    (less, above_all low m ns (omega (arith, less, on.0)) on.1)

above_first : (n : ℕ) (ns : List ℕ) → numbers_ascend (n ∷ ns) ≡ true → AllAbove n ns
unfolding AllAbove
above_first n [] h = tt
above_first n (m ∷ ns) h = above_all n m ns (ascend_on n m ns h).0 (ascend_on n m ns h).1

still_among : (n : ℕ) (ns : List ℕ) (rows : List TableRow) → AllAbove n ns → AreNumbersOf ns rows → AreNumbersOf ns (rows_without (n ∷ []) rows)
unfolding AllAbove
still_among n [] rows above among = tt
still_among n (m ∷ ns) rows above among = (
  (among.0.0, (filtered_in (is_other n) among.0.0 rows among.0.1.0 (other_is n among.0.0 (λ same. omega (arith, above.0, same, among.0.1.1))), among.0.1.1)),
  still_among n ns rows above.1 among.1,
)

pub inputs_on : (n : ℕ) (ns : List ℕ) (rows : List TableRow) → AreInputs (n ∷ ns) rows → AreInputs ns (rows_without (n ∷ []) rows)
inputs_on n ns rows are = record {
  differ = differ_filter (is_other n) rows are.differ;
  ascend = ascend_tail n ns are.ascend;
  among = still_among n ns rows (above_first n ns are.ascend) are.among.1;
}

-- ---- a loop that takes one table after another

-- from what has rows in this sense tables were taken, and those of these numbers are left to take
pub record Taking {T : Type 0} (row : T → TableRow) (Has : List TableRow → Type 0) (gone : List T) (left all : List ℕ) (rows : List TableRow) : Type 0 where
  pub middle : List TableRow
  pub has : Has middle
  pub inputs_are : AreInputs left middle
  pub rest : rows_without left middle ≡ rows_without all rows
  pub fewer : (r : TableRow) → IsIn r middle → IsIn r rows
  pub numbered : map (λ t. (row t).number) gone ++ left ≡ all
  pub among : AllByRecursion (λ t. IsIn (row t) rows) gone

pub taking_begins : {T : Type 0} (row : T → TableRow) (Has : List TableRow → Type 0) (ns : List ℕ) (rows : List TableRow) → Has rows → AreInputs ns rows → Taking row Has [] ns ns rows
taking_begins row Has ns rows has are = record { middle = rows; has = has; inputs_are = are; rest = refl; fewer = λ r h. h; numbered = refl; among = tt }

pub all_push : {X : Type 0} (P : X → Type 0) (xs : List X) (x : X) → AllByRecursion P xs → P x → AllByRecursion P (xs ++ x ∷ [])
all_push P [] x h p = (p, tt)
all_push P (y ∷ ys) x h p = (h.0, all_push P ys x h.1 p)

pub taking_on : {T : Type 0} (row : T → TableRow) (Old New : List TableRow → Type 0) (gone : List T) (n : ℕ) (left all : List ℕ) (rows : List TableRow) (t : T)
    → ((middle : List TableRow) → Differ middle → Old middle → New (rows_without (n ∷ []) middle)) → ((middle : List TableRow) → Old middle → IsIn (row t) middle) → (row t).number ≡ n
    → Taking row Old gone (n ∷ left) all rows → Taking row New (gone ++ t ∷ []) left all rows
taking_on row Old New gone n left all rows t takes is_row named so = record {
  middle = rows_without (n ∷ []) so.middle;
  has = takes so.middle so.inputs_are.differ so.has;
  inputs_are = inputs_on n left so.middle so.inputs_are;
  rest = sym (without_more n left so.middle) ∙ so.rest;
  fewer = λ r h. so.fewer r (in_filtered (is_other n) r so.middle h).0;
  numbered =
      ap (λ ns. ns ++ left) (map-append (λ u. (row u).number) gone (t ∷ [])) ∙ append_assoc (map (λ u. (row u).number) gone) ((row t).number ∷ []) left
      ∙ ap (λ m. map (λ u. (row u).number) gone ++ m ∷ left) named ∙ so.numbered;
  among = all_push (λ u. IsIn (row u) rows) gone t so.among (so.fewer (row t) (is_row so.middle so.has));
}

-- each of the numbers is there to be taken
pub taking_none : {T : Type 0} (row : T → TableRow) (Has : List TableRow → Type 0) (gone : List T) (n : ℕ) (left all : List ℕ) (rows : List TableRow)
    → ((middle : List TableRow) (r : TableRow) → Has middle → IsIn r middle → r.number ≢ n) → Taking row Has gone (n ∷ left) all rows → ⊥
taking_none row Has gone n left all rows absent so = absent so.middle so.inputs_are.among.0.0 so.has so.inputs_are.among.0.1.0 so.inputs_are.among.0.1.1

pub taking_ends : {T : Type 0} (row : T → TableRow) (Has : List TableRow → Type 0) (gone : List T) (ns : List ℕ) (rows : List TableRow) → Taking row Has gone [] ns rows → IsTaken row Has gone ns rows
taking_ends row Has gone ns rows so = record {
  has = subst Has (sym (without_none so.middle) ∙ so.rest) so.has;
  tables_are = record { numbered = sym (append-nil (map (λ t. (row t).number) gone)) ∙ so.numbered; among = so.among };
}

-- a step of the loop over a level, and over the tables of level 0
pub level_step : {T : Type 0} (row : T → TableRow) (old new : Guards T) (gone more : List T) (ns : List ℕ) (i : ℕ) (rows : List TableRow) (t : T) → i < length ns → Takes row (get_or ns i 0) old t new → more ≡ gone ++ t ∷ []
    → Taking row (HasRows row old) gone (drop i ns) ns rows → Taking row (HasRows row new) more (drop (i + 1) ns) ns rows
level_step {T} row old new gone more ns i rows t within takes pushed so =
    subst (λ (gs : List T). Taking row (HasRows row new) gs (drop (i + 1) ns) ns rows) (sym pushed)
    (taking_on row (HasRows row old) (HasRows row new) gone (get_or ns i 0) (drop (i + 1) ns) ns rows t
    (λ middle differ has. taken row (get_or ns i 0) old new t middle differ has takes) (λ middle has. taken_row row (get_or ns i 0) old new t middle has takes) takes.tables.out.named
    (subst (λ left. Taking row (HasRows row old) gone left ns rows) (drop_more ns i 0 within) so))

pub level_none : {T : Type 0} (row : T → TableRow) (old : Guards T) (gone : List T) (ns : List ℕ) (i : ℕ) (rows : List TableRow) → i < length ns → AllByRecursion (IsAbsent row (get_or ns i 0)) old.tables
    → Taking row (HasRows row old) gone (drop i ns) ns rows → ⊥
level_none row old gone ns i rows within absent so =
    taking_none row (HasRows row old) gone (get_or ns i 0) (drop (i + 1) ns) ns rows (λ middle r has among. absent_row row (get_or ns i 0) old middle r has absent among)
    (subst (λ left. Taking row (HasRows row old) gone left ns rows) (drop_more ns i 0 within) so)

-- the rows of a list of tables
abbrev pub AreRowsOf : {T : Type 0} → (T → TableRow) → List T → List TableRow → Type 0
AreRowsOf row ts rows = map row ts ≡ rows

pub list_step : {T : Type 0} (row : T → TableRow) (old new : List T) (gone more : List T) (ns : List ℕ) (i : ℕ) (rows : List TableRow) (t : T) → i < length ns → TakesOut row (get_or ns i 0) old t new → more ≡ gone ++ t ∷ []
    → Taking row (AreRowsOf row old) gone (drop i ns) ns rows → Taking row (AreRowsOf row new) more (drop (i + 1) ns) ns rows
list_step {T} row old new gone more ns i rows t within takes pushed so =
    subst (λ (gs : List T). Taking row (AreRowsOf row new) gs (drop (i + 1) ns) ns rows) (sym pushed)
    (taking_on row (AreRowsOf row old) (AreRowsOf row new) gone (get_or ns i 0) (drop (i + 1) ns) ns rows t
    (λ middle differ has. taken_out row (get_or ns i 0) old new t middle differ has takes) (λ middle has. taken_among row (get_or ns i 0) old new t middle has takes) takes.named
    (subst (λ left. Taking row (AreRowsOf row old) gone left ns rows) (drop_more ns i 0 within) so))

pub list_none : {T : Type 0} (row : T → TableRow) (old : List T) (gone : List T) (ns : List ℕ) (i : ℕ) (rows : List TableRow) → i < length ns → IsAbsent row (get_or ns i 0) old
    → Taking row (AreRowsOf row old) gone (drop i ns) ns rows → ⊥
list_none row old gone ns i rows within absent so =
    taking_none row (AreRowsOf row old) gone (get_or ns i 0) (drop (i + 1) ns) ns rows (λ middle r has among. none_named row (get_or ns i 0) old r absent (subst (IsIn r) (sym has) among))
    (subst (λ left. Taking row (AreRowsOf row old) gone left ns rows) (drop_more ns i 0 within) so)

-- at the loop's end nothing is left to take
pub taking_done : {T : Type 0} (row : T → TableRow) (Has : List TableRow → Type 0) (gone : List T) (ns : List ℕ) (i : ℕ) (rows : List TableRow) → length ns ≤ i → Taking row Has gone (drop i ns) ns rows → IsTaken row Has gone ns rows
taking_done row Has gone ns i rows past so = taking_ends row Has gone ns rows (subst (λ left. Taking row Has gone left ns rows) (drop_all i ns past) so)
