-- Each job that settles the store lessens what there is to do.
use Rattle.std.proofs.Common.{nat_le, ◌≡◌, ℕ, zero, suc, ◌+◌, ◌<◌, ◌≤◌, Bool, true, false, cond, ◌&&◌, not, List, [], ◌∷◌, ◌++◌, length, ◌⊎◌, inl, inr, refl, sym, ap, subst, arith}
use Rattle.std.specs.Prelude.{if◌then◌else◌, nat_lt, ◌==◌, ◌*◌}
use Rattle.std.proofs.lemmas.Nat.{mul-add-lt, mul-le}
use Rattle.std.specs.List.{list_all}
use Rattle.std.specs.Cmp.Lexicographic.{bytes_decides}
use Rattle.std.proofs.lemmas.Bool.{and_parts, and_from, or_left, or_right, eqb-true, eq-eqb, ltb-true, lt-ltb, le-ltb, leb-true, true≢false, false≢true, not-true, cases_lt}
use Rattle.peb_base.specs.Keys.{Bytes, key_lt, key_eq}
use Rattle.peb_base.specs.Profiles.{column, Column}
use Rattle.peb_base.specs.declared.profile.Profile.{Profile}
use Rattle.peb_base.specs.declared.table_row.TableRow.{TableRow}
use Rattle.std.proofs.lemmas.List.{length-append}
use Rattle.flsm_model.specs.declared.chosen.Chosen.{Chosen}
use Rattle.flsm_model.specs.declared.edit.Edit.{Edit}
use Rattle.flsm_model.specs.declared.edit.Edit.TheVariants.{Open, Flush, Move, Cut, Merge}
use Rattle.flsm_model.specs.Ranges.{has_key, first_of, with_key, with_keys, range_of}
use Rattle.flsm_model.specs.Shape.{Record, Shape, empty_shape, shape_from, shape_of, outputs_of, shape_after, guards_at, has_number, rows_numbered, rows_without}
use Rattle.peb_base.specs.Tables.{is_row}
use Rattle.flsm_model.specs.Fits.{fits, fit_from, is_new, is_of_session, rows_are_new, is_guard, is_live, is_legal_record, is_some_list, is_straddled}
use Rattle.flsm_model.specs.Writes.{total, one_if}
use Rattle.peb_base.specs.Members.{IsIn}
use Rattle.flsm_model.specs.Settling.{sum_to, entries_in, entries_above, levels_to_go, levels_open, uncommitted, last_tables, most_uncommitted, entries_held, Lessens, measure, to_do, keys_chosen, entries_taken, frozen_after, HasWork, EditsSettle, NumberFalls}
use Rattle.flsm_model.proofs.guards.Facts.{move_facts, flush_facts, cut_facts, merge_facts}
use Rattle.flsm_model.proofs.lists.Totals.{total-append, total-parts}
use Rattle.flsm_model.proofs.lists.Lists.{all_in, any_in, in_kept, in_append, in_filter, list_all-weaker}
use Rattle.flsm_model.proofs.guards.InGuards.{InGuards, guards_after}
use Rattle.flsm_model.proofs.guards.GuardKeys.{guard_stays}
use Rattle.flsm_model.proofs.contents.Base.{kept_empty}
use Rattle.flsm_model.proofs.histories.Committed.{fit_append}
use Rattle.flsm_model.proofs.histories.Whole.{guards_from, shape_push}

-- ---- sums

le_same : (n : ℕ) → n ≤ n
le_same n = omega arith

sum_le : (f g : ℕ → ℕ) (n : ℕ) → ((l : ℕ) → l ≤ n → f l ≤ g l) → sum_to f n ≤ sum_to g n
sum_le f g zero h = h zero (omega arith)
sum_le f g (suc n) h = omega (arith, sum_le f g n (λ l q. h l (omega arith)), h (suc n) (omega arith))

sum_lt : (f g : ℕ → ℕ) (n k : ℕ) → ((l : ℕ) → l ≤ n → f l ≤ g l) → k ≤ n → f k < g k → sum_to f n < sum_to g n
sum_lt f g zero k h q s = let e : k ≡ zero = omega arith in subst (λ x. f x < g x) e s
sum_lt f g (suc n) k h q s = elim (cases_lt k (suc n)) [
  | inl l ↦ omega (arith, sum_lt f g n k (λ x y. h x (omega arith)) (omega arith) s, h (suc n) (omega arith))
  | inr l ↦
      let e : k ≡ suc n = omega arith in
      let t : f (suc n) < g (suc n) = subst (λ x. f x < g x) e s in
      omega (arith, sum_le f g n (λ x y. h x (omega arith)), t)
]

total_le : {X : Type 0} (f g : X → ℕ) (xs : List X) → ((x : X) → f x ≤ g x) → total f xs ≤ total g xs
total_le f g [] h = omega arith
total_le f g (x ∷ xs) h = omega (arith, h x, total_le f g xs h)

total_lt : {X : Type 0} (f g : X → ℕ) (x : X) (xs : List X) → IsIn x xs → ((y : X) → f y ≤ g y) → f x < g x → total f xs < total g xs
total_lt f g x [] i h s = absurd i
total_lt f g x (y ∷ ys) i h s = elim i [
  | inl e ↦ let t : f y < g y = subst (λ z. f z < g z) e s in omega (arith, t, total_le f g ys h)
  | inr r ↦ omega (arith, h y, total_lt f g x ys r h s)
]

total_in : {X : Type 0} (f : X → ℕ) (x : X) (xs : List X) → IsIn x xs → f x ≤ total f xs
total_in f x [] i = absurd i
total_in f x (y ∷ ys) i = elim i [
  | inl e ↦ let t : f x ≡ f y = ap f e in omega (arith, t)
  | inr r ↦ omega (arith, total_in f x ys r)
]

-- ---- entries above a level

all_counted : (l at : ℕ) (rs : List TableRow) → list_all (λ r. r.level == at) rs ≡ true → at < l → entries_above l rs ≡ entries_in rs
all_counted l at [] h q = refl
all_counted l at (r ∷ rs) h q =
    let p = and_parts (r.level == at) (list_all (λ r. r.level == at) rs) h in
    let e : r.level ≡ at = eqb-true r.level at p.0 in
    rw (lt-ltb r.level l (rw e q)) (omega (arith, all_counted l at rs p.1 q))

none_counted : (l at : ℕ) (rs : List TableRow) → list_all (λ r. r.level == at) rs ≡ true → l ≤ at → entries_above l rs ≡ 0
none_counted l at [] h q = refl
none_counted l at (r ∷ rs) h q =
    let p = and_parts (r.level == at) (list_all (λ r. r.level == at) rs) h in
    let e : r.level ≡ at = eqb-true r.level at p.0 in
    rw (le-ltb r.level l (rw e q)) (omega (arith, none_counted l at rs p.1 q))

few_counted : (l : ℕ) (rs : List TableRow) → entries_above l rs ≤ entries_in rs
few_counted l rs = total_le (λ (r : TableRow). if nat_lt r.level l then r.entries else 0) (λ (r : TableRow). r.entries) rs (λ r. by (nat_lt r.level l) r.entries)
  where
    by : (b : Bool) (n : ℕ) → cond b n 0 ≤ n
    by true n = omega arith
    by false n = omega arith

-- what is taken and what stays
parts : (l : ℕ) (ns : List ℕ) (rs : List TableRow) → entries_above l (rows_numbered ns rs) + entries_above l (rows_without ns rs) ≡ entries_above l rs
parts l ns rs = total-parts (λ (r : TableRow). if nat_lt r.level l then r.entries else 0) (λ r. has_number r.number ns) rs

joined : (l : ℕ) (xs ys : List TableRow) → entries_above l (xs ++ ys) ≡ entries_above l xs + entries_above l ys
joined l xs ys = total-append (λ (r : TableRow). if nat_lt r.level l then r.entries else 0) xs ys

-- live inputs have an entry
has_entry : (s : Shape) (inputs : List ℕ) → ((r : TableRow) → IsIn r s.live → 0 < r.entries) → is_some_list inputs ≡ true → list_all (is_live s) inputs ≡ true
    → 0 < entries_in (rows_numbered inputs s.live)
has_entry s [] w a h = absurd (false≢true a)
has_entry s (n ∷ ns) w a h =
    let r = any_in (λ (x : TableRow). x.number == n) s.live (and_parts _ _ h).0 in
    let named : has_number r.0.number (n ∷ ns) ≡ true = or_left (r.0.number == n) (has_number r.0.number ns) r.2 in
    omega (arith, w r.0 r.1, total_in (λ (x : TableRow). x.entries) r.0 (rows_numbered (n ∷ ns) s.live) (in_kept (λ (x : TableRow). has_number x.number (n ∷ ns)) r.0 s.live r.1 named))

-- ---- a Flush

flush_lessens : (o : Column) (s : Shape) (frozen : ℕ) (row : TableRow) (from to log : ℕ) (chosen : List Chosen)
    → fits o s (Flush row from to log chosen) ≡ true → 0 < frozen → row.entries ≤ frozen
    → Lessens o frozen s 0 (shape_after s (Flush row from to log chosen))
flush_lessens o s frozen row from to log chosen f some few = inl (sum_lt (λ l. 0 + entries_above l after) (λ l. frozen + entries_above l s.live) o.last_level 0 each (omega arith) strict)
  where
    after : List TableRow
    after = rows_without [] s.live ++ row ∷ []

    at : list_all (λ r. r.level == 0) (row ∷ []) ≡ true
    at = and_from (row.level == 0) true (eq-eqb row.level 0 (flush_facts o s row from to log chosen f).at) refl

    each : (l : ℕ) → l ≤ o.last_level → 0 + entries_above l after ≤ frozen + entries_above l s.live
    each l q = omega (arith, parts l [] s.live, joined l (rows_without [] s.live) (row ∷ []), few_counted l (row ∷ []))

    strict : 0 + entries_above 0 after < frozen + entries_above 0 s.live
    strict = omega (arith, parts 0 [] s.live, joined 0 (rows_without [] s.live) (row ∷ []), none_counted 0 0 (row ∷ []) at (omega arith))

-- ---- a Move

move_lessens : (o : Column) (s : Shape) (frozen level floor : ℕ) (inputs : List ℕ) (outputs : List TableRow)
    → fits o s (Move level floor inputs outputs) ≡ true → ((r : TableRow) → IsIn r s.live → 0 < r.entries)
    → entries_in outputs ≤ entries_in (rows_numbered inputs s.live)
    → Lessens o frozen s frozen (shape_after s (Move level floor inputs outputs))
move_lessens o s frozen level floor inputs outputs f made few =
    let k = move_facts o s level floor inputs outputs f in
    inl (sum_lt (λ l. frozen + entries_above l after) (λ l. frozen + entries_above l s.live) o.last_level (suc level) (each k.at k.below) (omega (arith, k.above))
    (omega (
      arith,
      parts (suc level) inputs s.live,
      joined (suc level) (rows_without inputs s.live) outputs,
      all_counted (suc level) level (rows_numbered inputs s.live) k.at (omega arith),
      none_counted (suc level) (suc level) outputs k.below (omega arith),
      has_entry s inputs made k.some k.live,
    )))
  where
    after : List TableRow
    after = rows_without inputs s.live ++ outputs

    each : list_all (λ r. r.level == level) (rows_numbered inputs s.live) ≡ true → list_all (λ r. r.level == suc level) outputs ≡ true
        → (l : ℕ) → l ≤ o.last_level → frozen + entries_above l after ≤ frozen + entries_above l s.live
    each a b l q = elim (cases_lt level l) [
      | inl lt ↦ omega (arith, parts l inputs s.live, joined l (rows_without inputs s.live) outputs, all_counted l level (rows_numbered inputs s.live) a lt, few_counted l outputs)
      | inr ge ↦ omega (arith, parts l inputs s.live, joined l (rows_without inputs s.live) outputs, none_counted l (suc level) outputs b (omega arith))
    ]

-- ---- a Merge

last_parts : (o : Column) (ns : List ℕ) (rs : List TableRow) → last_tables o (rows_numbered ns rs) + last_tables o (rows_without ns rs) ≡ last_tables o rs
last_parts o ns rs = total-parts (λ (r : TableRow). one_if (r.level == o.last_level)) (λ r. has_number r.number ns) rs

last_few : (o : Column) (rs : List TableRow) → last_tables o rs ≤ length rs
last_few o [] = omega arith
last_few o (r ∷ rs) = by (r.level == o.last_level) (last_few o rs)
  where
    by : (b : Bool) → last_tables o rs ≤ length rs → one_if b + last_tables o rs ≤ suc (length rs)
    by true h = omega arith
    by false h = omega arith

merge_lessens : (o : Column) (s : Shape) (frozen floor : ℕ) (whole : Bool) (inputs : List ℕ) (outputs : List TableRow)
    → fits o s (Merge floor whole inputs outputs) ≡ true → 2 ≤ last_tables o (rows_numbered inputs s.live)
    → Lessens o frozen s frozen (shape_after s (Merge floor whole inputs outputs))
merge_lessens o s frozen floor whole inputs outputs f two =
    let k = merge_facts o s floor whole inputs outputs f in
    let p2 = and_parts _ _ (and_parts _ _ (and_parts _ _ (and_parts _ _ f).0).0).0 in
    let one : length outputs ≤ 1 = leb-true (length outputs) 1 p2.1 in
    inr (inr (
      sum_le (λ l. frozen + entries_above l after) (λ l. frozen + entries_above l s.live) o.last_level
          (λ l q. omega (arith, parts l inputs s.live, joined l (rows_without inputs s.live) outputs, none_counted l o.last_level outputs k.below q)),
      le_same (uncommitted o s),
      omega (
        arith,
        last_parts o inputs s.live,
        total-append (λ (r : TableRow). one_if (r.level == o.last_level)) (rows_without inputs s.live) outputs,
        last_few o outputs,
        one,
        two,
      ),
    ))
  where
    after : List TableRow
    after = rows_without inputs s.live ++ outputs

-- ---- a Cut

with_self : (k : Bytes) (gs : List Bytes) → has_key k (with_key k gs) ≡ true
with_self k [] = or_left (key_eq k k) false ((bytes_decides k k).1 refl)
with_self k (g ∷ gs) = by (key_lt k g) (key_eq k g) refl (with_self k gs)
  where
    by : (a b : Bool) → key_eq k g ≡ b → has_key k (with_key k gs) ≡ true → has_key k (cond a (k ∷ g ∷ gs) (cond b (g ∷ gs) (g ∷ with_key k gs))) ≡ true
    by true b e ih = or_left (key_eq k k) _ ((bytes_decides k k).1 refl)
    by false true e ih = or_left (key_eq k g) _ e
    by false false e ih = or_right (key_eq k g) _ ih

with_first : (ks gs : List Bytes) → is_some_list ks ≡ true → has_key (first_of ks) (with_keys ks gs) ≡ true
with_first [] gs h = absurd (false≢true h)
with_first (k ∷ ks) gs h = with_self k (with_keys ks gs)

first_passes : (p : Bytes → Bool) (ks : List Bytes) → is_some_list ks ≡ true → list_all p ks ≡ true → p (first_of ks) ≡ true
first_passes p [] a h = absurd (false≢true a)
first_passes p (k ∷ ks) a h = (and_parts _ _ h).0

-- a guard more is a level open less
one_le : (a b c : Bool) → (b ≡ true → c ≡ true) → one_if (a && not c) ≤ one_if (a && not b)
one_le false b c h = omega arith
one_le true false true h = omega arith
one_le true false false h = omega arith
one_le true true true h = omega arith
one_le true true false h = absurd (true≢false (sym (h refl)))

module _ (o : Column) (s s2 : Shape) (stays : (l : ℕ) (k : Bytes) → is_guard s l k ≡ true → is_guard s2 l k ≡ true) where
  levels_le : (c : Chosen) (n : ℕ) → levels_open s2 c n ≤ levels_open s c n
  levels_le c zero = omega arith
  levels_le c (suc n) = omega (arith, levels_le c n, one_le (nat_le c.level (suc n)) (is_guard s (suc n) c.key) (is_guard s2 (suc n) c.key) (stays (suc n) c.key))

  closed : (c : Chosen) (n : ℕ) → nat_le c.level n ≡ true → is_guard s n c.key ≡ false → is_guard s2 n c.key ≡ true
      → one_if (nat_le c.level n && not (is_guard s2 n c.key)) < one_if (nat_le c.level n && not (is_guard s n c.key))
  closed c n a b d = rw (a, b, d) (omega arith)

  levels_lt : (c : Chosen) (n m : ℕ) → 1 ≤ m → m ≤ n → nat_le c.level m ≡ true → is_guard s m c.key ≡ false → is_guard s2 m c.key ≡ true
      → levels_open s2 c n < levels_open s c n
  levels_lt c zero m d q a b g = absurd (omega arith)
  levels_lt c (suc n) m d q a b g = elim (cases_lt m (suc n)) [
    | inl l ↦ omega (arith, levels_lt c n m d (omega arith) a b g, one_le (nat_le c.level (suc n)) (is_guard s (suc n) c.key) (is_guard s2 (suc n) c.key) (stays (suc n) c.key))
    | inr l ↦
        let e : m ≡ suc n = omega arith in
        let t = closed c (suc n) (subst (λ x. nat_le c.level x ≡ true) e a) (subst (λ x. is_guard s x c.key ≡ false) e b) (subst (λ x. is_guard s2 x c.key ≡ true) e g) in
        omega (arith, levels_le c n, t)
  ]

cut_lessens : (o : Column) (s : Shape) (frozen level : ℕ) (keys : List Bytes) (inputs : List ℕ) (outputs : List TableRow)
    → InGuards o s → fits o s (Cut level keys inputs outputs) ≡ true → entries_in outputs ≤ entries_in (rows_numbered inputs s.live)
    → Lessens o frozen s frozen (shape_after s (Cut level keys inputs outputs))
cut_lessens o s frozen level keys inputs outputs g f few =
    let k = cut_facts o s level keys inputs outputs f in
    let at : list_all (λ r. r.level == level) (rows_numbered inputs s.live) ≡ true =
    list_all-weaker (is_straddled level (range_of (guards_at s level) (first_of keys)) keys) (λ r. r.level == level) (rows_numbered inputs s.live)
    (λ r x. (and_parts _ _ (and_parts _ _ x).0).0) k.straddled in
    let p3 = and_parts _ _ (first_passes _ keys k.some k.candidates) in
    let p2 = and_parts _ _ p3.0 in
    let p1 = and_parts _ _ p2.0 in
    let fresh : is_guard s level (first_of keys) ≡ false = not-true _ p2.1 in
    let c = any_in (λ (x : Chosen). nat_le x.level level && key_eq (first_of keys) x.key) s.chosen p1.0 in
    let p0 = and_parts (nat_le c.0.level level) (key_eq (first_of keys) c.0.key) c.2 in
    let same : first_of keys ≡ c.0.key = (bytes_decides (first_of keys) c.0.key).0 p0.1 in
    inr (inl (
      sum_le (λ l. frozen + entries_above l after) (λ l. frozen + entries_above l s.live) o.last_level (each at k.at),
      total_lt (λ (x : Chosen). levels_open s2 x o.last_level) (λ (x : Chosen). levels_open s x o.last_level) c.0 s.chosen c.1
          (λ x. levels_le o s s2 (λ l a. guard_stays o s e l a g f) x o.last_level)
          (levels_lt o s s2 (λ l a. guard_stays o s e l a g f) c.0 o.last_level level k.from k.upto p0.0 (subst (λ x. is_guard s level x ≡ false) same fresh)
          (subst (λ x. is_guard s2 level x ≡ true) same (new_guard k.from k.upto k.some))),
    ))
  where
    e : Edit
    e = Cut level keys inputs outputs

    s2 : Shape
    s2 = shape_after s e

    after : List TableRow
    after = rows_without inputs s.live ++ outputs

    each : list_all (λ r. r.level == level) (rows_numbered inputs s.live) ≡ true → list_all (λ r. r.level == level) outputs ≡ true
        → (l : ℕ) → l ≤ o.last_level → frozen + entries_above l after ≤ frozen + entries_above l s.live
    each a b l q = elim (cases_lt level l) [
      | inl lt ↦ omega (arith, parts l inputs s.live, joined l (rows_without inputs s.live) outputs, all_counted l level (rows_numbered inputs s.live) a lt, few_counted l outputs)
      | inr ge ↦ omega (arith, parts l inputs s.live, joined l (rows_without inputs s.live) outputs, none_counted l level outputs b ge)
    ]

    new_guard : 1 ≤ level → level ≤ o.last_level → is_some_list keys ≡ true → is_guard s2 level (first_of keys) ≡ true
    new_guard from upto some = elim (guards_after s level level keys inputs outputs (omega (arith, g.count, from, upto)) from from) [
      | inl x ↦ subst (λ gs. has_key (first_of keys) gs ≡ true) (sym x.1) (with_first keys (guards_at s level) some)
      | inr x ↦ absurd (x.0 refl)
    ]

-- ---- as one number, as a loop wants it

-- two digits fall where the first falls, or stays and the second falls
pair_lt : (a b a2 b2 w : ℕ) → b2 < w → (a2 < a) ⊎ ((a2 ≤ a) × (b2 < b)) → a2 * w + b2 < a * w + b
pair_lt a b a2 b2 w l h = elim h [
  | inl s ↦ omega (arith, mul-add-lt a2 w b2 a s l, commutes a w)
  | inr s ↦ omega (arith, mul-le a2 w a w s.0 (le_same w), s.1)
]
  where
    commutes : (x y : ℕ) → y * x ≡ x * y
    commutes x y = grind arith

pub one_number : (P E a b c a2 b2 c2 : ℕ) → b2 ≤ P → c2 ≤ E → (a2 < a) ⊎ (((a2 ≤ a) × (b2 < b)) ⊎ ((a2 ≤ a) × (b2 ≤ b) × (c2 < c))) → measure P E a2 b2 c2 < measure P E a b c
one_number P E a b c a2 b2 c2 p e h = elim h [
  | inl x ↦ pair_lt _ c _ c2 (suc E) (omega arith) (inl (pair_lt a b a2 b2 (suc P) (omega arith) (inl x)))
  | inr y ↦ elim y [
    | inl x ↦ pair_lt _ c _ c2 (suc E) (omega arith) (inl (pair_lt a b a2 b2 (suc P) (omega arith) (inr x)))
    | inr x ↦ pair_lt _ c _ c2 (suc E) (omega arith) (inr (omega (arith, mul-le a2 (suc P) a (suc P) x.0 (le_same (suc P)), x.1), x.2))
  ]
]

-- lesser weights make no greater number
weights_le : (P E P2 E2 a b c : ℕ) → P2 ≤ P → E2 ≤ E → measure P2 E2 a b c ≤ measure P E a b c
weights_le P E P2 E2 a b c p e =
    let x : a * suc P2 + b ≤ a * suc P + b = omega (arith, mul-le a (suc P2) a (suc P) (le_same a) (omega (arith, p))) in
    omega (arith, mul-le (a * suc P2 + b) (suc E2) (a * suc P + b) (suc E) x (omega (arith, e)))

-- ---- what bounds the second digit and the third

open_few : (s : Shape) (c : Chosen) (n : ℕ) → levels_open s c n ≤ n
open_few s c zero = omega arith
open_few s c (suc n) = by (nat_le c.level (suc n) && not (is_guard s (suc n) c.key)) (open_few s c n)
  where
    by : (b : Bool) → levels_open s c n ≤ n → one_if b + levels_open s c n ≤ suc n
    by true h = omega (arith, h)
    by false h = omega (arith, h)

uncommitted_few : (s : Shape) (n : ℕ) (cs : List Chosen) → total (λ (c : Chosen). levels_open s c n) cs ≤ length cs * n
uncommitted_few s n [] = omega arith
uncommitted_few s n (c ∷ cs) = omega (arith, open_few s c n, uncommitted_few s n cs)

tables_few : (o : Column) (rs : List TableRow) → ((r : TableRow) → IsIn r rs → 0 < r.entries) → last_tables o rs ≤ entries_in rs
tables_few o [] h = omega arith
tables_few o (r ∷ rs) h = by (r.level == o.last_level) (h r (inl refl)) (tables_few o rs (λ x i. h x (inr i)))
  where
    by : (b : Bool) → 0 < r.entries → last_tables o rs ≤ entries_in rs → one_if b + last_tables o rs ≤ r.entries + entries_in rs
    by true a h = omega (arith, a, h)
    by false a h = omega (arith, a, h)

-- what is taken and what stays, by entries
entries_part : (ns : List ℕ) (rs : List TableRow) → entries_in (rows_numbered ns rs) + entries_in (rows_without ns rs) ≡ entries_in rs
entries_part ns rs = total-parts (λ (r : TableRow). r.entries) (λ r. has_number r.number ns) rs

entries_joined : (xs ys : List TableRow) → entries_in (xs ++ ys) ≡ entries_in xs + entries_in ys
entries_joined xs ys = total-append (λ (r : TableRow). r.entries) xs ys

-- an edit holds no more entries than before
held_less : (s : Shape) (e : Edit) (frozen : ℕ) → entries_in (outputs_of e) ≤ entries_taken s frozen e → entries_held (frozen_after frozen e) (shape_after s e) ≤ entries_held frozen s
held_less s (Open session log) frozen few = le_same (entries_held frozen s)
held_less s (Flush row from to log chosen) frozen few = omega (arith, entries_part [] s.live, entries_joined (rows_without [] s.live) (row ∷ []), few)
held_less s (Move level floor inputs outputs) frozen few = omega (arith, entries_part inputs s.live, entries_joined (rows_without inputs s.live) outputs, few)
held_less s (Cut level keys inputs outputs) frozen few = omega (arith, entries_part inputs s.live, entries_joined (rows_without inputs s.live) outputs, few)
held_less s (Merge floor whole inputs outputs) frozen few = omega (arith, entries_part inputs s.live, entries_joined (rows_without inputs s.live) outputs, few)

-- chosen keys and those that may come are no more than before
chosen_less : (s : Shape) (e : Edit) (frozen : ℕ) → keys_chosen e ≤ entries_taken s frozen e → length (shape_after s e).chosen + frozen_after frozen e ≤ length s.chosen + frozen
chosen_less s (Open session log) frozen few = le_same (length s.chosen + frozen)
chosen_less s (Flush row from to log chosen) frozen few = omega (arith, length-append s.chosen chosen, few)
chosen_less s (Move level floor inputs outputs) frozen few = le_same (length s.chosen + frozen)
chosen_less s (Cut level keys inputs outputs) frozen few = le_same (length s.chosen + frozen)
chosen_less s (Merge floor whole inputs outputs) frozen few = le_same (length s.chosen + frozen)

-- so the number falls where the three lessen
falls : (o : Column) (s : Shape) (e : Edit) (frozen : ℕ) → ((r : TableRow) → IsIn r (shape_after s e).live → 0 < r.entries)
    → Lessens o frozen s (frozen_after frozen e) (shape_after s e) → entries_in (outputs_of e) ≤ entries_taken s frozen e → keys_chosen e ≤ entries_taken s frozen e
    → to_do o (frozen_after frozen e) (shape_after s e) < to_do o frozen s
falls o s e frozen some less few keys =
    let s2 : Shape = shape_after s e in
    let f2 : ℕ = frozen_after frozen e in
    let p : most_uncommitted o f2 s2 ≤ most_uncommitted o frozen s = mul-le _ o.last_level _ o.last_level (chosen_less s e frozen keys) (le_same o.last_level) in
    let h : entries_held f2 s2 ≤ entries_held frozen s = held_less s e frozen few in
    let b : uncommitted o s2 ≤ most_uncommitted o f2 s2 =
    omega (arith, uncommitted_few s2 o.last_level s2.chosen, mul-le (length s2.chosen) o.last_level (length s2.chosen + f2) o.last_level (omega arith) (le_same o.last_level)) in
    let c : last_tables o s2.live ≤ entries_held f2 s2 = omega (arith, tables_few o s2.live some) in
    omega (
      arith,
      weights_le (most_uncommitted o frozen s) (entries_held frozen s) (most_uncommitted o f2 s2) (entries_held f2 s2) (levels_to_go o f2 s2) (uncommitted o s2) (last_tables o s2.live) p h,
      one_number (most_uncommitted o frozen s) (entries_held frozen s) (levels_to_go o frozen s) (uncommitted o s) (last_tables o s.live) (levels_to_go o f2 s2) (uncommitted o s2) (last_tables o s2.live) (omega (arith, b, p)) (omega (arith, c, h)) less,
    )

-- ---- for every legal record

new_entries : (session : ℕ) (used : List ℕ) (x : TableRow) → is_new session used x ≡ true → 0 < x.entries
new_entries session used x h =
    let a = and_parts (is_row 0 x) _ (and_parts (is_row 0 x && is_of_session session x.number) _ h).0 in
    ltb-true 0 x.entries (and_parts _ _ (and_parts _ _ a.0).0).1

-- live tables have entries
has_entries : (o : Column) (s : Shape) (r : Record) → fit_from o s r ≡ true → ((x : TableRow) → IsIn x s.live → 0 < x.entries) → (x : TableRow) → IsIn x (shape_from s r).live → 0 < x.entries
has_entries o s [] f h = h
has_entries o s (e ∷ es) f h = let p = and_parts (fits o s e) _ f in has_entries o (shape_after s e) es p.1 (one e p.0)
  where
    some : (outputs : List TableRow) → rows_are_new s.session s.used outputs ≡ true → (x : TableRow) → IsIn x outputs → 0 < x.entries
    some outputs new x i = new_entries s.session s.used x (all_in (is_new s.session s.used) x outputs (and_parts (list_all (is_new s.session s.used) outputs) _ new).0 i)

    more : (inputs : List ℕ) (outputs : List TableRow) → rows_are_new s.session s.used outputs ≡ true → (x : TableRow) → IsIn x (rows_without inputs s.live ++ outputs) → 0 < x.entries
    more inputs outputs new x i = elim (in_append x (rows_without inputs s.live) outputs i) [
      | inl a ↦ h x (in_filter (λ (z : TableRow). not (has_number z.number inputs)) x s.live a).0
      | inr b ↦ some outputs new x b
    ]

    one : (e : Edit) → fits o s e ≡ true → (x : TableRow) → IsIn x (shape_after s e).live → 0 < x.entries
    one (Open session log) f = h
    one (Flush row from to log chosen) f = more [] (row ∷ []) (flush_facts o s row from to log chosen f).fresh
    one (Move level floor inputs outputs) f = more inputs outputs (move_facts o s level floor inputs outputs f).fresh
    one (Cut level keys inputs outputs) f = more inputs outputs (cut_facts o s level keys inputs outputs f).fresh
    one (Merge floor whole inputs outputs) f = more inputs outputs (merge_facts o s floor whole inputs outputs f).fresh

settles : (o : Column) (s : Shape) (e : Edit) (frozen : ℕ) → InGuards o s → ((x : TableRow) → IsIn x s.live → 0 < x.entries) → fits o s e ≡ true → HasWork o s frozen e
    → entries_in (outputs_of e) ≤ entries_taken s frozen e → Lessens o frozen s (frozen_after frozen e) (shape_after s e)
settles o s (Open session log) frozen g some f w few = absurd w
settles o s (Flush row from to log chosen) frozen g some f w few = flush_lessens o s frozen row from to log chosen f w (omega (arith, few))
settles o s (Move level floor inputs outputs) frozen g some f w few = move_lessens o s frozen level floor inputs outputs f some few
settles o s (Cut level keys inputs outputs) frozen g some f w few = cut_lessens o s frozen level keys inputs outputs g f few
settles o s (Merge floor whole inputs outputs) frozen g some f w few = merge_lessens o s frozen floor whole inputs outputs f w

-- an edit that fits leaves live tables with entries
entries_stay : (o : Column) (s : Shape) (e : Edit) → fits o s e ≡ true → ((x : TableRow) → IsIn x s.live → 0 < x.entries) → (x : TableRow) → IsIn x (shape_after s e).live → 0 < x.entries
entries_stay o s e f h = has_entries o s (e ∷ []) (and_from (fits o s e) true f refl) h

-- ---- the laws

module _ (p : Profile) (r : Record) (e : Edit) (frozen : ℕ) (legal : is_legal_record (column p) (r ++ e ∷ []) ≡ true) where
  before : fit_from (column p) (empty_shape (column p)) r ≡ true
  before = (fit_append (column p) (empty_shape (column p)) r (e ∷ []) legal).0

  fit : fits (column p) (shape_of (column p) r) e ≡ true
  fit = (and_parts _ _ (fit_append (column p) (empty_shape (column p)) r (e ∷ []) legal).1).0

  some_entries_live : (x : TableRow) → IsIn x (shape_of (column p) r).live → 0 < x.entries
  some_entries_live = has_entries (column p) (empty_shape (column p)) r before (λ x i. absurd i)

  lessens : HasWork (column p) (shape_of (column p) r) frozen e → entries_in (outputs_of e) ≤ entries_taken (shape_of (column p) r) frozen e
      → Lessens (column p) frozen (shape_of (column p) r) (frozen_after frozen e) (shape_after (shape_of (column p) r) e)
  lessens w few = settles (column p) (shape_of (column p) r) e frozen (guards_from (column p) (empty_shape (column p)) r before (kept_empty (column p)).guards) some_entries_live fit w few

pub edits_settle : EditsSettle
edits_settle p r e frozen legal w few =
    subst (Lessens (column p) frozen (shape_of (column p) r) (frozen_after frozen e)) (sym (shape_push (empty_shape (column p)) r e)) (lessens p r e frozen legal w few)

pub number_falls : NumberFalls
number_falls p r e frozen legal w few keys =
    subst (λ s. to_do (column p) (frozen_after frozen e) s < to_do (column p) frozen (shape_of (column p) r)) (sym (shape_push (empty_shape (column p)) r e))
    (falls (column p) (shape_of (column p) r) e frozen (entries_stay (column p) (shape_of (column p) r) e (fit p r e frozen legal) (some_entries_live p r e frozen legal)) (lessens p r e frozen legal w few) few keys)
