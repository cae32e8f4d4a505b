-- The job that is picked may begin; where none is left, there is room.
use Rattle.std.proofs.Common.{◌≡◌, ℕ, zero, suc, ◌+◌, ◌-◌, ◌<◌, ◌≤◌, ◌≢◌, Bool, true, false, cond, ◌||◌, not, List, [], ◌∷◌, ◌++◌, map, ◌⊎◌, inl, inr, refl, sym, ◌∙◌, ap, subst, arith, ◌&&◌}
use Rattle.std.specs.Prelude.{◌==◌, nat_le, filter, find, if◌then◌else◌, Option, Some, None, ⊤}
use Rattle.std.specs.List.{list_all, list_any}
use Rattle.std.proofs.lemmas.Bool.{and_parts, and_from, or_cases, or_left, or_right, cases_Bool, eqb-true, eq-eqb, eqb-false, lt-ltb, leb-true, leb-false, true≢false, false≢true, not-true, cases_lt, ne_eqb}
use Rattle.peb_base.specs.Keys.{Bytes, key_lt, key_le, key_eq}
use Rattle.peb_base.specs.KeyLaws.{lt_trans, lt_asym, le_lt, le_trans, le_refl, same_key, key_self}
use Rattle.peb_base.specs.Members.{IsIn}
use Rattle.peb_base.specs.Profiles.{column, Column}
use Rattle.peb_base.specs.declared.table_row.TableRow.{TableRow}
use Rattle.flsm_model.specs.declared.chosen.Chosen.{Chosen}
use Rattle.flsm_model.specs.declared.job.Job.{Job}
use Rattle.flsm_model.specs.Ranges.{is_below, in_range, has_key, keys_ascend, with_key, with_keys, range_after}
use Rattle.flsm_model.specs.Shape.{Shape, has_number, is_numbered, rows_numbered, rows_without}
use Rattle.flsm_model.specs.Fits.{is_chosen, is_live, is_some_list, numbers_ascend, numbers_differ}
use Rattle.flsm_model.specs.Events.{Running, base}
use Rattle.flsm_model.specs.Claims.{claims_of, claims_conflict, is_free, is_claim_free, FreeByClaims}
use Rattle.flsm_model.specs.declared.claim.Claim.{Claim}
use Rattle.flsm_model.specs.Legal.{AlwaysFormed}
use Rattle.flsm_model.specs.Steps.{run}
use Rattle.flsm_model.specs.Picking.{ranges_after, over_at, with_number, numbers_of, chosen_keys, move_job, merge_job, job_at, target_jobs, flush_jobs, wanted, beginning}
use Rattle.flsm_model.specs.Picked.{IdleHasRoom, ChosenAscend, AscendingAreEqual}
use Rattle.flsm_model.proofs.guards.Guards.{AscendFrom}
use Rattle.flsm_model.proofs.guards.GuardKeys.{has_with, withs_has}
use Rattle.flsm_model.proofs.guards.NestLaw.{rise_more, rise_ascend}
use Rattle.flsm_model.proofs.guards.ShapeLaw.{differ_fewer}
use Rattle.flsm_model.proofs.lists.Lists.{in_filter, in_kept, any_in, in_any, all_of}

-- ---- lists

pub find_in : {X : Type 0} (p : X → Bool) (xs : List X) (x : X) → find p xs ≡ Some x → IsIn x xs × (p x ≡ true)
find_in p [] x h = absurd (none_some h)
  where
    none_some : None ≡ Some x → ⊥
    none_some e = cc
find_in p (y ∷ ys) x h = by (p y) refl h (find_in p ys x)
  where
    some_is : Some y ≡ Some x → y ≡ x
    some_is e = cc

    by : (b : Bool) → p y ≡ b → cond b (Some y) (find p ys) ≡ Some x → (find p ys ≡ Some x → IsIn x ys × (p x ≡ true)) → ((x ≡ y) ⊎ IsIn x ys) × (p x ≡ true)
    by true e q ih = let s = some_is q in (inl (sym s), subst (λ z. p z ≡ true) s e)
    by false e q ih = let r = ih q in (inr r.0, r.1)

find_none : {X : Type 0} (p : X → Bool) (xs : List X) → ((x : X) → p x ≡ true) → find p xs ≡ None → xs ≡ []
find_none p [] all h = refl
find_none p (x ∷ xs) all h = absurd (some_none (subst (λ b. cond b (Some x) (find p xs) ≡ None) (all x) h))
  where
    some_none : Some x ≡ None → ⊥
    some_none e = cc

pub in_map : {X Y : Type 0} (f : X → Y) (xs : List X) (y : Y) → IsIn y (map f xs) → (x : X) × IsIn x xs × (y ≡ f x)
in_map f [] y i = absurd i
in_map f (x ∷ xs) y i = elim i [ inl s ↦ (x, inl refl, s) | inr m ↦ let r = in_map f xs y m in (r.0, inr r.1, r.2) ]

map_none : {X Y : Type 0} (f : X → Y) (xs : List X) → map f xs ≡ [] → xs ≡ []
map_none f [] h = refl
map_none f (x ∷ xs) h = cc

append_none : {X : Type 0} (xs ys : List X) → xs ++ ys ≡ [] → (xs ≡ []) × (ys ≡ [])
append_none [] ys h = (refl, h)
append_none (x ∷ xs) ys h = cc

-- ---- idle

targets_none : (o : Column) (s : Shape) (from count : ℕ) → target_jobs o s from count ≡ [] → (level : ℕ) → from ≤ level → level < from + count → over_at o s level ≡ []
targets_none o s from zero h level a b = absurd (omega (arith, a, b))
targets_none o s from (suc count) h level a b =
    let p = append_none (map (λ range. job_at o s (suc from) range (o.last_level - from) (move_job s from range)) (over_at o s from)) (target_jobs o s (suc from) count) h in
    elim (cases_lt from level) [
      | inl more ↦ targets_none o s (suc from) count p.1 level more (omega (arith, b))
      | inr less ↦
          let same : from ≡ level = omega (arith, a, less) in
          subst (λ l. over_at o s l ≡ []) same (map_none _ (over_at o s from) p.0)
    ]

flush_none : (f : Option ℕ) → flush_jobs f ≡ [] → f ≡ None
flush_none None h = refl
flush_none (Some to) h = cc

pub idle_has_room : AlwaysFormed IdleHasRoom
idle_has_room p told bs r h b legal n eq empty none =
    let o = column p in
    let w = run o (base told o bs r) h in
    let free : (j : Job) → is_free j n.running ≡ true = λ j. subst (λ (rs : List Running). is_free j rs ≡ true) (sym empty) refl in
    let all : wanted o w.tree.shape n.frozen ≡ [] = map_none (beginning w n) (wanted o w.tree.shape n.frozen) (find_none (λ j. is_free j n.running) (map (beginning w n) (wanted o w.tree.shape n.frozen)) free none) in
    let p1 = append_none (flush_jobs n.frozen ++ target_jobs o w.tree.shape 0 o.last_level) (map (merge_job o w.tree.shape) (over_at o w.tree.shape o.last_level)) all in
    let p0 = append_none (flush_jobs n.frozen) (target_jobs o w.tree.shape 0 o.last_level) p1.0 in
    record {
      frozen = flush_none n.frozen p0.0;
      room = λ level l. elim (cases_lt level o.last_level) [
        | inl less ↦ targets_none o w.tree.shape 0 o.last_level p0.1 level (omega arith) (omega (arith, less))
        | inr more ↦
            let same : o.last_level ≡ level = omega (arith, l, more) in
            subst (λ l. over_at o w.tree.shape l ≡ []) same (map_none (merge_job o w.tree.shape) (over_at o w.tree.shape o.last_level) p1.1)
      ];
    }

-- ---- numbers of rows, ascending

has_with_number : (m n : ℕ) (ns : List ℕ) → has_number m (with_number n ns) ≡ (m == n || has_number m ns)
has_with_number m n [] = refl
has_with_number m n (a ∷ ns) = by (nat_le n a) (has_with_number m n ns)
  where
    swap : (x y z : Bool) → (x || (y || z)) ≡ (y || (x || z))
    swap true true z = refl
    swap true false z = refl
    swap false true z = refl
    swap false false z = refl

    by : (b : Bool) → has_number m (with_number n ns) ≡ (m == n || has_number m ns)
        → has_number m (if b then n ∷ a ∷ ns else a ∷ with_number n ns) ≡ (m == n || (m == a || has_number m ns))
    by true ih = refl
    by false ih = ap (λ z. m == a || z) ih ∙ swap (m == a) (m == n) (has_number m ns)

pub has_numbers : (m : ℕ) (rows : List TableRow) → has_number m (numbers_of rows) ≡ is_numbered rows m
has_numbers m [] = refl
has_numbers m (r ∷ rows) = has_with_number m r.number (numbers_of rows) ∙ ap (λ z. m == r.number || z) (has_numbers m rows) ∙ ap (λ z. z || is_numbered rows m) (turned m r.number)
  where
    turned : (a b : ℕ) → (a == b) ≡ (b == a)
    turned a b = by (a == b) refl
      where
        by : (c : Bool) → (a == b) ≡ c → (a == b) ≡ (b == a)
        by true e = e ∙ sym (eq-eqb b a (sym (eqb-true a b e)))
        by false e = e ∙ sym (ne_eqb b a (λ q. eqb-false a b e (sym q)))

-- numbers above a bound, ascending strictly
abbrev Above : ℕ → List ℕ → Type 0
Above low [] = ⊤
Above low (n ∷ ns) = (low < n) × Above n ns

abbrev Up : List ℕ → Type 0
Up [] = ⊤
Up (n ∷ ns) = Above n ns

above_with : (low n : ℕ) (ns : List ℕ) → low < n → has_number n ns ≡ false → Above low ns → Above low (with_number n ns)
above_with low n [] l h a = (l, tt)
above_with low n (m ∷ ms) l h a = by (nat_le n m) refl (λ q. above_with m n ms q rest a.1)
  where
    parts : (x y : Bool) → (x || y) ≡ false → (x ≡ false) × (y ≡ false)
    parts true y e = absurd (true≢false e)
    parts false y e = (refl, e)

    rest : has_number n ms ≡ false
    rest = (parts (n == m) (has_number n ms) h).1

    ne : n ≢ m
    ne = eqb-false n m (parts (n == m) (has_number n ms) h).0

    by : (b : Bool) → nat_le n m ≡ b → (m < n → Above m (with_number n ms)) → Above low (if b then n ∷ m ∷ ms else m ∷ with_number n ms)
    by true e ih = (l, (omega (arith, leb-true n m e, ne), a.1))
    by false e ih = (a.0, ih (omega (arith, leb-false n m e)))

up_with : (n : ℕ) (ns : List ℕ) → has_number n ns ≡ false → Up ns → Up (with_number n ns)
up_with n [] h a = tt
up_with n (m ∷ ms) h a = by (nat_le n m) refl (λ q. above_with m n ms q rest a)
  where
    parts : (x y : Bool) → (x || y) ≡ false → (x ≡ false) × (y ≡ false)
    parts true y e = absurd (true≢false e)
    parts false y e = (refl, e)

    rest : has_number n ms ≡ false
    rest = (parts (n == m) (has_number n ms) h).1

    ne : n ≢ m
    ne = eqb-false n m (parts (n == m) (has_number n ms) h).0

    by : (b : Bool) → nat_le n m ≡ b → (m < n → Above m (with_number n ms)) → Up (if b then n ∷ m ∷ ms else m ∷ with_number n ms)
    by true e ih = (omega (arith, leb-true n m e, ne), a)
    by false e ih = ih (omega (arith, leb-false n m e))

above_ascend : (low : ℕ) (ns : List ℕ) → Above low ns → numbers_ascend (low ∷ ns) ≡ true
above_ascend low [] h = refl
above_ascend low (n ∷ ns) h = and_from _ _ (lt-ltb low n h.0) (above_ascend n ns h.1)

up_ascend : (ns : List ℕ) → Up ns → numbers_ascend ns ≡ true
up_ascend [] h = refl
up_ascend (n ∷ ns) h = above_ascend n ns h

in_numbered : (rows : List TableRow) (n : ℕ) → is_numbered rows n ≡ has_number n (map (λ (r : TableRow). r.number) rows)
in_numbered [] n = refl
in_numbered (r ∷ rows) n = by (turned r.number n) (in_numbered rows n)
  where
    turned : (a b : ℕ) → (a == b) ≡ (b == a)
    turned a b = kind (a == b) refl
      where
        kind : (c : Bool) → (a == b) ≡ c → (a == b) ≡ (b == a)
        kind true e = e ∙ sym (eq-eqb b a (sym (eqb-true a b e)))
        kind false e = e ∙ sym (ne_eqb b a (λ q. eqb-false a b e (sym q)))

    by : (r.number == n) ≡ (n == r.number) → is_numbered rows n ≡ has_number n (map (λ (x : TableRow). x.number) rows)
        → (r.number == n || is_numbered rows n) ≡ (n == r.number || has_number n (map (λ (x : TableRow). x.number) rows))
    by a b = ap (λ z. z || is_numbered rows n) a ∙ ap (λ z. n == r.number || z) b

up_numbers : (rows : List TableRow) → numbers_differ (map (λ (r : TableRow). r.number) rows) ≡ true → Up (numbers_of rows)
up_numbers [] h = tt
up_numbers (r ∷ rows) h =
    let p = and_parts (not (has_number r.number (map (λ (x : TableRow). x.number) rows))) _ h in
    up_with r.number (numbers_of rows) (has_numbers r.number rows ∙ in_numbered rows r.number ∙ not-true _ p.0) (up_numbers rows p.1)

-- no two rows of these have one number
one_row : (rows : List TableRow) (x y : TableRow) → numbers_differ (map (λ (r : TableRow). r.number) rows) ≡ true → IsIn x rows → IsIn y rows → x.number ≡ y.number → x ≡ y
one_row [] x y h i k s = absurd i
one_row (r ∷ rows) x y h i k s =
    let p = and_parts (not (has_number r.number (map (λ (z : TableRow). z.number) rows))) _ h in
    elim i [
      | inl a ↦ elim k [
        | inl b ↦ a ∙ sym b
        | inr b ↦ absurd (clash y b (sym s ∙ ap (λ (z : TableRow). z.number) a) p.0)
      ]
      | inr a ↦ elim k [
        | inl b ↦ absurd (clash x a (s ∙ ap (λ (z : TableRow). z.number) b) p.0)
        | inr b ↦ one_row rows x y p.1 a b s
      ]
    ]
  where
    clash : (z : TableRow) → IsIn z rows → z.number ≡ r.number → not (has_number r.number (map (λ (z : TableRow). z.number) rows)) ≡ true → ⊥
    clash z m q h2 = true≢false (sym (sym (in_numbered rows r.number) ∙ in_any (λ (v : TableRow). v.number == r.number) z rows m (eq-eqb z.number r.number q)) ∙ not-true _ h2)

-- ---- the rows of a shape for which a test holds, by their numbers

module _ (s : Shape) (differ : numbers_differ (map (λ (r : TableRow). r.number) s.live) ≡ true) (test : TableRow → Bool) where
  abbrev pub taken : List ℕ
  taken = numbers_of (filter test s.live)

  differ_filter : (rows : List TableRow) → numbers_differ (map (λ (r : TableRow). r.number) rows) ≡ true → numbers_differ (map (λ (r : TableRow). r.number) (filter test rows)) ≡ true
  differ_filter rows h = differ_fewer test rows h

  pub taken_ascend : numbers_ascend taken ≡ true
  taken_ascend = up_ascend taken (up_numbers (filter test s.live) (differ_filter s.live differ))

  pub taken_row : (r : TableRow) → IsIn r s.live → has_number r.number taken ≡ true → test r ≡ true
  taken_row r i h =
      let x = any_in (λ (z : TableRow). z.number == r.number) (filter test s.live) (sym (has_numbers r.number (filter test s.live)) ∙ h) in
      let f = in_filter test x.0 s.live x.1 in
      subst (λ z. test z ≡ true) (one_row s.live x.0 r differ f.0 i (eqb-true x.0.number r.number x.2)) f.1

  pub row_taken : (r : TableRow) → IsIn r s.live → test r ≡ true → has_number r.number taken ≡ true
  row_taken r i t = has_numbers r.number (filter test s.live) ∙ in_any (λ (z : TableRow). z.number == r.number) r (filter test s.live) (in_kept test r s.live i t) (eq-eqb r.number r.number refl)

  pub taken_live : list_all (is_live s) taken ≡ true
  taken_live = all_of (is_live s) taken (λ m i.
      let h : has_number m taken ≡ true = in_any (λ k. m == k) m taken i (eq-eqb m m refl) in
      let x = any_in (λ (z : TableRow). z.number == m) (filter test s.live) (sym (has_numbers m (filter test s.live)) ∙ h) in
      in_any (λ (z : TableRow). z.number == m) x.0 s.live (in_filter test x.0 s.live x.1).0 x.2)

  pub taken_some : (r : TableRow) → IsIn r (filter test s.live) → is_some_list taken ≡ true
  taken_some r i = by taken (let f = in_filter test r s.live i in row_taken r f.0 f.1)
    where
      by : (ns : List ℕ) → has_number r.number ns ≡ true → is_some_list ns ≡ true
      by [] h = absurd (false≢true h)
      by (n ∷ ns) h = refl

  pub rows_pass : (r : TableRow) → IsIn r (rows_numbered taken s.live) → test r ≡ true
  rows_pass r i = let f = in_filter (λ (z : TableRow). has_number z.number taken) r s.live i in taken_row r f.0 f.1

  pub others_fail : (r : TableRow) → IsIn r (rows_without taken s.live) → not (test r) ≡ true
  others_fail r i =
      let f = in_filter (λ (z : TableRow). not (has_number z.number taken)) r s.live i in
      elim (cases_Bool (test r)) [
        | inl t ↦ absurd (true≢false (sym (row_taken r f.0 t) ∙ not-true _ f.1))
        | inr e ↦ ap not e
      ]

-- ---- ranges

range_above : (lo : Bytes) (gs : List Bytes) (range : Bytes × Option Bytes) → AscendFrom lo gs → IsIn range (ranges_after lo gs) → key_le lo range.0 ≡ true
range_above lo [] range a i = elim i [ inl s ↦ subst (λ (z : Bytes × Option Bytes). key_le lo z.0 ≡ true) (sym s) (le_refl lo) | inr n ↦ absurd n ]
range_above lo (g ∷ gs) range a i = elim i [
  | inl s ↦ subst (λ (z : Bytes × Option Bytes). key_le lo z.0 ≡ true) (sym s) (le_refl lo)
  | inr m ↦ le_trans lo g range.0 a.0 (range_above g gs range a.1 m)
]

-- a key of one of the ranges has this range
pub range_is : (lo : Bytes) (gs : List Bytes) (range : Bytes × Option Bytes) (x : Bytes) → AscendFrom lo gs → IsIn range (ranges_after lo gs) → in_range range.0 range.1 x ≡ true → range_after lo gs x ≡ range
range_is lo [] range x a i h = elim i [ inl s ↦ sym s | inr n ↦ absurd n ]
range_is lo (g ∷ gs) range x a i h = elim i [
  | inl s ↦
      let under : key_lt x g ≡ true = (and_parts (key_le lo x) (is_below x (Some g)) (subst (λ (z : Bytes × Option Bytes). in_range z.0 z.1 x ≡ true) s h)).1 in
      ap (λ b. if b then (lo, Some g) else range_after g gs x) under ∙ sym s
  | inr m ↦
      let above : key_le g x ≡ true = le_trans g range.0 x (range_above g gs range a.1 m) (and_parts (key_le range.0 x) (is_below x range.1) h).0 in
      ap (λ b. if b then (lo, Some g) else range_after g gs x) (not-true (key_lt x g) above) ∙ range_is g gs range x a.1 m h
]

-- a key's range has it, and its own beginning
pub range_has : (lo : Bytes) (gs : List Bytes) (x : Bytes) → key_le lo x ≡ true → in_range (range_after lo gs x).0 (range_after lo gs x).1 x ≡ true
range_has lo [] x l = and_from _ _ l refl
range_has lo (g ∷ gs) x l = by (key_lt x g) refl (λ q. range_has g gs x q)
  where
    by : (b : Bool) → key_lt x g ≡ b → (key_le g x ≡ true → in_range (range_after g gs x).0 (range_after g gs x).1 x ≡ true)
        → in_range (if b then (lo, Some g) else range_after g gs x).0 (if b then (lo, Some g) else range_after g gs x).1 x ≡ true
    by true e ih = and_from _ _ l e
    by false e ih = ih (ap not e)

pub begins_in : (lo : Bytes) (hi : Option Bytes) (x : Bytes) → in_range lo hi x ≡ true → in_range lo hi lo ≡ true
begins_in lo hi x h = let p = and_parts (key_le lo x) (is_below x hi) h in and_from _ _ (le_refl lo) (below hi p.0 p.1)
  where
    below : (hi : Option Bytes) → key_le lo x ≡ true → is_below x hi ≡ true → is_below lo hi ≡ true
    below None a b = refl
    below (Some z) a b = le_lt lo x z a b

-- ---- chosen keys

-- what is among keys that are put in order
key_among : (x : Bytes) (ks : List Bytes) → has_key x (with_keys ks []) ≡ true → has_key x ks ≡ true
key_among x ks h = elim (withs_has x ks [] h) [ inl a ↦ a | inr b ↦ absurd (false≢true b) ]

has_self : (k : Bytes) (gs : List Bytes) → has_key k (with_key k gs) ≡ true
has_self k [] = or_left _ _ (key_self k)
has_self k (g ∷ gs) = by (key_lt k g) (key_eq k g) refl (has_self k gs)
  where
    by : (a b : Bool) → key_eq k g ≡ b → has_key k (with_key k gs) ≡ true → has_key k (if a then k ∷ g ∷ gs else if b then g ∷ gs else g ∷ with_key k gs) ≡ true
    by true b e ih = or_left _ _ (key_self k)
    by false true e ih = or_left _ _ e
    by false false e ih = or_right (key_eq k g) _ ih

among_key : (x : Bytes) (ks gs : List Bytes) → has_key x ks ≡ true → has_key x (with_keys ks gs) ≡ true
among_key x [] gs h = absurd (false≢true h)
among_key x (k ∷ ks) gs h = elim (or_cases (key_eq x k) (has_key x ks) h) [
  | inl s ↦ subst (λ z. has_key z (with_key k (with_keys ks gs)) ≡ true) (sym (same_key x k s)) (has_self k (with_keys ks gs))
  | inr m ↦ has_with x k (with_keys ks gs) (among_key x ks gs m)
]

key_in : (x : Bytes) (ks : List Bytes) → has_key x ks ≡ true → IsIn x ks
key_in x ks h = let y = any_in (key_eq x) ks h in subst (λ z. IsIn z ks) (sym (same_key x y.0 y.2)) y.1

in_key : (x : Bytes) (ks : List Bytes) → IsIn x ks → has_key x ks ≡ true
in_key x ks i = in_any (key_eq x) x ks i (key_self x)

-- a key that was chosen passes the test where it is among these
pub chosen_pass : (test : Bytes → Bool) (s : Shape) (x : Bytes) → IsIn x (chosen_keys test s) → test x ≡ true
chosen_pass test s x i = (in_filter test x (map (λ (c : Chosen). c.key) s.chosen) (key_in x _ (key_among x (filter test (map (λ (c : Chosen). c.key) s.chosen)) (in_key x _ i)))).1

pub pass_chosen : (test : Bytes → Bool) (s : Shape) (c : Chosen) → IsIn c s.chosen → test c.key ≡ true → IsIn c.key (chosen_keys test s)
pass_chosen test s c i t = key_in c.key _ (among_key c.key (filter test (map (λ (c : Chosen). c.key) s.chosen)) [] (in_key c.key _ (in_kept test c.key _ (mapped s.chosen i) t)))
  where
    mapped : (cs : List Chosen) → IsIn c cs → IsIn c.key (map (λ (c : Chosen). c.key) cs)
    mapped [] i = absurd i
    mapped (d ∷ cs) i = elim i [ inl e ↦ inl (ap (λ (c : Chosen). c.key) e) | inr m ↦ inr (mapped cs m) ]

pub chosen_is : (test : Bytes → Bool) (s : Shape) (x : Bytes) → IsIn x (chosen_keys test s) → is_chosen s.chosen x ≡ true
chosen_is test s x i =
    let k = (in_filter test x (map (λ (c : Chosen). c.key) s.chosen) (key_in x _ (key_among x (filter test (map (λ (c : Chosen). c.key) s.chosen)) (in_key x _ i)))).0 in
    let c = in_map (λ (c : Chosen). c.key) s.chosen x k in
    in_any (λ (c : Chosen). key_eq x c.key) c.0 s.chosen c.1 (subst (λ z. key_eq x z ≡ true) c.2 (key_self x))

pub chosen_ascend : (test : Bytes → Bool) (s : Shape) → keys_ascend (chosen_keys test s) ≡ true
chosen_ascend test s = rise_ascend (chosen_keys test s) (rise_more (filter test (map (λ (c : Chosen). c.key) s.chosen)) [] tt)

-- none of the chosen keys passes where the list is empty
pub none_pass : (test : Bytes → Bool) (s : Shape) → chosen_keys test s ≡ [] → (c : Chosen) → IsIn c s.chosen → test c.key ≡ false
none_pass test s h c i = elim (cases_Bool (test c.key)) [
  | inl t ↦ absurd (subst (IsIn c.key) h (pass_chosen test s c i t))
  | inr e ↦ e
]

-- ---- chosen keys in order

chosen_has : (test : Bytes → Bool) (s : Shape) (key : Bytes) → has_key key (chosen_keys test s) ≡ (is_chosen s.chosen key && test key)
chosen_has test s key = elim (cases_Bool (has_key key (chosen_keys test s))) [
  | inl h ↦ let i = key_in key (chosen_keys test s) h in h ∙ sym (and_from _ _ (chosen_is test s key i) (chosen_pass test s key i))
  | inr n ↦ n ∙ sym (none (is_chosen s.chosen key) (test key) refl refl n)
]
  where
    none : (a b : Bool) → is_chosen s.chosen key ≡ a → test key ≡ b → has_key key (chosen_keys test s) ≡ false → (a && b) ≡ false
    none false b x y n = refl
    none true false x y n = refl
    none true true x y n =
        let c = any_in (λ (c : Chosen). key_eq key c.key) s.chosen x in
        let same : key ≡ c.0.key = same_key key c.0.key c.2 in
        absurd (true≢false (sym (in_key key (chosen_keys test s) (subst (λ z. IsIn z (chosen_keys test s)) (sym same) (pass_chosen test s c.0 c.1 (subst (λ z. test z ≡ true) same y)))) ∙ n))

pub chosen_in_order : ChosenAscend
chosen_in_order test s = record { ascend = chosen_ascend test s; keys = chosen_has test s }

-- keys behind the first one lie above it
above_first : (k : Bytes) (ks : List Bytes) → keys_ascend (k ∷ ks) ≡ true → (x : Bytes) → IsIn x ks → key_lt k x ≡ true
above_first k [] h x i = absurd i
above_first k (q ∷ ks) h x i =
    let p = and_parts (key_lt k q) (keys_ascend (q ∷ ks)) h in
    elim i [ inl s ↦ subst (λ z. key_lt k z ≡ true) (sym s) p.0 | inr m ↦ lt_trans k q x p.0 (above_first q ks p.1 x m) ]

ascend_tail : (k : Bytes) (ks : List Bytes) → keys_ascend (k ∷ ks) ≡ true → keys_ascend ks ≡ true
ascend_tail k [] h = refl
ascend_tail k (q ∷ ks) h = (and_parts (key_lt k q) (keys_ascend (q ∷ ks)) h).1

-- the first key isn't among the others
first_apart : (k : Bytes) (ks : List Bytes) → keys_ascend (k ∷ ks) ≡ true → has_key k ks ≡ false
first_apart k ks h = elim (cases_Bool (has_key k ks)) [
  | inl there ↦ let over = above_first k ks h k (key_in k ks there) in absurd (true≢false (sym over ∙ lt_asym k k over))
  | inr absent ↦ absent
]

pub ascending_are_equal : AscendingAreEqual
ascending_are_equal [] [] a b h = refl
ascending_are_equal [] (l ∷ ls) a b h = absurd (false≢true (h l ∙ or_left (key_eq l l) _ (key_self l)))
ascending_are_equal (k ∷ ks) [] a b h = absurd (false≢true (sym (h k) ∙ or_left (key_eq k k) _ (key_self k)))
ascending_are_equal (k ∷ ks) (l ∷ ls) a b h =
    let first : k ≡ l = heads in
    (λ i. first i ∷ ascending_are_equal ks ls (ascend_tail k ks a) (ascend_tail l ls b) (tails first) i)
  where
    heads : k ≡ l
    heads = elim (or_cases (key_eq k l) (has_key k ls) (sym (h k) ∙ or_left (key_eq k k) (has_key k ks) (key_self k))) [
      | inl s ↦ same_key k l s
      | inr m ↦
          let over : key_lt l k ≡ true = above_first l ls b k (key_in k ls m) in
          elim (or_cases (key_eq l k) (has_key l ks) (h l ∙ or_left (key_eq l l) (has_key l ls) (key_self l))) [
            | inl s ↦ sym (same_key l k s)
            | inr q ↦ absurd (true≢false (sym (above_first k ks a l (key_in l ks q)) ∙ lt_asym l k over))
          ]
    ]

    tails : k ≡ l → (x : Bytes) → has_key x ks ≡ has_key x ls
    tails first x = by (key_eq x k) (key_eq x l) refl (ap (key_eq x) first) (h x)
      where
        by : (c d : Bool) → key_eq x k ≡ c → c ≡ d → (c || has_key x ks) ≡ (d || has_key x ls) → has_key x ks ≡ has_key x ls
        by true true e s q =
            let same : x ≡ k = same_key x k e in
            subst (λ z. has_key z ks ≡ false) (sym same) (first_apart k ks a) ∙ sym (subst (λ z. has_key z ls ≡ false) (sym (same ∙ first)) (first_apart l ls b))
        by true false e s q = absurd (true≢false s)
        by false true e s q = absurd (true≢false (sym s))
        by false false e s q = q

-- ---- claims

no_any : {X : Type 0} (p : X → Bool) (xs : List X) → not (list_any p xs) ≡ list_all (λ x. not (p x)) xs
no_any p [] = refl
no_any p (x ∷ xs) = by (p x) (no_any p xs)
  where
    by : (b : Bool) → not (list_any p xs) ≡ list_all (λ x. not (p x)) xs → not (b || list_any p xs) ≡ (not b && list_all (λ x. not (p x)) xs)
    by true ih = refl
    by false ih = ih

both_all : {X : Type 0} (p q : X → Bool) (xs : List X) → list_all (λ x. p x && q x) xs ≡ (list_all p xs && list_all q xs)
both_all p q [] = refl
both_all p q (x ∷ xs) = by (p x) (q x) (list_all p xs) (list_all q xs) (both_all p q xs)
  where
    by : (a b c d : Bool) → list_all (λ x. p x && q x) xs ≡ (c && d) → (a && b && list_all (λ x. p x && q x) xs) ≡ (a && c && (b && d))
    by true true c d ih = ih
    by true false true d ih = refl
    by true false false d ih = refl
    by false b c d ih = refl

pub free_by_claims : FreeByClaims
free_by_claims j [] = sym (all_true (claims_of j))
  where
    all_true : (cs : List Claim) → list_all (λ c. is_claim_free c []) cs ≡ true
    all_true [] = refl
    all_true (c ∷ cs) = all_true cs
free_by_claims j (r ∷ rs) =
    ap (λ b. b && is_free j rs) (no_any (λ a. list_any (claims_conflict a) (claims_of r.1)) (claims_of j))
    ∙ ap (λ b. list_all (λ a. not (list_any (claims_conflict a) (claims_of r.1))) (claims_of j) && b) (free_by_claims j rs)
    ∙ sym (both_all (λ a. not (list_any (claims_conflict a) (claims_of r.1))) (λ a. is_claim_free a rs) (claims_of j))
