-- Lists of held numbers.
use Rattle.std.proofs.Common.{◌≡◌, ◌≢◌, ℕ, zero, suc, ◌+◌, ◌*◌, ◌<◌, ◌≤◌, Bool, true, false, cond, not, ◌&&◌, ◌||◌, List, [], ◌∷◌, length, drop, Some, None, refl, sym, ap, ◌∙◌, subst, inl, inr, ◌⊎◌, arith, one-add}
use Rattle.std.specs.Prelude.{◌==◌, nat_lt, min, get_or, if◌then◌else◌}
use Rattle.std.specs.List.{AllByRecursion, position, position_or_len, remove}
use Rattle.std.proofs.lemmas.List.{drop_more}
use Rattle.std.proofs.lemmas.Bool.{cases_order, cases_lt, eq-eqb, eqb-true, lt-ltb, ltb-true, true≢false}
use Rattle.std.proofs.lemmas.Bool.Decides.{nat_tests}
use Rattle.flsm_model.specs.Writes.{one_if}
use Rattle.flsm_model.specs.Jobs.{floor_of}
use Rattle.flsm_model.specs.Legal.{holds_of}
use Rattle.flsm_model.specs.Steps.{held_without}
use Rattle.version_set.specs.Registers.{IsRegister, ComesFirst, IsFirstHeld, is_pair, earlier}

-- ---- how many a register holds

-- how many of the pairs the clients below this one hold
held_below : ℕ → List (ℕ × ℕ) → ℕ
held_below zero held = 0
held_below (suc m) held = holds_of m held + held_below m held

below_none : (m : ℕ) → held_below m [] ≡ 0
unfolding held_below
below_none zero = refl
below_none (suc m) = omega (arith, below_none m)

one_more : (x m : ℕ) → one_if (nat_lt x (suc m)) ≡ one_if (x == m) + one_if (nat_lt x m)
one_more x m = elim (cases_order x m) [
  | inl same ↦ grind (arith, nat_tests)
  | inr other ↦ elim other [ inl less ↦ grind (arith, nat_tests) | inr more ↦ grind (arith, nat_tests) ]
]

below_cons : (m : ℕ) (h : ℕ × ℕ) (held : List (ℕ × ℕ)) → held_below m (h ∷ held) ≡ one_if (nat_lt h.0 m) + held_below m held
unfolding held_below
below_cons zero h held = less h.0 (nat_lt h.0 0) refl
  where
    less : (x : ℕ) (b : Bool) → nat_lt x 0 ≡ b → 0 ≡ one_if b + 0
    less x true e = absurd (omega (arith, ltb-true x 0 e))
    less x false e = omega arith
below_cons (suc m) h held = omega (arith, below_cons m h held, one_more h.0 m)

-- where all clients lie below it, these are all
below_all : (m : ℕ) (held : List (ℕ × ℕ)) → AllByRecursion (λ h. h.0 < m) held → held_below m held ≡ length held
below_all m [] h = below_none m
below_all m (p ∷ held) h =
    let is : nat_lt p.0 m ≡ true = lt-ltb p.0 m h.0 in
    below_cons m p held ∙ rw is (omega (arith, below_all m held h.1))

below_few : (m : ℕ) (held : List (ℕ × ℕ)) → ((client : ℕ) → holds_of client held ≤ 64) → held_below m held ≤ m * 64
unfolding held_below
below_few zero held few = omega arith
below_few (suc m) held few = omega (arith, few m, below_few m held few)

weaker : (held : List (ℕ × ℕ)) → AllByRecursion (λ h. h.0 ≤ 16) held → AllByRecursion (λ h. h.0 < 17) held
weaker [] h = tt
weaker (p ∷ held) h = (omega (arith, h.0), weaker held h.1)

pub register_length : (held : List (ℕ × ℕ)) → IsRegister held → length held ≤ 1088
register_length held is = omega (arith, below_all 17 held (weaker held is.clients), below_few 17 held is.few)

-- ---- one more, and one less

pub register_more : (client number : ℕ) (held : List (ℕ × ℕ)) → IsRegister held → client ≤ 16 → holds_of client held < 64 → IsRegister ((client, number) ∷ held)
register_more client number held is known few = record { clients = (known, is.clients); few = λ c. by c (client == c) refl }
  where
    by : (c : ℕ) (b : Bool) → (client == c) ≡ b → one_if b + holds_of c held ≤ 64
    by c true e = let same : client ≡ c = eqb-true client c e in omega (arith, subst (λ x. holds_of x held < 64) same few)
    by c false e = omega (arith, is.few c)

fewer : (p : ℕ × ℕ) (client : ℕ) (held : List (ℕ × ℕ)) → holds_of client (held_without p held) ≤ holds_of client held
fewer p client [] = omega arith
fewer p client (h ∷ held) = by (is_pair p h) (fewer p client held)
  where
    by : (b : Bool) → holds_of client (held_without p held) ≤ holds_of client held → holds_of client (cond b held (h ∷ held_without p held)) ≤ holds_of client (h ∷ held)
    by true rest = omega arith
    by false rest = omega (arith, rest)

still_known : (p : ℕ × ℕ) (held : List (ℕ × ℕ)) → AllByRecursion (λ h. h.0 ≤ 16) held → AllByRecursion (λ h. h.0 ≤ 16) (held_without p held)
still_known p [] known = tt
still_known p (h ∷ held) known = by (is_pair p h) (still_known p held known.1)
  where
    by : (b : Bool) → AllByRecursion (λ x. x.0 ≤ 16) (held_without p held) → AllByRecursion (λ x. x.0 ≤ 16) (cond b held (h ∷ held_without p held))
    by true rest = known.1
    by false rest = (known.0, rest)

pub register_less : (p : ℕ × ℕ) (held : List (ℕ × ℕ)) → IsRegister held → IsRegister (held_without p held)
register_less p held is = record { clients = still_known p held is.clients; few = λ client. omega (arith, fewer p client held, is.few client) }

-- ---- the floor

pub floor_on : (h : ℕ × ℕ) (held : List (ℕ × ℕ)) (last : ℕ) → floor_of held (min h.1 last) ≡ floor_of (h ∷ held) last
floor_on h [] last = refl
floor_on h (x ∷ held) last = omega (arith, floor_on h held last)

-- ---- the first pair

not_less : (m n : ℕ) → nat_lt m n ≡ false → n ≤ m
not_less m n is = elim (cases_lt m n) [ inl less ↦ absurd (true≢false (sym (lt-ltb m n less) ∙ is)) | inr from ↦ from ]

not_same : (m n : ℕ) → (m == n) ≡ false → m ≢ n
not_same m n is same = true≢false (sym (eq-eqb m n same) ∙ is)

-- the earlier one is one of the two, and comes no later than each
comes_before_a : (a b : ℕ × ℕ) → ComesFirst (earlier a b) a
comes_before_a a b = by (nat_lt b.0 a.0) refl (b.0 == a.0) refl (nat_lt b.1 a.1) refl
  where
    by : (x : Bool) → nat_lt b.0 a.0 ≡ x → (y : Bool) → (b.0 == a.0) ≡ y → (z : Bool) → nat_lt b.1 a.1 ≡ z → ComesFirst (if x || (y && z) then b else a) a
    by true e y f z g = inl (ltb-true b.0 a.0 e)
    by false e true f true g = let less : b.1 < a.1 = ltb-true b.1 a.1 g in inr (eqb-true b.0 a.0 f, omega (arith, less))
    by false e true f false g = inr (refl, omega arith)
    by false e false f z g = inr (refl, omega arith)

comes_before_b : (a b : ℕ × ℕ) → ComesFirst (earlier a b) b
comes_before_b a b = by (nat_lt b.0 a.0) refl (b.0 == a.0) refl (nat_lt b.1 a.1) refl
  where
    by : (x : Bool) → nat_lt b.0 a.0 ≡ x → (y : Bool) → (b.0 == a.0) ≡ y → (z : Bool) → nat_lt b.1 a.1 ≡ z → ComesFirst (if x || (y && z) then b else a) b
    by true e y f z g = inr (refl, omega arith)
    by false e true f true g = inr (refl, omega arith)
    by false e true f false g = inr (sym (eqb-true b.0 a.0 f), not_less b.1 a.1 g)
    by false e false f z g = let from = not_less b.0 a.0 e in let apart = not_same b.0 a.0 f in inl (omega (arith, from, apart))

one_of_both : (a b : ℕ × ℕ) → (earlier a b ≡ a) ⊎ (earlier a b ≡ b)
one_of_both a b = by (nat_lt b.0 a.0 || (b.0 == a.0 && nat_lt b.1 a.1))
  where
    by : (x : Bool) → ((if x then b else a) ≡ a) ⊎ ((if x then b else a) ≡ b)
    by true = inr refl
    by false = inl refl

comes_on : (a b c : ℕ × ℕ) → ComesFirst a b → ComesFirst b c → ComesFirst a c
comes_on a b c h g = elim h [
  | inl x ↦ elim g [ inl y ↦ inl (omega (arith, x, y)) | inr y ↦ inl (omega (arith, x, y.0)) ]
  | inr x ↦ elim g [ inl y ↦ inl (omega (arith, x.0, y)) | inr y ↦ inr (x.0 ∙ y.0, omega (arith, x.1, y.1)) ]
]

pub first_on : (pair a b : ℕ × ℕ) (rest : List (ℕ × ℕ)) → IsFirstHeld pair (earlier a b ∷ rest) → IsFirstHeld pair (a ∷ b ∷ rest)
first_on pair a b rest is = record {
  among = elim is.among [
    | inl same ↦ elim (one_of_both a b) [ inl e ↦ inl (same ∙ e) | inr e ↦ inr (inl (same ∙ e)) ]
    | inr later ↦ inr (inr later)
  ];
  least = λ other h. elim h [
    | inl e ↦ subst (ComesFirst pair) (sym e) (comes_on pair (earlier a b) a first (comes_before_a a b))
    | inr behind ↦ elim behind [
      | inl e ↦ subst (ComesFirst pair) (sym e) (comes_on pair (earlier a b) b first (comes_before_b a b))
      | inr later ↦ is.least other (inr later)
    ]
  ];
}
  where
    first : ComesFirst pair (earlier a b)
    first = is.least (earlier a b) (inl refl)

pub first_alone : (pair : ℕ × ℕ) → IsFirstHeld pair (pair ∷ [])
first_alone pair = record { among = inl refl; least = λ other h. elim h [ inl same ↦ subst (ComesFirst pair) (sym same) (inr (refl, omega arith)) | inr none ↦ absurd none ] }

-- a step of the loops
pub floor_step : (xs : List (ℕ × ℕ)) (i : ℕ) (d : ℕ × ℕ) (floor : ℕ) → i < length xs → floor_of (drop (i + 1) xs) (min (get_or xs i d).1 floor) ≡ floor_of (drop i xs) floor
floor_step xs i d floor within = floor_on (get_or xs i d) (drop (i + 1) xs) floor ∙ ap (λ hs. floor_of hs floor) (sym (drop_more xs i d within))

pub first_step : (pair first d : ℕ × ℕ) (xs : List (ℕ × ℕ)) (i : ℕ) → i < length xs → IsFirstHeld pair (earlier first (get_or xs i d) ∷ drop (i + 1) xs) → IsFirstHeld pair (first ∷ drop i xs)
first_step pair first d xs i within is = subst (λ hs. IsFirstHeld pair (first ∷ hs)) (sym (drop_more xs i d within)) (first_on pair first (get_or xs i d) (drop (i + 1) xs) is)

-- ---- the place of a pair

without_at : (p : ℕ × ℕ) (xs : List (ℕ × ℕ)) → position_or_len (is_pair p) xs < length xs → held_without p xs ≡ remove xs (position_or_len (is_pair p) xs)
without_at p [] within = absurd (omega (arith, within))
without_at p (x ∷ xs) within = by (is_pair p x) within (without_at p xs)
  where
    by : (b : Bool) → cond (not b) (1 + position_or_len (is_pair p) xs) 0 < suc (length xs) → (position_or_len (is_pair p) xs < length xs → held_without p xs ≡ remove xs (position_or_len (is_pair p) xs))
        → cond b xs (x ∷ held_without p xs) ≡ remove (x ∷ xs) (cond (not b) (1 + position_or_len (is_pair p) xs) 0)
    by true h rest = refl
    by false h rest = ap (λ ys. x ∷ ys) (rest (omega (arith, h))) ∙ sym (ap (remove (x ∷ xs)) (one-add (position_or_len (is_pair p) xs)))

without_absent : (p : ℕ × ℕ) (xs : List (ℕ × ℕ)) → length xs ≤ position_or_len (is_pair p) xs → held_without p xs ≡ xs
without_absent p [] past = refl
without_absent p (x ∷ xs) past = by (is_pair p x) past (without_absent p xs)
  where
    by : (b : Bool) → suc (length xs) ≤ cond (not b) (1 + position_or_len (is_pair p) xs) 0 → (length xs ≤ position_or_len (is_pair p) xs → held_without p xs ≡ xs) → cond b xs (x ∷ held_without p xs) ≡ x ∷ xs
    by true h rest = absurd (omega (arith, h))
    by false h rest = ap (λ ys. x ∷ ys) (rest (omega (arith, h)))

-- a pair is found where it is, or not held
pub record IsPlaceOf (p : ℕ × ℕ) (xs : List (ℕ × ℕ)) (place : ℕ) : Type 0 where
  pub within : place < length xs
  pub without : held_without p xs ≡ remove xs place

some_none : {X : Type 0} (x : X) → Some x ≡ None → ⊥
some_none x h = cc

same_some : {X : Type 0} (x y : X) → Some x ≡ Some y → x ≡ y
same_some x y h = cc

pub found : (p : ℕ × ℕ) (xs : List (ℕ × ℕ)) (place : ℕ) → Some place ≡ position (is_pair p) xs → IsPlaceOf p xs place
found p xs place is = by (nat_lt (position_or_len (is_pair p) xs) (length xs)) refl is
  where
    by : (b : Bool) → nat_lt (position_or_len (is_pair p) xs) (length xs) ≡ b → Some place ≡ cond b (Some (position_or_len (is_pair p) xs)) None → IsPlaceOf p xs place
    by true e h =
        let within = ltb-true (position_or_len (is_pair p) xs) (length xs) e in
        let same = same_some place (position_or_len (is_pair p) xs) h in
        record { within = subst (λ n. n < length xs) (sym same) within; without = without_at p xs within ∙ ap (remove xs) (sym same) }
    by false e h = absurd (some_none place h)

pub not_found : (p : ℕ × ℕ) (xs : List (ℕ × ℕ)) → None ≡ position (is_pair p) xs → held_without p xs ≡ xs
not_found p xs is = by (nat_lt (position_or_len (is_pair p) xs) (length xs)) refl is
  where
    by : (b : Bool) → nat_lt (position_or_len (is_pair p) xs) (length xs) ≡ b → None ≡ cond b (Some (position_or_len (is_pair p) xs)) None → held_without p xs ≡ xs
    by true e h = absurd (some_none (position_or_len (is_pair p) xs) (sym h))
    by false e h = without_absent p xs (not_less (position_or_len (is_pair p) xs) (length xs) e)
