-- Laws of the entry order.
use Rattle.std.proofs.Common.{◌≡◌, ℕ, ◌<◌, Bool, true, false, ◌&&◌, ◌||◌, [], ◌∷◌, length, refl, sym, ap, ◌∙◌, arith}
use Rattle.std.specs.Prelude.{nat_lt}
use Rattle.std.specs.declared.cmp.Ordering.{Ordering}
use Rattle.std.specs.declared.cmp.Ordering.TheVariants.{Less, Equal, Greater}
use Rattle.std.specs.Ordering.{nat_cmp, is_lt, is_eq, ordering_reverse}
use Rattle.std.specs.Cmp.Lexicographic.{slice_cmp, nat_list_cmp_total}
use Rattle.std.proofs.lemmas.Bool.{true≢false, false≢true, false_from_ne_true}
use Rattle.std.proofs.lemmas.Bool.Decides.{nat_tests}
use Rattle.std.proofs.lemmas.Map.Text.{is_eq-slice_cmp}
use Rattle.peb_base.specs.Keys.{Bytes, key_lt}
use Rattle.peb_base.specs.Entries.{comes_before, entry_lt, IsEntry}
use Rattle.peb_base.specs.declared.entry.Entry.{Entry}

-- what two keys compare as decides, and where they are equal the test on their numbers
abbrev pub decided : Ordering → Bool → Bool
decided Less below = true
decided Equal below = below
decided Greater below = false

-- the entry order by one comparison of keys
pub comes_before_by : (key : Bytes) (number : ℕ) (later : Bytes) (lower : ℕ)
    → comes_before key number later lower
    ≡ decided (slice_cmp nat_cmp key later) (nat_lt lower number)
comes_before_by key number later lower =
    ap (λ same. key_lt key later || (same && nat_lt lower number)) (sym (is_eq-slice_cmp key later))
    ∙ by (slice_cmp nat_cmp key later)
  where
    by : (o : Ordering)
        → (is_lt o || (is_eq o && nat_lt lower number)) ≡ decided o (nat_lt lower number)
    by Less = refl
    by Equal = refl
    by Greater = refl

lower_still : (n m o : ℕ) → nat_lt o n ≡ true → nat_lt m n ≡ false → nat_lt o m ≡ true
lower_still n m o h g = grind (arith, nat_tests, h, g)

not_both : (n m : ℕ) → nat_lt m n ≡ true → nat_lt n m ≡ false
not_both n m h = grind (arith, nat_tests, h)

split_by : (k : Bytes) (n : ℕ) (l : Bytes) (m : ℕ) (j : Bytes) (o : ℕ)
    → decided (slice_cmp nat_cmp k j) (nat_lt o n) ≡ true
    → decided (slice_cmp nat_cmp k l) (nat_lt m n) ≡ false
    → decided (slice_cmp nat_cmp l j) (nat_lt o m) ≡ true
split_by k n l m j o h g = by (slice_cmp nat_cmp k l) refl (slice_cmp nat_cmp k j) refl
  where
    by : (a : Ordering) → slice_cmp nat_cmp k l ≡ a → (b : Ordering) → slice_cmp nat_cmp k j ≡ b
        → decided (slice_cmp nat_cmp l j) (nat_lt o m) ≡ true
    by Less a b bs = absurd (true≢false (sym (ap (λ c. decided c (nat_lt m n)) a) ∙ g))
    by Equal a Less b =
        ap (λ c. decided c (nat_lt o m)) (sym (nat_list_cmp_total.congr k l j a) ∙ b)
    by Equal a Equal b =
        let low : nat_lt o n ≡ true = sym (ap (λ c. decided c (nat_lt o n)) b) ∙ h in
        let high : nat_lt m n ≡ false = sym (ap (λ c. decided c (nat_lt m n)) a) ∙ g in
        ap (λ c. decided c (nat_lt o m)) (sym (nat_list_cmp_total.congr k l j a) ∙ b)
        ∙ lower_still n m o low high
    by Equal a Greater b = absurd (false≢true (sym (ap (λ c. decided c (nat_lt o n)) b) ∙ h))
    by Greater a Less b =
        ap (λ c. decided c (nat_lt o m))
        (nat_list_cmp_total.trans l k j
        (nat_list_cmp_total.antisymm l k ∙ ap ordering_reverse a) b)
    by Greater a Equal b =
        ap (λ c. decided c (nat_lt o m))
        (nat_list_cmp_total.antisymm l j
        ∙ ap ordering_reverse (sym (nat_list_cmp_total.congr k j l b) ∙ a))
    by Greater a Greater b = absurd (false≢true (sym (ap (λ c. decided c (nat_lt o n)) b) ∙ h))

-- where a comes before c, and not before b, b comes before c
pub before_split : (k : Bytes) (n : ℕ) (l : Bytes) (m : ℕ) (j : Bytes) (o : ℕ)
    → comes_before k n j o ≡ true → comes_before k n l m ≡ false → comes_before l m j o ≡ true
before_split k n l m j o h g = comes_before_by l m j o
    ∙ split_by k n l m j o (sym (comes_before_by k n j o) ∙ h) (sym (comes_before_by k n l m) ∙ g)

asym_by : (k : Bytes) (n : ℕ) (l : Bytes) (m : ℕ)
    → decided (slice_cmp nat_cmp k l) (nat_lt m n) ≡ true
    → decided (slice_cmp nat_cmp l k) (nat_lt n m) ≡ false
asym_by k n l m h = by (slice_cmp nat_cmp k l) refl
  where
    by : (a : Ordering) → slice_cmp nat_cmp k l ≡ a
        → decided (slice_cmp nat_cmp l k) (nat_lt n m) ≡ false
    by Less a = ap (λ c. decided c (nat_lt n m))
        (nat_list_cmp_total.antisymm l k ∙ ap ordering_reverse a)
    by Equal a =
        let low : nat_lt m n ≡ true = sym (ap (λ c. decided c (nat_lt m n)) a) ∙ h in
        ap (λ c. decided c (nat_lt n m)) (nat_list_cmp_total.antisymm l k ∙ ap ordering_reverse a)
        ∙ not_both n m low
    by Greater a = absurd (false≢true (sym (ap (λ c. decided c (nat_lt m n)) a) ∙ h))

-- of two keys and numbers only one comes before the other
pub before_asym : (k : Bytes) (n : ℕ) (l : Bytes) (m : ℕ) → comes_before k n l m ≡ true
    → comes_before l m k n ≡ false
before_asym k n l m h =
    comes_before_by l m k n ∙ asym_by k n l m (sym (comes_before_by k n l m) ∙ h)

-- the entry order is transitive
pub before_trans : (k : Bytes) (n : ℕ) (l : Bytes) (m : ℕ) (j : Bytes) (o : ℕ)
    → comes_before k n l m ≡ true → comes_before l m j o ≡ true → comes_before k n j o ≡ true
before_trans k n l m j o h g = by (comes_before k n j o) refl
  where
    by : (t : Bool) → comes_before k n j o ≡ t → comes_before k n j o ≡ true
    by true e = e
    by false e = absurd (true≢false (sym (before_split k n j o l m h e) ∙ before_asym l m j o g))

-- the same of entries
pub entry_split : (a b c : Entry) → entry_lt a c ≡ true → entry_lt a b ≡ false → entry_lt b c ≡ true
entry_split a b c = before_split a.key a.number b.key b.number c.key c.number

pub entry_asym : (a b : Entry) → entry_lt a b ≡ true → entry_lt b a ≡ false
entry_asym a b = before_asym a.key a.number b.key b.number

pub entry_irrefl : (a : Entry) → entry_lt a a ≡ false
entry_irrefl a = false_from_ne_true (entry_lt a a) (λ h. true≢false (sym h ∙ entry_asym a a h))

pub entry_trans : (a b c : Entry) → entry_lt a b ≡ true → entry_lt b c ≡ true → entry_lt a c ≡ true
entry_trans a b c = before_trans a.key a.number b.key b.number c.key c.number

-- every entry comes after no key at all
pub after_none : (e : Entry) → IsEntry e → comes_before [] 0 e.key e.number ≡ true
after_none e entry = by e.key entry.some
  where
    by : (k : Bytes) → 0 < length k → comes_before [] 0 k e.number ≡ true
    by [] h = absurd (omega (arith, h))
    by (b ∷ bs) h = refl
