-- Bytes as bits.
use Rattle.std.proofs.Common.{◌≡◌, ℕ, zero, suc, ◌+◌, ◌-◌, ◌*◌, ◌/◌, ◌%◌, ◌^◌, ◌<◌, Bool, true, false, ◌==◌, ◌||◌, cond, List, [], ◌∷◌, length, get_or, set, replicate, refl, sym, ap, ◌∙◌, inl, inr, arith, pow-suc, get_or-set_same, get_or-set_other}
use Rattle.std.proofs.Math.Bool.{or-true, or-false}
use Rattle.std.proofs.lemmas.Bool.{cases_eq, cases_lt, eq-eqb, ne_eqb}
use Rattle.std.proofs.lemmas.Nat.Bits.{bit_at_lowest, bit_at-suc, bit_at_set_same, bit_at_set_other, bit_at-lt, same_from_bits_below}
use Rattle.std.specs.Int.{bit_at, w8}
use Rattle.std.specs.Prelude.{bit_or}
use Rattle.peb_base.specs.Keys.{AreBytes}
use Rattle.bloom.specs.Bits.{bit, number_of, bytes_of}

-- ---- a bit that is set

pub bit-set : (bytes : List ℕ) (place j : ℕ) → place < 8 * length bytes
    → bit (set bytes (place / 8) (bit_or (get_or bytes (place / 8) 0) (1 * 2 ^ (place % 8) % 2 ^ 8))) j ≡ (bit bytes j || (j == place))
bit-set bytes place j within =
    let at = place / 8 in
    let k = place % 8 in
    let was = get_or bytes at 0 in
    let now = bit_or was (1 * 2 ^ k % 2 ^ 8) in
    let inside : at < length bytes = omega arith in
    let small : k < 8 = omega arith in
    elim (cases_eq (j / 8) at) [
      | inl same ↦
          let here : bit (set bytes at now) j ≡ (bit_at now (j % 8) == 1) =
          ap (λ n. bit_at (get_or (set bytes at now) n 0) (j % 8) == 1) same ∙ ap (λ b. bit_at b (j % 8) == 1) (get_or-set_same bytes at now 0 inside) in
          elim (cases_eq (j % 8) k) [
            | inl bits ↦ here ∙ ap (λ n. bit_at now n == 1) bits ∙ ap (λ b. b == 1) (bit_at_set_same w8 was k small)
                ∙ sym (ap (λ b. bit bytes j || b) (eq-eqb j place (omega arith)) ∙ or-true (bit bytes j))
            | inr bits ↦ here ∙ ap (λ b. b == 1) (bit_at_set_other w8 was k small (j % 8) bits) ∙ ap (λ n. bit_at (get_or bytes n 0) (j % 8) == 1) (sym same)
                ∙ sym (ap (λ b. bit bytes j || b) (ne_eqb j place (λ e. bits (ap (λ n. n % 8) e))) ∙ or-false (bit bytes j))
          ]
      | inr other ↦ ap (λ b. bit_at b (j % 8) == 1) (get_or-set_other bytes at (j / 8) now 0 other)
          ∙ sym (ap (λ b. bit bytes j || b) (ne_eqb j place (λ e. other (ap (λ n. n / 8) e))) ∙ or-false (bit bytes j))
    ]

-- ---- numbers by their bits

cond-lt : (b : Bool) → cond b 1 0 < 2
cond-lt true = omega arith
cond-lt false = omega arith

half : (b : Bool) (n : ℕ) → (cond b 1 0 + 2 * n) / 2 ≡ n
half b n = let low = cond-lt b in omega arith

rest : (b : Bool) (n : ℕ) → (cond b 1 0 + 2 * n) % 2 ≡ cond b 1 0
rest b n = let low = cond-lt b in omega arith

pub number-bit : (n : ℕ) (test : ℕ → Bool) (i : ℕ) → i < n → bit_at (number_of n test) i ≡ cond (test i) 1 0
unfolding number_of
number-bit zero test i within = absurd (omega arith)
number-bit (suc n) test zero within = bit_at_lowest _ ∙ rest (test 0) (number_of n (λ i. test (suc i)))
number-bit (suc n) test (suc i) within =
    bit_at-suc _ i ∙ ap (λ m. bit_at m i) (half (test 0) (number_of n (λ i. test (suc i)))) ∙ number-bit n (λ i. test (suc i)) i (omega arith)

pub number-lt : (n : ℕ) (test : ℕ → Bool) → number_of n test < 2 ^ n
unfolding number_of
number-lt zero test = omega arith
number-lt (suc n) test = let low = cond-lt (test 0) in let less = number-lt n (λ i. test (suc i)) in rw pow-suc (omega arith)

number-same : (n : ℕ) (f g : ℕ → Bool) → ((i : ℕ) → i < n → f i ≡ g i) → number_of n f ≡ number_of n g
unfolding number_of
number-same zero f g same = refl
number-same (suc n) f g same =
    ap (λ b. cond b 1 0 + 2 * number_of n (λ i. f (suc i))) (same 0 (omega arith))
    ∙ ap (λ m. cond (g 0) 1 0 + 2 * m) (number-same n (λ i. f (suc i)) (λ i. g (suc i)) (λ i within. same (suc i) (omega arith)))

-- ---- bytes by their bits

pub length-bytes : (n : ℕ) (test : ℕ → Bool) → length (bytes_of n test) ≡ n
unfolding bytes_of
length-bytes zero test = refl
length-bytes (suc n) test = ap suc (length-bytes n (λ j. test (8 + j)))

cond-eq : (b : Bool) → (cond b 1 0 == 1) ≡ b
cond-eq true = refl
cond-eq false = refl

one-bit : (n : ℕ) → n < 2 → cond (n == 1) 1 0 ≡ n
one-bit zero small = refl
one-bit (suc zero) small = refl
one-bit (suc (suc n)) small = absurd (omega arith)

pub bytes-bit : (n : ℕ) (test : ℕ → Bool) (j : ℕ) → j < 8 * n → bit (bytes_of n test) j ≡ test j
unfolding bytes_of
bytes-bit zero test j within = absurd (omega arith)
bytes-bit (suc n) test j within = elim (cases_lt j 8) [
  | inl first ↦
      let low : j / 8 ≡ 0 = omega arith in
      let at : j % 8 ≡ j = omega arith in
      ap (λ k. bit_at (get_or (bytes_of (suc n) test) k 0) (j % 8) == 1) low ∙ ap (λ k. bit_at (number_of 8 test) k == 1) at
      ∙ ap (λ b. b == 1) (number-bit 8 test j first) ∙ cond-eq (test j)
  | inr after ↦
      let high : j / 8 ≡ suc ((j - 8) / 8) = omega arith in
      let at : j % 8 ≡ (j - 8) % 8 = omega arith in
      let again : 8 + (j - 8) ≡ j = omega arith in
      ap (λ k. bit_at (get_or (bytes_of (suc n) test) k 0) (j % 8) == 1) high
      ∙ ap (λ k. bit_at (get_or (bytes_of n (λ i. test (8 + i))) ((j - 8) / 8) 0) k == 1) at
      ∙ bytes-bit n (λ i. test (8 + i)) (j - 8) (omega arith) ∙ ap test again
]

pub bytes-same : (n : ℕ) (f g : ℕ → Bool) → ((j : ℕ) → j < 8 * n → f j ≡ g j) → bytes_of n f ≡ bytes_of n g
unfolding bytes_of
bytes-same zero f g same = refl
bytes-same (suc n) f g same =
    ap (λ b. b ∷ bytes_of n (λ j. f (8 + j))) (number-same 8 f g (λ i within. same i (omega arith)))
    ∙ ap (λ l. number_of 8 g ∷ l) (bytes-same n (λ j. f (8 + j)) (λ j. g (8 + j)) (λ j within. same (8 + j) (omega arith)))

first-bit : (b : ℕ) (bytes : List ℕ) (i : ℕ) → i < 8 → cond (bit (b ∷ bytes) i) 1 0 ≡ bit_at b i
first-bit b bytes i within =
    let low : i / 8 ≡ 0 = omega arith in
    let at : i % 8 ≡ i = omega arith in
    ap (λ k. cond (bit_at (get_or (b ∷ bytes) k 0) (i % 8) == 1) 1 0) low ∙ ap (λ k. cond (bit_at b k == 1) 1 0) at ∙ one-bit (bit_at b i) (bit_at-lt b i)

later-bit : (b : ℕ) (bytes : List ℕ) (j : ℕ) → bit (b ∷ bytes) (8 + j) ≡ bit bytes j
later-bit b bytes j =
    let high : (8 + j) / 8 ≡ suc (j / 8) = omega arith in
    let at : (8 + j) % 8 ≡ j % 8 = omega arith in
    ap (λ k. bit_at (get_or (b ∷ bytes) k 0) ((8 + j) % 8) == 1) high ∙ ap (λ k. bit_at (get_or bytes (j / 8) 0) k == 1) at

pub bytes-again : (bytes : List ℕ) → AreBytes bytes → bytes_of (length bytes) (bit bytes) ≡ bytes
unfolding bytes_of
bytes-again [] are = refl
bytes-again (b ∷ bytes) are =
    let first : number_of 8 (bit (b ∷ bytes)) ≡ b = same_from_bits_below 8 _ b (number-lt 8 _) are.0 (λ i within.
    number-bit 8 (bit (b ∷ bytes)) i within ∙ first-bit b bytes i within) in
    ap (λ n. n ∷ bytes_of (length bytes) (λ j. bit (b ∷ bytes) (8 + j))) first
    ∙ ap (λ l. b ∷ l) (bytes-same (length bytes) (λ j. bit (b ∷ bytes) (8 + j)) (bit bytes) (λ j within. later-bit b bytes j) ∙ bytes-again bytes are.1)

pub bytes-none : (n : ℕ) → replicate n 0 ≡ bytes_of n (λ j. false)
unfolding bytes_of number_of
bytes-none zero = refl
bytes-none (suc n) = ap (λ l. 0 ∷ l) (bytes-none n)

pub are-bytes : (bytes : List ℕ) → ((i : ℕ) → get_or bytes i 0 < 256) → AreBytes bytes
are-bytes [] each = tt
are-bytes (b ∷ bytes) each = (each 0, are-bytes bytes (λ i. each (suc i)))

-- bytes with these bits are the bytes that have them
pub bytes-by-bits : (bytes : List ℕ) (test : ℕ → Bool) → AreBytes bytes → ((j : ℕ) → j < 8 * length bytes → bit bytes j ≡ test j) → bytes ≡ bytes_of (length bytes) test
bytes-by-bits bytes test are same = sym (bytes-again bytes are) ∙ bytes-same (length bytes) (bit bytes) test same

pub bits-decide : (a b : List ℕ) → AreBytes a → AreBytes b → length a ≡ length b → ((j : ℕ) → j < 8 * length a → bit a j ≡ bit b j) → a ≡ b
bits-decide a b are also long same = bytes-by-bits a (bit b) are same ∙ ap (λ n. bytes_of n (bit b)) long ∙ bytes-again b also
