-- Probes that are set.
use Rattle.std.proofs.Common.{◌≡◌, ℕ, zero, suc, ◌+◌, ◌*◌, ◌<◌, Bool, true, false, ◌==◌, ◌||◌, List, [], ◌∷◌, ◌++◌, length, replicate, refl, sym, ap, ◌∙◌, inl, inr, arith, add-one}
use Rattle.std.proofs.Math.Bool.{or-false, or_assoc}
use Rattle.std.proofs.lemmas.Bool.{cases_eq, eq-eqb, or_left, or_right, and_from, and_parts, both_ways, false_from_ne_true}
use Rattle.std.proofs.lemmas.List.Elements.{at_from_Contains}
use Rattle.std.proofs.lemmas.List.Folds.{list_any-append, list_any_at}
use Rattle.std.proofs.lemmas.Nat.{mod_below}
use Rattle.std.specs.List.{Contains, list_any}
use Rattle.peb_base.specs.Tables.{filter_length}
use Rattle.bloom.specs.Bits.{bit, bytes_of}
use Rattle.bloom.specs.Filter.{probe, is_probe, are_set, may_hold, with_hash, filter_of}
use Rattle.bloom.proofs.BitBytes.{length-bytes, bytes-bit, bytes-same, bytes-none}

pub is-probe : (n hash bits i : ℕ) → i < n → is_probe n hash bits (probe hash bits i) ≡ true
unfolding is_probe
is-probe zero hash bits i within = absurd (omega arith)
is-probe (suc n) hash bits i within = elim (cases_eq i n) [
  | inl last ↦ or_right _ _ (eq-eqb _ _ (ap (probe hash bits) last))
  | inr before ↦ or_left _ _ (is-probe n hash bits i (omega arith))
]

set-each : (n : ℕ) (bytes : List ℕ) (hash : ℕ) → ((i : ℕ) → i < n → bit bytes (probe hash (8 * length bytes) i) ≡ true) → are_set n bytes hash ≡ true
unfolding are_set
set-each zero bytes hash each = refl
set-each (suc n) bytes hash each = and_from _ _ (set-each n bytes hash (λ i within. each i (omega arith))) (each n (omega arith))

each-set : (n : ℕ) (bytes : List ℕ) (hash : ℕ) → are_set n bytes hash ≡ true → (i : ℕ) → i < n → bit bytes (probe hash (8 * length bytes) i) ≡ true
unfolding are_set
each-set zero bytes hash set i within = absurd (omega arith)
each-set (suc n) bytes hash set i within =
    let parts = and_parts (are_set n bytes hash) (bit bytes (probe hash (8 * length bytes) n)) set in
    elim (cases_eq i n) [
      | inl last ↦ ap (λ k. bit bytes (probe hash (8 * length bytes) k)) last ∙ parts.1
      | inr before ↦ each-set n bytes hash parts.0 i (omega arith)
    ]

pub none-set : (bytes : List ℕ) (hash : ℕ) → are_set 0 bytes hash ≡ true
unfolding are_set
none-set bytes hash = refl

pub one-more-set : (n : ℕ) (bytes : List ℕ) (hash : ℕ) → are_set n bytes hash ≡ true → bit bytes (probe hash (8 * length bytes) n) ≡ true → are_set (n + 1) bytes hash ≡ true
unfolding are_set
one-more-set n bytes hash set one = rw add-one (and_from _ _ set one)

pub one-unset : (n : ℕ) (bytes : List ℕ) (hash i : ℕ) → i < n → bit bytes (probe hash (8 * length bytes) i) ≡ false → are_set n bytes hash ≡ false
one-unset n bytes hash i within unset = false_from_ne_true _ (λ set. both_ways _ unset (each-set n bytes hash set i within))

pub no-probe : (was : Bool) (hash bits j : ℕ) → was ≡ (was || is_probe 0 hash bits j)
unfolding is_probe
no-probe was hash bits j = sym (or-false was)

pub one-more-probe : (was : Bool) (n hash bits j place : ℕ) → place ≡ probe hash bits n → (was || is_probe n hash bits j || (j == place)) ≡ (was || is_probe (n + 1) hash bits j)
unfolding is_probe
one-more-probe was n hash bits j place is = or_assoc was (is_probe n hash bits j) (j == place) ∙ rw (add-one, is) refl

-- bytes that have all six probes of the hash may hold it
held : (n : ℕ) (test : ℕ → Bool) (hash : ℕ) → 0 < n → ((i : ℕ) → i < 6 → test (probe hash (8 * n) i) ≡ true) → may_hold (bytes_of n test) hash ≡ true
held n test hash some each =
    let len = length-bytes n test in
    set-each 6 (bytes_of n test) hash (λ i within.
    ap (λ k. bit (bytes_of n test) (probe hash (8 * k) i)) len ∙ bytes-bit n test (probe hash (8 * n) i) (mod_below _ (8 * n) (omega arith)) ∙ each i within)

pub added-held : (bytes : List ℕ) (hash : ℕ) → 0 < length bytes → may_hold (with_hash bytes hash) hash ≡ true
added-held bytes hash some = held (length bytes) _ hash some (λ i within. or_right _ _ (is-probe 6 hash (8 * length bytes) i within))

pub held-stays : (bytes : List ℕ) (hash more : ℕ) → 0 < length bytes → may_hold bytes hash ≡ true → may_hold (with_hash bytes more) hash ≡ true
held-stays bytes hash more some was = held (length bytes) _ hash some (λ i within. or_left _ _ (each-set 6 bytes hash was i within))

pub filter-grows : (count : ℕ) (hashes : List ℕ) (hash : ℕ) → with_hash (filter_of count hashes) hash ≡ filter_of count (hashes ++ hash ∷ [])
filter-grows count hashes hash =
    let n = filter_length count in
    let was = λ (j : ℕ). list_any (λ (h : ℕ). is_probe 6 h (8 * n) j) hashes in
    ap (λ k. bytes_of k (λ j. bit (bytes_of n was) j || is_probe 6 hash (8 * k) j)) (length-bytes n was)
    ∙ bytes-same n (λ j. bit (bytes_of n was) j || is_probe 6 hash (8 * n) j) (λ j. list_any (λ h. is_probe 6 h (8 * n) j) (hashes ++ hash ∷ [])) (λ j within.
    ap (λ b. b || is_probe 6 hash (8 * n) j) (bytes-bit n was j within)
    ∙ ap (λ b. was j || b) (sym (or-false (is_probe 6 hash (8 * n) j))) ∙ sym (list_any-append (λ h. is_probe 6 h (8 * n) j) hashes (hash ∷ [])))

pub all-held : (count : ℕ) (hashes : List ℕ) (hash : ℕ) → Contains hashes hash → may_hold (filter_of count hashes) hash ≡ true
all-held count hashes hash has =
    let at = at_from_Contains hashes hash has in
    held (filter_length count) _ hash (omega arith) (λ i within.
    let p = probe hash (8 * filter_length count) i in
    list_any_at (λ h. is_probe 6 h (8 * filter_length count) p) hashes at.0 hash at.1
    (ap (λ h. is_probe 6 h (8 * filter_length count) p) (at.2 hash) ∙ is-probe 6 hash (8 * filter_length count) i within))

pub filter-none : (count len : ℕ) (bytes : List ℕ) → bytes ≡ replicate len 0 → len ≡ filter_length count → bytes ≡ filter_of count []
filter-none count len bytes zeros is = zeros ∙ ap (λ n. replicate n 0) is ∙ bytes-none (filter_length count)
