-- How far probes reach.
use Rattle.std.proofs.Common.{◌≡◌, ℕ, ◌-◌, ◌*◌, ◌/◌, ◌%◌, ◌^◌, ◌<◌, min, bit_or, ap, sym, ◌∙◌, inl, inr, arith}
use Rattle.std.proofs.Math.Nat.{mod-eq_of_lt}
use Rattle.std.proofs.lemmas.Bool.{cases_lt}
use Rattle.std.proofs.lemmas.Nat.{or_of_32, mul-lt}

pub high-lt : (hash i : ℕ) → hash < 2 ^ 64 → i < 6 → i * bit_or (hash / 2 ^ 32) 1 < 6 * 2 ^ 32
high-lt hash i fits few = mul-lt i (bit_or (hash / 2 ^ 32) 1) 6 (2 ^ 32) few (or_of_32 (hash / 2 ^ 32) 1 (omega arith) (omega arith))

-- more bits than a u64 counts leave a probe as it is
pub same-probe : (n bytes bits : ℕ) → n < 2 ^ 36 → bits ≡ min (bytes * 8) (2 ^ 64 - 1) → n % bits ≡ n % (8 * bytes)
same-probe n bytes bits less is = elim (cases_lt (bytes * 8) (2 ^ 64)) [
  | inl fits ↦ let same : bits ≡ 8 * bytes = omega arith in ap (λ m. n % m) same
  | inr more ↦
      let here : n % bits ≡ n = mod-eq_of_lt (omega arith) in
      let there : n % (8 * bytes) ≡ n = mod-eq_of_lt (omega arith) in
      here ∙ sym there
]
