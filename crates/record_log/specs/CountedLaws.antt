-- What a length at the front tells.
use Rattle.std.specs.Prelude.{◌≡◌, ℕ, ◌+◌, ◌^◌, ◌<◌, List, ◌++◌, length, take, drop, refl}
use Rattle.std.proofs.Common.{sym, ap, ◌∙◌, append_assoc, length-append}
use Rattle.std.proofs.lemmas.List.{append_cancel_left, take_at, drop_at}
use Rattle.byteorder.specs.Endian.{big_bytes, big_number}
use Rattle.byteorder.specs.Numbers.{big_number-reads_back, length-bytes_high_first}
use Rattle.record_log.specs.Counted.{counted_bytes}

-- the length at the front
pub length_read : (n : ℕ) (body rest : List ℕ) → length body < 256 ^ n
    → big_number n (counted_bytes n body ++ rest) ≡ length body
length_read n body rest small = ap (big_number n) (append_assoc (big_bytes n (length body)) body rest)
    ∙ big_number-reads_back n (length body) (body ++ rest) small

pub length-counted : (n : ℕ) (body : List ℕ) → length (counted_bytes n body) ≡ n + length body
length-counted n body = length-append (big_bytes n (length body)) body
    ∙ ap (λ m. m + length body) (length-bytes_high_first n (length body))

-- none begins another
pub one_counted : (n : ℕ) (a b x y : List ℕ) → length a < 256 ^ n → length b < 256 ^ n
    → counted_bytes n a ++ x ≡ counted_bytes n b ++ y → (a ≡ b) × (x ≡ y)
one_counted n a b x y small_a small_b same =
    let long : length a ≡ length b = sym (length_read n a x small_a) ∙ ap (big_number n) same
    ∙ length_read n b y small_b in
    let front : big_bytes n (length a) ++ (a ++ x) ≡ big_bytes n (length a) ++ (b ++ y) =
    sym (append_assoc (big_bytes n (length a)) a x) ∙ same
    ∙ append_assoc (big_bytes n (length b)) b y
    ∙ ap (λ m. big_bytes n m ++ (b ++ y)) (sym long) in
    let behind : a ++ x ≡ b ++ y =
    append_cancel_left (big_bytes n (length a)) (a ++ x) (b ++ y) front in (
      sym (take_at a x (length a) refl) ∙ ap (take (length a)) behind
          ∙ take_at b y (length a) (sym long),
      sym (drop_at a x (length a) refl) ∙ ap (drop (length a)) behind
          ∙ drop_at b y (length a) (sym long),
    )
