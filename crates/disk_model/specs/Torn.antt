-- What a crash may make of a write: a part of it, or other bytes, in its range.
use Rattle.std.specs.Prelude.{◌≡◌, ℕ, ◌+◌, ◌-◌, ◌≤◌, List, [], ◌++◌, length, take, drop, Option, None, Some}
use Rattle.std.proofs.Common.{ap, ◌∙◌, sym, subst, arith, length-append, length-drop, append_assoc}
use Rattle.std.proofs.lemmas.List.{take_at, drop_at, drop-drop, length-take-le}
use Rattle.disk_model.specs.Images.{content, over, IsTorn, Tears}

-- at most n bytes that are written within a file leave one of the torn files
pub over_torn : (old : List ℕ) (at n : ℕ) (bytes : List ℕ) → at ≤ length old → length bytes ≤ n
    → IsTorn at n old (over old at bytes)
over_torn old at n bytes within fits =
    let front : length (take at old) ≡ at = length-take-le at old within in
    let begun : length (take at old ++ bytes) ≡ at + length bytes =
    length-append (take at old) bytes ∙ ap (λ n. n + length bytes) front in
    let rest = drop (at + length bytes) old in
    let size : length (over old at bytes) ≡ at + length bytes + (length old - (at + length bytes)) =
    length-append (take at old ++ bytes) rest ∙ ap (λ n. n + length rest) begun
    ∙ ap (λ n. at + length bytes + n) (length-drop (at + length bytes) old) in
    let whole : at + length bytes + (n - length bytes) ≡ at + n = omega (arith, fits) in
    record {
      before = ap (take at) (append_assoc (take at old) bytes rest)
          ∙ take_at (take at old) (bytes ++ rest) at front;
      after = subst (λ m. drop m (over old at bytes) ≡ drop m old) whole (
          sym (drop-drop (n - length bytes) (at + length bytes) (over old at bytes))
          ∙ ap (drop (n - length bytes))
          (drop_at (take at old ++ bytes) rest (at + length bytes) begun)
          ∙ drop-drop (n - length bytes) (at + length bytes) old
          );
      no_shorter = omega (arith, size);
      no_longer = omega (arith, size);
    }

pub tears_over : (old : Option (List ℕ)) (at n : ℕ) (bytes : List ℕ) → at ≤ length (content old)
    → length bytes ≤ n → Tears at n old (Some (over (content old) at bytes))
tears_over None at n bytes within fits = over_torn [] at n bytes within fits
tears_over (Some old) at n bytes within fits = over_torn old at n bytes within fits
