-- Reading a script piece by piece.
use Rattle.std.proofs.Common.{◌≡◌, ℕ, ◌+◌, false, cond, List, ◌++◌, length, take, drop, Option, Some, None, Result, Ok, Err, sym, ap, ◌∙◌, subst, append_assoc, refl, arith}
use Rattle.std.specs.Result.{is_err, is_ok}
use Rattle.std.proofs.lemmas.List.{length-take, length-append, drop-drop, take-append-drop}
use Rattle.disk_model.specs.Bytes.{Fetches}
use Rattle.pebbles_cli.specs.Read.{Begins}

begins_more : (text : Option (List ℕ)) (bytes out : List ℕ) (n : ℕ) → Begins text bytes → Fetches text (length bytes) (Ok n) out → Begins text (bytes ++ take n out)
begins_more None bytes out n start got = tt
begins_more (Some text) bytes out n start got =
    let len : length (take n out) ≡ n = omega (arith, length-take n out, got.0) in
    let whole : length (bytes ++ take n out) ≡ length bytes + n = omega (arith, length-append bytes (take n out), len) in
    let rest : drop (length (bytes ++ take n out)) text ≡ drop n (drop (length bytes) text) = rw whole (sym (drop-drop n (length bytes) text)) in
    start ∙ ap (λ (t : List ℕ). bytes ++ t) (sym (take-append-drop n (drop (length bytes) text))) ∙ sym (append_assoc bytes (take n (drop (length bytes) text)) (drop n (drop (length bytes) text)))
    ∙ rw (rest, got.2) refl

pub begins_read : {E : Type 0} (text told : Option (List ℕ)) (bytes out new : List ℕ) (at n : ℕ) (r : Result (Unit {0}) E)
    → told ≡ text → at ≡ length bytes → is_err r ≡ false → new ≡ cond (is_ok r) (bytes ++ take n out) bytes → Begins text bytes → Fetches told at (Ok n) out → Begins text new
begins_read text told bytes out new at n (Err e) same place f made start got = absurd cc
begins_read text told bytes out new at n (Ok u) same place f made start got =
    let here : Fetches text (length bytes) (Ok n) out = subst (λ (k : ℕ). Fetches text k (Ok n) out) place (subst (λ (t : Option (List ℕ)). Fetches t at (Ok n) out) same got) in
    subst (λ (b : List ℕ). Begins text b) (sym made) (begins_more text bytes out n start here)
