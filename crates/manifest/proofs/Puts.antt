-- Parts that are added one after another.
use Rattle.std.proofs.Common.{◌≡◌, ℕ, List, ◌++◌, Result, Ok, Err, OnOk, ap, ◌∙◌, append_assoc}

-- two parts are one
pub put_on : (old a b : List ℕ) {mid new : List ℕ} → mid ≡ old ++ a → new ≡ mid ++ b → new ≡ old ++ (a ++ b)
put_on old a b {mid} {new} one two = two ∙ ap (λ l. l ++ b) one ∙ append_assoc old a b

pub on_ok : {T E P Q : Type 0} (r : Result T E) → (P → Q) → OnOk r P → OnOk r Q
on_ok (Ok x) then p = then p
on_ok (Err e) then p = tt
