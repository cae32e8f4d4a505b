-- Lists that are copied or filled.
use Rattle.std.proofs.Common.{◌≡◌, ℕ, ◌+◌, [], ◌∷◌, ◌++◌, replicate, sym}
use Rattle.std.proofs.lemmas.List.{replicate-append-replicate}

-- one copy more
pub replicate_push : {X : Type 0} (n : ℕ) (x : X) → replicate (n + 1) x ≡ replicate n x ++ x ∷ []
replicate_push n x = sym (replicate-append-replicate n 1 x)
