-- Functions that change at one number.
use Rattle.std.proofs.Common.{◌≡◌, ◌≢◌, ℕ, refl}
use native.Mathlib.Decide.{ℕ_discrete}

-- a, if the fact holds, else b
abbrev pick : {P : Type 0} → Dec P → ℕ → ℕ → ℕ
pick (yes _) a b = a
pick (no _) a b = b

-- f, but c at i
pub put : (ℕ → ℕ) → ℕ → ℕ → ℕ → ℕ
put f i c j = pick (ℕ_discrete j i) c (f j)

-- at i it is c
pub put_here : (f : ℕ → ℕ) (i c j : ℕ) → j ≡ i → put f i c j ≡ c
unfolding put
put_here f i c j here = go (ℕ_discrete j i)
  where
    go : (d : Dec (j ≡ i)) → pick d c (f j) ≡ c
    go (yes e) = refl
    go (no n) = absurd (n here)

-- elsewhere it is f
pub put_else : (f : ℕ → ℕ) (i c j : ℕ) → j ≢ i → put f i c j ≡ f j
unfolding put
put_else f i c j other = go (ℕ_discrete j i)
  where
    go : (d : Dec (j ≡ i)) → pick d c (f j) ≡ f j
    go (yes e) = absurd (other e)
    go (no _) = refl

-- j, but `to` in place of `from`
pub move : ℕ → ℕ → ℕ → ℕ
move from to j = pick (ℕ_discrete j from) to j

-- `from` is moved
pub move_here : (from to j : ℕ) → j ≡ from → move from to j ≡ to
unfolding move
move_here from to j here = go (ℕ_discrete j from)
  where
    go : (d : Dec (j ≡ from)) → pick d to j ≡ to
    go (yes e) = refl
    go (no n) = absurd (n here)

-- nothing else is
pub move_else : (from to j : ℕ) → j ≢ from → move from to j ≡ j
unfolding move
move_else from to j other = go (ℕ_discrete j from)
  where
    go : (d : Dec (j ≡ from)) → pick d to j ≡ j
    go (yes e) = absurd (other e)
    go (no _) = refl
