-- The range of a key: how many first keys aren't above it.
use Rattle.std.proofs.Common.{◌≡◌, ℕ, zero, suc, ◌+◌, ◌<◌, ◌≤◌, Bool, true, false, List, [], ◌∷◌, length, refl, sym, ap, ◌∙◌, subst, arith}
use Rattle.std.specs.Prelude.{get_or, if◌then◌else◌}
use Rattle.std.proofs.lemmas.Bool.{true≢false}
use Rattle.peb_base.specs.Keys.{Bytes, key_lt, key_le}
use Rattle.peb_base.specs.KeyLaws.{le_lt}
use Rattle.table_file.specs.Pieces.{range_of}

pub range_bound : (key : Bytes) (keys : List Bytes) → range_of key keys ≤ length keys
range_bound key [] = omega arith
range_bound key (k ∷ ks) = by (key_lt key k) (range_bound key ks)
  where
    by : (b : Bool) → range_of key ks ≤ length ks
        → (if b then 0 else suc (range_of key ks)) ≤ suc (length ks)
    by true h = omega arith
    by false h = omega (arith, h)

-- a key above it ends its range
pub range_to : (key : Bytes) (keys : List Bytes) (i : ℕ) (d : Bytes) → i < length keys
    → key_lt key (get_or keys i d) ≡ true → range_of key keys ≤ i
range_to key [] i d within above = absurd (omega (arith, within))
range_to key (k ∷ ks) zero d within above =
    subst (λ b. (if b then 0 else suc (range_of key ks)) ≤ 0) (sym above) (omega arith)
range_to key (k ∷ ks) (suc i) d within above =
    by (key_lt key k) (range_to key ks i d (omega (arith, within)) above)
  where
    by : (b : Bool) → range_of key ks ≤ i → (if b then 0 else suc (range_of key ks)) ≤ suc i
    by true h = omega arith
    by false h = omega (arith, h)

-- a key that isn't above it doesn't
pub range_on : (key : Bytes) (keys : List Bytes) (i : ℕ) (d : Bytes) → i < length keys
    → i ≤ range_of key keys → key_lt key (get_or keys i d) ≡ false → i + 1 ≤ range_of key keys
range_on key [] i d within le below = absurd (omega (arith, within))
range_on key (k ∷ ks) zero d within le below =
    subst (λ b. 0 + 1 ≤ (if b then 0 else suc (range_of key ks))) (sym below) (omega arith)
range_on key (k ∷ ks) (suc i) d within le below =
    by (key_lt key k) refl (λ near. range_on key ks i d (omega (arith, within)) near below)
  where
    by : (b : Bool) → key_lt key k ≡ b → (i ≤ range_of key ks → i + 1 ≤ range_of key ks)
        → suc i + 1 ≤ range_of key (k ∷ ks)
    by true t ih = absurd (omega (arith, le, ap (λ b. if b then 0 else suc (range_of key ks)) t))
    by false t ih =
        let far : range_of key (k ∷ ks) ≡ suc (range_of key ks) =
        ap (λ b. if b then 0 else suc (range_of key ks)) t in
        let near : i ≤ range_of key ks = omega (arith, le, far) in
        omega (arith, far, ih near)

-- a greater key has no earlier range
pub range_grows : (a b : Bytes) (keys : List Bytes) → key_le a b ≡ true
    → range_of a keys ≤ range_of b keys
range_grows a b [] h = omega arith
range_grows a b (k ∷ ks) h = by (key_lt b k) refl (key_lt a k) refl (range_grows a b ks h)
  where
    by : (s : Bool) → key_lt b k ≡ s → (t : Bool) → key_lt a k ≡ t
        → range_of a ks ≤ range_of b ks
        → (if t then 0 else suc (range_of a ks)) ≤ (if s then 0 else suc (range_of b ks))
    by s p true q ih = omega arith
    by true p false q ih = absurd (true≢false (sym (le_lt a b k h p) ∙ q))
    by false p false q ih = omega (arith, ih)
