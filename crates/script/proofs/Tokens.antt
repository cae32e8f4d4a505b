-- Reading a token byte by byte.
use Rattle.std.proofs.Common.{◌≡◌, ℕ, ◌+◌, ◌*◌, ◌<◌, true, false, cond, eqb, List, [], ◌∷◌, ◌++◌, length, Option, Some, None, refl, sym, ap, ◌∙◌, append_assoc, arith}
use Rattle.std.specs.Prelude.{option_map, option_and_then}
use Rattle.std.proofs.lemmas.List.{append-nil}
use Rattle.script.specs.Token.{is_plain_byte, hex_value, escape_at, byte_at, onto, bytes_in}

abbrev pub then_bytes : ℕ × List ℕ → Option (List ℕ)
then_bytes x = onto x.0 (bytes_in x.1)

escaped : (o p : Option ℕ) (rest : List ℕ) → option_and_then (λ high. option_and_then (λ low. onto (high * 16 + low) (bytes_in rest)) p) o ≡ option_and_then then_bytes (option_and_then (λ high. option_map (λ low. (high * 16 + low, rest)) p) o)
escaped None p rest = refl
escaped (Some h) None rest = refl
escaped (Some h) (Some l) rest = refl

-- the first byte, and then the rest
pub bytes_in_step : (text : List ℕ) → 0 < length text → bytes_in text ≡ option_and_then then_bytes (byte_at text)
unfolding bytes_in byte_at escape_at
bytes_in_step [] h = absurd (omega arith)
bytes_in_step (c ∷ []) h =
    elim (is_plain_byte c) as (λ b. cond b (Some (c ∷ [])) None ≡ option_and_then then_bytes (cond b (Some (c, [])) (cond (eqb c 37) (escape_at []) None))) [
      | true ↦ refl
      | false ↦ elim (eqb c 37) as (λ b. None ≡ option_and_then then_bytes (cond b (escape_at []) None)) [ true ↦ refl | false ↦ refl ]
    ]
bytes_in_step (c ∷ h ∷ []) p =
    elim (is_plain_byte c) as (λ b. cond b (onto c (bytes_in (h ∷ []))) None ≡ option_and_then then_bytes (cond b (Some (c, h ∷ [])) (cond (eqb c 37) (escape_at (h ∷ [])) None))) [
      | true ↦ refl
      | false ↦ elim (eqb c 37) as (λ b. None ≡ option_and_then then_bytes (cond b (escape_at (h ∷ [])) None)) [ true ↦ refl | false ↦ refl ]
    ]
bytes_in_step (c ∷ h ∷ l ∷ cs) p =
    let escape : Option (List ℕ) = option_and_then (λ high. option_and_then (λ low. onto (high * 16 + low) (bytes_in cs)) (hex_value l)) (hex_value h) in
    elim (is_plain_byte c) as (λ b. cond b (onto c (bytes_in (h ∷ l ∷ cs))) (cond (eqb c 37) escape None) ≡ option_and_then then_bytes (cond b (Some (c, h ∷ l ∷ cs)) (cond (eqb c 37) (escape_at (h ∷ l ∷ cs)) None))) [
      | true ↦ refl
      | false ↦ elim (eqb c 37) as (λ b. cond b escape None ≡ option_and_then then_bytes (cond b (escape_at (h ∷ l ∷ cs)) None)) [ true ↦ escaped (hex_value h) (hex_value l) cs | false ↦ refl ]
    ]

pub none_in : (front rest text : List ℕ) → 0 < length rest → byte_at rest ≡ None → option_map (λ bs. front ++ bs) (bytes_in rest) ≡ bytes_in text → bytes_in text ≡ None
none_in front rest text lt e so_far = sym so_far ∙ rw (bytes_in_step rest lt, e) refl

regroup : (front : List ℕ) (b : ℕ) (o : Option (List ℕ)) → option_map (λ bs. front ++ bs) (onto b o) ≡ option_map (λ bs. (front ++ b ∷ []) ++ bs) o
regroup front b None = refl
regroup front b (Some bs) = ap Some (sym (append_assoc front (b ∷ []) bs))

pub more_in : (front rest after text : List ℕ) (b : ℕ) → 0 < length rest → byte_at rest ≡ Some (b, after) → option_map (λ bs. front ++ bs) (bytes_in rest) ≡ bytes_in text
    → option_map (λ bs. (front ++ b ∷ []) ++ bs) (bytes_in after) ≡ bytes_in text
more_in front rest after text b lt e so_far =
    sym (regroup front b (bytes_in after)) ∙ sym (ap (option_map (λ bs. front ++ bs)) (rw (bytes_in_step rest lt, e) refl)) ∙ so_far

pub all_in : (front rest text : List ℕ) → length rest ≡ 0 → option_map (λ bs. front ++ bs) (bytes_in rest) ≡ bytes_in text → bytes_in text ≡ Some front
unfolding bytes_in
all_in front [] text e so_far = sym so_far ∙ ap Some (append-nil front)
all_in front (b ∷ bs) text e so_far = absurd (omega arith)
