-- First batches of a list.
use Rattle.std.specs.Prelude.{◌≡◌, ℕ, ◌+◌, ◌-◌, true, ◌&&◌, [], ◌∷◌, ◌++◌, length, refl, nat_lt, ◌==◌}
use Rattle.std.proofs.Common.{sym, ◌∙◌, ap, append_assoc}
use Rattle.std.proofs.lemmas.Bool.{and_from, and_parts}
use Rattle.std.proofs.lemmas.List.{append-nil}
use Rattle.peb_base.specs.Numbers.{session_of}
use Rattle.peb_base.specs.Batches.{Batches, ordered_above, are_in_order}

-- the first batches of these
abbrev pub IsFront : Batches → Batches → Type 0
IsFront front all = (rest : Batches) × (all ≡ front ++ rest)

-- batches above a number, up to some of them
above_front : (low : ℕ) (front rest : Batches) → ordered_above low (front ++ rest) ≡ true
    → ordered_above low front ≡ true
above_front low [] rest ordered = refl
above_front low (b ∷ front) rest ordered =
    let parts = and_parts (nat_lt low b.0 && nat_lt 0 (length b.1) && session_of b.0 == session_of
    (b.0 + length b.1 - 1)) (ordered_above (b.0 + length b.1 - 1) (front ++ rest)) ordered in
    and_from (nat_lt low b.0 && nat_lt 0 (length b.1) && session_of b.0 == session_of
    (b.0 + length b.1 - 1)) (ordered_above (b.0 + length b.1 - 1) front)
    parts.0 (above_front (b.0 + length b.1 - 1) front rest parts.1)

-- first batches of batches in order are in order
pub front_in_order : (front rest : Batches) → are_in_order (front ++ rest) ≡ true
    → are_in_order front ≡ true
front_in_order front rest ordered = above_front 0 front rest ordered

-- all of them, more behind them, and first ones of first ones
pub front_refl : (bs : Batches) → IsFront bs bs
front_refl bs = ([], sym (append-nil bs))

pub front_more : (bs more : Batches) → IsFront bs (bs ++ more)
front_more bs more = (more, refl)

pub front_trans : (a b c : Batches) → IsFront a b → IsFront b c → IsFront a c
front_trans a b c (x, ab) (y, bc) = (x ++ y, bc ∙ ap (λ r. r ++ y) ab ∙ append_assoc a x y)
