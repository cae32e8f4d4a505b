-- Where places in chunks lie among their entries.
use Rattle.std.proofs.Common.{◌≡◌, ℕ, zero, suc, ◌+◌, ◌<◌, ◌≤◌, List, [], ◌∷◌, ◌++◌, length, take, get_or, cond, Some, None, refl, ap, ◌∙◌, arith, length-append}
use Rattle.std.specs.Prelude.{slice_get}
use Rattle.std.proofs.lemmas.Bool.{lt-ltb, le-ltb}
use Rattle.peb_base.specs.Cursors.{place_in}
use Rattle.peb_base.specs.declared.entry.Entry.{Entry}
use Rattle.mem_table.specs.Chunked.{joined, HaveEntries}
use Rattle.mem_table.specs.Spots.{IsSpot, place_of}
use Rattle.mem_table.specs.declared.spot.Spot.{Spot}

-- the entries of a chunk lie among those of all
pub chunk_inside : (cs : List (List Entry)) (i : ℕ) → i < length cs
    → length (joined (take i cs)) + length (get_or cs i []) ≤ length (joined cs)
chunk_inside [] i within = absurd (omega (arith, within))
chunk_inside (c ∷ cs) zero within = omega (arith, length-append c (joined cs))
chunk_inside (c ∷ cs) (suc i) within =
    let there : i < length cs = omega (arith, within) in
    omega (
      arith,
      chunk_inside cs i there,
      length-append c (joined cs),
      length-append c (joined (take i cs)),
    )

-- so does each place
pub spot_inside : (cs : List (List Entry)) (s : Spot) → IsSpot cs s
    → place_of cs s < length (joined cs)
spot_inside cs s is = omega (arith, chunk_inside cs s.chunk is.chunk, is.at)

get_past : (xs ys : List Entry) (n : ℕ) → slice_get (xs ++ ys) (length xs + n) ≡ slice_get ys n
get_past [] ys n = let same : 0 + n ≡ n = omega arith in ap (slice_get ys) same
get_past (x ∷ xs) ys n =
    let same : length (x ∷ xs) + n ≡ suc (length xs + n) = omega arith in
    ap (slice_get ((x ∷ xs) ++ ys)) same ∙ get_past xs ys n

get_within : (xs ys : List Entry) (n : ℕ) → n < length xs → slice_get (xs ++ ys) n ≡ slice_get xs n
get_within [] ys n within = absurd (omega (arith, within))
get_within (x ∷ xs) ys zero within = refl
get_within (x ∷ xs) ys (suc n) within = get_within xs ys n (omega (arith, within))

-- the entry at a place
pub get_at : (cs : List (List Entry)) (i at : ℕ) → i < length cs → at < length (get_or cs i [])
    → slice_get (joined cs) (length (joined (take i cs)) + at) ≡ slice_get (get_or cs i []) at
get_at [] i at within there = absurd (omega (arith, within))
get_at (c ∷ cs) zero at within there =
    let same : 0 + at ≡ at = omega arith in ap (slice_get (c ++ joined cs)) same
    ∙ get_within c (joined cs) at there
get_at (c ∷ cs) (suc i) at within there =
    let under : i < length cs = omega (arith, within) in
    let same : length (c ++ joined (take i cs)) + at
    ≡ length c + (length (joined (take i cs)) + at) =
    omega (arith, length-append c (joined (take i cs))) in
    ap (slice_get (c ++ joined cs)) same ∙ get_past c (joined cs) (length (joined (take i cs)) + at)
    ∙ get_at cs i at under there

-- the entries of one chunk more
pub joined_more : (cs : List (List Entry)) (i : ℕ) → i < length cs
    → length (joined (take (suc i) cs)) ≡ length (joined (take i cs)) + length (get_or cs i [])
joined_more [] i within = absurd (omega (arith, within))
joined_more (c ∷ cs) zero within = length-append c [] ∙ omega arith
joined_more (c ∷ cs) (suc i) within =
    let there : i < length cs = omega (arith, within) in
    omega (
      arith,
      joined_more cs i there,
      length-append c (joined (take (suc i) cs)),
      length-append c (joined (take i cs)),
    )

-- the last chunk ends all
pub joined_last : (cs : List (List Entry)) (i : ℕ) → suc i ≡ length cs
    → length (joined cs) ≡ length (joined (take i cs)) + length (get_or cs i [])
joined_last [] i last = absurd (omega (arith, last))
joined_last (c ∷ []) zero last = length-append c [] ∙ omega arith
joined_last (c ∷ d ∷ cs) zero last = absurd (omega (arith, last))
joined_last (c ∷ cs) (suc i) last =
    let there : suc i ≡ length cs = omega (arith, last) in
    omega (
      arith,
      joined_last cs i there,
      length-append c (joined cs),
      length-append c (joined (take i cs)),
    )

-- each chunk has an entry
pub chunk_some : (cs : List (List Entry)) (i : ℕ) → HaveEntries cs → i < length cs
    → 0 < length (get_or cs i [])
chunk_some [] i each within = absurd (omega (arith, within))
chunk_some (c ∷ cs) zero each within = each.0
chunk_some (c ∷ cs) (suc i) each within = chunk_some cs i each.1 (omega (arith, within))

-- a place that the entries have
pub place_there : (es : List Entry) (n : ℕ) → n < length es → place_in es n ≡ Some n
place_there es n within = ap (λ b. cond b (Some n) None) (lt-ltb n (length es) within)

-- and one that they don't have
pub place_past : (es : List Entry) (n : ℕ) → length es ≤ n → place_in es n ≡ None
place_past es n past = ap (λ b. cond b (Some n) None) (le-ltb n (length es) past)
