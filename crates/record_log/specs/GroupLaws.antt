-- How the spelling of records and groups grows, and that none begins another.
use Rattle.std.specs.Prelude.{◌≡◌, ℕ, ◌+◌, ◌<◌, ◌^◌, List, [], ◌∷◌, ◌++◌, map, length, drop, refl}
use Rattle.std.proofs.Common.{sym, ap, ◌∙◌, arith, append_assoc, length-append}
use Rattle.std.proofs.lemmas.List.{append-nil}
use Rattle.record_log.specs.CountedLaws.{length-counted, one_counted}
use Rattle.record_log.specs.Groups.{record_bytes, records_bytes, group_bytes, groups_bytes, IsGroup, placed}

pub records-push : (bodies : List (List ℕ)) (body : List ℕ)
    → records_bytes (bodies ++ body ∷ []) ≡ records_bytes bodies ++ record_bytes body
records-push [] body = append-nil (record_bytes body)
records-push (first ∷ bodies) body = ap (λ l. record_bytes first ++ l) (records-push bodies body)
    ∙ sym (append_assoc (record_bytes first) (records_bytes bodies) (record_bytes body))

pub groups-push : (groups : List (List (List ℕ))) (group : List (List ℕ))
    → groups_bytes (groups ++ group ∷ []) ≡ groups_bytes groups ++ group_bytes group
groups-push [] group = append-nil (group_bytes group)
groups-push (first ∷ groups) group = ap (λ l. group_bytes first ++ l) (groups-push groups group)
    ∙ sym (append_assoc (group_bytes first) (groups_bytes groups) (group_bytes group))

pub placed-push : (at : ℕ) (groups : List (List (List ℕ))) (group : List (List ℕ))
    → placed at (groups ++ group ∷ []) ≡ placed at groups
    ++ map (λ body. (at + length (groups_bytes groups), body)) group
placed-push at [] group = append-nil (map (λ body. (at, body)) group)
    ∙ ap (λ (n : ℕ). map (λ body. (n, body)) group) (omega arith)
placed-push at (first ∷ groups) group =
    let there : at + length (group_bytes first) + length (groups_bytes groups)
    ≡ at + length (group_bytes first
    ++ groups_bytes groups) =
    omega (arith, length-append (group_bytes first) (groups_bytes groups)) in
    ap (λ l. map (λ body. (at, body)) first
    ++ l) (placed-push (at + length (group_bytes first)) groups group)
    ∙ sym (append_assoc (map (λ body. (at, body)) first)
    (placed (at + length (group_bytes first)) groups)
    (map (λ body. (at + length (group_bytes first) + length (groups_bytes groups), body)) group))
    ∙ ap (λ (n : ℕ). map (λ body. (at, body)) first
    ++ placed (at + length (group_bytes first)) groups ++ map (λ body. (n, body)) group) there

pub length-record : (body : List ℕ) → length (record_bytes body) ≡ 4 + length body
length-record body = length-counted 4 body

-- no record begins another
pub one_record : (a b x y : List ℕ) → length a < 2 ^ 32 → length b < 2 ^ 32
    → record_bytes a ++ x ≡ record_bytes b ++ y → (a ≡ b) × (x ≡ y)
one_record a b x y small_a small_b same = one_counted 4 a b x y (omega arith) (omega arith) same

-- bytes are the records of one list at most
pub same_records : (a b : List (List ℕ)) → length (records_bytes a) < 2 ^ 32
    → length (records_bytes b) < 2 ^ 32 → records_bytes a ≡ records_bytes b → a ≡ b
same_records [] [] small_a small_b same = refl
same_records [] (y ∷ b) small_a small_b same = absurd (omega (
  arith,
  ap length same,
  length-append (record_bytes y) (records_bytes b),
  length-record y,
))
same_records (x ∷ a) [] small_a small_b same = absurd (omega (
  arith,
  ap length same,
  length-append (record_bytes x) (records_bytes a),
  length-record x,
))
same_records (x ∷ a) (y ∷ b) small_a small_b same =
    let size_a = length-append (record_bytes x) (records_bytes a) in
    let size_b = length-append (record_bytes y) (records_bytes b) in
    let parts = one_record x y (records_bytes a) (records_bytes b)
    (omega (arith, size_a, length-record x)) (omega (arith, size_b, length-record y)) same in
    let rest = same_records a b (omega (arith, size_a, length-record x))
    (omega (arith, size_b, length-record y)) parts.1 in
    λ i. parts.0 i ∷ rest i

-- no group begins another
pub one_group : (g h : List (List ℕ)) (x y : List ℕ) → IsGroup g → IsGroup h
    → group_bytes g ++ x ≡ group_bytes h ++ y → (g ≡ h) × (x ≡ y)
one_group g h x y is_g is_h same =
    let parts = one_record (records_bytes g) (records_bytes h) x y is_g.1 is_h.1
    (ap (drop 1) same) in
    (same_records g h is_g.1 is_h.1 parts.0, parts.1)
