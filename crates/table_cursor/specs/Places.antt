-- Where blocks stand among the entries of all.
use Rattle.std.proofs.Common.{◌≡◌, ℕ, zero, suc, ◌+◌, ◌<◌, ◌≤◌, ◌∙◌, List, [], ◌∷◌, ◌++◌, length, take, Some, refl, sym, ap, subst, arith, length-append}
use Rattle.std.specs.Prelude.{slice_get}
use Rattle.std.proofs.lemmas.List.{append-nil}
use Rattle.peb_base.specs.declared.entry.Entry.{Entry}
use Rattle.table_cursor.specs.Standing.{joined, entries_before}

pub block_is : (a b : List Entry) → Some a ≡ Some b → a ≡ b
block_is a b same = cc

-- no blocks have no entries
pub none_joined : (blocks : List (List Entry)) → length blocks ≡ 0 → joined blocks ≡ []
none_joined [] none = refl
none_joined (b ∷ blocks) none = absurd (omega (arith, none))

-- where a block stands among the entries of all
pub record Among (blocks : List (List Entry)) (index : ℕ) (block : List Entry) : Type 0 where
  pub inside : index < length blocks
  pub within : entries_before index blocks + length block ≤ length (joined blocks)
  pub next : entries_before (suc index) blocks ≡ entries_before index blocks + length block
  pub last : suc index ≡ length blocks
      → entries_before index blocks + length block ≡ length (joined blocks)
  pub entry : (k : ℕ) → k < length block
      → slice_get (joined blocks) (entries_before index blocks + k) ≡ slice_get block k

-- an entry in front, and one behind the others
get_front : (xs ys : List Entry) (k : ℕ) → k < length xs → slice_get (xs ++ ys) k ≡ slice_get xs k
get_front [] ys k lt = absurd (omega (arith, lt))
get_front (x ∷ xs) ys zero lt = refl
get_front (x ∷ xs) ys (suc k) lt = get_front xs ys k (omega (arith, lt))

get_behind : (xs ys : List Entry) (k : ℕ) → slice_get (xs ++ ys) (length xs + k) ≡ slice_get ys k
get_behind [] ys k = let none : 0 + k ≡ k = omega arith in ap (slice_get ys) none
get_behind (x ∷ xs) ys k = let one : suc (length xs) + k ≡ suc (length xs + k) =
    omega arith in ap (slice_get (x ∷ xs ++ ys)) one ∙ get_behind xs ys k

pub among : (blocks : List (List Entry)) (index : ℕ) (block : List Entry)
    → slice_get blocks index ≡ Some block → Among blocks index block
among [] index block there = cc
among (b ∷ blocks) zero block there =
    let same = block_is b block there in
    subst (λ (x : List Entry). Among (b ∷ blocks) 0 x) same
    (record {
      inside = omega arith;
      within = omega (arith, length-append b (joined blocks));
      next = ap length (append-nil b) ∙ sym (omega arith);
      last = λ one. omega (
        arith,
        length-append b (joined blocks),
        ap length (none_joined blocks (omega (arith, one))),
      );
      entry = λ k lt. ap (slice_get (b ++ joined blocks)) (omega arith)
          ∙ get_front b (joined blocks) k lt;
    })
among (b ∷ blocks) (suc index) block there =
    let rest = among blocks index block there in
    let before : entries_before (suc index) (b ∷ blocks) ≡ length b + entries_before index blocks =
    length-append b (joined (take index blocks)) in
    let later : entries_before (suc (suc index)) (b ∷ blocks)
    ≡ length b + entries_before (suc index) blocks =
    length-append b (joined (take (suc index) blocks)) in
    let whole : length (joined (b ∷ blocks)) ≡ length b + length (joined blocks) =
    length-append b (joined blocks) in
    record {
      inside = omega (arith, rest.inside);
      within = omega (arith, rest.within, before, whole);
      next = omega (arith, rest.next, before, later);
      last = λ one. omega (arith, rest.last (omega (arith, one)), before, whole);
      entry = λ k lt.
          let at : entries_before (suc index) (b ∷ blocks) + k
          ≡ length b + (entries_before index blocks + k) = omega (arith, before) in
          ap (slice_get (b ++ joined blocks)) at
          ∙ get_behind b (joined blocks) (entries_before index blocks + k) ∙ rest.entry k lt;
    }
