-- Blocks that are cut where they are full are those of a table, and no others.
use Rattle.std.proofs.Common.{◌≡◌, ℕ, ◌<◌, ◌≤◌, ◌⊎◌, inl, inr, Bool, true, false, List, [], ◌∷◌, ◌++◌, length, refl, sym, ap, ◌∙◌, subst, arith, append_assoc, length-append}
use Rattle.std.specs.Prelude.{if◌then◌else◌, nat_le}
use Rattle.std.specs.List.{fold}
use Rattle.std.proofs.lemmas.Bool.{cases_lt}
use Rattle.std.proofs.lemmas.Bool.Decides.{nat_tests}
use Rattle.std.proofs.lemmas.List.{append-nil}
use Rattle.peb_base.specs.declared.entry.Entry.{Entry}
use Rattle.block_form.specs.Form.{block_bytes}
use Rattle.table_file.specs.Cutting.{IsUnfilled, AreFilled, BlocksAreCut, OneCut}
use Rattle.table_file.specs.Form.{Cut, cut_on, cut_of, closed_at, with_last}
use Rattle.table_file.proofs.Cuts.{length-none}
use Rattle.table_file.proofs.Parting.{joined, parts_cut}

fold-append : (full : ℕ) (cut : Cut) (xs ys : List Entry) → fold (cut_on full) cut (xs ++ ys) ≡ fold (cut_on full) (fold (cut_on full) cut xs) ys
fold-append full cut [] ys = refl
fold-append full cut (x ∷ xs) ys = fold-append full (cut_on full cut x) xs ys

filled_at : (full : ℕ) (closed : List (List Entry)) (b : List Entry) → full ≤ length (block_bytes b) → closed_at full closed b ≡ record { closed = closed ++ b ∷ []; begun = [] }
filled_at full closed b le =
    let yes_ : nat_le full (length (block_bytes b)) ≡ true = grind (arith, nat_tests, le) in
    ap (λ (t : Bool). if t then record { closed = closed ++ b ∷ []; begun = [] } else record { closed = closed; begun = b }) yes_

open_at : (full : ℕ) (closed : List (List Entry)) (b : List Entry) → length (block_bytes b) < full → closed_at full closed b ≡ record { closed = closed; begun = b }
open_at full closed b lt =
    let no_ : nat_le full (length (block_bytes b)) ≡ false = grind (arith, nat_tests, lt) in
    ap (λ (t : Bool). if t then record { closed = closed ++ b ∷ []; begun = [] } else record { closed = closed; begun = b }) no_

-- ---- the blocks of a cut are filled

-- no beginning of a begun block is full, itself included
IsOpen : ℕ → List Entry → Type 0
IsOpen full block = (front behind : List Entry) → block ≡ front ++ behind → length (block_bytes front) < full

-- each closed block is full, and wasn't before its last entry
AreClosed : ℕ → List (List Entry) → Type 0
AreClosed full [] = Unit {0}
AreClosed full (b ∷ blocks) = IsUnfilled full b × (full ≤ length (block_bytes b)) × AreClosed full blocks

record IsFilling (full : ℕ) (cut : Cut) : Type 0 where
  closed : AreClosed full cut.closed
  begun : IsOpen full cut.begun

closed_push : (full : ℕ) (blocks : List (List Entry)) (b : List Entry) → AreClosed full blocks → IsUnfilled full b → full ≤ length (block_bytes b) → AreClosed full (blocks ++ b ∷ [])
unfolding AreClosed
closed_push full [] b all is le = (is, le, tt)
closed_push full (c ∷ blocks) b all is le = (all.0, all.1, closed_push full blocks b all.2 is le)

-- what stands in front of an entry of a block with one more is a beginning of the block
front_of : (begun front : List Entry) (e x : Entry) (behind : List Entry) → begun ++ e ∷ [] ≡ front ++ x ∷ behind → (rest : List Entry) × (begun ≡ front ++ rest)
front_of begun [] e x behind same = (begun, refl)
front_of [] (y ∷ front) e x behind same = absurd (omega (arith, ap length same, length-append front (x ∷ behind)))
front_of (z ∷ begun) (y ∷ front) e x behind same =
    let deep = front_of begun front e x behind (rests z y (begun ++ e ∷ []) (front ++ x ∷ behind) same) in
    (deep.0, (λ i. heads z y (begun ++ e ∷ []) (front ++ x ∷ behind) same i ∷ deep.1 i))
  where
    rests : (a b : Entry) (xs ys : List Entry) → a ∷ xs ≡ b ∷ ys → xs ≡ ys
    rests a b xs ys same = cc

    heads : (a b : Entry) (xs ys : List Entry) → a ∷ xs ≡ b ∷ ys → a ≡ b
    heads a b xs ys same = cc

-- a beginning is the whole or stands in front of an entry
part_of : (begun front behind : List Entry) (e : Entry) → begun ++ e ∷ [] ≡ front ++ behind → ((rest : List Entry) × (begun ≡ front ++ rest)) ⊎ (front ≡ begun ++ e ∷ [])
part_of begun front [] e same = inr (sym (same ∙ append-nil front))
part_of begun front (x ∷ behind) e same = inl (front_of begun front e x behind same)

filling_on : (full : ℕ) (cut : Cut) (e : Entry) → 5 < full → IsFilling full cut → IsFilling full (cut_on full cut e)
unfolding IsOpen
filling_on full cut e five is = by (cases_lt (length (block_bytes b)) full)
  where
    b : List Entry
    b = cut.begun ++ e ∷ []

    unfilled : IsUnfilled full b
    unfilled = record {
      some = omega (arith, length-append cut.begun (e ∷ []));
      before = λ front x behind same. let rest = front_of cut.begun front e x behind same in is.begun front rest.0 rest.1;
    }

    still : length (block_bytes b) < full → IsOpen full b
    still lt front behind same = elim (part_of cut.begun front behind e same) [ inl rest ↦ is.begun front rest.0 rest.1 | inr whole ↦ subst (λ l. length (block_bytes l) < full) (sym whole) lt ]

    empty : IsOpen full []
    empty [] behind same = omega (arith, length-none, five)
    empty (x ∷ front) behind same = absurd (omega (arith, ap length same))

    by : (length (block_bytes b) < full) ⊎ (full ≤ length (block_bytes b)) → IsFilling full (cut_on full cut e)
    by (inl lt) = subst (IsFilling full) (sym (open_at full cut.closed b lt)) (record { closed = is.closed; begun = still lt })
    by (inr le) = subst (IsFilling full) (sym (filled_at full cut.closed b le)) (record { closed = closed_push full cut.closed b is.closed unfilled le; begun = empty })

filling_all : (full : ℕ) (cut : Cut) (es : List Entry) → 5 < full → IsFilling full cut → IsFilling full (fold (cut_on full) cut es)
filling_all full cut [] five is = is
filling_all full cut (e ∷ es) five is = filling_all full (cut_on full cut e) es five (filling_on full cut e five is)

closed_filled : (full : ℕ) (blocks : List (List Entry)) → AreClosed full blocks → AreFilled full blocks
unfolding AreClosed
closed_filled full [] all = tt
closed_filled full (b ∷ []) all = all.0
closed_filled full (b ∷ c ∷ blocks) all = (all.0, all.1, closed_filled full (c ∷ blocks) all.2)

last_filled : (full : ℕ) (blocks : List (List Entry)) (last : List Entry) → AreClosed full blocks → IsUnfilled full last → AreFilled full (blocks ++ last ∷ [])
unfolding AreClosed
last_filled full [] last all is = is
last_filled full (b ∷ []) last all is = (all.0, all.1, is)
last_filled full (b ∷ c ∷ blocks) last all is = (all.0, all.1, last_filled full (c ∷ blocks) last all.2 is)

pub blocks_are_cut : BlocksAreCut
unfolding IsOpen AreClosed
blocks_are_cut full es five = record { whole = (parts_cut full es).whole; filled = by (cut_of full es).begun refl }
  where
    nothing : IsOpen full []
    nothing [] behind same = omega (arith, length-none, five)
    nothing (x ∷ front) behind same = absurd (omega (arith, ap length same))

    is : IsFilling full (cut_of full es)
    is = filling_all full (record { closed = []; begun = [] }) es five (record { closed = tt; begun = nothing })

    by : (begun : List Entry) → (cut_of full es).begun ≡ begun → AreFilled full (with_last (cut_of full es).closed begun)
    by [] same = closed_filled full (cut_of full es).closed is.closed
    by (e ∷ begun) same =
        last_filled full (cut_of full es).closed (e ∷ begun) is.closed
        (record { some = omega arith; before = λ front x behind split. is.begun front (x ∷ behind) (same ∙ split) })

-- ---- no others are

feed : (full : ℕ) (closed : List (List Entry)) (begun : List Entry) (e : Entry) (rest : List Entry) → IsUnfilled full (begun ++ e ∷ rest)
    → fold (cut_on full) (record { closed = closed; begun = begun }) (e ∷ rest) ≡ closed_at full closed (begun ++ e ∷ rest)
feed full closed begun e [] is = refl
feed full closed begun e (f ∷ rest) is =
    let same : (begun ++ e ∷ []) ++ f ∷ rest ≡ begun ++ e ∷ f ∷ rest = append_assoc begun (e ∷ []) (f ∷ rest) in
    let open_ : length (block_bytes (begun ++ e ∷ [])) < full = is.before (begun ++ e ∷ []) f rest (sym same) in
    ap (λ (c : Cut). fold (cut_on full) c (f ∷ rest)) (open_at full closed (begun ++ e ∷ []) open_)
    ∙ feed full closed (begun ++ e ∷ []) f rest (subst (IsUnfilled full) (sym same) is) ∙ ap (closed_at full closed) same

feed_block : (full : ℕ) (closed : List (List Entry)) (b : List Entry) → IsUnfilled full b → fold (cut_on full) (record { closed = closed; begun = [] }) b ≡ closed_at full closed b
feed_block full closed [] is = absurd (omega (arith, is.some))
feed_block full closed (e ∷ b) is = feed full closed [] e b is

-- the blocks of a cut
cut_blocks : Cut → List (List Entry)
cut_blocks cut = with_last cut.closed cut.begun

as_cut : (full : ℕ) (closed : List (List Entry)) (b : List Entry) → 0 < length b → cut_blocks (closed_at full closed b) ≡ closed ++ b ∷ []
unfolding cut_blocks
as_cut full closed b some = by (nat_le full (length (block_bytes b)))
  where
    some_last : (b : List Entry) → 0 < length b → with_last closed b ≡ closed ++ b ∷ []
    some_last [] some = absurd (omega (arith, some))
    some_last (e ∷ b) some = refl

    by : (t : Bool) → cut_blocks (if t then record { closed = closed ++ b ∷ []; begun = [] } else record { closed = closed; begun = b }) ≡ closed ++ b ∷ []
    by true = refl
    by false = some_last b some

cut_again : (full : ℕ) (closed blocks : List (List Entry)) → AreFilled full blocks → cut_blocks (fold (cut_on full) (record { closed = closed; begun = [] }) (joined blocks)) ≡ closed ++ blocks
unfolding cut_blocks
cut_again full closed [] all = sym (append-nil closed)
cut_again full closed (b ∷ []) all =
    ap (λ l. cut_blocks (fold (cut_on full) (record { closed = closed; begun = [] }) l)) (append-nil b) ∙ ap cut_blocks (feed_block full closed b all) ∙ as_cut full closed b all.some
cut_again full closed (b ∷ c ∷ blocks) all =
    ap cut_blocks (fold-append full (record { closed = closed; begun = [] }) b (joined (c ∷ blocks)))
    ∙ ap (λ (k : Cut). cut_blocks (fold (cut_on full) k (joined (c ∷ blocks)))) (feed_block full closed b all.0 ∙ filled_at full closed b all.1)
    ∙ cut_again full (closed ++ b ∷ []) (c ∷ blocks) all.2 ∙ append_assoc closed (b ∷ []) (c ∷ blocks)

pub one_cut : OneCut
unfolding cut_blocks
one_cut full blocks es five is = sym (ap (λ l. cut_blocks (cut_of full l)) (sym is.whole) ∙ cut_again full [] blocks is.filled)
