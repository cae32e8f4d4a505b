-- Steps of a cursor along entries.
use Rattle.std.proofs.Common.{◌≡◌, ℕ, zero, suc, ◌-◌, ◌<◌, Bool, true, false, cond, List, [], ◌∷◌, ◌++◌, length, take, Option, Some, None, sym, ap, ◌∙◌, subst, arith}
use Rattle.std.specs.Prelude.{slice_get, nat_lt, IfSome}
use Rattle.peb_base.specs.Cursors.{entry_at, place_in, place_from, previous_place}
use Rattle.peb_base.specs.Entries.{AreSorted, comes_before, entry_lt, first_from}
use Rattle.peb_base.specs.Keys.{Bytes}
use Rattle.peb_base.specs.SortedParts.{behind_previous, first_from-not_before}
use Rattle.peb_base.specs.declared.entry.Entry.{Entry}
use Rattle.mem_table.specs.Seen.{steps_ahead}

-- there is an entry at each place
pub shows_there : (es : List Entry) (n : ℕ) → n < length es → slice_get es n ≡ None → ⊥
shows_there [] n within none = omega (arith, within)
shows_there (e ∷ es) zero within none = cc
shows_there (e ∷ es) (suc n) within none = shows_there es n (omega (arith, within)) none

-- one entry more
take_on : (es : List Entry) (n : ℕ) (e : Entry) → slice_get es n ≡ Some e → take n es
    ++ e ∷ [] ≡ take (suc n) es
take_on [] n e there = cc
take_on (x ∷ es) zero e there = let same : e ≡ x = cc in ap (λ (y : Entry). y ∷ []) same
take_on (x ∷ es) (suc n) e there = ap (λ (l : List Entry). x ∷ l) (take_on es n e there)

-- a step on goes over the entry that was shown
pub walks_on : (es : List Entry) (old new : Option ℕ) (n : ℕ) → old ≡ Some n
    → new ≡ place_in es (suc n)
    → (ws : List Entry) (e : Entry) → entry_at es old ≡ Some e → IfSome old (λ m. ws ≡ take m es)
    → IfSome new (λ m. ws ++ e ∷ [] ≡ take m es)
walks_on es old new n was goes ws e there walks =
    subst (λ o. IfSome o (λ m. ws ++ e ∷ [] ≡ take m es)) (sym goes)
    (by (nat_lt (suc n) (length es)))
  where
    at : slice_get es n ≡ Some e
    at = subst (λ o. entry_at es o ≡ Some e) was there

    over : ws ≡ take n es
    over = subst (λ o. IfSome o (λ m. ws ≡ take m es)) was walks

    by : (b : Bool) → IfSome (cond b (Some (suc n)) None) (λ m. ws ++ e ∷ [] ≡ take m es)
    by true = ap (λ l. l ++ e ∷ []) over ∙ take_on es n e at
    by false = tt

-- and leaves fewer steps on
pub fewer_on : (es : List Entry) (old new : Option ℕ) (n : ℕ) → old ≡ Some n → n < length es
    → new ≡ place_in es (suc n) → steps_ahead (length es) new < steps_ahead (length es) old
fewer_on es old new n was within goes =
    subst (λ o. steps_ahead (length es) o < steps_ahead (length es) old) (sym goes)
    (subst (λ o. steps_ahead (length es) (place_in es (suc n)) < steps_ahead (length es) o)
    (sym was)
    (by (nat_lt (suc n) (length es))))
  where
    by : (b : Bool) → steps_ahead (length es) (cond b (Some (suc n)) None) < length es - n
    by true = omega (arith, within)
    by false = omega (arith, within)

-- a step back leads to no later entry
pub falls_back : (es : List Entry) (old new : Option ℕ) (n : ℕ) → AreSorted es → old ≡ Some n
    → new ≡ previous_place (Some n) → (e f : Entry) → entry_at es old ≡ Some e
    → entry_at es new ≡ Some f
    → entry_lt e f ≡ false
falls_back es old new zero sorted was goes e f there then =
    let none : entry_at es None ≡ Some f = subst (λ o. entry_at es o ≡ Some f) goes then in cc
falls_back es old new (suc n) sorted was goes e f there then =
    behind_previous [] 0 es n e f sorted (subst (λ o. entry_at es o ≡ Some e) was there)
    (subst (λ o. entry_at es o ≡ Some f) goes then)

-- what is found doesn't come before what was sought
pub found_behind : (key : Bytes) (number : ℕ) (es : List Entry) (new : Option ℕ)
    → new ≡ place_from key number es → (e : Entry) → entry_at es new ≡ Some e
    → comes_before e.key e.number key number ≡ false
found_behind key number es new goes e there =
    by (nat_lt (first_from key number es) (length es))
    (subst (λ o. entry_at es o ≡ Some e) goes there)
  where
    by : (b : Bool) → entry_at es (cond b (Some (first_from key number es)) None) ≡ Some e
        → comes_before e.key e.number key number ≡ false
    by true there = first_from-not_before key number es e there
    by false there = cc
