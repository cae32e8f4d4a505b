-- Places in entries as a cursor goes over them.
use Rattle.std.proofs.Common.{◌≡◌, ℕ, zero, suc, ◌-◌, ◌<◌, ◌≤◌, Bool, true, false, cond, List, [], ◌∷◌, ◌++◌, length, take, drop, Option, Some, None, refl, sym, ap, ◌∙◌, subst, arith}
use Rattle.std.specs.Prelude.{slice_get, nat_lt, IfSome}
use Rattle.std.proofs.lemmas.Bool.Decides.{nat_tests}
use Rattle.std.proofs.lemmas.List.{take-append-drop, take_all, drop_all}
use Rattle.peb_base.specs.Cursors.{place_in, first_place, last_place, previous_place, next_place, entry_at}
use Rattle.peb_base.specs.Entries.{AscendFrom, AreSorted}
use Rattle.peb_base.specs.SortedParts.{front_sorted}
use Rattle.peb_base.specs.declared.entry.Entry.{Entry}
use Rattle.mem_table.specs.Seen.{steps_back}

-- how many entries a walk on has gone over at a place
abbrev pub passed : List Entry → Option ℕ → ℕ
passed es None = length es
passed es (Some n) = n

pub passed_first : (es : List Entry) → passed es (first_place es) ≡ 0
passed_first es = by (nat_lt 0 (length es)) refl
  where
    by : (b : Bool) → nat_lt 0 (length es) ≡ b → passed es (cond b (Some 0) None) ≡ 0
    by true is = refl
    by false is = grind (arith, nat_tests, is)

pub passed_next : (es : List Entry) (n : ℕ) → n < length es
    → passed es (place_in es (suc n)) ≡ suc n
passed_next es n within = by (nat_lt (suc n) (length es)) refl
  where
    by : (b : Bool) → nat_lt (suc n) (length es) ≡ b
        → passed es (cond b (Some (suc n)) None) ≡ suc n
    by true is = refl
    by false is = grind (arith, nat_tests, is, within)

pub steps_back_last : (es : List Entry) → steps_back (last_place es) ≡ length es
steps_back_last es = by (nat_lt (length es - 1) (length es)) refl
  where
    by : (b : Bool) → nat_lt (length es - 1) (length es) ≡ b
        → steps_back (cond b (Some (length es - 1)) None) ≡ length es
    by true is = grind (arith, nat_tests, is)
    by false is = grind (arith, nat_tests, is)

pub steps_back_previous : (n : ℕ) → steps_back (previous_place (Some n)) ≡ n
steps_back_previous zero = refl
steps_back_previous (suc n) = refl

-- the entry there stands in front of those behind it
pub drop_there : (es : List Entry) (n : ℕ) (e : Entry) → slice_get es n ≡ Some e
    → drop n es ≡ e ∷ drop (suc n) es
drop_there [] n e there = cc
drop_there (x ∷ es) zero e there = let same : x ≡ e = cc in ap (λ (y : Entry). y ∷ es) same
drop_there (x ∷ es) (suc n) e there = drop_there es n e there

-- and behind those in front of it
pub take_there : (es : List Entry) (n : ℕ) (e : Entry) → slice_get es n ≡ Some e
    → take (suc n) es ≡ take n es ++ e ∷ []
take_there [] n e there = cc
take_there (x ∷ es) zero e there = let same : x ≡ e = cc in ap (λ (y : Entry). y ∷ []) same
take_there (x ∷ es) (suc n) e there = ap (λ (l : List Entry). x ∷ l) (take_there es n e there)

-- those behind it ascend from it on
pub behind_there : (key : List ℕ) (number : ℕ) (es : List Entry) (n : ℕ) (e : Entry)
    → AscendFrom key number es → slice_get es n ≡ Some e
    → AscendFrom e.key e.number (drop (suc n) es)
behind_there key number [] n e each there = cc
behind_there key number (x ∷ es) zero e each there =
    let same : x ≡ e = cc in subst (λ (y : Entry). AscendFrom y.key y.number es) same each.2
behind_there key number (x ∷ es) (suc n) e each there =
    behind_there x.key x.number es n e each.2 there

-- those in front of it are sorted, with it
pub front_there : (es : List Entry) (n : ℕ) (e : Entry) → AreSorted es → slice_get es n ≡ Some e
    → AreSorted (take n es ++ e ∷ [])
front_there es n e sorted there =
    subst AreSorted (take_there es n e there)
    (front_sorted [] 0 (take (suc n) es) (drop (suc n) es)
    (subst AreSorted (sym (take-append-drop (suc n) es)) sorted))

-- there is an entry where one is shown
pub within_there : (es : List Entry) (n : ℕ) (e : Entry) → slice_get es n ≡ Some e → n < length es
within_there [] n e there = cc
within_there (x ∷ es) zero e there = omega arith
within_there (x ∷ es) (suc n) e there = omega (arith, within_there es n e there)

none_there : (es : List Entry) (n : ℕ) → n < length es → slice_get es n ≡ None → ⊥
none_there [] n within none = omega (arith, within)
none_there (x ∷ es) zero within none = cc
none_there (x ∷ es) (suc n) within none = none_there es n (omega (arith, within)) none

-- where nothing is shown it stands nowhere
pub ended : (es : List Entry) (place : Option ℕ) → IfSome place (λ n. n < length es)
    → entry_at es place ≡ None → place ≡ None
ended es None within none = refl
ended es (Some n) within none = absurd (none_there es n within none)

-- a step on passes the entry that was shown
pub passes : (es : List Entry) (place : Option ℕ) (e : Entry) → entry_at es place ≡ Some e
    → take (passed es (next_place es place)) es ≡ take (passed es place) es ++ e ∷ []
passes es None e there = cc
passes es (Some n) e there =
    ap (λ (k : ℕ). take k es) (passed_next es n (within_there es n e there))
    ∙ take_there es n e there

-- and leaves those behind it
pub leaves : (es : List Entry) (place : Option ℕ) (e : Entry) → entry_at es place ≡ Some e
    → drop (passed es place) es ≡ e ∷ drop (passed es (next_place es place)) es
leaves es None e there = cc
leaves es (Some n) e there =
    drop_there es n e there
    ∙ ap (λ (k : ℕ). e ∷ drop k es) (sym (passed_next es n (within_there es n e there)))

-- those that were passed are sorted, with the entry that is shown
pub passed_sorted : (es : List Entry) (place : Option ℕ) (e : Entry) → AreSorted es
    → entry_at es place ≡ Some e → AreSorted (take (passed es place) es ++ e ∷ [])
passed_sorted es None e sorted there = cc
passed_sorted es (Some n) e sorted there = front_there es n e sorted there

-- none is passed at the first place
pub begins : (es : List Entry) (place : Option ℕ) → place ≡ first_place es
    → take (passed es place) es ≡ []
begins es place first =
    ap (λ (o : Option ℕ). take (passed es o) es) first
    ∙ ap (λ (k : ℕ). take k es) (passed_first es)

pub begins_with : (es : List Entry) (place : Option ℕ) → place ≡ first_place es
    → drop (passed es place) es ≡ es
begins_with es place first =
    ap (λ (o : Option ℕ). drop (passed es o) es) first
    ∙ ap (λ (k : ℕ). drop k es) (passed_first es)

-- all are where it stands nowhere
pub all_passed : (es : List Entry) (place : Option ℕ) → place ≡ None
    → take (passed es place) es ≡ es
all_passed es place none =
    ap (λ (o : Option ℕ). take (passed es o) es) none ∙ take_all (length es) es (omega arith)

pub none_left : (es : List Entry) (place : Option ℕ) → place ≡ None
    → drop (passed es place) es ≡ []
none_left es place none =
    ap (λ (o : Option ℕ). drop (passed es o) es) none ∙ drop_all (length es) es (omega arith)
