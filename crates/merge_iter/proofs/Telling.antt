-- What the inputs tell after moves of a merge.
use Rattle.std.proofs.Common.{zero, suc, ◌<◌, length, [], ◌∷◌, map, refl, ap, ◌∙◌, ◌≡◌, Bool, List, Option, Some, None, Result, Ok, Err, arith, ℕ}
use Rattle.std.specs.Prelude.{get_or, OnOk}
use Rattle.peb_base.specs.declared.cursor.Cursor.{Ghosts}
use Rattle.peb_base.specs.declared.read_fault.ReadFault.{ReadFault}
use Rattle.merge_iter.specs.Landed.{Landed}
use Rattle.merge_iter.specs.Moves.{Of, AllWent}
use Rattle.merge_iter.specs.Standing.{Merged}
use Rattle.merge_iter.specs.Told.{first_some, first_refusal, NoneRefused, Told, HasChosen}

module _ {C : Type 0} (g : Ghosts C) where
  of_refused : (R : C → C → Type 0) → ((a b : C) → R a b → g.refused b ≡ None) → (only : Option ℕ)
      → (old new : List C) → Of R only old new → Of (λ a b. g.refused b ≡ None) only old new
  of_refused R none None old new m = record {
    same = m.same;
    each = λ k d lt. none (get_or old k d) (get_or new k d) (m.each k d lt);
  }
  of_refused R none (Some i) old new m = record {
    same = m.same;
    at = λ d. none (get_or old i d) (get_or new i d) (m.at d);
    others = m.others;
  }

  -- what went through tells of those that were moved
  pub tells : (R : C → C → Type 0) → ((a b : C) → R a b → g.refused b ≡ None) → (only : Option ℕ)
      → (old new : List C) → (result : Result (Unit {0}) ReadFault) → AllWent g (Of R only) old new result
      → Told g only old new result
  tells R none only old new (Ok x) went = of_refused R none only old new went
  tells R none only old new (Err e) went = (
    went.place,
    (let lt = went.inside in let long = went.remain.same in omega (arith, lt, long)),
    (λ d. (went.failed d).refused),
  )

  pub has_chosen : (R : List C → List C → Type 0) (back : Bool) (old new : Merged C)
      → (result : Result (Unit {0}) ReadFault) → Landed g R back old new result
      → OnOk result (HasChosen g back new)
  has_chosen R back old new (Ok x) l = (l.direction, l.chosen)
  has_chosen R back old new (Err e) l = tt

  -- the first that refused
  pub first_is : (inputs : List C) (i : ℕ) (e : ReadFault)
      → ((k : ℕ) (d : C) → k < i → g.refused (get_or inputs k d) ≡ None) → i < length inputs
      → ((d : C) → g.refused (get_or inputs i d) ≡ Some e) → first_refusal g inputs ≡ Some e
  first_is [] i e none lt is = absurd (omega (arith, lt))
  first_is (c ∷ cs) zero e none lt is =
      ap (λ o. first_some (o ∷ map g.refused cs)) (is c)
  first_is (c ∷ cs) (suc i) e none lt is =
      ap (λ o. first_some (o ∷ map g.refused cs)) (none 0 c (omega arith))
      ∙ first_is cs i e (λ k d h. none (suc k) d (omega (arith, h))) (omega (arith, lt)) is

  -- where none refused
  pub none_is : (inputs : List C) → NoneRefused g inputs → first_refusal g inputs ≡ None
  none_is [] none = refl
  none_is (c ∷ cs) none =
      ap (λ o. first_some (o ∷ map g.refused cs)) (none 0 c (omega arith))
      ∙ none_is cs (λ k d h. none (suc k) d (omega (arith, h)))
