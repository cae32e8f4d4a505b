-- Inputs moved one after another.
use Rattle.std.proofs.Common.{◌≡◌, ℕ, ◌<◌, ◌≤◌, inl, inr, List, Result, Ok, Err, length, refl, sym, ◌∙◌, subst, arith}
use Rattle.std.specs.Prelude.{get_or, set}
use Rattle.std.proofs.lemmas.Bool.{cases_lt, cases_eq}
use Rattle.std.proofs.lemmas.List.{get_or-set_same, get_or-set_other, length-set}
use Rattle.peb_base.specs.declared.cursor.Cursor.{Ghosts}
use Rattle.peb_base.specs.declared.read_fault.ReadFault.{ReadFault}
use Rattle.merge_iter.specs.Moves.{Remains, Moved, Failed, Went, OnlyAt, OneFailed, AllWent}
use Rattle.merge_iter.specs.declared.step.Step.{Step}

-- so many first ones were moved, the others are as they were
pub record Begun {C : Type 0} (R : C → C → Type 0) (old new : List C) (count : ℕ) : Type 0 where
  pub same : length new ≡ length old
  pub done : (k : ℕ) (d : C) → k < count → R (get_or old k d) (get_or new k d)
  pub later : (k : ℕ) (d : C) → count ≤ k → get_or new k d ≡ get_or old k d

-- one refused: those before it were moved, those behind it are as they were
pub begun_failed : {C : Type 0} (g : Ghosts C) → ((c : C) → g.keeps c c) → (R : C → C → Type 0)
    → ((a b : C) → R a b → Remains g a b) → (e : ReadFault) (old new : List C) (i : ℕ) (c : C)
    → i < length new → Begun R old new i → ((d : C) → Failed g e (get_or new i d) c)
    → OneFailed g e old (set new i c)
begun_failed g kept R remains e old new i c inside b r = record {
  remain = record {
    same = length-set new i c ∙ b.same;
    each = λ k d lt. elim (cases_eq k i) [
      | inl is ↦ subst (λ n. Remains g (get_or old n d) (get_or (set new i c) n d)) (sym is) (failed d).remains
      | inr other ↦
          subst (Remains g (get_or old k d)) (sym (get_or-set_other new i k c d other)) (elim (cases_lt k i) [
            | inl before ↦ remains (get_or old k d) (get_or new k d) (b.done k d before)
            | inr behind ↦
                subst (Remains g (get_or old k d)) (sym (b.later k d behind)) (as_it_was (get_or old k d))
          ])
    ];
  };
  place = i;
  inside = (let same = b.same in omega (arith, inside, same));
  failed = failed;
}
  where
    failed : (d : _) → Failed g e (get_or old i d) (get_or (set new i c) i d)
    failed d = subst (λ x. Failed g e x (get_or (set new i c) i d)) (b.later i d (omega arith))
        (subst (Failed g e (get_or new i d)) (sym (get_or-set_same new i c d inside)) (r d))

    as_it_was : (a : _) → Remains g a a
    as_it_was a = record { keeps = kept a; later = omega arith; stands = λ es place h. (place, h) }

-- one alone was moved
pub only_at : {C : Type 0} (R : C → C → Type 0) (old : List C) (i : ℕ) (c : C) → i < length old
    → ((d : C) → R (get_or old i d) c) → OnlyAt R i old (set old i c)
only_at R old i c inside r = record {
  same = length-set old i c;
  at = λ d. subst (R (get_or old i d)) (sym (get_or-set_same old i c d inside)) (r d);
  others = λ k d other. get_or-set_other old i k c d other;
}

-- one alone refused
pub only_failed : {C : Type 0} (g : Ghosts C) → ((c : C) → g.keeps c c) → (e : ReadFault) (old : List C)
    (i : ℕ) (c : C) → i < length old → ((d : C) → Failed g e (get_or old i d) c)
    → OneFailed g e old (set old i c)
only_failed g kept e old i c inside r =
    begun_failed g kept (Remains g) (λ a b h. h) e old old i c inside
    (record { same = refl; done = λ k d lt. remain (get_or old k d); later = λ k d le. refl }) r
  where
    remain : (a : _) → Remains g a a
    remain a = record { keeps = kept a; later = omega arith; stands = λ es place h. (place, h) }

-- one alone made a step, or refused
pub one_went : {C : Type 0} (g : Ghosts C) → ((c : C) → g.keeps c c) → (step : Step) (old : List C)
    (i : ℕ) (c : C) (result : Result (Unit {0}) ReadFault) → i < length old
    → ((d : C) → Went g step (get_or old i d) c result)
    → AllWent g (OnlyAt (Moved g step) i) old (set old i c) result
one_went g kept step old i c (Ok x) inside r = only_at (Moved g step) old i c inside r
one_went g kept step old i c (Err e) inside r = only_failed g kept e old i c inside r
