-- The shape of a record that goes on.
use Rattle.std.proofs.Common.{◌≡◌, Bool, true, false, ◌&&◌, [], ◌∷◌, ◌++◌, refl, sym, ◌∙◌, ap}
use Rattle.std.specs.Prelude.{if◌then◌else◌}
use Rattle.std.proofs.lemmas.Bool.{and_parts}
use Rattle.peb_base.specs.Profiles.{Column}
use Rattle.flsm_model.specs.declared.edit.Edit.{Edit}
use Rattle.flsm_model.specs.Shape.{Record, Shape, empty_shape, shape_after, shape_from}
use Rattle.flsm_model.specs.Fits.{fits, fit_from, is_legal_record, IsShapeOf, GoesOn}

shape_push : (s : Shape) (r : Record) (e : Edit) → shape_from s (r ++ e ∷ []) ≡ shape_after (shape_from s r) e
shape_push s [] e = refl
shape_push s (x ∷ r) e = shape_push (shape_after s x) r e

fit_more : (o : Column) (s : Shape) (r : Record) (e : Edit) → fit_from o s r ≡ true → fit_from o s (r ++ e ∷ []) ≡ fits o (shape_from s r) e
fit_more o s [] e f = by (fits o s e)
  where
    by : (b : Bool) → (b && true) ≡ b
    by true = refl
    by false = refl
fit_more o s (x ∷ r) e f = let p = and_parts (fits o s x) (fit_from o (shape_after s x) r) f in rw p.0 (fit_more o (shape_after s x) r e p.1)

-- an edit is taken in exactly where the record with it is legal
pub goes_on : (o : Column) (old new : Shape) (e : Edit) (taken : Bool) → taken ≡ fits o old e → new ≡ (if taken then shape_after old e else old) → GoesOn o old new e taken
goes_on o old new e taken fit is r h = (same, by taken refl)
  where
    same : taken ≡ is_legal_record o (r ++ e ∷ [])
    same = fit ∙ ap (λ s. fits o s e) h.shape ∙ sym (fit_more o (empty_shape o) r e h.legal)

    by : (b : Bool) → taken ≡ b → IsShapeOf o new (if b then r ++ e ∷ [] else r)
    by true t = record {
      legal = sym same ∙ t;
      shape = is ∙ ap (λ b. if b then shape_after old e else old) t ∙ ap (λ s. shape_after s e) h.shape ∙ sym (shape_push (empty_shape o) r e);
    }
    by false t = record { legal = h.legal; shape = is ∙ ap (λ b. if b then shape_after old e else old) t ∙ h.shape }
