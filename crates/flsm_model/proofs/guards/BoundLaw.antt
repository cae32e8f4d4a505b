-- Logs, flush marks and candidates, for every legal record.
use Rattle.std.proofs.Common.{◌≡◌, ℕ, ◌+◌, ◌*◌, ◌^◌, ◌<◌, ◌≤◌, true, [], ◌∷◌, Option, Some, None, inl, inr, sym, ap, arith}
use Rattle.std.proofs.lemmas.Bool.{and_parts, true≢false, eqb-true, ltb-true, leb-true}
use Rattle.peb_base.specs.Choice.{level_of}
use Rattle.peb_base.specs.Profiles.{column, Column}
use Rattle.flsm_model.specs.declared.edit.Edit.{Edit}
use Rattle.flsm_model.specs.declared.edit.Edit.TheVariants.{Open, Flush, Move, Cut, Merge}
use Rattle.flsm_model.specs.Shape.{Record, Shape, empty_shape, shape_after, shape_from}
use Rattle.flsm_model.specs.Fits.{fits, fit_from, is_choice, is_level}
use Rattle.flsm_model.specs.Sound.{IsBounded, RecordsBounded}
use Rattle.flsm_model.proofs.lists.Lists.{in_append, all_in}

level_is : (l : Option ℕ) (level : ℕ) → is_level l level ≡ true → l ≡ Some level
level_is None level h = absurd (true≢false (sym h))
level_is (Some l) level h = ap (λ (n : ℕ). Some n) (eqb-true l level h)

bound_step : (o : Column) (s : Shape) (e : Edit) → fits o s e ≡ true → IsBounded o s → IsBounded o (shape_after s e)
bound_step o s (Open session log) f h =
    let p3 = and_parts _ _ f in
    let p2 = and_parts _ _ p3.0 in
    let p1 = and_parts _ _ p2.0 in
    let more : s.session < session = ltb-true s.session session p1.0 in
    record { least = h.least; room = omega (arith, more, h.room); flushed = omega (arith, more, h.flushed); choices = h.choices }
bound_step o s (Flush row from to log chosen) f h =
    let p11 = and_parts _ _ f in
    let p10 = and_parts _ _ p11.0 in
    let p9 = and_parts _ _ p10.0 in
    let p8 = and_parts _ _ p9.0 in
    let p7 = and_parts _ _ p8.0 in
    let p6 = and_parts _ _ p7.0 in
    let p5 = and_parts _ _ p6.0 in
    let p4 = and_parts _ _ p5.0 in
    let one : 1 < log = ltb-true 1 log p4.1 in
    let room : log ≤ s.session * 2 ^ 41 = leb-true log (s.session * 2 ^ 41) p6.1 in
    let mark : to < (s.session + 1) * 2 ^ 40 = ltb-true to ((s.session + 1) * 2 ^ 40) p5.1 in
    let each = (and_parts _ _ p10.1).1 in
    record {
      least = omega (arith, one);
      room = omega (arith, room);
      flushed = mark;
      choices = λ c among. elim (in_append c s.chosen chosen among) [
        | inl old ↦ h.choices c old
        | inr new ↦ level_is (level_of o c.key) c.level (and_parts _ _ (all_in (is_choice o s) c chosen each new)).1
      ];
    }
bound_step o s (Move level floor inputs outputs) f h = record { least = h.least; room = h.room; flushed = h.flushed; choices = h.choices }
bound_step o s (Cut level keys inputs outputs) f h = record { least = h.least; room = h.room; flushed = h.flushed; choices = h.choices }
bound_step o s (Merge floor whole inputs outputs) f h = record { least = h.least; room = h.room; flushed = h.flushed; choices = h.choices }

pub bound_from : (o : Column) (s : Shape) (r : Record) → fit_from o s r ≡ true → IsBounded o s → IsBounded o (shape_from s r)
bound_from o s [] f h = h
bound_from o s (e ∷ es) f h = let p = and_parts (fits o s e) _ f in bound_from o (shape_after s e) es p.1 (bound_step o s e p.0 h)

pub empty_bounded : (o : Column) → IsBounded o (empty_shape o)
empty_bounded o = record { least = omega arith; room = omega arith; flushed = omega arith; choices = λ c i. absurd i }

pub records_bounded : RecordsBounded
records_bounded p r legal = bound_from (column p) (empty_shape (column p)) r legal (empty_bounded (column p))
