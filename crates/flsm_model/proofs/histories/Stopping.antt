-- A session may stop at the last number.
use Rattle.std.proofs.Common.{◌≡◌, ℕ, Bool, true, false, not, List, inl, inr, refl, sym, ◌∙◌, ap, subst, arith}
use Rattle.std.proofs.lemmas.Bool.{or_left, or_right, and_from, cases_lt, eq-eqb}
use Rattle.peb_base.specs.Batches.{Batches, is_boundary, last_number}
use Rattle.peb_base.specs.Profiles.{column}
use Rattle.peb_base.specs.declared.profile.Profile.{Profile}
use Rattle.flsm_model.specs.Shape.{Record}
use Rattle.flsm_model.specs.Events.{Event, Standing, base, last_of}
use Rattle.flsm_model.specs.Legal.{IsBase, IsLegal, AlwaysFormed, is_end}
use Rattle.flsm_model.specs.Steps.{run}
use Rattle.flsm_model.specs.Stops.{StopsAtLast}
use Rattle.flsm_model.proofs.contents.Base.{deep}
use Rattle.flsm_model.proofs.contents.MapLaw.{last_same}
use Rattle.flsm_model.proofs.histories.Outcomes.{run_told}
use Rattle.flsm_model.proofs.histories.Truth.{All, all_base, all_run, boundary_of_last}
use Rattle.flsm_model.proofs.histories.Whole.{marks_in_order}

-- the last number is a batch's where it isn't the last flush's
end_at : (w : Standing) (m : ℕ) → (last_of w ≡ last_number w.batches → m ≡ last_of w → is_boundary m w.batches ≡ true)
end_at w m e q = subst (λ k. is_boundary k w.batches ≡ true) (sym (q ∙ e)) (boundary_of_last w.batches)

-- nothing is known, and the last flush is last
end_at_flush : (w : Standing) → w.told ≡ false → last_of w ≡ w.tree.shape.to → is_end w (last_of w) ≡ true
end_at_flush w u q = or_right (is_boundary (last_of w) w.batches) _ (and_from _ _ (ap not u) (eq-eqb (last_of w) w.tree.shape.to q))

ends : (w : Standing) → (w.told ≡ true → last_of w ≡ last_number w.batches) → (b : Bool) → w.told ≡ b → is_end w (last_of w) ≡ true
ends w same true t = or_left _ _ (end_at w (last_of w) (same t) refl)
ends w same false u = elim (cases_lt (last_number w.batches) w.tree.shape.to) [
  | inl less ↦ end_at_flush w u (omega (arith, less))
  | inr ge ↦ or_left _ _ (end_at w (last_of w) (omega (arith, ge)) refl)
]

last_told : (p : Profile) (told : Bool) (bs : Batches) (r : Record) (h : List Event) → IsBase told (column p) bs r → IsLegal (column p) (base told (column p) bs r) h → told ≡ true
    → last_of (run (column p) (base told (column p) bs r) h) ≡ last_number (run (column p) (base told (column p) bs r) h).batches
last_told p true bs r h b legal t =
    let o = column p in
    let a : All o (run o (base true o bs r) h) = all_run o (base true o bs r) h (deep p) (all_base o bs r (b.holds refl)) legal in
    last_same (run o (base true o bs r) h) a.shows.to_last
last_told p false bs r h b legal t = absurd (cc)

pub stops_at_last : AlwaysFormed StopsAtLast
stops_at_last p told bs r h b legal n eq =
    let w = run (column p) (base told (column p) bs r) h in
    let same = run_told (column p) (base told (column p) bs r) h in
    (ends w (λ t. last_told p told bs r h b legal (sym same ∙ t)) w.told refl, (marks_in_order p told bs r h b legal n eq).stable, tt)
