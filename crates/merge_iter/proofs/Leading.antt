-- Where moves of inputs lead the merge.
use Rattle.std.proofs.Common.{◌≡◌, ◌≢◌, ℕ, ◌<◌, ◌≤◌, ◌⊎◌, inl, inr, Bool, true, false, not, List, Option, Some, None, Err, length, map, refl, sym, ap, ◌∙◌, subst, arith}
use Rattle.std.specs.Prelude.{if◌then◌else◌, get_or}
use Rattle.std.proofs.lemmas.Bool.{cases_lt, cases_eq}
use Rattle.std.proofs.lemmas.List.{get_or_default}
use Rattle.peb_base.specs.Keys.{Bytes}
use Rattle.peb_base.specs.Cursors.{entry_at, first_place, last_place, next_place, previous_place, place_from, LeadsTo}
use Rattle.peb_base.specs.Entries.{AreSorted}
use Rattle.peb_base.specs.Members.{IsIn}
use Rattle.peb_base.specs.declared.cursor.Cursor.{Ghosts}
use Rattle.peb_base.specs.declared.entry.Entry.{Entry}
use Rattle.peb_base.specs.declared.read_fault.ReadFault.{ReadFault}
use Rattle.peb_base.specs.declared.read_fault.ReadFault.TheVariants.{Fault, Damaged}
use Rattle.merge_iter.specs.CutLaws.{IsEdge, edge_at}
use Rattle.merge_iter.specs.Cuts.{beside, Falls, below, side_of}
use Rattle.merge_iter.specs.Heads.{head_at, current_head, gives_way, IsChosen}
use Rattle.merge_iter.specs.Moves.{target, step_in, Moved, Sought, Remains, Each, OnlyAt, Of, OneFailed}
use Rattle.merge_iter.specs.Parts.{AreParts}
use Rattle.merge_iter.specs.StandLaws.{Among, some_of, heads_stand, head_inside, arrives, current_edge, stands_at, first_cut, last_cut, seek_cut, falls_none, falls_all, falls_below, falls_side, turn_over, step_over, not_over, cut_is_side, beside_agree}
use Rattle.merge_iter.specs.Standing.{Merged, StandEach, IsAtCut, IsHere, Stands}
use Rattle.merge_iter.specs.declared.step.Step.TheVariants.{First, Last, Next, Previous}

module _ {C : Type 0} (g : Ghosts C) (among : Among g) (old new : Merged C) (es : List Entry)
    (place : Option ℕ) (s : Stands g.stands old es place) where
  parts_on : length new.inputs ≡ length old.inputs → AreParts es (length new.inputs) s.part
  parts_on same = subst (λ n. AreParts es n s.part) (sym same) s.parts

  -- each went to a place that a cut leaves it at
  all_at : (R : C → C → Type 0) (back : Bool) (cut : Entry → Bool) → Falls cut
      → (to : List Entry → Option ℕ) → ((xs : List Entry) → to xs ≡ beside back cut xs)
      → ((a b : C) → R a b → (xs : List Entry) (p : Option ℕ) → g.stands a xs p → g.stands b xs (to xs))
      → Each R old.inputs new.inputs → new.is_back ≡ back
      → IsChosen back (map g.shows new.inputs) new.current → Stands g.stands new es (to es)
  all_at R back cut falls to same goes e is chosen =
      subst (Stands g.stands new es) (sym (same es))
      (arrives g among new back s.part es (parts_on e.same) cut falls (λ k. to (s.part k))
      (λ k lt. same (s.part k))
      (λ k d lt. let long = e.same in let inside : k < length old.inputs = omega (arith, lt, long) in
      goes (get_or old.inputs k d) (get_or new.inputs k d) (e.each k d inside) (s.part k) (s.at k)
      (s.each k d inside)) is chosen)

  pub first_stands : Each (Moved g First) old.inputs new.inputs → new.is_back ≡ false
      → IsChosen false (map g.shows new.inputs) new.current → Stands g.stands new es (first_place es)
  first_stands = all_at (Moved g First) false (λ x. false) falls_none first_place first_cut
      (λ a b m xs p st. m.goes xs p st)

  pub last_stands : Each (Moved g Last) old.inputs new.inputs → new.is_back ≡ true
      → IsChosen true (map g.shows new.inputs) new.current → Stands g.stands new es (last_place es)
  last_stands = all_at (Moved g Last) true (λ x. true) falls_all last_place last_cut
      (λ a b m xs p st. m.goes xs p st)

  pub seek_stands : (key : Bytes) (number : ℕ) → Each (Sought g key number) old.inputs new.inputs
      → new.is_back ≡ false → IsChosen false (map g.shows new.inputs) new.current
      → Stands g.stands new es (place_from key number es)
  seek_stands key number = all_at (Sought g key number) false (below key number)
      (falls_below key number) (place_from key number) (seek_cut key number)
      (λ a b m xs p st. m.goes xs p st)

  -- ---- one step

  module _ (back : Bool) (i : ℕ) (here : IsAtCut old.is_back (length old.inputs) s.part s.at es place)
      (is : new.is_back ≡ back) (chosen : IsChosen back (map g.shows new.inputs) new.current) where
    turned : old.is_back ≡ not back → Each (Moved g (step_in back)) old.inputs new.inputs
        → Stands g.stands new es (target (step_in back) es place)
    turned was e =
        subst (Stands g.stands new es) (sym (over (λ xs. target (step_in back) xs) place es here.whole))
        (arrives g among new back s.part es (parts_on e.same) here.cut here.falls
        (λ k. target (step_in back) (s.part k) (s.at k))
        (λ k lt. let long = e.same in
        over (λ xs. target (step_in back) xs) (s.at k) (s.part k) (here.each k (omega (arith, lt, long))))
        (λ k d lt. let long = e.same in let inside : k < length old.inputs = omega (arith, lt, long) in
        (e.each k d inside).goes (s.part k) (s.at k) (s.each k d inside)) is chosen)
      where
        over : (to : List Entry → Option ℕ → Option ℕ) (p : Option ℕ) (xs : List Entry)
            → p ≡ beside old.is_back here.cut xs → target (step_in back) xs p ≡ beside back here.cut xs
        over to p xs at =
            ap (target (step_in back) xs) (at ∙ ap (λ b. beside b here.cut xs) was)
            ∙ turn_over back here.cut xs

    module _ (e : Entry) (head : head_at (map g.shows old.inputs) i ≡ Some e)
        (edge : IsEdge old.is_back here.cut es e) (was : old.is_back ≡ back)
        (m : OnlyAt (Moved g (step_in back)) i old.inputs new.inputs) where
      lt_old : i < length old.inputs
      lt_old = head_inside g old.inputs i e head

      sorted_part : (k : ℕ) → k < length old.inputs → AreSorted (s.part k)
      sorted_part k lt = (heads_stand g among old.inputs s.part s.at s.each k lt).sorted

      in_part : IsIn e (s.part i)
      in_part =
          let at = heads_stand g among old.inputs s.part s.at s.each i lt_old in
          (edge_at here.cut here.falls old.is_back (s.part i) e at.sorted
          (sym (ap (entry_at (s.part i)) (here.each i lt_old)) ∙ sym at.shows ∙ head)).among

      -- the cut is a side of the current entry
      at_side : (p : Option ℕ) (xs : List Entry) → ((x : Entry) → IsIn x xs → IsIn x es)
          → p ≡ beside old.is_back here.cut xs → p ≡ beside back (side_of back e) xs
      at_side p xs inside at =
          at ∙ beside_agree old.is_back here.cut (side_of old.is_back e) xs
          (λ x j. cut_is_side old.is_back here.cut es e here.falls s.parts.sorted edge x (inside x j))
          ∙ ap (λ b. beside b (side_of b e) xs) was

      stand_on : StandEach g.stands new.inputs s.part (λ k. beside back (side_of (not back) e) (s.part k))
      stand_on k d lt = by (cases_eq k i)
        where
          inside : k < length old.inputs
          inside = let long = m.same in omega (arith, lt, long)

          at_k : s.at k ≡ beside back (side_of back e) (s.part k)
          at_k = at_side (s.at k) (s.part k) (λ x j. s.parts.from k x inside j) (here.each k inside)

          by : (k ≡ i) ⊎ (k ≢ i)
              → g.stands (get_or new.inputs k d) (s.part k) (beside back (side_of (not back) e) (s.part k))
          by (inl same) =
              subst (λ c. g.stands c (s.part k) (beside back (side_of (not back) e) (s.part k)))
              (ap (λ n. get_or new.inputs n d) (sym same))
              (subst (g.stands (get_or new.inputs i d) (s.part k))
              (ap (target (step_in back) (s.part k)) at_k
              ∙ step_over back (s.part k) e (sorted_part k inside)
              (subst (λ n. IsIn e (s.part n)) (sym same) in_part))
              ((m.at d).goes (s.part k) (s.at k)
              (subst (λ n. g.stands (get_or old.inputs n d) (s.part k) (s.at k)) same
              (s.each k d inside))))
          by (inr other) =
              subst (λ c. g.stands c (s.part k) (beside back (side_of (not back) e) (s.part k)))
              (sym (m.others k d other))
              (subst (g.stands (get_or old.inputs k d) (s.part k))
              (at_k ∙ not_over back es (s.part k) e s.parts.sorted edge.among
              (λ x j. s.parts.from k x inside j)
              (λ there. other (s.parts.apart k i e inside lt_old there in_part)))
              (s.each k d inside))

      stepped : Stands g.stands new es (target (step_in back) es place)
      stepped =
          subst (Stands g.stands new es)
          (sym (ap (target (step_in back) es) (at_side place es (λ x j. j) here.whole)
          ∙ step_over back es e s.parts.sorted edge.among))
          (arrives g among new back s.part es (parts_on m.same) (side_of (not back) e)
          (falls_side (not back) e) (λ k. beside back (side_of (not back) e) (s.part k)) (λ k lt. refl)
          stand_on is chosen)

  -- a step of the current input, or of all where the walk turns, leads one entry on or back
  pub step_stands : (back turns : Bool) (i : ℕ) → old.current ≡ Some i
      → ((k : ℕ) → gives_way old.is_back (map g.shows old.inputs) (Some i) k ≡ true)
      → (turns ≡ true → old.is_back ≡ not back) → (turns ≡ false → old.is_back ≡ back)
      → new.is_back ≡ back → IsChosen back (map g.shows new.inputs) new.current
      → Of (Moved g (step_in back)) (if turns then None else Some i) old.inputs new.inputs
      → Stands g.stands new es (target (step_in back) es place)
  step_stands back turns i current way turn stay is chosen moved = by turns refl moved
    where
      here : IsAtCut old.is_back (length old.inputs) s.part s.at es place
      here = subst (IsHere old s.part s.at es place) current s.here

      by : (t : Bool) → turns ≡ t
          → Of (Moved g (step_in back)) (if t then None else Some i) old.inputs new.inputs
          → Stands g.stands new es (target (step_in back) es place)
      by true t moved = turned back i here is chosen (turn t) moved
      by false t moved =
          let found = current_edge g among old es place i way s here in
          stepped back i here is chosen found.0 found.1 found.2 (stay t) moved

  -- the entry that it shows is at its place
  pub shows_there : (i : ℕ) → old.current ≡ Some i
      → ((k : ℕ) → gives_way old.is_back (map g.shows old.inputs) (Some i) k ≡ true)
      → (e : Entry) × (entry_at es place ≡ Some e)
  shows_there i current way =
      let here = subst (IsHere old s.part s.at es place) current s.here in
      let found = current_edge g among old es place i way s here in
      let at = stands_at g among old es place
      (subst (λ o. (k : ℕ) → gives_way old.is_back (map g.shows old.inputs) o k ≡ true) (sym current) way) s in
      (found.0, sym at.shows ∙ ap (current_head (map g.shows old.inputs)) current ∙ found.1)

  -- ---- refusals

  module _ (remain : Each (Remains g) old.inputs new.inputs) where
    choose : (k : ℕ) → (p : Option ℕ)
        × ((d : C) → k < length new.inputs → g.stands (get_or new.inputs k d) (s.part k) p)
    choose k = by (cases_lt k (length old.inputs))
      where
        by : (k < length old.inputs) ⊎ (length old.inputs ≤ k) → (p : Option ℕ)
            × ((d : C) → k < length new.inputs → g.stands (get_or new.inputs k d) (s.part k) p)
        by (inl lt) =
            let c = some_of old.inputs k lt in
            let r = (remain.each k c lt).stands (s.part k) (s.at k) (s.each k c lt) in (
              r.0,
              λ d inside. subst (λ x. g.stands x (s.part k) r.0)
                  (get_or_default new.inputs k c d inside) r.1,
            )
        by (inr ge) = (None, λ d inside. let long = remain.same in absurd (omega (arith, ge, long, inside)))

    stands_nowhere : new.current ≡ None → Stands g.stands new es None
    stands_nowhere none = record {
      part = s.part;
      parts = parts_on remain.same;
      at = λ k. (choose k).0;
      each = λ k d lt. (choose k).1 d lt;
      here = subst (IsHere new s.part (λ k. (choose k).0) es None) (sym none) refl;
    }

  -- where one refused, the merge stands at no place
  pub failed_stands : (e : ReadFault) (to : Option ℕ) → OneFailed g e old.inputs new.inputs
      → new.current ≡ None → LeadsTo (Stands g.stands new es) to (Err e)
  failed_stands Fault to f none = stands_nowhere f.remain none
  failed_stands (Damaged table at) to f none =
      let c = some_of old.inputs f.place f.inside in
      (f.failed c).goes (s.part f.place) (s.at f.place) (s.each f.place c f.inside)

pub next_is : (es : List Entry) (place : Option ℕ) (e : Entry) → entry_at es place ≡ Some e
    → target Next es place ≡ next_place es place
next_is es None e there = cc
next_is es (Some n) e there = refl

pub previous_is : (es : List Entry) (place : Option ℕ) (e : Entry) → entry_at es place ≡ Some e
    → target Previous es place ≡ previous_place place
previous_is es None e there = cc
previous_is es (Some n) e there = refl
