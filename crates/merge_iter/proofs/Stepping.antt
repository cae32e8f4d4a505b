-- A step of the merge, on or back.
use Rattle.std.proofs.Common.{◌≡◌, ◌≢◌, ℕ, ◌<◌, ◌≤◌, ◌⊎◌, inl, inr, Bool, true, false, not, List, [], ◌∷◌, ◌++◌, Option, Some, None, Result, length, map, refl, sym, ap, ◌∙◌, subst, arith, Ok, Err}
use Rattle.std.specs.Prelude.{if◌then◌else◌, get_or, is_some, IfSome, OnOk}
use Rattle.std.proofs.lemmas.Bool.{true≢false, false≢true, and_parts, not-true, cases_eq}
use Rattle.peb_base.specs.Cursors.{entry_at, LeadsTo}
use Rattle.peb_base.specs.Entries.{entry_lt}
use Rattle.peb_base.specs.declared.cursor.Cursor.{Ghosts}
use Rattle.peb_base.specs.declared.entry.Entry.{Entry}
use Rattle.peb_base.specs.declared.read_fault.ReadFault.{ReadFault}
use Rattle.merge_iter.specs.Heads.{head_at, current_head, meets_first, gives_way}
use Rattle.merge_iter.specs.Landed.{Landed}
use Rattle.merge_iter.specs.Laws.{shown_input}
use Rattle.merge_iter.specs.Moves.{target, step_in, Moved, Of, OnlyAt}
use Rattle.merge_iter.specs.StandLaws.{Among, head_is, head_inside, some_of}
use Rattle.merge_iter.specs.Standing.{Merged, Stands}
use Rattle.merge_iter.specs.Totals.{total, left, steps_left}
use Rattle.merge_iter.specs.Walking.{IsCurrent, WentThrough, WentOver}
use Rattle.merge_iter.specs.declared.step.Step.TheVariants.{Next, Previous}
use Rattle.merge_iter.proofs.Counting.{fewer_left, left_less, nothing_left}
use Rattle.merge_iter.proofs.Firsts.{current_shows}
use Rattle.merge_iter.proofs.Landing.{leads, on_ok, or_nothing, where_shown}
use Rattle.merge_iter.proofs.Leading.{step_stands, shows_there}
use Rattle.merge_iter.proofs.Walked.{Ascends, walks_on, walk_on}

-- the others give way to the current one
abbrev pub Way : {C : Type 0} → Ghosts C → Merged C → Type 0
Way g m = (k : ℕ) → gives_way m.is_back (map g.shows m.inputs) m.current k ≡ true

pub only_inside : {C : Type 0} (g : Ghosts C) (m : Merged C) (i : ℕ) (turns : Bool) (only : Option ℕ)
    → Way g m → m.current ≡ Some i → only ≡ (if turns then None else Some i)
    → IfSome only (λ k. k < length m.inputs)
only_inside g m i turns only way current is =
    subst (λ o. IfSome o (λ k. k < length m.inputs)) (sym is) (by turns)
  where
    inside : i < length m.inputs
    inside =
        let shown = current_shows g m.inputs m.is_back i
        (subst (λ o. (k : ℕ) → gives_way m.is_back (map g.shows m.inputs) o k ≡ true) current way) in
        head_inside g m.inputs i shown.0 shown.1

    by : (turns : Bool) → IfSome (if turns then None else Some i) (λ k. k < length m.inputs)
    by true = tt
    by false = inside

module _ {C : Type 0} (g : Ghosts C) (old new : Merged C) (way : Way g old) (i : ℕ)
    (current : old.current ≡ Some i) where
  way_here : (k : ℕ) → gives_way old.is_back (map g.shows old.inputs) (Some i) k ≡ true
  way_here = subst (λ o. (k : ℕ) → gives_way old.is_back (map g.shows old.inputs) o k ≡ true) current way

  shown_here : (e : Entry) × (head_at (map g.shows old.inputs) i ≡ Some e)
  shown_here = current_shows g old.inputs old.is_back i way_here

  -- it shows an entry
  pub never_nothing : current_head (map g.shows old.inputs) old.current ≡ None → ⊥
  never_nothing none =
      cc (sym none ∙ ap (current_head (map g.shows old.inputs)) current ∙ shown_here.1)

  there : (d : C) → (e : Entry) × (g.shows (get_or old.inputs i d) ≡ Some e)
  there d = (
    shown_here.0,
    sym (head_is g old.inputs i d (head_inside g old.inputs i shown_here.0 shown_here.1)) ∙ shown_here.1,
  )

  module _ (back turns : Bool) (only : Option ℕ) (one : only ≡ (if turns then None else Some i))
      (result : Result (Unit {0}) ReadFault)
      (landed : Landed g (Of (Moved g (step_in back)) only) back old new result) where
    moved_of : Of (Moved g (step_in back)) only old.inputs new.inputs
        → Of (Moved g (step_in back)) (if turns then None else Some i) old.inputs new.inputs
    moved_of m = subst (λ o. Of (Moved g (step_in back)) o old.inputs new.inputs) one m

    pub step_goes : Among g → (turns ≡ true → old.is_back ≡ not back)
        → (turns ≡ false → old.is_back ≡ back) → (es : List Entry) (place to : Option ℕ)
        → ((e : Entry) → entry_at es place ≡ Some e → target (step_in back) es place ≡ to)
        → Stands g.stands old es place → LeadsTo (Stands g.stands new es) to result
    step_goes among turn stay es place to leads_to s =
        let at = shows_there g among old new es place s i current way_here in
        subst (λ p. LeadsTo (Stands g.stands new es) p result) (leads_to at.0 at.1)
        (leads g (Of (Moved g (step_in back)) only) back old new among es place s
        (target (step_in back) es place)
        (λ m is chosen. step_stands g among old new es place s back turns i current way_here turn stay is
        chosen (moved_of m)) result landed)

    pub step_fewer : ((c : C) → (g.ahead c ≤ g.size c) × (g.back c ≤ g.size c))
        → ((a b : C) → g.keeps a b → g.size b ≡ g.size a) → (now : Bool)
        → (new.is_back ≡ back → now ≡ false)
        → steps_left new.current (total (left g back now) new.inputs)
        < steps_left old.current (total (left g back turns) old.inputs)
    step_fewer bounded same now is_now =
        or_nothing g (Of (Moved g (step_in back)) only) back old new _
        (λ none. nothing_left old.current new.current i _ _ current none)
        (λ m is chosen. left_less old.current new.current i _ _ current
        (subst (λ b. total (left g back b) new.inputs < total (left g back turns) old.inputs) (sym (is_now is))
        (fewer_left g bounded same back turns old.inputs new.inputs i
        (head_inside g old.inputs i shown_here.0 shown_here.1) there (moved_of m)))) result landed

  -- ---- on

  some_place : (j : ℕ) → old.current ≡ Some j → i ≡ j
  some_place j is = cc (sym current ∙ is)

  pub next_gives : Ascends g → (only : Option ℕ) → only ≡ (if old.is_back then None else Some i)
      → (result : Result (Unit {0}) ReadFault)
      → Landed g (Of (Moved g Next) only) false old new result
      → OnOk result ((given : List (ℕ × Entry)) (t : ℕ × Entry) → IsCurrent g old t
      → WentThrough g old given → WentThrough g new (given ++ t ∷ []))
  next_gives ascends only one result landed =
      on_ok g (Of (Moved g Next) only) false old new _
      (λ m is chosen given t here through.
      let same : i ≡ t.0 = some_place t.0 here.0 in
      subst (λ k. WentThrough g new (given ++ (k, t.1) ∷ [])) same
      (walks_on g ascends old new given t.1 through i current
      (sym (ap (current_head (map g.shows old.inputs)) current) ∙ here.1)
      (subst (λ o. Of (Moved g Next) o old.inputs new.inputs)
      (one ∙ ap (λ b. if b then None else Some i) through.on) m) is chosen)) result landed

  pub next_walks : (result : Result (Unit {0}) ReadFault)
      → OnOk result ((given : List (ℕ × Entry)) (t : ℕ × Entry) → IsCurrent g old t
      → WentThrough g old given → WentThrough g new (given ++ t ∷ []))
      → OnOk result ((es : List Entry) (e : Entry)
      → current_head (map g.shows old.inputs) old.current ≡ Some e → WentOver g old es
      → WentOver g new (es ++ e ∷ []))
  next_walks (Ok x) gives =
      λ es e shown walk. walk_on g new walk.given es (i, e) walk.is
      (gives walk.given (i, e) (current, shown) walk.through)
  next_walks (Err f) gives = tt

  -- ---- back

  falls_one : OnlyAt (Moved g Previous) i old.inputs new.inputs → old.is_back ≡ true
      → (e f : Entry) → head_at (map g.shows old.inputs) i ≡ Some e → (j : ℕ)
      → head_at (map g.shows new.inputs) j ≡ Some f → entry_lt e f ≡ false
  falls_one m was e f here j shown = by (cases_eq j i)
    where
      lt : j < length new.inputs
      lt = head_inside g new.inputs j f shown

      d : C
      d = some_of new.inputs j lt

      inside : i < length old.inputs
      inside = head_inside g old.inputs i e here

      by : (j ≡ i) ⊎ (j ≢ i) → entry_lt e f ≡ false
      by (inl same) =
          (m.at d).steps.falls e f (sym (head_is g old.inputs i d inside) ∙ here)
          (ap (λ n. g.shows (get_or new.inputs n d)) (sym same)
          ∙ sym (head_is g new.inputs j d lt) ∙ shown)
      by (inr other) =
          let long = m.same in
          let old_lt : j < length old.inputs = omega (arith, lt, long) in
          let was_shown : head_at (map g.shows old.inputs) j ≡ Some f =
          head_is g old.inputs j d old_lt ∙ ap g.shows (sym (m.others j d other))
          ∙ sym (head_is g new.inputs j d lt) ∙ shown in
          sym (ap (λ o. meets_first true o (Some e)) was_shown
          ∙ refl)
          ∙ not_first (way_here j) was_shown
        where
          not_first : gives_way old.is_back (map g.shows old.inputs) (Some i) j ≡ true
              → head_at (map g.shows old.inputs) j ≡ Some f
              → meets_first true (head_at (map g.shows old.inputs) j) (Some e) ≡ false
          not_first gives was_shown =
              subst (λ o. meets_first true (head_at (map g.shows old.inputs) j) o ≡ false) here
              (subst (λ b. meets_first b (head_at (map g.shows old.inputs) j)
              (head_at (map g.shows old.inputs) i) ≡ false) was
              (not-true _ (and_parts (is_some (head_at (map g.shows old.inputs) i)) _ gives).1))

  pub back_falls : (only : Option ℕ) → only ≡ (if not old.is_back then None else Some i)
      → old.is_back ≡ true → (result : Result (Unit {0}) ReadFault)
      → Landed g (Of (Moved g Previous) only) true old new result
      → (e f : Entry) → current_head (map g.shows old.inputs) old.current ≡ Some e
      → current_head (map g.shows new.inputs) new.current ≡ Some f → entry_lt e f ≡ false
  back_falls only one was result landed e f shown now =
      where_shown g (Of (Moved g Previous) only) true old new (λ h. entry_lt e h ≡ false)
      (λ m is chosen h shows.
      let at = shown_input g new h shows in
      falls_one (subst (λ o. Of (Moved g Previous) o old.inputs new.inputs)
      (one ∙ ap (λ b. if not b then None else Some i) was) m) was e h
      (sym (ap (current_head (map g.shows old.inputs)) current) ∙ shown) at.0 at.2) result landed f now

pub turned_back : (b : Bool) → not b ≡ true → b ≡ false
turned_back false h = refl
turned_back true h = absurd (false≢true h)

pub stays_back : (b : Bool) → not b ≡ false → b ≡ true
stays_back true h = refl
stays_back false h = absurd (true≢false h)
