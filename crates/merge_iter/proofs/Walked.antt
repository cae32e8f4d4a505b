-- A merged walk begins, and goes one entry on.
use Rattle.std.proofs.Common.{◌≡◌, ◌≢◌, ℕ, ◌<◌, ◌≤◌, ◌⊎◌, inl, inr, Bool, true, false, ◌&&◌, ◌||◌, not, List, [], ◌∷◌, ◌++◌, Some, length, map, refl, sym, ap, ◌∙◌, subst, arith}
use Rattle.std.specs.Prelude.{get_or, nat_lt, nat_eq, if◌then◌else◌}
use Rattle.std.specs.List.{AllByRecursion}
use Rattle.std.proofs.lemmas.Bool.{true≢false, false_from_ne_true, or_parts, cases_lt, cases_eq}
use Rattle.std.proofs.lemmas.Grind.{flat_map-append}
use Rattle.std.proofs.lemmas.List.{map-append, append-nil}
use Rattle.std.proofs.lemmas.Bool.Decides.{nat_tests}
use Rattle.peb_base.specs.Cursors.{ComesBeforeNone}
use Rattle.peb_base.specs.Entries.{entry_lt}
use Rattle.peb_base.specs.EntryLaws.{entry_split}
use Rattle.peb_base.specs.Members.{IsIn}
use Rattle.peb_base.specs.declared.cursor.Cursor.{Ghosts}
use Rattle.peb_base.specs.declared.entry.Entry.{Entry}
use Rattle.merge_iter.specs.CutLaws.{some_is}
use Rattle.merge_iter.specs.Heads.{head_at, meets_first, takes, IsChosen, IsFirst}
use Rattle.merge_iter.specs.Moves.{Moved, Each, OnlyAt}
use Rattle.merge_iter.specs.StandLaws.{some_of, head_is, head_inside}
use Rattle.merge_iter.specs.Standing.{Merged}
use Rattle.merge_iter.specs.Walking.{tagged_lt, from_input, NeverBack, WentOver, WentThrough}
use Rattle.merge_iter.specs.declared.step.Step.TheVariants.{First, Next}

-- ---- lists

in_append : {X : Type 0} (x : X) (xs ys : List X) → IsIn x (xs ++ ys) → IsIn x xs ⊎ IsIn x ys
in_append x [] ys h = inr h
in_append x (y ∷ xs) ys h = elim h [
  | inl s ↦ inl (inl s)
  | inr r ↦ elim (in_append x xs ys r) [ inl a ↦ inl (inr a) | inr b ↦ inr b ]
]

-- the last of some of which a fact holds
all_last : {X : Type 0} (P : X → Type 0) (xs : List X) (y : X) → AllByRecursion P (xs ++ y ∷ []) → P y
all_last P [] y h = h.0
all_last P (x ∷ xs) y h = all_last P xs y h.1

all_push : {X : Type 0} (P : X → Type 0) (xs : List X) (y : X) → AllByRecursion P xs → P y
    → AllByRecursion P (xs ++ y ∷ [])
all_push P [] y h p = (p, tt)
all_push P (x ∷ xs) y h p = (h.0, all_push P xs y h.1 p)

entries_push : (given : List (ℕ × Entry)) (t : ℕ × Entry)
    → map (λ (u : ℕ × Entry). u.1) (given ++ t ∷ []) ≡ map (λ (u : ℕ × Entry). u.1) given ++ t.1 ∷ []
entries_push given t = map-append (λ (u : ℕ × Entry). u.1) given (t ∷ [])

from_push : (k : ℕ) (given : List (ℕ × Entry)) (t : ℕ × Entry)
    → from_input k (given ++ t ∷ []) ≡ from_input k given ++ (if nat_eq t.0 k then t.1 ∷ [] else [])
from_push k given t =
    flat_map-append (λ (u : ℕ × Entry). if nat_eq u.0 k then u.1 ∷ [] else []) given (t ∷ [])
    ∙ ap (λ es. from_input k given ++ es) (append-nil (if nat_eq t.0 k then t.1 ∷ [] else []))

never_back_push : (given : List (ℕ × Entry)) (t : ℕ × Entry) → NeverBack given
    → ((u : ℕ × Entry) → IsIn u given → tagged_lt t u ≡ false) → NeverBack (given ++ t ∷ [])
never_back_push [] t h behind = (tt, tt)
never_back_push (u ∷ given) t h behind = (
  all_push (λ v. tagged_lt v u ≡ false) given t h.0 (behind u (inl refl)),
  never_back_push given t h.1 (λ v i. behind v (inr i)),
)

-- ---- the order of entries with their places

-- not before, by parts
not_before : (j : ℕ) (h : Entry) (k : ℕ) (x : Entry) → entry_lt h x ≡ false
    → (entry_lt x h ≡ false → nat_lt j k ≡ false) → tagged_lt (j, h) (k, x) ≡ false
not_before j h k x low tie = λ i. low i || second (entry_lt x h) refl i
  where
    second : (b : Bool) → entry_lt x h ≡ b → (not (entry_lt x h) && nat_lt j k) ≡ false
    second true e = ap (λ b. not b && nat_lt j k) e
    second false e = ap (λ b. not (entry_lt x h) && b) (tie e) ∙ none (not (entry_lt x h))
      where
        none : (b : Bool) → (b && false) ≡ false
        none true = refl
        none false = refl

low_part : (j : ℕ) (h : Entry) (k : ℕ) (x : Entry) → tagged_lt (j, h) (k, x) ≡ false
    → entry_lt h x ≡ false
low_part j h k x n = (or_parts (entry_lt h x) (not (entry_lt x h) && nat_lt j k) n).0

tie_part : (j : ℕ) (h : Entry) (k : ℕ) (x : Entry) → tagged_lt (j, h) (k, x) ≡ false
    → entry_lt x h ≡ false → nat_lt j k ≡ false
tie_part j h k x n e =
    sym (ap (λ b. not b && nat_lt j k) e)
    ∙ (or_parts (entry_lt h x) (not (entry_lt x h) && nat_lt j k) n).1

-- what comes behind e at its place comes behind what e comes behind
no_step_back : (j : ℕ) (h e : Entry) (k : ℕ) (x : Entry) → entry_lt h e ≡ false
    → tagged_lt (j, e) (k, x) ≡ false → tagged_lt (j, h) (k, x) ≡ false
no_step_back j h e k x behind n = not_before j h k x low (λ tie. tie_part j e k x n (same tie))
  where
    low : entry_lt h x ≡ false
    low = false_from_ne_true (entry_lt h x)
        (λ t. true≢false (sym (entry_split h e x t behind) ∙ low_part j e k x n))

    same : entry_lt x h ≡ false → entry_lt x e ≡ false
    same tie = false_from_ne_true (entry_lt x e)
        (λ t. true≢false (sym (entry_split x h e t tie) ∙ behind))

-- what every input keeps: the entry that it shows comes before none that it went over
abbrev pub Ascends : {C : Type 0} → Ghosts C → Type 0
Ascends {C} g = (c : C) (es : List Entry) (e : Entry) → g.walks c es → g.shows c ≡ Some e
    → ComesBeforeNone e es

-- ---- the walk

pub begins : {C : Type 0} (g : Ghosts C) (old new : Merged C)
    → Each (Moved g First) old.inputs new.inputs → new.is_back ≡ false
    → IsChosen false (map g.shows new.inputs) new.current → WentThrough g new []
begins g old new e is chosen = record {
  on = is;
  chosen = chosen;
  gave = record {
    each = λ k d lt. (let long = e.same in e.each k d (omega (arith, lt, long))).steps;
    never_back = tt;
    ahead = λ t never. absurd never;
  };
}

pub begins_walk : {C : Type 0} (g : Ghosts C) (m : Merged C) → WentThrough g m [] → WentOver g m []
begins_walk g m through = record { given = []; is = refl; through = through }

module _ {C : Type 0} (g : Ghosts C) (law : Ascends g) (old new : Merged C)
    (given : List (ℕ × Entry)) (e : Entry) (w : WentThrough g old given) (i : ℕ) (current : old.current ≡ Some i)
    (here : head_at (map g.shows old.inputs) i ≡ Some e)
    (m : OnlyAt (Moved g Next) i old.inputs new.inputs) where
  inside : i < length old.inputs
  inside = head_inside g old.inputs i e here

  abbrev given_on : List (ℕ × Entry)
  given_on = given ++ (i, e) ∷ []

  first : IsFirst false (map g.shows old.inputs) i e
  first = at (subst (IsChosen false (map g.shows old.inputs)) current w.chosen)
    where
      at : IsChosen false (map g.shows old.inputs) (Some i) → IsFirst false (map g.shows old.inputs) i e
      at c = subst (IsFirst false (map g.shows old.inputs) i) (some_is c.0 e (sym c.1.at ∙ here)) c.1

  same_head : (k : ℕ) → k ≢ i → (h : Entry) → head_at (map g.shows new.inputs) k ≡ Some h
      → head_at (map g.shows old.inputs) k ≡ Some h
  same_head k other h there =
      let lt = head_inside g new.inputs k h there in
      let long = m.same in
      let old_lt : k < length old.inputs = omega (arith, lt, long) in
      let d = some_of old.inputs k old_lt in
      head_is g old.inputs k d old_lt ∙ ap g.shows (sym (m.others k d other))
      ∙ sym (head_is g new.inputs k d lt) ∙ there

  -- e is the first of what is ahead
  least_is : (k : ℕ) (h : Entry) → head_at (map g.shows old.inputs) k ≡ Some h
      → tagged_lt (k, h) (i, e) ≡ false
  least_is k h is = not_before k h i e low (λ tie. at (cases_lt k i) tie)
    where
      low : entry_lt h e ≡ false
      low = ap (λ o. meets_first false o (Some e)) (sym is) ∙ first.none_before k

      at : (k < i) ⊎ (i ≤ k) → entry_lt e h ≡ false → nat_lt k i ≡ false
      at (inl lt) tie =
          let earlier : takes false k i ≡ true = grind (arith, nat_tests, lt) in
          let before : entry_lt e h ≡ true =
          ap (λ o. meets_first false (Some e) o) (sym is) ∙ first.taken k earlier in
          absurd (true≢false (sym before ∙ tie))
      at (inr le) tie = grind (arith, nat_tests, le)

  ahead_old : (t : ℕ × Entry) → IsIn t given_on → (k : ℕ) (h : Entry)
      → head_at (map g.shows old.inputs) k ≡ Some h → tagged_lt (k, h) t ≡ false
  ahead_old t j k h is = elim (in_append t given ((i, e) ∷ []) j) [
    | inl a ↦ w.gave.ahead t a k h is
    | inr b ↦ elim b [
      | inl s ↦ subst (λ (u : ℕ × Entry). tagged_lt (k, h) u ≡ false) (sym s) (least_is k h is)
      | inr never ↦ absurd never
    ]
  ]

  walks_here : (d : C) → g.walks (get_or new.inputs i d) (from_input i given ++ e ∷ [])
  walks_here d = (m.at d).steps.walks (from_input i given) e
      (sym (head_is g old.inputs i d inside) ∙ here) (w.gave.each i d inside)

  ahead_here : (t : ℕ × Entry) → IsIn t given_on → (h : Entry)
      → head_at (map g.shows new.inputs) i ≡ Some h → tagged_lt (i, h) t ≡ false
  ahead_here t j h is =
      let lt = head_inside g new.inputs i h is in
      let d = some_of new.inputs i lt in
      let behind = law (get_or new.inputs i d) (from_input i given ++ e ∷ []) h (walks_here d)
      (sym (head_is g new.inputs i d lt) ∙ is) in
      no_step_back i h e t.0 t.1 (all_last (λ f. entry_lt h f ≡ false) (from_input i given) e behind)
      (ahead_old t j i e here)

  ahead_new : (t : ℕ × Entry) → IsIn t given_on → (k : ℕ) (h : Entry)
      → head_at (map g.shows new.inputs) k ≡ Some h → tagged_lt (k, h) t ≡ false
  ahead_new t j k h is = elim (cases_eq k i) [
    | inl same ↦
        subst (λ n. tagged_lt (n, h) t ≡ false) (sym same)
        (ahead_here t j h (subst (λ n. head_at (map g.shows new.inputs) n ≡ Some h) same is))
    | inr other ↦ ahead_old t j k h (same_head k other h is)
  ]

  each_on : (k : ℕ) (d : C) → k < length new.inputs
      → g.walks (get_or new.inputs k d) (from_input k given_on)
  each_on k d lt =
      subst (g.walks (get_or new.inputs k d)) (sym (from_push k given (i, e))) (by (cases_eq k i))
    where
      by : (k ≡ i) ⊎ (k ≢ i) → g.walks (get_or new.inputs k d)
          (from_input k given ++ (if nat_eq i k then e ∷ [] else []))
      by (inl same) =
          let test : nat_eq i k ≡ true = grind (arith, nat_tests, same) in
          subst (λ b. g.walks (get_or new.inputs k d) (from_input k given ++ (if b then e ∷ [] else [])))
          (sym test)
          (subst (λ n. g.walks (get_or new.inputs n d) (from_input n given ++ e ∷ [])) (sym same)
          (walks_here d))
      by (inr other) =
          let test : nat_eq i k ≡ false = grind (arith, nat_tests, other) in
          let long = m.same in
          subst (λ b. g.walks (get_or new.inputs k d) (from_input k given ++ (if b then e ∷ [] else [])))
          (sym test)
          (subst (g.walks (get_or new.inputs k d)) (sym (append-nil (from_input k given)))
          (subst (λ c. g.walks c (from_input k given)) (sym (m.others k d other))
          (w.gave.each k d (omega (arith, lt, long)))))

  pub walks_on : new.is_back ≡ false → IsChosen false (map g.shows new.inputs) new.current
      → WentThrough g new given_on
  walks_on is chosen = record {
    on = is;
    chosen = chosen;
    gave = record {
      each = each_on;
      never_back = never_back_push given (i, e) w.gave.never_back (λ u j. w.gave.ahead u j i e here);
      ahead = ahead_new;
    };
  }

-- the entries go on as what was given does
pub walk_on : {C : Type 0} (g : Ghosts C) (m : Merged C) (given : List (ℕ × Entry)) (es : List Entry)
    (t : ℕ × Entry) → map (λ (u : ℕ × Entry). u.1) given ≡ es → WentThrough g m (given ++ t ∷ [])
    → WentOver g m (es ++ t.1 ∷ [])
walk_on g m given es t is through = record {
  given = given ++ t ∷ [];
  is = entries_push given t ∙ ap (λ fs. fs ++ t.1 ∷ []) is;
  through = through;
}
