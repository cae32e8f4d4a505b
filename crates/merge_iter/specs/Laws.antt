-- What holds of every merge.
use Rattle.std.proofs.Common.{◌≡◌, ℕ, suc, ◌<◌, ◌≤◌, inl, inr, Bool, true, false, not, ◌&&◌, List, [], ◌∷◌, Option, Some, None, length, map, refl, sym, ap, ◌∙◌, subst, arith}
use Rattle.std.specs.Prelude.{◌↔◌, if◌then◌else◌, get_or, is_none}
use Rattle.std.proofs.lemmas.Bool.{or_parts}
use Rattle.peb_base.specs.Cursors.{StandsAmong, ComesBeforeNone}
use Rattle.peb_base.specs.Entries.{IsEntry, entry_lt}
use Rattle.peb_base.specs.Members.{IsIn}
use Rattle.peb_base.specs.declared.cursor.Cursor.{Ghosts}
use Rattle.peb_base.specs.declared.entry.Entry.{Entry}
use Rattle.merge_iter.specs.Heads.{head_at, current_head, gives_way}
use Rattle.merge_iter.specs.Moves.{Each}
use Rattle.merge_iter.specs.StandLaws.{Among, some_of, head_is, head_inside, stands_at}
use Rattle.merge_iter.specs.Standing.{Merged, Stands}
use Rattle.merge_iter.specs.Totals.{total, left, steps_left}
use Rattle.merge_iter.specs.Walking.{tagged_lt, WentOver}

module _ {C : Type 0} (g : Ghosts C) where
  abbrev shown_by : Merged C → Option Entry
  shown_by m = current_head (map g.shows m.inputs) m.current

  pub stands_among : Among g → (m : Merged C) (es : List Entry) (place : Option ℕ)
      → ((k : ℕ) → gives_way m.is_back (map g.shows m.inputs) m.current k ≡ true)
      → Stands g.stands m es place → StandsAmong es place (shown_by m)
  stands_among among m es place way s = stands_at g among m es place way s

  -- the entry that is shown is one of an input
  pub shown_input : (m : Merged C) (e : Entry) → shown_by m ≡ Some e
      → (i : ℕ) × (m.current ≡ Some i) × (head_at (map g.shows m.inputs) i ≡ Some e)
  shown_input m e there = by m.current refl there
    where
      by : (o : Option ℕ) → m.current ≡ o → current_head (map g.shows m.inputs) o ≡ Some e
          → (i : ℕ) × (m.current ≡ Some i) × (head_at (map g.shows m.inputs) i ≡ Some e)
      by None is there = cc
      by (Some i) is there = (i, is, there)

  pub shows_within : ((c : C) (e : Entry) → g.shows c ≡ Some e → IsEntry e)
      → (m : Merged C) (e : Entry)
      → shown_by m ≡ Some e → IsEntry e
  shows_within within m e there =
      let at = shown_input m e there in
      let lt = head_inside g m.inputs at.0 e at.2 in
      let d = some_of m.inputs at.0 lt in
      within (get_or m.inputs at.0 d) e (sym (head_is g m.inputs at.0 d lt) ∙ at.2)

  behind_all : (e : Entry) (k : ℕ) (given : List (ℕ × Entry))
      → ((t : ℕ × Entry) → IsIn t given → tagged_lt (k, e) t ≡ false)
      → ComesBeforeNone e (map (λ (t : ℕ × Entry). t.1) given)
  behind_all e k [] h = tt
  behind_all e k (t ∷ given) h = (
    (or_parts (entry_lt e t.1) _ (h t (inl refl))).0,
    behind_all e k given (λ u i. h u (inr i)),
  )

  pub walk_ascends : (m : Merged C) (es : List Entry) (e : Entry) → WentOver g m es
      → shown_by m ≡ Some e → ComesBeforeNone e es
  walk_ascends m es e walk there =
      let at = shown_input m e there in
      subst (ComesBeforeNone e) walk.is
      (behind_all e at.0 walk.given (λ t i. walk.through.gave.ahead t i at.0 e at.2))

  -- ---- steps

  pub total_low : (f h : C → ℕ) (cs : List C) → ((c : C) → f c ≤ h c) → total f cs ≤ total h cs
  total_low f h [] low = omega arith
  total_low f h (c ∷ cs) low =
      let a = low c in let b = total_low f h cs low in omega (arith, a, b)

  left_low : ((c : C) → (g.ahead c ≤ g.size c) × (g.back c ≤ g.size c))
      → (back turns : Bool) (c : C)
      → left g back turns c ≤ g.size c
  left_low bounded back turns c = by (turns && is_none (g.shows c)) back
    where
      by : (b back : Bool)
          → (if b then g.size c else (if back then g.back c else g.ahead c)) ≤ g.size c
      by true back = omega arith
      by false true = (bounded c).1
      by false false = (bounded c).0

  few : (o : Option ℕ) (n size : ℕ) → n ≤ size → steps_left o n ≤ suc size
  few None n size h = omega arith
  few (Some i) n size h = omega (arith, h)

  pub steps_bounded : ((c : C) → (g.ahead c ≤ g.size c) × (g.back c ≤ g.size c)) → (m : Merged C)
      → (steps_left m.current (total (left g false m.is_back) m.inputs)
      ≤ suc (total g.size m.inputs))
      × (steps_left m.current (total (left g true (not m.is_back)) m.inputs)
      ≤ suc (total g.size m.inputs))
  steps_bounded bounded m = (
    few m.current _ _
        (total_low (left g false m.is_back) g.size m.inputs (left_low bounded false m.is_back)),
    few m.current _ _
        (total_low (left g true (not m.is_back)) g.size m.inputs
        (left_low bounded true (not m.is_back))),
  )

  -- ---- what stays

  pub keeps_self : ((c : C) → g.keeps c c) → (m : Merged C) → Each g.keeps m.inputs m.inputs
  keeps_self kept m = record { same = refl; each = λ k d lt. kept (get_or m.inputs k d) }

  pub keeps_on : ((a b c : C) → g.keeps a b → g.keeps b c → g.keeps a c) → (a b c : Merged C)
      → Each g.keeps a.inputs b.inputs → Each g.keeps b.inputs c.inputs
      → Each g.keeps a.inputs c.inputs
  keeps_on kept_on a b c x y = record {
    same = y.same ∙ x.same;
    each = λ k d lt. kept_on _ (get_or b.inputs k d) _ (x.each k d lt)
        (let same = x.same in y.each k d (omega (arith, lt, same)));
  }

  abbrev Damaged : List C → ℕ → ℕ → Type 0
  Damaged inputs number at =
      (k : ℕ) × (k < length inputs) × ((d : C) → g.damaged (get_or inputs k d) number at)

  pub damage_stays :
      ((a b : C) (number at : ℕ) → g.keeps a b → g.damaged a number at ↔ g.damaged b number at)
      → (a b : Merged C) (number at : ℕ) → Each g.keeps a.inputs b.inputs
      → Damaged a.inputs number at ↔ Damaged b.inputs number at
  damage_stays stays a b number at x = (
    (λ h. (
      h.0,
      (let same = x.same in let lt = h.1 in omega (arith, lt, same)),
      (λ d. (stays _ _ number at (x.each h.0 d h.1)).0 (h.2 d)),
    )),
    (λ h.
        let same = x.same in
        let lt = h.1 in
        let inside : h.0 < length a.inputs = omega (arith, lt, same) in
        (h.0, inside, (λ d. (stays _ _ number at (x.each h.0 d inside)).1 (h.2 d)))),
  )

  size_same : ((a b : C) → g.keeps a b → g.size b ≡ g.size a) → (old new : List C)
      → Each g.keeps old new
      → total g.size new ≡ total g.size old
  size_same same [] [] x = refl
  size_same same [] (b ∷ new) x = let long = x.same in absurd (omega (arith, long))
  size_same same (a ∷ old) [] x = let long = x.same in absurd (omega (arith, long))
  size_same same (a ∷ old) (b ∷ new) x =
      let here = same a b (x.each 0 a (omega arith)) in
      let rest = size_same same old new (record {
        same = (let long = x.same in omega (arith, long));
        each = λ k d lt. x.each (suc k) d (omega (arith, lt));
      }) in
      omega (arith, here, rest)

  pub size_stays : ((a b : C) → g.keeps a b → g.size b ≡ g.size a) → (a b : Merged C)
      → Each g.keeps a.inputs b.inputs → suc (total g.size b.inputs) ≡ suc (total g.size a.inputs)
  size_stays same a b x = ap suc (size_same same a.inputs b.inputs x)
