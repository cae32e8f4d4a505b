-- What moves of inputs count, leave ahead and keep.
use Rattle.std.proofs.Common.{◌≡◌, ℕ, zero, suc, ◌+◌, ◌<◌, ◌≤◌, inl, inr, Bool, true, false, ◌&&◌, List, [], ◌∷◌, Option, Some, None, Result, Ok, Err, length, refl, sym, ap, subst, arith}
use Rattle.std.specs.Prelude.{if◌then◌else◌, get_or, is_none}
use Rattle.std.proofs.lemmas.Bool.{cases_eq}
use Rattle.peb_base.specs.Cursors.{CountsFaults, IfDamage, OnFault}
use Rattle.peb_base.specs.Faults.{Rose}
use Rattle.peb_base.specs.declared.cursor.Cursor.{Ghosts}
use Rattle.peb_base.specs.declared.entry.Entry.{Entry}
use Rattle.peb_base.specs.declared.read_fault.ReadFault.{ReadFault}
use Rattle.peb_base.specs.declared.read_fault.ReadFault.TheVariants.{Fault, Damaged}
use Rattle.merge_iter.specs.Moves.{Moved, Remains, Each, Of, OneFailed, AllWent, step_in}
use Rattle.merge_iter.specs.Totals.{total, left, steps_left}

module _ {C : Type 0} (g : Ghosts C) where
  -- those that were moved remain, and so do the others
  pub all_remain : ((c : C) → g.keeps c c) → (R : C → C → Type 0) → ((a b : C) → R a b → Remains g a b)
      → (only : Option ℕ) (old new : List C) → Of R only old new → Each (Remains g) old new
  all_remain kept R remains None old new e = record {
    same = e.same;
    each = λ k d lt. remains (get_or old k d) (get_or new k d) (e.each k d lt);
  }
  all_remain kept R remains (Some i) old new m = record {
    same = m.same;
    each = λ k d lt. elim (cases_eq k i) [
      | inl same ↦ subst (λ n. Remains g (get_or old n d) (get_or new n d)) (sym same)
          (remains (get_or old i d) (get_or new i d) (m.at d))
      | inr other ↦ subst (Remains g (get_or old k d)) (sym (m.others k d other))
          (record { keeps = kept (get_or old k d); later = omega arith; stands = λ es place h. (place, h) })
    ];
  }

  pub keeps_each : (old new : List C) → Each (Remains g) old new → Each g.keeps old new
  keeps_each old new e = record { same = e.same; each = λ k d lt. (e.each k d lt).keeps }

  rest : (R : C → C → Type 0) (a b : C) (old new : List C) → Each R (a ∷ old) (b ∷ new) → Each R old new
  rest R a b old new e = record {
    same = (let long = e.same in omega (arith, long));
    each = λ k d lt. e.each (suc k) d (omega (arith, lt));
  }

  -- ---- faults

  total_later : (old new : List C) → Each (Remains g) old new → total g.faults old ≤ total g.faults new
  total_later [] new e = omega arith
  total_later (a ∷ old) [] e = let long = e.same in absurd (omega (arith, long))
  total_later (a ∷ old) (b ∷ new) e =
      let here = (e.each 0 a (omega arith)).later in
      let more = total_later old new (rest (Remains g) a b old new e) in
      omega (arith, here, more)

  rose_here : (a b c d : ℕ) → Rose a b → c ≤ d → Rose (a + c) (b + d)
  rose_here a b c d h l = grind (arith, h, l)

  rose_later : (a b c d : ℕ) → Rose a b → c ≤ d → Rose (c + a) (d + b)
  rose_later a b c d h l = grind (arith, h, l)

  total_rose : (old new : List C) (i : ℕ) → i < length old → Each (Remains g) old new
      → ((d : C) → Rose (g.faults (get_or old i d)) (g.faults (get_or new i d)))
      → Rose (total g.faults old) (total g.faults new)
  total_rose [] new i lt e r = absurd (omega (arith, lt))
  total_rose (a ∷ old) [] i lt e r = let long = e.same in absurd (omega (arith, long))
  total_rose (a ∷ old) (b ∷ new) zero lt e r =
      rose_here (g.faults a) (g.faults b) (total g.faults old) (total g.faults new) (r a)
      (total_later old new (rest (Remains g) a b old new e))
  total_rose (a ∷ old) (b ∷ new) (suc i) lt e r =
      rose_later (total g.faults old) (total g.faults new) (g.faults a) (g.faults b)
      (total_rose old new i (omega (arith, lt)) (rest (Remains g) a b old new e) r)
      (e.each 0 a (omega arith)).later

  rose_where : (e : ReadFault) (old new : List C) → OneFailed g e old new
      → OnFault (Err e) (Rose (total g.faults old) (total g.faults new))
  rose_where Fault old new f = total_rose old new f.place f.inside f.remain (λ d. (f.failed d).counts.rose)
  rose_where (Damaged table at) old new f = tt

  -- ---- what every move leaves

  module _ (kept : (c : C) → g.keeps c c) (R : C → C → Type 0)
      (remains : (a b : C) → R a b → Remains g a b) (only : Option ℕ) (old new : List C) where
    pub remain : (result : Result (Unit {0}) ReadFault) → AllWent g (Of R only) old new result
        → Each (Remains g) old new
    remain (Ok x) went = all_remain kept R remains only old new went
    remain (Err e) went = went.remain

    pub counts : (result : Result (Unit {0}) ReadFault) → AllWent g (Of R only) old new result
        → CountsFaults (total g.faults old) (total g.faults new) result
    counts (Ok x) went = record { never_falls = total_later old new (remain (Ok x) went); rose = tt }
    counts (Err e) went =
        record { never_falls = total_later old new went.remain; rose = rose_where e old new went }

    pub damage : (result : Result (Unit {0}) ReadFault) → AllWent g (Of R only) old new result
        → IfDamage result (λ number at.
        (k : ℕ) × (k < length new) × ((d : C) → g.damaged (get_or new k d) number at))
    damage (Ok x) went = tt
    damage (Err Fault) went = tt
    damage (Err (Damaged table at)) went = (
      went.place,
      (let long = went.remain.same in let lt = went.inside in omega (arith, long, lt)),
      (λ d. (went.failed d).damage),
    )

  -- ---- steps that are left

  total_low : (f h : C → ℕ) (old new : List C) → Each (λ a b. f b ≤ h a) old new
      → total f new ≤ total h old
  total_low f h [] [] e = omega arith
  total_low f h [] (b ∷ new) e = let long = e.same in absurd (omega (arith, long))
  total_low f h (a ∷ old) [] e = let long = e.same in absurd (omega (arith, long))
  total_low f h (a ∷ old) (b ∷ new) e =
      let here = e.each 0 a (omega arith) in
      let more = total_low f h old new (rest (λ a b. f b ≤ h a) a b old new e) in
      omega (arith, here, more)

  pub total_less : (f h : C → ℕ) (old new : List C) (i : ℕ) → i < length old
      → Each (λ a b. f b ≤ h a) old new → ((d : C) → f (get_or new i d) < h (get_or old i d))
      → total f new < total h old
  total_less f h [] new i lt e less = absurd (omega (arith, lt))
  total_less f h (a ∷ old) [] i lt e less = let long = e.same in absurd (omega (arith, long))
  total_less f h (a ∷ old) (b ∷ new) zero lt e less =
      let here = less a in
      let more = total_low f h old new (rest (λ a b. f b ≤ h a) a b old new e) in
      omega (arith, here, more)
  total_less f h (a ∷ old) (b ∷ new) (suc i) lt e less =
      let here = e.each 0 a (omega arith) in
      let more = total_less f h old new i (omega (arith, lt)) (rest (λ a b. f b ≤ h a) a b old new e) less in
      omega (arith, here, more)

  -- a step from an entry leaves fewer
  less_one : (back turns : Bool) (old new : C) (e : Entry) → g.shows old ≡ Some e
      → Moved g (step_in back) old new → left g back false new < left g back turns old
  less_one back turns old new e there m =
      subst (λ b. left g back false new < (if b then g.size old else (if back then g.back old else g.ahead old)))
      (sym (none_shown turns)) (by back m)
    where
      none_shown : (turns : Bool) → (turns && is_none (g.shows old)) ≡ false
      none_shown true = ap is_none there
      none_shown false = refl

      by : (back : Bool) → Moved g (step_in back) old new
          → left g back false new < (if back then g.back old else g.ahead old)
      by false m = m.steps.fewer e there
      by true m = m.steps.fewer e there

  -- where it turns, no step leaves more
  low_one : ((c : C) → (g.ahead c ≤ g.size c) × (g.back c ≤ g.size c))
      → ((a b : C) → g.keeps a b → g.size b ≡ g.size a) → (back : Bool) (old new : C)
      → Moved g (step_in back) old new → left g back false new ≤ left g back true old
  low_one bounded same back old new m = by (g.shows old) refl
    where
      by : (o : Option Entry) → g.shows old ≡ o → left g back false new ≤ left g back true old
      by (Some e) there = let less = less_one back true old new e there m in omega (arith, less)
      by None none =
          let size = same old new m.remains.keeps in
          let low : left g back false new ≤ g.size new = bound back in
          subst (λ b. left g back false new
          ≤ (if b then g.size old else (if back then g.back old else g.ahead old)))
          (sym (ap is_none none)) (omega (arith, size, low))
        where
          bound : (back : Bool) → left g back false new ≤ g.size new
          bound false = (bounded new).0
          bound true = (bounded new).1

  pub fewer_left : ((c : C) → (g.ahead c ≤ g.size c) × (g.back c ≤ g.size c))
      → ((a b : C) → g.keeps a b → g.size b ≡ g.size a) → (back turns : Bool) (old new : List C) (i : ℕ)
      → i < length old → ((d : C) → (e : Entry) × (g.shows (get_or old i d) ≡ Some e))
      → Of (Moved g (step_in back)) (if turns then None else Some i) old new
      → total (left g back false) new < total (left g back turns) old
  fewer_left bounded same back true old new i lt there e =
      total_less (left g back false) (left g back true) old new i lt
      (record { same = e.same; each = λ k d inside. low_one bounded same back _ _ (e.each k d inside) })
      (λ d. less_one back true _ _ (there d).0 (there d).1 (e.each i d lt))
  fewer_left bounded same back false old new i lt there m =
      total_less (left g back false) (left g back false) old new i lt
      (record {
        same = m.same;
        each = λ k d inside. elim (cases_eq k i) [
          | inl is ↦
              let less = less_one back false (get_or old i d) (get_or new i d) (there d).0 (there d).1 (m.at d) in
              subst (λ n. left g back false (get_or new n d) ≤ left g back false (get_or old n d)) (sym is)
              (omega (arith, less))
          | inr other ↦ subst (λ c. left g back false c ≤ left g back false (get_or old k d))
              (sym (m.others k d other)) (omega arith)
        ];
      })
      (λ d. less_one back false _ _ (there d).0 (there d).1 (m.at d))

pub left_less : (was now : Option ℕ) (i m n : ℕ) → was ≡ Some i → m < n
    → steps_left now m < steps_left was n
left_less was now i m n is less =
    subst (λ o. steps_left now m < steps_left o n) (sym is) (by now)
  where
    by : (o : Option ℕ) → steps_left o m < suc n
    by None = omega arith
    by (Some j) = omega (arith, less)

pub nothing_left : (was now : Option ℕ) (i m n : ℕ) → was ≡ Some i → now ≡ None
    → steps_left now m < steps_left was n
nothing_left was now i m n is none =
    subst (λ o. steps_left now m < steps_left o n) (sym is)
    (subst (λ o. steps_left o m < suc n) (sym none) (omega arith))
