-- The keep rule loses nothing that a reader at or above the floor can see.
use Rattle.std.proofs.Common.{◌≡◌, ℕ, ◌<◌, ◌≤◌, Bool, true, false, ◌&&◌, not, List, [], ◌∷◌, ◌⊎◌, inl, inr, refl, sym, ◌∙◌, ap, subst, arith}
use Rattle.std.specs.Prelude.{nat_lt, nat_le, ◌↔◌}
use Rattle.std.specs.List.{list_any}
use Rattle.std.specs.Cmp.Lexicographic.{bytes_decides}
use Rattle.std.proofs.lemmas.Bool.{and_parts, and_from, cases_Bool, cases_lt, ltb-true, lt-ltb, leb-true, le-leb, true≢false, not-true}
use Rattle.peb_base.specs.Keys.{Bytes, key_eq}
use Rattle.flsm_model.specs.Compaction.{is_put, kept, is_kept, is_superseded}
use Rattle.peb_base.specs.declared.entry.Entry.{Entry}
pub use Rattle.flsm_model.specs.TrueRecord.{IsNewest}
use Rattle.flsm_model.proofs.lists.Members.{IsIn}
use Rattle.flsm_model.proofs.lists.Lists.{in_filter, in_any, any_in, in_kept}

-- among entries that hold one of the key at or below a number there is a newest
newest_of : (k : Bytes) (m : ℕ) (es : List Entry) (f : Entry) → IsIn f es → f.key ≡ k → f.number ≤ m
    → (g : Entry) × IsIn g es × (g.key ≡ k) × (g.number ≤ m) × ((h : Entry) → IsIn h es → h.key ≡ k → h.number ≤ m → h.number ≤ g.number)
newest_of k m [] f i a b = absurd i
newest_of k m (e ∷ es) f i a b = elim (cases_Bool (key_eq e.key k && nat_le e.number m)) [
  | inl fits ↦
      let p = and_parts (key_eq e.key k) (nat_le e.number m) fits in
      let ek : e.key ≡ k = (bytes_decides e.key k).0 p.0 in
      let em : e.number ≤ m = leb-true e.number m p.1 in
      elim (cases_Bool (list_any (λ (h : Entry). key_eq h.key k && nat_le h.number m) es)) [
        | inl more ↦
            let y = any_in (λ (h : Entry). key_eq h.key k && nat_le h.number m) es more in
            let q = and_parts (key_eq y.0.key k) (nat_le y.0.number m) y.2 in
            let g = newest_of k m es y.0 y.1 ((bytes_decides y.0.key k).0 q.0) (leb-true y.0.number m q.1) in
            elim (cases_lt g.0.number e.number) [
              | inl less ↦ (e, inl refl, ek, em, λ h j c d. elim j [ inl s ↦ eq_le h e s | inr r ↦ omega (arith, g.4 h r c d) ])
              | inr ge ↦ (g.0, inr g.1, g.2, g.3, λ h j c d. elim j [ inl s ↦ omega (arith, eq_le h e s) | inr r ↦ g.4 h r c d ])
            ]
        | inr none ↦ (
          e,
          inl refl,
          ek,
          em,
          λ h j c d. elim j [
            | inl s ↦ eq_le h e s
            | inr r ↦ absurd (true≢false (sym (in_any (λ (z : Entry). key_eq z.key k && nat_le z.number m) h es r (and_from _ _ ((bytes_decides h.key k).1 c) (le-leb h.number m d))) ∙ none))
          ],
        )
      ]
  | inr other ↦
      let not_e : (h : Entry) → h ≡ e → h.key ≡ k → h.number ≤ m → ⊥ =
      λ h s c d. true≢false (sym (and_from _ _ ((bytes_decides e.key k).1 (ap (λ (z : Entry). z.key) (sym s) ∙ c)) (le-leb e.number m (subst (λ (z : Entry). z.number ≤ m) s d))) ∙ other) in
      elim i [
        | inl s ↦ absurd (not_e f s a b)
        | inr r ↦
            let g = newest_of k m es f r a b in
            (g.0, inr g.1, g.2, g.3, λ h j c d. elim j [ inl s ↦ absurd (not_e h s c d) | inr q ↦ g.4 h q c d ])
      ]
]
  where
    eq_le : (h e : Entry) → h ≡ e → h.number ≤ e.number
    eq_le h e s = omega (arith, ap (λ (z : Entry). z.number) s)

-- the entries of a compaction with those aside from it, before and after
abbrev pub Before : List Entry → (Entry → Type 0) → Entry → Type 0
Before es N x = IsIn x es ⊎ N x

abbrev pub After : List Entry → ℕ → Bool → (Entry → Type 0) → Entry → Type 0
After es floor whole N x = IsIn x (kept es floor whole) ⊎ N x

-- what is superseded has a newer one at or below the floor
superseded_by : (es : List Entry) (floor : ℕ) (x : Entry) → is_superseded es floor x ≡ true → (g : Entry) × IsIn g es × (g.key ≡ x.key) × (x.number < g.number) × (g.number ≤ floor)
superseded_by es floor x h =
    let y = any_in (λ (f : Entry). key_eq f.key x.key && nat_lt x.number f.number && nat_le f.number floor) es h in
    let p2 = and_parts _ _ y.2 in
    let p1 = and_parts _ _ p2.0 in
    (y.0, y.1, (bytes_decides y.0.key x.key).0 p1.0, ltb-true x.number y.0.number p1.1, leb-true y.0.number floor p2.1)

-- at every number at or above the floor, or above all numbers, the same puts show
pub keeps_shown : (es : List Entry) (floor : ℕ) (whole : Bool) (N : Entry → Type 0) (m : ℕ)
    → (floor ≤ m) ⊎ ((x : Entry) → Before es N x → x.number ≤ m)
    → (whole ≡ true → (x y : Entry) → N x → IsIn y es → x.key ≡ y.key → y.number < x.number)
    → (x : Entry) → is_put x.change ≡ true → IsNewest (Before es N) x m ↔ IsNewest (After es floor whole N) x m
keeps_shown es floor whole N m low newer x put = (to, from)
  where
    -- a newer entry at or below the floor is in sight
    seen : (g : Entry) → IsIn g es → g.number ≤ floor → g.number ≤ m
    seen g i l = elim low [ inl a ↦ omega arith | inr all ↦ all g (inl i) ]

    weaker : (f : Entry) → After es floor whole N f → Before es N f
    weaker f h = elim h [ inl a ↦ inl (in_filter (is_kept es floor whole) f es a).0 | inr b ↦ inr b ]

    to : IsNewest (Before es N) x m → IsNewest (After es floor whole N) x m
    to w =
        record {
          here = elim w.here [
            | inl i ↦
                let free : is_superseded es floor x ≡ false = elim (cases_Bool (is_superseded es floor x)) [
                  | inl s ↦
                      let g = superseded_by es floor x s in
                      absurd (omega (arith, w.newest g.0 (inl g.1) g.2 (seen g.0 g.1 g.4), g.3))
                  | inr n ↦ n
                ] in
                inl (in_kept (is_kept es floor whole) x es i (and_from _ _ (ap not free) (grind (arith, put))))
            | inr n ↦ inr n
          ];
          below = w.below;
          newest = λ f p k l. w.newest f (weaker f p) k l;
        }

    from : IsNewest (After es floor whole N) x m → IsNewest (Before es N) x m
    from w =
        record {
          here = weaker x w.here;
          below = w.below;
          newest = λ f p k l. elim p [
            | inl i ↦ elim (cases_lt x.number f.number) [ inl more ↦ absurd (hidden f i k l more) | inr less ↦ less ]
            | inr n ↦ w.newest f (inr n) k l
          ];
        }
      where
        hidden : (f : Entry) → IsIn f es → f.key ≡ x.key → f.number ≤ m → x.number < f.number → ⊥
        hidden f i k l more =
            let g = newest_of x.key m es f i k l in
            let high : f.number ≤ g.0.number = g.4 f i k l in
            let free : is_superseded es floor g.0 ≡ false = elim (cases_Bool (is_superseded es floor g.0)) [
              | inl s ↦
                  let h = superseded_by es floor g.0 s in
                  absurd (omega (arith, g.4 h.0 h.1 (h.2 ∙ g.2) (seen h.0 h.1 h.4), h.3))
              | inr n ↦ n
            ] in
            elim (cases_Bool (whole && not (is_put g.0.change) && nat_le g.0.number floor)) [
              | inl dropped ↦
                  let d2 = and_parts _ _ dropped in
                  let d1 = and_parts _ _ d2.0 in
                  let at_floor : g.0.number ≤ floor = leb-true g.0.number floor d2.1 in
                  elim w.here [
                    | inl a ↦
                        let q = in_filter (is_kept es floor whole) x es a in
                        let sup : is_superseded es floor x ≡ true =
                        in_any (λ (z : Entry). key_eq z.key x.key && nat_lt x.number z.number && nat_le z.number floor) g.0 es g.1
                        (and_from _ _ (and_from _ _ ((bytes_decides g.0.key x.key).1 g.2) (lt-ltb x.number g.0.number (omega arith))) (le-leb g.0.number floor at_floor)) in
                        true≢false (sym sup ∙ not-true _ (and_parts _ _ q.1).0)
                    | inr n ↦ absurd (omega (arith, newer d1.0 x g.0 n g.1 (sym g.2)))
                  ]
              | inr stays ↦
                  absurd (omega (arith, w.newest g.0 (inl (in_kept (is_kept es floor whole) g.0 es g.1 (and_from _ _ (ap not free) (ap not stays)))) g.2 g.3))
            ]
