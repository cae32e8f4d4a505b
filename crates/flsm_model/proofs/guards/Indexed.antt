-- Guards by their index, and by their ranges.
use Rattle.std.proofs.Common.{◌≡◌, ℕ, zero, suc, Bool, true, false, not, ◌||◌, cond, List, [], ◌∷◌, length, refl, sym, ap, ◌∙◌, arith}
use Rattle.std.specs.Prelude.{◌↔◌, ◌≤◌, Option, Some, None}
use Rattle.std.specs.List.{insert}
use Rattle.std.proofs.lemmas.Bool.{and_parts, and_from, true≢false}
use Rattle.flsm_model.proofs.guards.Guards.{least}
use Rattle.peb_base.specs.Keys.{Bytes, key_lt, key_le, key_eq}
use Rattle.peb_base.specs.KeyLaws.{le_lt, le_refl, le_trans, lt_le_weak}
use Rattle.peb_base.specs.Guards.{Ascend, guard_of, is_guard}
use Rattle.flsm_model.specs.Ranges.{is_below, in_range, with_key, range_after}
use Rattle.flsm_model.specs.GuardRanges.{range_from, range_at, RangeIsOfGuard, RangesPartKeys, RowsLieInRanges, NewGuardIsInserted}

range_after_is : (lo : Bytes) (keys : List Bytes) (key : Bytes) → range_after lo keys key ≡ range_from lo keys (guard_of key keys)
range_after_is lo [] key = refl
range_after_is lo (k ∷ ks) key = by (key_lt key k) (range_after_is k ks key)
  where
    by : (b : Bool) → range_after k ks key ≡ range_from k ks (guard_of key ks)
        → cond b (lo, Some k) (range_after k ks key) ≡ range_from lo (k ∷ ks) (cond b 0 (suc (guard_of key ks)))
    by true ih = refl
    by false ih = ih

pub range_is_of_guard : RangeIsOfGuard
range_is_of_guard keys key = range_after_is [] keys key

-- a range begins at or above what bounds it
begins_above : (lo : Bytes) (keys : List Bytes) (guard : ℕ) → Ascend lo keys → key_le lo (range_from lo keys guard).0 ≡ true
begins_above lo [] guard ascend = le_refl lo
begins_above lo (k ∷ ks) zero ascend = le_refl lo
begins_above lo (k ∷ ks) (suc guard) ascend =
    le_trans lo k (range_from k ks guard).0 (lt_le_weak lo k ascend.0) (begins_above k ks guard ascend.1)

part : (lo : Bytes) (keys : List Bytes) (guard : ℕ) (key : Bytes) → Ascend lo keys → guard ≤ length keys → key_le lo key ≡ true
    → (in_range (range_from lo keys guard).0 (range_from lo keys guard).1 key ≡ true) ↔ (guard_of key keys ≡ guard)
part lo [] zero key ascend le above = (λ h. refl, λ e. and_from (key_le lo key) true above refl)
part lo [] (suc guard) key ascend le above = let none : ⊥ = omega (arith, le) in absurd none
part lo (k ∷ ks) zero key ascend le above = by (key_lt key k) refl
  where
    by : (b : Bool) → key_lt key k ≡ b → (in_range lo (Some k) key ≡ true) ↔ (cond b 0 (suc (guard_of key ks)) ≡ 0)
    by true e = (λ h. refl, λ x. and_from (key_le lo key) (key_lt key k) above e)
    by false e = (
      λ h. absurd (true≢false (sym (and_parts (key_le lo key) (key_lt key k) h).1 ∙ e)),
      λ x. let none : ⊥ = omega (arith, x) in absurd none,
    )
part lo (k ∷ ks) (suc guard) key ascend le above = by (key_lt key k) refl (part k ks guard key ascend.1 (omega (arith, le)))
  where
    by : (b : Bool) → key_lt key k ≡ b
        → (key_le k key ≡ true → (in_range (range_from k ks guard).0 (range_from k ks guard).1 key ≡ true) ↔ (guard_of key ks ≡ guard))
        → (in_range (range_from k ks guard).0 (range_from k ks guard).1 key ≡ true) ↔ (cond b 0 (suc (guard_of key ks)) ≡ suc guard)
    by true e ih = (
      λ h. absurd (true≢false (sym (le_trans k (range_from k ks guard).0 key (begins_above k ks guard ascend.1) (and_parts (key_le (range_from k ks guard).0 key) (is_below key (range_from k ks guard).1) h).0) ∙ ap not e)),
      λ x. let none : ⊥ = omega (arith, x) in absurd none,
    )
    by false e ih = (λ h. ap suc ((ih (ap not e)).0 h), λ x. (ih (ap not e)).1 (omega (arith, x)))

pub ranges_part_keys : RangesPartKeys
ranges_part_keys keys guard key ascend le = part [] keys guard key ascend le (least key)

below_down : (a b : Bytes) (hi : Option Bytes) → key_le a b ≡ true → is_below b hi ≡ true → is_below a hi ≡ true
below_down a b None le below = refl
below_down a b (Some hi) le below = le_lt a b hi le below

pub rows_lie_in_ranges : RowsLieInRanges
rows_lie_in_ranges keys guard row ascend le = (
  λ lies.
      let s = and_parts (key_le lo row.smallest) (is_below row.smallest hi) ((ranges_part_keys keys guard row.smallest ascend le).1 lies.smallest) in
      let g = and_parts (key_le lo row.largest) (is_below row.largest hi) ((ranges_part_keys keys guard row.largest ascend le).1 lies.largest) in
      (and_from (key_le lo row.smallest) (is_below row.largest hi) s.0 g.1, lies.ordered),
  λ h.
      let p = and_parts (key_le lo row.smallest) (is_below row.largest hi) h.0 in
      record {
        smallest = (ranges_part_keys keys guard row.smallest ascend le).0 (and_from (key_le lo row.smallest) (is_below row.smallest hi) p.0 (below_down row.smallest row.largest hi h.1 p.1));
        largest = (ranges_part_keys keys guard row.largest ascend le).0 (and_from (key_le lo row.largest) (is_below row.largest hi) (le_trans lo row.smallest row.largest p.0 h.1) p.1);
        ordered = h.1;
      },
)
  where
    lo : Bytes
    lo = (range_at keys guard).0

    hi : Option Bytes
    hi = (range_at keys guard).1

pub new_guard_is_inserted : NewGuardIsInserted
new_guard_is_inserted [] key new = refl
new_guard_is_inserted (k ∷ ks) key new = by (key_lt key k) (key_eq key k) new (new_guard_is_inserted ks key)
  where
    by : (a b : Bool) → (b || is_guard key ks) ≡ false → (is_guard key ks ≡ false → insert ks (guard_of key ks) key ≡ with_key key ks)
        → insert (k ∷ ks) (cond a 0 (suc (guard_of key ks))) key ≡ cond a (key ∷ k ∷ ks) (cond b (k ∷ ks) (k ∷ with_key key ks))
    by true b n ih = refl
    by false true n ih = absurd (true≢false n)
    by false false n ih = ap (λ rest. k ∷ rest) (ih n)
