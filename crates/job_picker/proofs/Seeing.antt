-- What a version that stands for a shape shows of it.
use Rattle.std.proofs.Common.{◌≡◌, ℕ, zero, suc, ◌≤◌, Bool, true, false, ◌&&◌, not, cond, List, [], ◌∷◌, map, drop, length, refl, sym, ap, ◌∙◌, subst, arith}
use Rattle.std.specs.Prelude.{◌==◌, filter, Option, Some, None}
use Rattle.std.specs.List.{list_any}
use Rattle.std.proofs.lemmas.Bool.{and_parts, and_from, eqb-true, eq-eqb, true≢false}
use Rattle.peb_base.specs.Guards.{Ascend, guard_of}
use Rattle.peb_base.specs.Keys.{Bytes, key_lt, key_le}
use Rattle.peb_base.specs.KeyLaws.{le_lt, le_refl, le_trans, lt_le_weak}
use Rattle.peb_base.specs.Members.{IsIn}
use Rattle.peb_base.specs.Profiles.{Column}
use Rattle.peb_base.specs.declared.table_row.TableRow.{TableRow}
use Rattle.flsm_model.specs.Compaction.{straddles}
use Rattle.flsm_model.specs.Fits.{lies_in, is_straddled}
use Rattle.flsm_model.specs.GuardRanges.{range_from, range_at}
use Rattle.flsm_model.specs.Picking.{ranges_after, rows_in}
use Rattle.flsm_model.specs.Ranges.{is_below, in_range, range_after, range_of}
use Rattle.flsm_model.specs.Shape.{Shape, guards_at}
use Rattle.version.specs.Levels.{Levels}
use Rattle.job_picker.specs.Seen.{keys_at, tables_at, IsVersion}
use Rattle.job_picker.proofs.Filters.{filter_same, filter_both}
use Rattle.job_picker.proofs.InFlight.{same_test}

-- ---- guards

-- the guards of a level are those of the shape
pub keys_are : {T : Type 0} (row : T → TableRow) (o : Column) (v : Levels T) (s : Shape) → IsVersion row o v s → (level : ℕ) → level ≤ length v.levels → keys_at v level ≡ guards_at s level
keys_are row o v s is zero le = refl
keys_are row o v s is (suc n) le = (is.stands.deeper n (omega (arith, is.stands.count, le))).keys_are

-- guards are at most one more than keys
guard_bound : (key : Bytes) (ks : List Bytes) → guard_of key ks ≤ length ks
guard_bound key [] = omega arith
guard_bound key (k ∷ ks) = by (key_lt key k) (guard_bound key ks)
  where
    by : (b : Bool) → guard_of key ks ≤ length ks → cond b 0 (suc (guard_of key ks)) ≤ suc (length ks)
    by true rest = omega arith
    by false rest = omega (arith, rest)

-- ---- ranges of guards

-- the range that has a key, from any bound
range_after_is : (lo : Bytes) (keys : List Bytes) (key : Bytes) → range_after lo keys key ≡ range_from lo keys (guard_of key keys)
range_after_is lo [] key = refl
range_after_is lo (k ∷ ks) key = by (key_lt key k) (range_after_is k ks key)
  where
    by : (b : Bool) → range_after k ks key ≡ range_from k ks (guard_of key ks) → cond b (lo, Some k) (range_after k ks key) ≡ range_from lo (k ∷ ks) (cond b 0 (suc (guard_of key ks)))
    by true rest = refl
    by false rest = rest

-- the range that has a key is the one at its guard's index
pub range_is : (keys : List Bytes) (key : Bytes) → range_of keys key ≡ range_at keys (guard_of key keys)
range_is keys key = range_after_is [] keys key

-- a range begins at or above what bounds it
begins_above : (lo : Bytes) (keys : List Bytes) (guard : ℕ) → Ascend lo keys → key_le lo (range_from lo keys guard).0 ≡ true
begins_above lo [] guard up = le_refl lo
begins_above lo (k ∷ ks) zero up = le_refl lo
begins_above lo (k ∷ ks) (suc guard) up = le_trans lo k (range_from k ks guard).0 (lt_le_weak lo k up.0) (begins_above k ks guard up.1)

-- a key in a guard's range belongs to the guard
belongs : (lo : Bytes) (keys : List Bytes) (guard : ℕ) (key : Bytes) → Ascend lo keys → guard ≤ length keys → in_range (range_from lo keys guard).0 (range_from lo keys guard).1 key ≡ true → guard_of key keys ≡ guard
belongs lo [] zero key up within h = refl
belongs lo [] (suc guard) key up within h = absurd (omega (arith, within))
belongs lo (k ∷ ks) zero key up within h = ap (λ b. cond b 0 (suc (guard_of key ks))) (and_parts (key_le lo key) (key_lt key k) h).1
belongs lo (k ∷ ks) (suc guard) key up within h = by (key_lt key k) refl (belongs k ks guard key up.1 (omega (arith, within)) h)
  where
    above : key_le k key ≡ true
    above = le_trans k (range_from k ks guard).0 key (begins_above k ks guard up.1) (and_parts (key_le (range_from k ks guard).0 key) (is_below key (range_from k ks guard).1) h).0

    by : (b : Bool) → key_lt key k ≡ b → guard_of key ks ≡ guard → cond b 0 (suc (guard_of key ks)) ≡ suc guard
    by true e rest = absurd (true≢false (sym above ∙ ap not e))
    by false e rest = ap suc rest

-- what is below a key below an end is below it
below_down : (a b : Bytes) (hi : Option Bytes) → key_le a b ≡ true → is_below b hi ≡ true → is_below a hi ≡ true
below_down a b None le below = refl
below_down a b (Some hi) le below = le_lt a b hi le below

-- so a row in the range begins in the guard
starts_in : (keys : List Bytes) (guard : ℕ) (r : TableRow) → Ascend [] keys → guard ≤ length keys → lies_in (range_at keys guard) r ≡ true → key_le r.smallest r.largest ≡ true → guard_of r.smallest keys ≡ guard
starts_in keys guard r up within lies ordered =
    let parts = and_parts (key_le (range_at keys guard).0 r.smallest) (is_below r.largest (range_at keys guard).1) lies in
    belongs [] keys guard r.smallest up within (and_from _ _ parts.0 (below_down r.smallest r.largest (range_at keys guard).1 ordered parts.1))

-- ---- tables

-- no key is below the empty one
least_key : (key : Bytes) → key_le [] key ≡ true
least_key [] = refl
least_key (b ∷ bs) = refl

module _ {T : Type 0} (row : T → TableRow) (o : Column) (v : Levels T) (s : Shape) (is : IsVersion row o v s) where
  -- a live row of a level lies in the range of a guard exactly where it begins there
  begins_in : (n guard : ℕ) (r : TableRow) → suc n ≤ length v.levels → Ascend [] (keys_at v (suc n)) → guard ≤ length (keys_at v (suc n)) → IsIn r s.live → r.level ≡ suc n
      → (guard_of r.smallest (keys_at v (suc n)) == guard) ≡ lies_in (range_at (keys_at v (suc n)) guard) r
  begins_in n guard r le up within among level = same_test (guard_of r.smallest keys == guard) (lies_in (range_at keys guard) r) on back
    where
      keys : List Bytes
      keys = keys_at v (suc n)

      own : lies_in (range_at keys (guard_of r.smallest keys)) r ≡ true
      own =
          subst (λ range. lies_in range r ≡ true) (range_is keys r.smallest)
          (subst (λ ks. lies_in (range_of ks r.smallest) r ≡ true) (ap (guards_at s) level ∙ sym (keys_are row o v s is (suc n) le)) (is.sound.inside r among (omega (arith, level))))

      on : (guard_of r.smallest keys == guard) ≡ true → lies_in (range_at keys guard) r ≡ true
      on e = subst (λ g. lies_in (range_at keys g) r ≡ true) (eqb-true (guard_of r.smallest keys) guard e) own

      back : lies_in (range_at keys guard) r ≡ true → (guard_of r.smallest keys == guard) ≡ true
      back lies = eq-eqb (guard_of r.smallest keys) guard (starts_in keys guard r up within lies (is.sound.rows r among))

  pub rows_are : (level guard : ℕ) → level ≤ length v.levels → Ascend [] (keys_at v level) → guard ≤ length (keys_at v level)
      → map row (tables_at v level guard) ≡ rows_in s level (range_at (keys_at v level) guard)
  rows_are zero guard le up within =
      is.stands.top ∙ filter_same (λ r. r.level == 0) (λ r. r.level == 0 && lies_in (range_at [] guard) r) s.live (λ r among. sure (r.level == 0) (lies_in (range_at [] guard) r) (ap (λ b. b && true) (least_key r.smallest)))
    where
      sure : (a b : Bool) → b ≡ true → a ≡ (a && b)
      sure true b e = sym e
      sure false b e = refl
  rows_are (suc n) guard le up within =
      (is.stands.deeper n (omega (arith, is.stands.count, le))).each guard
      ∙ filter_both (λ r. guard_of r.smallest (keys_at v (suc n)) == guard) (λ r. r.level == suc n) s.live
      ∙ filter_same (λ r. r.level == suc n && (guard_of r.smallest (keys_at v (suc n)) == guard)) (λ r. r.level == suc n && lies_in (range_at (keys_at v (suc n)) guard) r) s.live
      (λ r among. by r among (r.level == suc n) refl)
    where
      by : (r : TableRow) → IsIn r s.live → (b : Bool) → (r.level == suc n) ≡ b → (b && (guard_of r.smallest (keys_at v (suc n)) == guard)) ≡ (b && lies_in (range_at (keys_at v (suc n)) guard) r)
      by r among true e = begins_in n guard r le up within among (eqb-true r.level (suc n) e)
      by r among false e = refl

-- the tables of a range that some key splits
pub split_rows : (s : Shape) (level : ℕ) (range : Bytes × Option Bytes) (keys : List Bytes) → filter (λ r. list_any (straddles r) keys) (rows_in s level range) ≡ filter (is_straddled level range keys) s.live
split_rows s level range keys = filter_both (λ r. list_any (straddles r) keys) (λ r. r.level == level && lies_in range r) s.live

-- ---- ranges

-- the ranges from a guard on are its own and those behind it
pub ranges_from : (lo : Bytes) (keys : List Bytes) (guard : ℕ) → guard ≤ length keys → drop guard (ranges_after lo keys) ≡ range_from lo keys guard ∷ drop (suc guard) (ranges_after lo keys)
ranges_from lo [] zero within = refl
ranges_from lo [] (suc guard) within = absurd (omega (arith, within))
ranges_from lo (k ∷ keys) zero within = refl
ranges_from lo (k ∷ keys) (suc guard) within = ranges_from k keys guard (omega (arith, within))

-- behind the last guard there is none
pub ranges_end : (lo : Bytes) (keys : List Bytes) → drop (suc (length keys)) (ranges_after lo keys) ≡ []
ranges_end lo [] = refl
ranges_end lo (k ∷ keys) = ranges_end k keys
