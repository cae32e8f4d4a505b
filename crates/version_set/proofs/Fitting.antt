-- What an edit that fits does to the levels.
use Rattle.std.proofs.Common.{◌≡◌, ℕ, suc, ◌<◌, ◌≤◌, Bool, true, false, not, ◌&&◌, ◌||◌, List, [], ◌∷◌, refl, sym, ap, ◌∙◌, subst, inl, inr, arith, Option, Some, None}
use Rattle.std.specs.Prelude.{◌==◌, nat_le, nat_lt, if◌then◌else◌}
use Rattle.std.specs.List.{AllByRecursion, list_all, list_any}
use Rattle.std.proofs.lemmas.Bool.{and_parts, and_from, eqb-true, ltb-true, leb-true, true≢false, not-true, or_cases}
use Rattle.peb_base.specs.Guards.{Ascend, guard_of}
use Rattle.peb_base.specs.Keys.{Bytes, key_lt, key_le}
use Rattle.peb_base.specs.KeyLaws.{le_lt, le_trans, le_refl, lt_le_weak}
use Rattle.peb_base.specs.Members.{IsIn}
use Rattle.peb_base.specs.Profiles.{Column}
use Rattle.peb_base.specs.Tables.{is_row}
use Rattle.peb_base.specs.declared.table_row.TableRow.{TableRow}
use Rattle.flsm_model.specs.declared.chosen.Chosen.{Chosen}
use Rattle.flsm_model.specs.declared.edit.Edit.TheVariants.{Flush, Move, Cut, Merge}
use Rattle.flsm_model.specs.Compaction.{straddles}
use Rattle.flsm_model.specs.Fits.{fits, numbers_ascend, numbers_differ, is_live, is_straddled, lies_in, range_of_row, input_range, is_new, rows_are_new, may_be_cut, is_cut_output, is_candidate, is_guard, is_of_session}
use Rattle.flsm_model.specs.Ledgers.{rows_at}
use Rattle.flsm_model.specs.Ranges.{is_below, in_range, range_after, range_of, first_of, with_keys}
use Rattle.flsm_model.specs.Shape.{Shape, guards_at, has_number, is_numbered, rows_numbered, rows_without}
use Rattle.flsm_model.specs.Sound.{IsSound}
use Rattle.version_set.specs.Changes.{Differ, AreAt, AreNumbersOf, AreInputs, IsWhole, LiesInOne}
use Rattle.version_set.proofs.Rows.{numbers, at_of, in_filtered, filtered_in, none_pass, differ_filter, right_true, eqb_same}
use Rattle.version_set.proofs.Stands.{all_in}

-- ---- tests of lists

any_from : {X : Type 0} (p : X → Bool) (xs : List X) (x : X) → IsIn x xs → p x ≡ true → list_any p xs ≡ true
any_from p [] x among is = absurd among
any_from p (y ∷ xs) x among is = elim among [
  | inl same ↦ ap (λ b. b || list_any p xs) (ap p (sym same) ∙ is)
  | inr later ↦ right_true (p y) (list_any p xs) (any_from p xs x later is)
]

any_of : (rows : List TableRow) (n : ℕ) → is_numbered rows n ≡ true → (r : TableRow) × (IsIn r rows × (r.number ≡ n))
any_of [] n is = absurd (true≢false (sym is))
any_of (r ∷ rows) n is = elim (or_cases (r.number == n) (is_numbered rows n) is) [
  | inl here ↦ (r, (inl refl, eqb-true r.number n here))
  | inr later ↦ let found = any_of rows n later in (found.0, (inr found.1.0, found.1.1))
]

has_in : (n : ℕ) (ns : List ℕ) → IsIn n ns → has_number n ns ≡ true
has_in n ns among = any_from (λ m. n == m) ns n among (eqb_same n)

pub numbered_none : (rows : List TableRow) → rows_numbered [] rows ≡ []
numbered_none rows = none_pass (λ r. false) rows (λ r among. refl)

-- ---- ranges

begins_from : (k : Bytes) (ks : List Bytes) (x : Bytes) → Ascend k ks → key_le k (range_after k ks x).0 ≡ true
begins_from k [] x ascend = le_refl k
begins_from k (l ∷ ks) x ascend = by (key_lt x l) (begins_from l ks x ascend.1)
  where
    by : (b : Bool) → key_le l (range_after l ks x).0 ≡ true → key_le k (if b then (k, Some l) else range_after l ks x).0 ≡ true
    by true rest = le_refl k
    by false rest = le_trans k l (range_after l ks x).0 (lt_le_weak k l ascend.0) rest

-- keys of one range have the same range
range_again : (lo : Bytes) (gs : List Bytes) (x y : Bytes) → Ascend lo gs → in_range (range_after lo gs x).0 (range_after lo gs x).1 y ≡ true → range_after lo gs y ≡ range_after lo gs x
range_again lo [] x y ascend inside = refl
range_again lo (k ∷ ks) x y ascend inside = by (key_lt x k) refl inside (range_again k ks x y ascend.1)
  where
    by : (b : Bool) → key_lt x k ≡ b → in_range (if b then (lo, Some k) else range_after k ks x).0 (if b then (lo, Some k) else range_after k ks x).1 y ≡ true
        → (in_range (range_after k ks x).0 (range_after k ks x).1 y ≡ true → range_after k ks y ≡ range_after k ks x)
        → (if key_lt y k then (lo, Some k) else range_after k ks y) ≡ (if b then (lo, Some k) else range_after k ks x)
    by true e h rest = ap (λ c. if c then (lo, Some k) else range_after k ks y) (and_parts (key_le lo y) (key_lt y k) h).1
    by false e h rest =
        let from = (and_parts (key_le (range_after k ks x).0 y) (is_below y (range_after k ks x).1) h).0 in
        let above : key_lt y k ≡ false = not-true (key_lt y k) (le_trans k (range_after k ks x).0 y (begins_from k ks x ascend.1) from) in
        ap (λ c. if c then (lo, Some k) else range_after k ks y) above ∙ rest h

pub one_range : (gs : List Bytes) (x y : Bytes) → Ascend [] gs → in_range (range_of gs x).0 (range_of gs x).1 y ≡ true → range_of gs y ≡ range_of gs x
one_range gs x y ascend inside = range_again [] gs x y ascend inside

below_down : (a b : Bytes) (hi : Option Bytes) → key_le a b ≡ true → is_below b hi ≡ true → is_below a hi ≡ true
below_down a b None le below = refl
below_down a b (Some hi) le below = le_lt a b hi le below

-- a row in a range begins in it
pub begins_in : (range : Bytes × Option Bytes) (r : TableRow) → key_le r.smallest r.largest ≡ true → lies_in range r ≡ true → in_range range.0 range.1 r.smallest ≡ true
begins_in range r ordered lies =
    let parts = and_parts (key_le range.0 r.smallest) (is_below r.largest range.1) lies in
    and_from (key_le range.0 r.smallest) (is_below r.smallest range.1) parts.0 (below_down r.smallest r.largest range.1 ordered parts.1)

-- a key from another one on, and below the end of that one's guard, has the same guard
same_guard : (lo : Bytes) (gs : List Bytes) (a b : Bytes) → key_le a b ≡ true → is_below b (range_after lo gs a).1 ≡ true → guard_of b gs ≡ guard_of a gs
same_guard lo [] a b le below = refl
same_guard lo (k ∷ ks) a b le below = by (key_lt a k) refl (same_guard k ks a b le)
  where
    by : (c : Bool) → key_lt a k ≡ c → (is_below b (range_after k ks a).1 ≡ true → guard_of b ks ≡ guard_of a ks) → guard_of b (k ∷ ks) ≡ guard_of a (k ∷ ks)
    by true is rest =
        let here : key_lt b k ≡ true = ap (λ c. is_below b (if c then (lo, Some k) else range_after k ks a).1) (sym is) ∙ below in
        ap (λ c. if c then 0 else suc (guard_of b ks)) here ∙ sym (ap (λ c. if c then 0 else suc (guard_of a ks)) is)
    by false is rest =
        let past : key_lt b k ≡ false = not-true (key_lt b k) (le_trans k a b (ap not is) le) in
        let inside : is_below b (range_after k ks a).1 ≡ true = ap (λ c. is_below b (if c then (lo, Some k) else range_after k ks a).1) (sym is) ∙ below in
        ap (λ c. if c then 0 else suc (guard_of b ks)) past ∙ ap suc (rest inside) ∙ sym (ap (λ c. if c then 0 else suc (guard_of a ks)) is)

-- a row that lies in the range of the guard in which it begins lies in the guard
pub lies_in_one : (gs : List Bytes) (r : TableRow) → key_le r.smallest r.largest ≡ true → lies_in (range_of gs r.smallest) r ≡ true → LiesInOne gs r
lies_in_one gs r ordered lies = record {
  smallest = refl;
  largest = same_guard [] gs r.smallest r.largest ordered (and_parts (key_le (range_of gs r.smallest).0 r.smallest) (is_below r.largest (range_of gs r.smallest).1) lies).1;
  ordered = ordered;
}

-- ---- rows of an edit

new_ordered : (session : ℕ) (used : List ℕ) (outputs : List TableRow) (r : TableRow) → rows_are_new session used outputs ≡ true → IsIn r outputs → key_le r.smallest r.largest ≡ true
new_ordered session used outputs r new among =
    let all = and_parts (list_all (is_new session used) outputs) (numbers_differ (numbers outputs)) new in
    let one = at_of (is_new session used) outputs r all.0 among in
    let form = (and_parts (is_row 0 r && is_of_session session r.number) (not (has_number r.number used)) one).0 in
    let row = (and_parts (is_row 0 r) (is_of_session session r.number) form).0 in
    let three = (and_parts (key_le r.smallest r.largest && nat_le r.first r.last && nat_lt 0 r.entries) (r.tier == 0) row).0 in
    let two = (and_parts (key_le r.smallest r.largest && nat_le r.first r.last) (nat_lt 0 r.entries) three).0 in
    (and_parts (key_le r.smallest r.largest) (nat_le r.first r.last) two).0

-- each row lies in one guard of the level
pub all_lie : (session : ℕ) (used : List ℕ) (gs : List Bytes) (outputs : List TableRow) → rows_are_new session used outputs ≡ true
    → ((r : TableRow) → IsIn r outputs → key_le r.smallest r.largest ≡ true → lies_in (range_of gs r.smallest) r ≡ true) → AllByRecursion (LiesInOne gs) outputs
all_lie session used gs outputs new lies =
    all_in (LiesInOne gs) outputs (λ r among. let ordered = new_ordered session used outputs r new among in lies_in_one gs r ordered (lies r among ordered))

-- the inputs are numbers of live tables at the level
numbers_of : (s : Shape) (level : ℕ) (all ns : List ℕ) → ((n : ℕ) → IsIn n ns → has_number n all ≡ true) → list_all (is_live s) ns ≡ true → AreAt level (rows_numbered all s.live) → AreNumbersOf ns (rows_at level s.live)
numbers_of s level all [] each live at = tt
numbers_of s level all (n ∷ ns) each live at =
    let parts = and_parts (is_live s n) (list_all (is_live s) ns) live in
    let found = any_of s.live n parts.0 in
    let named : has_number found.0.number all ≡ true = subst (λ m. has_number m all ≡ true) (sym found.1.1) (each n (inl refl)) in
    let own = at_of (λ (r : TableRow). r.level == level) (rows_numbered all s.live) found.0 at (filtered_in (λ (r : TableRow). has_number r.number all) found.0 s.live found.1.0 named) in (
      (found.0, (filtered_in (λ (r : TableRow). r.level == level) found.0 s.live found.1.0 own, found.1.1)),
      numbers_of s level all ns (λ m h. each m (inr h)) parts.1 at,
    )

pub inputs_at : (o : Column) (s : Shape) (level : ℕ) (ns : List ℕ) → IsSound o s → numbers_ascend ns ≡ true → list_all (is_live s) ns ≡ true → AreAt level (rows_numbered ns s.live) → AreInputs ns (rows_at level s.live)
inputs_at o s level ns sound ascend live at = record {
  differ = differ_filter (λ r. r.level == level) s.live sound.numbers.differ;
  ascend = ascend;
  among = numbers_of s level ns ns (λ n h. has_in n ns h) live at;
}

pub no_inputs : (level : ℕ) (live : List TableRow) → Differ live → AreInputs [] (rows_at level live)
no_inputs level live differ = record { differ = differ_filter (λ r. r.level == level) live differ; ascend = refl; among = tt }

pub none_own : (level : ℕ) (live : List TableRow) → AreAt level (rows_numbered [] live)
none_own level live = ap (list_all (λ (r : TableRow). r.level == level)) (numbered_none live)

-- ---- what it tells that an edit fits

pub record FlushFits (row : TableRow) : Type 0 where
  pub at : row.level ≡ 0

pub flush_fits : (o : Column) (s : Shape) (row : TableRow) (from to log : ℕ) (chosen : List Chosen) → fits o s (Flush row from to log chosen) ≡ true → FlushFits row
flush_fits o s row from to log chosen h =
    let p11 = and_parts _ _ h in
    let p10 = and_parts _ _ p11.0 in
    let p9 = and_parts _ _ p10.0 in
    let p8 = and_parts _ _ p9.0 in
    let p7 = and_parts _ _ p8.0 in
    record { at = eqb-true row.level 0 p7.1 }

pub record MoveFits (o : Column) (s : Shape) (level : ℕ) (inputs : List ℕ) (outputs : List TableRow) : Type 0 where
  pub above : level < o.last_level
  pub ascend : numbers_ascend inputs ≡ true
  pub live : list_all (is_live s) inputs ≡ true
  pub at : AreAt level (rows_numbered inputs s.live)
  pub below : AreAt (suc level) outputs
  pub apart : list_all (λ r. lies_in (range_of_row (guards_at s (suc level)) r) r) outputs ≡ true
  pub fresh : rows_are_new s.session s.used outputs ≡ true

pub move_fits : (o : Column) (s : Shape) (level floor : ℕ) (inputs : List ℕ) (outputs : List TableRow) → fits o s (Move level floor inputs outputs) ≡ true → MoveFits o s level inputs outputs
move_fits o s level floor inputs outputs h =
    let p6 = and_parts _ _ h in
    let p5 = and_parts _ _ p6.0 in
    let p4 = and_parts _ _ p5.0 in
    let p3 = and_parts _ _ p4.0 in
    let p2 = and_parts _ _ p3.0 in
    let i5 = and_parts _ _ p2.1 in
    let i4 = and_parts _ _ i5.0 in
    let i3 = and_parts _ _ i4.0 in
    let i2 = and_parts _ _ i3.0 in
    record { above = ltb-true level o.last_level p2.0; ascend = i2.0; live = i3.1; at = i4.1; below = p3.1; apart = (and_parts _ _ p5.1).0; fresh = p6.1 }

pub record MergeFits (o : Column) (s : Shape) (inputs : List ℕ) (outputs : List TableRow) : Type 0 where
  pub ascend : numbers_ascend inputs ≡ true
  pub live : list_all (is_live s) inputs ≡ true
  pub at : AreAt o.last_level (rows_numbered inputs s.live)
  pub inside : list_all (lies_in (input_range s o.last_level inputs)) outputs ≡ true
  pub below : AreAt o.last_level outputs
  pub fresh : rows_are_new s.session s.used outputs ≡ true

pub merge_fits : (o : Column) (s : Shape) (floor : ℕ) (whole : Bool) (inputs : List ℕ) (outputs : List TableRow) → fits o s (Merge floor whole inputs outputs) ≡ true → MergeFits o s inputs outputs
merge_fits o s floor whole inputs outputs h =
    let p5 = and_parts _ _ h in
    let p4 = and_parts _ _ p5.0 in
    let p3 = and_parts _ _ p4.0 in
    let p2 = and_parts _ _ p3.0 in
    let i5 = and_parts _ _ p2.0 in
    let i4 = and_parts _ _ i5.0 in
    let i3 = and_parts _ _ i4.0 in
    let i2 = and_parts _ _ i3.0 in
    record { ascend = i2.0; live = i3.1; at = i4.1; inside = p4.1; below = p3.1; fresh = p5.1 }

-- the range that the keys of a Cut split
abbrev pub cut_range : Shape → ℕ → List Bytes → Bytes × Option Bytes
cut_range s level keys = range_of (guards_at s level) (first_of keys)

pub record CutFits (o : Column) (s : Shape) (level : ℕ) (keys : List Bytes) (inputs : List ℕ) (outputs : List TableRow) : Type 0 where
  pub from : 1 ≤ level
  pub upto : level ≤ o.last_level
  pub may : list_all (may_be_cut o s level (cut_range s level keys)) keys ≡ true
  pub ascend : numbers_ascend inputs ≡ true
  pub live : list_all (is_live s) inputs ≡ true
  pub straddled : list_all (is_straddled level (cut_range s level keys) keys) (rows_numbered inputs s.live) ≡ true
  pub others : list_all (λ r. not (is_straddled level (cut_range s level keys) keys r)) (rows_without inputs s.live) ≡ true
  pub placed : list_all (is_cut_output level (cut_range s level keys) (with_keys keys (guards_at s level))) outputs ≡ true
  pub fresh : rows_are_new s.session s.used outputs ≡ true

pub cut_fits : (o : Column) (s : Shape) (level : ℕ) (keys : List Bytes) (inputs : List ℕ) (outputs : List TableRow) → fits o s (Cut level keys inputs outputs) ≡ true → CutFits o s level keys inputs outputs
cut_fits o s level keys inputs outputs h =
    let p10 = and_parts _ _ h in
    let p9 = and_parts _ _ p10.0 in
    let p8 = and_parts _ _ p9.0 in
    let p7 = and_parts _ _ p8.0 in
    let p6 = and_parts _ _ p7.0 in
    let p5 = and_parts _ _ p6.0 in
    let p4 = and_parts _ _ p5.0 in
    let p3 = and_parts _ _ p4.0 in
    let p2 = and_parts _ _ p3.0 in
    let p1 = and_parts _ _ p2.0 in
    record {
      from = leb-true 1 level p1.0;
      upto = leb-true level o.last_level p1.1;
      may = p4.1;
      ascend = p5.1;
      live = p6.1;
      straddled = p7.1;
      others = p8.1;
      placed = p9.1;
      fresh = p10.1;
    }

-- ---- a key of a Cut splits no table but its inputs

key_in_range : (o : Column) (s : Shape) (level : ℕ) (range : Bytes × Option Bytes) (keys : List Bytes) (key : Bytes) → list_all (may_be_cut o s level range) keys ≡ true → IsIn key keys → in_range range.0 range.1 key ≡ true
key_in_range o s level range keys key may among =
    let one = at_of (may_be_cut o s level range) keys key may among in
    let three = (and_parts (is_candidate s.chosen level key && in_range range.0 range.1 key && not (is_guard s level key)) (level == o.last_level || is_guard s (suc level) key) one).0 in
    let two = (and_parts (is_candidate s.chosen level key && in_range range.0 range.1 key) (not (is_guard s level key)) three).0 in
    (and_parts (is_candidate s.chosen level key) (in_range range.0 range.1 key) two).1

-- a row that a key of the range splits lies in the range
split_lies : (gs : List Bytes) (first key : Bytes) (r : TableRow) → Ascend [] gs → in_range (range_of gs first).0 (range_of gs first).1 key ≡ true
    → lies_in (range_of gs r.smallest) r ≡ true → key_lt r.smallest key ≡ true → key_le key r.largest ≡ true → lies_in (range_of gs first) r ≡ true
split_lies gs first key r ascend inside lies below above =
    let own = range_of gs r.smallest in
    let parts = and_parts (key_le own.0 r.smallest) (is_below r.largest own.1) lies in
    let key_inside : in_range own.0 own.1 key ≡ true = and_from (key_le own.0 key) (is_below key own.1) (le_trans own.0 r.smallest key parts.0 (lt_le_weak r.smallest key below)) (below_down key r.largest own.1 above parts.1) in
    let same : range_of gs r.smallest ≡ range_of gs first = sym (one_range gs r.smallest key ascend key_inside) ∙ one_range gs first key ascend inside in
    subst (λ (range : Bytes × Option Bytes). lies_in range r ≡ true) same lies

pub whole_rows : (o : Column) (s : Shape) (level : ℕ) (keys : List Bytes) (inputs : List ℕ) (outputs : List TableRow) → IsSound o s → Ascend [] (guards_at s level) → CutFits o s level keys inputs outputs
    → AllByRecursion (λ key. AllByRecursion (IsWhole key) (rows_without inputs (rows_at level s.live))) keys
whole_rows o s level keys inputs outputs sound ascend fit =
    all_in (λ key. AllByRecursion (IsWhole key) (rows_without inputs (rows_at level s.live))) keys (λ key is_key. all_in (IsWhole key) (rows_without inputs (rows_at level s.live)) (λ r among. one key is_key r among))
  where
    range : Bytes × Option Bytes
    range = cut_range s level keys

    one : (key : Bytes) → IsIn key keys → (r : TableRow) → IsIn r (rows_without inputs (rows_at level s.live)) → key_lt r.smallest key ≡ true → key_lt r.largest key ≡ true
    one key is_key r among below = by (key_lt r.largest key) refl
      where
        kept : IsIn r (rows_at level s.live) × (not (has_number r.number inputs) ≡ true)
        kept = in_filtered (λ (x : TableRow). not (has_number x.number inputs)) r (rows_at level s.live) among

        own : IsIn r s.live × ((r.level == level) ≡ true)
        own = in_filtered (λ (x : TableRow). x.level == level) r s.live kept.0

        level_is : r.level ≡ level
        level_is = eqb-true r.level level own.1

        not_split : not (is_straddled level range keys r) ≡ true
        not_split = at_of (λ (x : TableRow). not (is_straddled level range keys x)) (rows_without inputs s.live) r fit.others (filtered_in (λ (x : TableRow). not (has_number x.number inputs)) r s.live own.0 kept.1)

        lies : lies_in (range_of (guards_at s level) r.smallest) r ≡ true
        lies = subst (λ l. lies_in (range_of (guards_at s l) r.smallest) r ≡ true) level_is (sound.inside r own.0 (omega (arith, level_is, fit.from)))

        by : (b : Bool) → key_lt r.largest key ≡ b → b ≡ true
        by true e = refl
        by false e =
            let above : key_le key r.largest ≡ true = ap not e in
            let split : straddles r key ≡ true = and_from (key_lt r.smallest key) (key_le key r.largest) below above in
            let inside = key_in_range o s level range keys key fit.may is_key in
            let is : is_straddled level range keys r ≡ true =
            and_from (r.level == level && lies_in range r) (list_any (straddles r) keys)
            (and_from (r.level == level) (lies_in range r) own.1 (split_lies (guards_at s level) (first_of keys) key r ascend inside lies below above)) (any_from (straddles r) keys key is_key split) in
            absurd (true≢false (sym not_split ∙ ap not is))
