-- Each wanted job is one of its kind, so that the one that is picked may begin.
use Rattle.flsm_model.specs.declared.edit.Edit.{Edit}
use Rattle.peb_base.specs.declared.profile.Profile.{Profile}
use Rattle.flsm_model.proofs.histories.Undisturb.{EditIs, IsFlushOf, IsMoveOf, IsCutOf, IsMergeOf, edit_is}
use Rattle.flsm_model.specs.Settling.{HasWork, last_tables}
use Rattle.flsm_model.specs.PickedSettles.{PickedHasWork}
use Rattle.flsm_model.specs.Writes.{total, one_if}
use Rattle.std.proofs.Common.{nat_le, ◌≡◌, ℕ, zero, suc, ◌+◌, ◌-◌, ◌<◌, ◌≤◌, Bool, true, false, ◌&&◌, ◌||◌, not, List, [], ◌∷◌, ◌++◌, map, length, inl, inr, refl, sym, ◌∙◌, ap, subst, arith, cond}
use Rattle.std.specs.Prelude.{◌==◌, nat_lt, filter, Option, Some, None}
use Rattle.std.specs.List.{list_all}
use Rattle.std.proofs.lemmas.Bool.{and_parts, and_from, or_left, or_right, cases_Bool, eq-eqb, ltb-true, lt-ltb, leb-true, le-leb, true≢false, cases_lt}
use Rattle.peb_base.specs.Keys.{Bytes, key_eq}
use Rattle.peb_base.specs.KeyLaws.{same_key, key_self}
use Rattle.peb_base.specs.Members.{IsIn}
use Rattle.peb_base.specs.Profiles.{column, Column}
use Rattle.peb_base.specs.declared.table_row.TableRow.{TableRow}
use Rattle.flsm_model.specs.declared.chosen.Chosen.{Chosen}
use Rattle.flsm_model.specs.declared.job_kind.JobKind.TheVariants.{Flush as FlushJob, Move as MoveJob, Cut as CutJob, Merge as MergeJob}
use Rattle.peb_base.specs.declared.profile.Profile.TheVariants.{Normal, Small}
use Rattle.flsm_model.specs.declared.job.Job.{Job}
use Rattle.flsm_model.specs.Ranges.{in_range, first_of, range_of}
use Rattle.flsm_model.specs.Shape.{Shape, guards_at, has_number, rows_numbered, rows_without}
use Rattle.flsm_model.specs.Fits.{lies_in, is_chosen, is_candidate, is_guard, is_some_list, is_straddled, input_range, are_inputs, numbers_differ, may_be_cut}
use Rattle.flsm_model.specs.Sound.{IsSound}
use Rattle.flsm_model.specs.Events.{Session, Standing, base}
use Rattle.flsm_model.specs.Claims.{is_free}
use Rattle.flsm_model.specs.Jobs.{is_guard_from, are_all_tables, are_tables, IsOfKind, IsMove, IsCut, IsMerge}
use Rattle.flsm_model.specs.Legal.{AlwaysFormed}
use Rattle.flsm_model.specs.Steps.{run}
use Rattle.flsm_model.specs.Picking.{ranges_at, rows_in, room_at, over_at, numbers_of, chosen_keys, move_job, cut_job, merge_job, missing, cut_or, job_at, target_jobs, flush_jobs, wanted, beginning}
use Rattle.flsm_model.specs.Picked.{PickedIsLawful}
use Rattle.flsm_model.proofs.guards.Guards.{same_range, least}
use Rattle.flsm_model.proofs.guards.InGuards.{InGuards, start_in}
use Rattle.flsm_model.proofs.guards.NewRows.{first_range, some_rows}
use Rattle.flsm_model.proofs.guards.ShapeLaw.{records_sound}
use Rattle.flsm_model.proofs.picking.Picks.{find_in, in_map, taken_ascend, taken_live, taken_some, rows_pass, row_taken, others_fail, taken_row, range_is, range_has, begins_in, chosen_pass, pass_chosen, chosen_is, chosen_ascend, none_pass}
use Rattle.flsm_model.proofs.histories.Whole.{Formed, formed_always}
use Rattle.flsm_model.proofs.lists.Lists.{in_any, in_filter, in_append, any_in, all_of}

some_of : {X : Type 0} (xs : List X) → 0 < length xs → (x : X) × IsIn x xs
some_of [] l = absurd (omega (arith, l))
some_of (x ∷ xs) l = (x, inl refl)

first_in : (ks : List Bytes) (k : Bytes) → IsIn k ks → IsIn (first_of ks) ks
first_in [] k i = absurd i
first_in (q ∷ ks) k i = inl refl

some_list : {X : Type 0} (x : X) (xs : List X) → IsIn x xs → is_some_list xs ≡ true
some_list x [] i = absurd i
some_list x (y ∷ ys) i = refl

-- a candidate of a level is one of each deeper level
candidate_deeper : (cs : List Chosen) (level deeper : ℕ) (key : Bytes) → level ≤ deeper → is_candidate cs level key ≡ true → is_candidate cs deeper key ≡ true
candidate_deeper cs level deeper key l h =
    let c = any_in (λ (d : Chosen). nat_le d.level level && key_eq key d.key) cs h in
    let p = and_parts (nat_le c.0.level level) (key_eq key c.0.key) c.2 in
    in_any (λ (d : Chosen). nat_le d.level deeper && key_eq key d.key) c.0 cs c.1 (and_from _ _ (le-leb c.0.level deeper (omega (arith, leb-true c.0.level level p.0, l))) p.1)

-- ---- the target of a range: a Cut at the deepest level where a candidate is missing, or the Move

pub data Target (o : Column) (s : Shape) (level : ℕ) (range : Bytes × Option Bytes) (total : ℕ) (move k : Job) : Type 0 where
  Moves : k ≡ move → ((d : ℕ) → d < total → missing s level range (level + d) ≡ []) → Target o s level range total move k
  Cuts : (c : ℕ) (key : Bytes) → c < total → IsIn key (missing s level range (level + c)) → ((d : ℕ) → c < d → d < total → missing s level range (level + d) ≡ [])
      → k ≡ cut_job o s (level + c) (range_of (guards_at s (level + c)) key) → Target o s level range total move k

pub target : (o : Column) (s : Shape) (level : ℕ) (range : Bytes × Option Bytes) (total count : ℕ) (move : Job) → count ≤ total
    → ((d : ℕ) → count ≤ d → d < total → missing s level range (level + d) ≡ []) → Target o s level range total move (job_at o s level range count move)
target o s level range total zero move l deep = Moves refl (λ d m. deep d (omega arith) m)
target o s level range total (suc count) move l deep = by (missing s level range (level + count)) refl (λ h. target o s level range total count move (omega (arith, l)) h)
  where
    deeper : missing s level range (level + count) ≡ [] → (d : ℕ) → count ≤ d → d < total → missing s level range (level + d) ≡ []
    deeper e d a b = elim (cases_lt count d) [
      | inl more ↦ deep d more b
      | inr less ↦ let same : count ≡ d = omega (arith, a, less) in subst (λ x. missing s level range (level + x) ≡ []) same e
    ]

    by : (m : List Bytes) → missing s level range (level + count) ≡ m
        → (((d : ℕ) → count ≤ d → d < total → missing s level range (level + d) ≡ []) → Target o s level range total move (job_at o s level range count move))
        → Target o s level range total move (cut_or o s (level + count) m (job_at o s level range count move))
    by [] e ih = ih (deeper e)
    by (key ∷ keys) e ih = Cuts count key l (subst (IsIn key) (sym e) (inl refl)) (λ d a b. deep d a b) refl

pub targets : (o : Column) (s : Shape) (from count : ℕ) (k : Job) → IsIn k (target_jobs o s from count)
    → (level : ℕ) × (range : Bytes × Option Bytes) × (level < from + count) × IsIn range (over_at o s level) × (k ≡ job_at o s (suc level) range (o.last_level - level) (move_job s level range))
targets o s from zero k i = absurd i
targets o s from (suc count) k i = elim (in_append k (map (λ range. job_at o s (suc from) range (o.last_level - from) (move_job s from range)) (over_at o s from)) (target_jobs o s (suc from) count) i) [
  | inl here ↦ let x = in_map (λ range. job_at o s (suc from) range (o.last_level - from) (move_job s from range)) (over_at o s from) k here in (from, x.0, omega arith, x.1, x.2)
  | inr deeper ↦ let x = targets o s (suc from) count k deeper in (x.0, x.1, omega (arith, x.2), x.3, x.4)
]

-- how many rows of a level a test takes, of all that another one takes
count_taken : (last : ℕ) (has test : TableRow → Bool) (rs : List TableRow) → ((r : TableRow) → IsIn r rs → test r ≡ true → (has r ≡ true) × ((r.level == last) ≡ true))
    → length (filter test rs) ≤ total (λ (r : TableRow). one_if (r.level == last)) (filter has rs)
count_taken last has test [] h = omega arith
count_taken last has test (r ∷ rs) h = by (test r) (has r) refl refl (count_taken last has test rs (λ x i. h x (inr i)))
  where
    by : (a b : Bool) → test r ≡ a → has r ≡ b → length (filter test rs) ≤ total (λ (x : TableRow). one_if (x.level == last)) (filter has rs)
        → length (cond a (r ∷ filter test rs) (filter test rs)) ≤ total (λ (x : TableRow). one_if (x.level == last)) (cond b (r ∷ filter has rs) (filter has rs))
    by true true ea eb ih = let one : one_if (r.level == last) ≡ 1 = ap one_if (h r (inl refl) ea).1 in omega (arith, one, ih)
    by true false ea eb ih = absurd (true≢false (sym (h r (inl refl) ea).0 ∙ eb))
    by false true ea eb ih = omega (arith, ih)
    by false false ea eb ih = ih

move_no_merge : MoveJob ≡ MergeJob → ⊥
move_no_merge e = cc

cut_no_merge : CutJob ≡ MergeJob → ⊥
cut_no_merge e = cc

flush_no_merge : FlushJob ≡ MergeJob → ⊥
flush_no_merge e = cc

-- an edit of a job has work, where a Flush has entries and a Merge two tables
works : (o : Column) (s : Shape) (frozen : ℕ) (j : Job) (e : Edit) → (j.kind ≡ FlushJob → 0 < frozen) → (j.kind ≡ MergeJob → 2 ≤ last_tables o (rows_numbered j.inputs s.live))
    → EditIs j e → HasWork o s frozen e
works o s frozen j e flush two (IsFlushOf q row from to log chosen is) = subst (HasWork o s frozen) (sym is) (flush q)
works o s frozen j e flush two (IsMoveOf q floor outputs is) = subst (HasWork o s frozen) (sym is) tt
works o s frozen j e flush two (IsCutOf q outputs is) = subst (HasWork o s frozen) (sym is) tt
works o s frozen j e flush two (IsMergeOf q floor whole outputs is) = subst (HasWork o s frozen) (sym is) (two q)

-- ---- the kinds

module _ (o : Column) (s : Shape) (g : InGuards o s) (sound : IsSound o s) (n : Session) (numbers floor : ℕ) where
  differ : numbers_differ (map (λ (r : TableRow). r.number) s.live) ≡ true
  differ = sound.numbers.differ

  abbrev begun : Job → Job
  begun k = record k { numbers = numbers; floor = floor }

  -- a range that holds too many tables

  module _ (level : ℕ) (range : Bytes × Option Bytes) (over : IsIn range (over_at o s level)) where
    abbrev at : TableRow → Bool
    at r = r.level == level && lies_in range r

    parts : IsIn range (ranges_at s level) × (nat_lt (room_at o level) (length (rows_in s level range)) ≡ true)
    parts = in_filter (λ range. nat_lt (room_at o level) (length (rows_in s level range))) range (ranges_at s level) over

    row : (r : TableRow) × IsIn r (rows_in s level range)
    row = some_of (rows_in s level range) (omega (arith, ltb-true (room_at o level) (length (rows_in s level range)) parts.1))

    begins : (r : TableRow) → IsIn r s.live → lies_in range r ≡ true → in_range range.0 range.1 r.smallest ≡ true
    begins r i h = start_in range r (sound.rows r i) h

    own_range : range_of (guards_at s level) range.0 ≡ range
    own_range =
        let f = in_filter at row.0 s.live row.1 in
        range_is [] (guards_at s level) range range.0 (g.ascend level) parts.0 (begins_in range.0 range.1 row.0.smallest (begins row.0 f.0 (and_parts (row.0.level == level) _ f.1).1))

    abbrev inputs : List ℕ
    inputs = numbers_of (rows_in s level range)

    all_at : list_all (λ r. r.level == level) (rows_numbered inputs s.live) ≡ true
    all_at = all_of (λ r. r.level == level) (rows_numbered inputs s.live) (λ r i. (and_parts (r.level == level) _ (rows_pass s differ at r i)).0)

    all_lie : (r : TableRow) → IsIn r (rows_numbered inputs s.live) → lies_in range r ≡ true
    all_lie r i = (and_parts (r.level == level) _ (rows_pass s differ at r i)).1

    some : is_some_list inputs ≡ true
    some = taken_some s differ at row.0 row.1

    first : input_range s level inputs ≡ range
    first =
        first_range (guards_at s level) range.0 range.1 (rows_numbered inputs s.live) (g.ascend level) own_range (some_rows s inputs some (taken_live s differ at))
        (λ r i. (sound.rows r (in_filter (λ (z : TableRow). has_number z.number inputs) r s.live i).0, all_lie r i))

    are_in : are_inputs s level inputs ≡ true
    are_in =
        and_from _ _ (and_from _ _ (and_from _ _ (and_from _ _ (taken_ascend s differ at) some) (taken_live s differ at)) all_at)
        (subst (λ z. list_all (lies_in z) (rows_numbered inputs s.live) ≡ true) (sym first) (all_of (lies_in range) (rows_numbered inputs s.live) all_lie))

    tables_in : are_tables s range inputs ≡ true
    tables_in = all_of _ s.live (λ r i. elim (cases_Bool (has_number r.number inputs)) [
      | inl h ↦ or_right (not (has_number r.number inputs)) _ (and_parts (r.level == level) _ (taken_row s differ at r i h)).1
      | inr e ↦ or_left _ _ (ap not e)
    ])

    all_tables : are_all_tables s level range inputs ≡ true
    all_tables = all_of _ s.live (λ r i. elim (cases_Bool (at r)) [
      | inl h ↦ or_right (not (at r)) _ (row_taken s differ at r i h)
      | inr e ↦ or_left _ _ (ap not e)
    ])

  merge_kind : (range : Bytes × Option Bytes) → IsIn range (over_at o s o.last_level) → IsMerge o s n (begun (merge_job o s range))
  merge_kind range over =
      record {
        level = refl;
        range = own_range o.last_level range over;
        fit = and_from _ _ (and_from _ _ (and_from _ _ (and_from _ _ (are_in o.last_level range over) refl) refl) refl) refl;
        inside = tables_in o.last_level range over;
        whole = sym (all_tables o.last_level range over);
        keys = refl;
      }

  -- which candidates are missing

  abbrev test : ℕ → Bytes × Option Bytes → ℕ → Bytes → Bool
  test level range other key = is_candidate s.chosen level key && in_range range.0 range.1 key && not (is_guard s other key)

  -- a candidate of the range is a guard where none is missing
  guard_there : (level : ℕ) (range : Bytes × Option Bytes) (other : ℕ) → missing s level range other ≡ [] → (c : Chosen) → IsIn c s.chosen
      → (is_candidate s.chosen level c.key && in_range range.0 range.1 c.key) ≡ true → is_guard s other c.key ≡ true
  guard_there level range other none c i h = elim (cases_Bool (is_guard s other c.key)) [
    | inl is ↦ is
    | inr e ↦ absurd (true≢false (sym (and_from _ _ h (ap not e)) ∙ none_pass (test level range other) s none c i))
  ]

  guard_from : (level : ℕ) (range : Bytes × Option Bytes) (c : Chosen) → IsIn c s.chosen → (is_candidate s.chosen level c.key && in_range range.0 range.1 c.key) ≡ true
      → (at count : ℕ) → ((d : ℕ) → d < count → missing s level range (at + d) ≡ []) → is_guard_from s c.key at count ≡ true
  guard_from level range c i h at zero none = refl
  guard_from level range c i h at (suc count) none =
      and_from _ _ (guard_there level range at (subst (λ x. missing s level range x ≡ []) (plus_zero at) (none 0 (omega arith))) c i h)
      (guard_from level range c i h (suc at) count (λ d l. subst (λ x. missing s level range x ≡ []) (plus_one at d) (none (suc d) (omega (arith, l)))))
    where
      plus_zero : (a : ℕ) → a + 0 ≡ a
      plus_zero a = omega arith

      plus_one : (a d : ℕ) → a + suc d ≡ suc a + d
      plus_one a d = omega arith

  -- a chosen key is a candidate of its level and of deeper ones
  own_candidate : (level : ℕ) (range : Bytes × Option Bytes) (c : Chosen) → IsIn c s.chosen → (nat_le c.level level && in_range range.0 range.1 c.key) ≡ true
      → (is_candidate s.chosen level c.key && in_range range.0 range.1 c.key) ≡ true
  own_candidate level range c i h =
      let p = and_parts (nat_le c.level level) (in_range range.0 range.1 c.key) h in
      and_from _ _ (in_any (λ (d : Chosen). nat_le d.level level && key_eq c.key d.key) c s.chosen i (and_from _ _ p.0 (key_self c.key))) p.1

  move_kind : (level : ℕ) (range : Bytes × Option Bytes) → level < o.last_level → IsIn range (over_at o s level)
      → ((d : ℕ) → d < o.last_level - level → missing s (suc level) range (suc level + d) ≡ []) → IsMove o s n (begun (move_job s level range))
  move_kind level range l over none =
      record {
        range = own_range level range over;
        fit = and_from _ _ (and_from _ _ (and_from _ _ (and_from _ _ (and_from _ _ (lt-ltb level o.last_level l) (are_in level range over)) refl) refl) refl) refl;
        inside = tables_in level range over;
        all = all_tables level range over;
        committed = all_of _ s.chosen (λ c i. elim (cases_Bool (nat_le c.level (suc level) && in_range range.0 range.1 c.key)) [
          | inl h ↦ or_right (not (nat_le c.level (suc level) && in_range range.0 range.1 c.key)) _ (guard_from (suc level) range c i (own_candidate (suc level) range c i h) (suc level) (suc o.last_level - suc level) (λ d m. none d (omega (arith, m))))
          | inr e ↦ or_left _ _ (ap not e)
        ]);
        keys = refl;
      }

  -- a Cut at a level, by a key that is missing there and at no deeper level

  module _ (level : ℕ) (range : Bytes × Option Bytes) (c : ℕ) (key : Bytes) (from : 1 ≤ level) (upto : level + c ≤ o.last_level)
      (here : IsIn key (missing s level range (level + c)))
      (below : level + c < o.last_level → missing s level range (suc (level + c)) ≡ []) where
    abbrev M : ℕ
    M = level + c

    abbrev gs : List Bytes
    gs = guards_at s M

    abbrev cut_range : Bytes × Option Bytes
    cut_range = range_of gs key

    abbrev may : Bytes → Bool
    may k = may_be_cut o s M cut_range k

    abbrev keys : List Bytes
    keys = chosen_keys (may_be_cut o s M cut_range) s

    passes : (is_candidate s.chosen level key && in_range range.0 range.1 key) ≡ true
    passes = (and_parts (is_candidate s.chosen level key && in_range range.0 range.1 key) (not (is_guard s M key)) (chosen_pass (test level range M) s key here)).0

    fresh : not (is_guard s M key) ≡ true
    fresh = (and_parts (is_candidate s.chosen level key && in_range range.0 range.1 key) (not (is_guard s M key)) (chosen_pass (test level range M) s key here)).1

    chosen : is_chosen s.chosen key ≡ true
    chosen = chosen_is (test level range M) s key here

    has : in_range cut_range.0 cut_range.1 key ≡ true
    has = range_has [] gs key (least key)

    next : (M == o.last_level || is_guard s (suc M) key) ≡ true
    next = elim (cases_lt M o.last_level) [
      | inl less ↦
          let x = any_in (λ (z : Chosen). key_eq key z.key) s.chosen chosen in
          let same : key ≡ x.0.key = same_key key x.0.key x.2 in
          or_right (M == o.last_level) _ (subst (λ z. is_guard s (suc M) z ≡ true) (sym same)
          (guard_there level range (suc M) (below less) x.0 x.1 (subst (λ z. (is_candidate s.chosen level z && in_range range.0 range.1 z) ≡ true) same passes)))
      | inr more ↦ let same : M ≡ o.last_level = omega (arith, more, upto) in or_left _ _ (eq-eqb M o.last_level same)
    ]

    own_key : may_be_cut o s M cut_range key ≡ true
    own_key =
        let deeper : is_candidate s.chosen M key ≡ true = candidate_deeper s.chosen level M key (omega arith) (and_parts (is_candidate s.chosen level key) _ passes).0 in
        and_from _ _ (and_from _ _ (and_from _ _ deeper has) fresh) next

    own_in : IsIn key keys
    own_in =
        let x = any_in (λ (z : Chosen). key_eq key z.key) s.chosen chosen in
        let same : key ≡ x.0.key = same_key key x.0.key x.2 in
        subst (λ z. IsIn z keys) (sym same) (pass_chosen (may_be_cut o s M cut_range) s x.0 x.1 (subst (λ z. may_be_cut o s M cut_range z ≡ true) same own_key))

    each_key : list_all (may_be_cut o s M cut_range) keys ≡ true
    each_key = all_of (may_be_cut o s M cut_range) keys (λ k i. chosen_pass (may_be_cut o s M cut_range) s k i)

    key_inside : (k : Bytes) → may_be_cut o s M cut_range k ≡ true → in_range cut_range.0 cut_range.1 k ≡ true
    key_inside k h =
        let p3 = and_parts (is_candidate s.chosen M k && in_range cut_range.0 cut_range.1 k && not (is_guard s M k)) (M == o.last_level || is_guard s (suc M) k) h in
        let p2 = and_parts (is_candidate s.chosen M k && in_range cut_range.0 cut_range.1 k) (not (is_guard s M k)) p3.0 in
        (and_parts (is_candidate s.chosen M k) (in_range cut_range.0 cut_range.1 k) p2.0).1

    first_range_is : range_of gs (first_of keys) ≡ cut_range
    first_range_is = same_range [] gs key (first_of keys) (g.ascend M) (key_inside (first_of keys) (chosen_pass (may_be_cut o s M cut_range) s (first_of keys) (first_in keys key own_in)))

    abbrev split : TableRow → Bool
    split r = is_straddled M cut_range keys r

    abbrev cut_inputs : List ℕ
    cut_inputs = numbers_of (filter (is_straddled M cut_range keys) s.live)

    cut_range_own : range_of gs cut_range.0 ≡ cut_range
    cut_range_own = same_range [] gs key cut_range.0 (g.ascend M) (begins_in cut_range.0 cut_range.1 key has)

    cut_kind : IsCut o s n (begun (cut_job o s M cut_range))
    cut_kind =
        record {
          range = cut_range_own;
          fit = and_from _ _ (and_from _ _ (and_from _ _ (and_from _ _ (and_from _ _ (and_from _ _ (and_from _ _ (and_from _ _ (and_from _ _ (and_from _ _
              (le-leb 1 M (omega (arith, from)))
              (le-leb M o.last_level upto))
              (chosen_ascend (may_be_cut o s M cut_range) s))
              (some_list key keys own_in))
              (subst (λ z. list_all (may_be_cut o s M z) keys ≡ true) (sym first_range_is) each_key))
              (taken_ascend s differ split))
              (taken_live s differ split))
              (subst (λ z. list_all (is_straddled M z keys) (rows_numbered cut_inputs s.live) ≡ true) (sym first_range_is) (all_of (is_straddled M cut_range keys) (rows_numbered cut_inputs s.live) (rows_pass s differ split))))
              (subst (λ z. list_all (λ r. not (is_straddled M z keys r)) (rows_without cut_inputs s.live) ≡ true) (sym first_range_is) (all_of (λ r. not (is_straddled M cut_range keys r)) (rows_without cut_inputs s.live) (others_fail s differ split))))
              refl)
              refl;
          inside = all_of _ s.live (λ r i. elim (cases_Bool (has_number r.number cut_inputs)) [
            | inl h ↦ or_right (not (has_number r.number cut_inputs)) _ (and_parts (r.level == M) (lies_in cut_range r) (and_parts (r.level == M && lies_in cut_range r) _ (taken_row s differ split r i h)).0).1
            | inr e ↦ or_left _ _ (ap not e)
          ]);
          keys = all_of (in_range cut_range.0 cut_range.1) keys (λ k i. key_inside k (chosen_pass (may_be_cut o s M cut_range) s k i));
        }

  target_kind : (level : ℕ) (range : Bytes × Option Bytes) → level < o.last_level → IsIn range (over_at o s level) → (k : Job)
      → Target o s (suc level) range (o.last_level - level) (move_job s level range) k → IsOfKind k.kind o s n (begun k)
  target_kind level range l over k (Moves is none) = subst (λ z. IsOfKind z.kind o s n (begun z)) (sym is) (move_kind level range l over none)
  target_kind level range l over k (Cuts c key few here deep is) =
      subst (λ z. IsOfKind z.kind o s n (begun z)) (sym is)
      (cut_kind (suc level) range c key (omega arith) (omega (arith, few, l)) here (λ less. subst (λ x. missing s (suc level) range x ≡ []) (plus_one level c) (deep (suc c) (omega arith) (omega (arith, less)))))
    where
      plus_one : (a d : ℕ) → suc a + suc d ≡ suc (suc a + d)
      plus_one a d = omega arith

  flush_kind : (f : Option ℕ) → n.frozen ≡ f → (k : Job) → IsIn k (flush_jobs f) → IsOfKind k.kind o s n (begun k)
  flush_kind None e k i = absurd i
  flush_kind (Some to) e k i = elim i [
    | inl is ↦ subst (λ z. IsOfKind z.kind o s n (begun z)) (sym is) (record { frozen = rw e refl; range = (refl, refl); level = refl; nothing = (refl, refl) })
    | inr none ↦ absurd none
  ]

  pub wanted_kind : (k : Job) → IsIn k (wanted o s n.frozen) → IsOfKind k.kind o s n (begun k)
  wanted_kind k i = elim (in_append k (flush_jobs n.frozen ++ target_jobs o s 0 o.last_level) (map (merge_job o s) (over_at o s o.last_level)) i) [
    | inl first ↦ elim (in_append k (flush_jobs n.frozen) (target_jobs o s 0 o.last_level) first) [
      | inl flush ↦ flush_kind n.frozen refl k flush
      | inr other ↦
          let x = targets o s 0 o.last_level k other in
          subst (λ z. IsOfKind z.kind o s n (begun z)) (sym x.4)
          (target_kind x.0 x.1 (omega (arith, x.2)) x.3 _ (target o s (suc x.0) x.1 (o.last_level - x.0) (o.last_level - x.0) (move_job s x.0 x.1) (omega arith) (λ d a b. absurd (omega (arith, a, b)))))
    ]
    | inr last ↦
        let x = in_map (merge_job o s) (over_at o s o.last_level) k last in
        subst (λ z. IsOfKind z.kind o s n (begun z)) (sym x.2) (merge_kind x.0 x.1)
  ]

  -- ---- a Merge that is wanted takes two tables at least

  abbrev pub TakesTwo : Job → Type 0
  TakesTwo k = k.kind ≡ MergeJob → 2 ≤ last_tables o (rows_numbered k.inputs s.live)

  merge_two : 1 ≤ room_at o o.last_level → (range : Bytes × Option Bytes) → IsIn range (over_at o s o.last_level) → TakesTwo (merge_job o s range)
  merge_two room range over e =
      let more = ltb-true (room_at o o.last_level) (length (rows_in s o.last_level range)) (parts o.last_level range over).1 in
      let all = count_taken o.last_level (λ r. has_number r.number (inputs o.last_level range over)) (at o.last_level range over) s.live
      (λ r i t. (row_taken s differ (at o.last_level range over) r i t, (and_parts (r.level == o.last_level) (lies_in range r) t).0)) in
      omega (arith, room, more, all)

  target_two : (level : ℕ) (range : Bytes × Option Bytes) (total at_level : ℕ) (k : Job) → Target o s level range total (move_job s at_level range) k → TakesTwo k
  target_two level range total at_level k (Moves is none) = subst TakesTwo (sym is) (λ e. absurd (move_no_merge e))
  target_two level range total at_level k (Cuts c key few here deep is) = subst TakesTwo (sym is) (λ e. absurd (cut_no_merge e))

  flush_two : (f : Option ℕ) (k : Job) → IsIn k (flush_jobs f) → TakesTwo k
  flush_two None k i = absurd i
  flush_two (Some to) k i = elim i [ inl is ↦ subst TakesTwo (sym is) (λ e. absurd (flush_no_merge e)) | inr none ↦ absurd none ]

  pub wanted_two : 1 ≤ room_at o o.last_level → (k : Job) → IsIn k (wanted o s n.frozen) → TakesTwo k
  wanted_two room k i = elim (in_append k (flush_jobs n.frozen ++ target_jobs o s 0 o.last_level) (map (merge_job o s) (over_at o s o.last_level)) i) [
    | inl first ↦ elim (in_append k (flush_jobs n.frozen) (target_jobs o s 0 o.last_level) first) [
      | inl flush ↦ flush_two n.frozen k flush
      | inr other ↦
          let x = targets o s 0 o.last_level k other in
          subst TakesTwo (sym x.4)
          (target_two (suc x.0) x.1 (o.last_level - x.0) x.0 _ (target o s (suc x.0) x.1 (o.last_level - x.0) (o.last_level - x.0) (move_job s x.0 x.1) (omega arith) (λ d a b. absurd (omega (arith, a, b)))))
    ]
    | inr last ↦
        let x = in_map (merge_job o s) (over_at o s o.last_level) k last in
        subst TakesTwo (sym x.2) (merge_two room x.0 x.1)
  ]

-- ---- the law

pub picked_is_lawful : AlwaysFormed PickedIsLawful
picked_is_lawful p told bs r h b legal n eq j is room =
    let o = column p in
    let w : Standing = run o (base told o bs r) h in
    let fm : Formed o w = formed_always p told bs r h b legal in
    let sound : IsSound o w.tree.shape = subst (IsSound o) (sym fm.shape.shape) (records_sound p w.edits fm.shape.legal) in
    let found = find_in (λ k. is_free k n.running) (map (beginning w n) (wanted o w.tree.shape n.frozen)) j is in
    let k = in_map (beginning w n) (wanted o w.tree.shape n.frozen) j found.0 in
    record {
      free = found.1;
      floor = ap (λ (z : Job). z.floor) k.2;
      numbers = ap (λ (z : Job). z.numbers) k.2;
      room = room;
      kind = subst (λ (z : Job). IsOfKind z.kind o w.tree.shape n z) (sym k.2) (wanted_kind o w.tree.shape fm.shape.guards sound n (beginning w n k.0).numbers (beginning w n k.0).floor k.0 k.1);
    }

-- each level has room for a table
has_room : (p : Profile) → 1 ≤ room_at (column p) (column p).last_level
has_room Normal = omega arith
has_room Small = omega arith

pub picked_has_work : AlwaysFormed PickedHasWork
picked_has_work p told bs r h b legal n eq j is frozen flush e formed =
    let o = column p in
    let w : Standing = run o (base told o bs r) h in
    let s : Shape = w.tree.shape in
    let fm : Formed o w = formed_always p told bs r h b legal in
    let sound : IsSound o s = subst (IsSound o) (sym fm.shape.shape) (records_sound p w.edits fm.shape.legal) in
    let found = find_in (λ k. is_free k n.running) (map (beginning w n) (wanted o s n.frozen)) j is in
    let k = in_map (beginning w n) (wanted o s n.frozen) j found.0 in
    let two : j.kind ≡ MergeJob → 2 ≤ last_tables o (rows_numbered j.inputs s.live) =
    subst (λ (z : Job). z.kind ≡ MergeJob → 2 ≤ last_tables o (rows_numbered z.inputs s.live)) (sym k.2)
    (wanted_two o s fm.shape.guards sound n (beginning w n k.0).numbers (beginning w n k.0).floor (has_room p) k.0 k.1) in
    works o s frozen j e flush two (edit_is n j e formed.same)
