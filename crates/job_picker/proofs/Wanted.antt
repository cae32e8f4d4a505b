-- The jobs that are made of guards are those of the model.
use Rattle.std.proofs.Common.{◌≡◌, ℕ, suc, ◌+◌, ◌-◌, ◌<◌, ◌≤◌, Bool, true, false, ◌&&◌, ◌||◌, not, cond, List, [], ◌∷◌, map, length, refl, sym, ap, ◌∙◌, inl, inr, arith}
use Rattle.std.specs.Prelude.{◌==◌, filter, find, nat_lt, nat_le, Option, Some, None, unwrap_or}
use Rattle.std.specs.List.{list_any}
use Rattle.std.proofs.lemmas.Bool.{and_parts, or_cases, eqb-false, lt-ltb, le-ltb}
use Rattle.peb_base.specs.Guards.{Ascend, guard_of}
use Rattle.peb_base.specs.Keys.{Bytes, key_eq}
use Rattle.peb_base.specs.Profiles.{Column}
use Rattle.peb_base.specs.declared.table_row.TableRow.{TableRow}
use Rattle.flsm_model.specs.declared.chosen.Chosen.{Chosen}
use Rattle.flsm_model.specs.declared.job.Job.{Job}
use Rattle.flsm_model.specs.declared.job_kind.JobKind.TheVariants.{Move as MoveJob, Cut as CutJob, Merge as MergeJob}
use Rattle.flsm_model.specs.Compaction.{straddles}
use Rattle.flsm_model.specs.Fits.{is_chosen, is_candidate, is_guard, may_be_cut, is_straddled}
use Rattle.flsm_model.specs.GuardRanges.{range_at}
use Rattle.flsm_model.specs.Picked.{ChosenAscend, AscendingAreEqual}
use Rattle.flsm_model.specs.Picking.{rows_in, numbers_of, job_over, chosen_keys, move_job, merge_job, cut_job, missing, cut_or, job_at}
use Rattle.flsm_model.specs.Ranges.{in_range, has_key, keys_ascend, range_of}
use Rattle.flsm_model.specs.Shape.{Shape, guards_at}
use Rattle.version.specs.Levels.{Levels}
use Rattle.job_picker.specs.Seen.{keys_at, tables_at, IsVersion, AreCandidates, is_new_guard, job_of_range}
use Rattle.job_picker.proofs.Filters.{few_ascend, has_left}
use Rattle.job_picker.proofs.Seeing.{keys_are, rows_are, range_is, split_rows}

-- the next level by either spelling
next_is : (n : ℕ) → n + 1 ≡ suc n
next_is n = omega arith

-- ---- Moves and Merges

-- the Move of a guard is that of its range
pub move_is : {T : Type 0} (row : T → TableRow) (o : Column) (v : Levels T) (s : Shape) (level guard : ℕ) (range : Bytes × Option Bytes) (inputs : List ℕ) (keys : List Bytes)
    → IsVersion row o v s → level < length v.levels → Ascend [] (keys_at v level) → guard ≤ length (keys_at v level)
    → range ≡ range_at (keys_at v level) guard → inputs ≡ numbers_of (map row (tables_at v level guard)) → keys ≡ filter (in_range range.0 range.1) (keys_at v (level + 1))
    → job_over MoveJob level range inputs keys false ≡ move_job s level (range_at (keys_at v level) guard)
move_is row o v s level guard range inputs keys is less up within range_at_is inputs_are keys_found =
    let R = range_at (keys_at v level) guard in
    let rows = rows_are row o v s is level guard (omega (arith, less)) up within in
    let next : keys_at v (level + 1) ≡ guards_at s (suc level) = ap (keys_at v) (next_is level) ∙ keys_are row o v s is (suc level) (omega (arith, less)) in
    ap (λ ks. job_over MoveJob level range inputs ks false) (keys_found ∙ ap (filter (in_range range.0 range.1)) next)
    ∙ ap (λ ns. job_over MoveJob level range ns (filter (in_range range.0 range.1) (guards_at s (suc level))) false) (inputs_are ∙ ap numbers_of rows)
    ∙ ap (λ r. job_over MoveJob level r (numbers_of (rows_in s level R)) (filter (in_range r.0 r.1) (guards_at s (suc level))) false) range_at_is

-- the Merge of a guard of the last level is that of its range
pub merge_is : {T : Type 0} (row : T → TableRow) (o : Column) (v : Levels T) (s : Shape) (level guard : ℕ) (range : Bytes × Option Bytes) (inputs : List ℕ) (keys : List Bytes)
    → IsVersion row o v s → level ≡ length v.levels → Ascend [] (keys_at v level) → guard ≤ length (keys_at v level)
    → range ≡ range_at (keys_at v level) guard → inputs ≡ numbers_of (map row (tables_at v level guard)) → keys ≡ []
    → job_over MergeJob level range inputs keys true ≡ merge_job o s (range_at (keys_at v level) guard)
merge_is row o v s level guard range inputs keys is last up within range_at_is inputs_are none =
    let R = range_at (keys_at v level) guard in
    let rows = rows_are row o v s is level guard (omega (arith, last)) up within in
    let deepest : level ≡ o.last_level = last ∙ is.stands.count ∙ is.sound.count in
    ap (λ ks. job_over MergeJob level range inputs ks true) none
    ∙ ap (λ ns. job_over MergeJob level range ns [] true) (inputs_are ∙ ap numbers_of rows)
    ∙ ap (λ r. job_over MergeJob level r (numbers_of (rows_in s level R)) [] true) range_at_is
    ∙ ap (λ l. job_over MergeJob l R (numbers_of (rows_in s l R)) [] true) deepest

-- ---- candidates

-- a candidate was chosen
candidate_chosen : (cs : List Chosen) (level : ℕ) (key : Bytes) → is_candidate cs level key ≡ true → is_chosen cs key ≡ true
candidate_chosen [] level key h = h
candidate_chosen (c ∷ cs) level key h = elim (or_cases (nat_le c.level level && key_eq key c.key) (is_candidate cs level key) h) [
  | inl here ↦ ap (λ b. b || is_chosen cs key) (and_parts (nat_le c.level level) (key_eq key c.key) here).1
  | inr later ↦ right_true (key_eq key c.key) (is_chosen cs key) (candidate_chosen cs level key later)
]
  where
    right_true : (a b : Bool) → b ≡ true → (a || b) ≡ true
    right_true true b e = refl
    right_true false b e = e

-- an ascending list of just the chosen keys that pass is the list of these
chosen_are : ChosenAscend → AscendingAreEqual → (test : Bytes → Bool) (s : Shape) (ks : List Bytes) → keys_ascend ks ≡ true → ((key : Bytes) → has_key key ks ≡ (is_chosen s.chosen key && test key)) → ks ≡ chosen_keys test s
chosen_are ascend equal test s ks up has = let own = ascend test s in equal ks (chosen_keys test s) up own.ascend (λ key. has key ∙ sym (own.keys key))

-- a test that only candidates pass may ask for chosen keys too
with_chosen : (chosen a r g : Bool) → (a ≡ true → chosen ≡ true) → ((a && r) && g) ≡ (chosen && ((a && r) && g))
with_chosen true a r g on = refl
with_chosen false true r g on = absurd (off (on refl))
  where
    off : false ≡ true → ⊥
    off e = cc
with_chosen false false r g on = refl

-- tests in another order
regroup : (a r g d : Bool) → ((a && r) && (g && d)) ≡ (((a && r) && g) && d)
regroup true true true d = refl
regroup true true false d = refl
regroup true false g d = refl
regroup false r g d = refl

-- those of the candidates of a range that are no guards of another level
pub missing_is : {T : Type 0} (row : T → TableRow) (o : Column) (v : Levels T) (s : Shape) (cs : List Chosen) (level other : ℕ) (range : Bytes × Option Bytes) (wanted : List Bytes)
    → ChosenAscend → AscendingAreEqual → IsVersion row o v s → AreCandidates cs s → other ≤ length v.levels
    → keys_ascend wanted ≡ true → ((key : Bytes) → has_key key wanted ≡ (is_candidate cs level key && in_range range.0 range.1 key))
    → filter (λ key. not (has_key key (keys_at v other))) wanted ≡ missing s level range other
missing_is row o v s cs level other range wanted ascend equal is candidates le up has =
    chosen_are ascend equal (λ key. is_candidate s.chosen level key && in_range range.0 range.1 key && not (is_guard s other key)) s (filter left wanted) (few_ascend left wanted up)
    (λ key. has_left left key wanted
    ∙ ap (λ b. b && left key) (has key ∙ ap (λ b. b && in_range range.0 range.1 key) (candidates level key))
    ∙ ap (λ ks. (is_candidate s.chosen level key && in_range range.0 range.1 key) && not (has_key key ks)) (keys_are row o v s is other le)
    ∙ with_chosen (is_chosen s.chosen key) (is_candidate s.chosen level key) (in_range range.0 range.1 key) (not (is_guard s other key)) (candidate_chosen s.chosen level key))
  where
    left : Bytes → Bool
    left key = not (has_key key (keys_at v other))

-- ---- Cuts

-- a key may be cut by version and shape alike
new_guard_is : {T : Type 0} (row : T → TableRow) (o : Column) (v : Levels T) (s : Shape) (level : ℕ) (key : Bytes) → IsVersion row o v s → level ≤ length v.levels
    → is_new_guard v o.last_level level key ≡ (not (is_guard s level key) && (level == o.last_level || is_guard s (suc level) key))
new_guard_is row o v s level key is le =
    ap (λ ks. not (has_key key ks) && (level == o.last_level || has_key key (keys_at v (level + 1)))) (keys_are row o v s is level le)
    ∙ ap (λ b. not (is_guard s level key) && b) (by (level == o.last_level) refl)
  where
    by : (b : Bool) → (level == o.last_level) ≡ b → (b || has_key key (keys_at v (level + 1))) ≡ (b || is_guard s (suc level) key)
    by true e = refl
    by false e = ap (has_key key) (ap (keys_at v) (next_is level)
        ∙ keys_are row o v s is (suc level) (let other = eqb-false level o.last_level e in let count = is.stands.count in let last = is.sound.count in omega (arith, other, count, last, le)))

-- the Cut of a guard is that of the range that has the key
pub cut_is : {T : Type 0} (row : T → TableRow) (o : Column) (v : Levels T) (s : Shape) (cs : List Chosen) (level guard : ℕ) (key : Bytes) (range : Bytes × Option Bytes) (found keys : List Bytes) (inputs : List ℕ)
    → ChosenAscend → AscendingAreEqual → IsVersion row o v s → AreCandidates cs s → level ≤ length v.levels → Ascend [] (keys_at v level)
    → guard ≡ guard_of key (keys_at v level) → guard ≤ length (keys_at v level) → range ≡ range_at (keys_at v level) guard
    → keys_ascend found ≡ true → ((k : Bytes) → has_key k found ≡ (is_candidate cs level k && in_range range.0 range.1 k))
    → keys ≡ filter (is_new_guard v o.last_level level) found
    → inputs ≡ numbers_of (filter (λ r. list_any (straddles r) keys) (map row (tables_at v level guard)))
    → job_over CutJob level range inputs keys false ≡ cut_job o s level (range_of (guards_at s level) key)
cut_is row o v s cs level guard key range found keys inputs ascend equal is candidates le up guard_is within range_at_is found_up has keys_left inputs_are =
    ap (λ ns. job_over CutJob level range ns keys false) (inputs_are ∙ ap (λ rows. numbers_of (filter (λ r. list_any (straddles r) keys) rows)) (rows_are row o v s is level guard le up within ∙ ap (rows_in s level) (sym range_at_is)) ∙ ap numbers_of (split_rows s level range keys))
    ∙ ap (λ ks. job_over CutJob level range (numbers_of (filter (is_straddled level range ks) s.live)) ks false) keys_chosen
    ∙ ap (cut_job o s level) (range_at_is ∙ ap (range_at (keys_at v level)) guard_is ∙ sym (range_is (keys_at v level) key) ∙ ap (λ ks. range_of ks key) (keys_are row o v s is level le))
  where
    keys_chosen : keys ≡ chosen_keys (may_be_cut o s level range) s
    keys_chosen = keys_left ∙ chosen_are ascend equal (may_be_cut o s level range) s (filter (is_new_guard v o.last_level level) found) (few_ascend (is_new_guard v o.last_level level) found found_up)
        (λ k. has_left (is_new_guard v o.last_level level) k found
        ∙ ap (λ b. b && is_new_guard v o.last_level level k) (has k ∙ ap (λ b. b && in_range range.0 range.1 k) (candidates level k))
        ∙ ap (λ b. (is_candidate s.chosen level k && in_range range.0 range.1 k) && b) (new_guard_is row o v s level k is le)
        ∙ regroup (is_candidate s.chosen level k) (in_range range.0 range.1 k) (not (is_guard s level k)) (level == o.last_level || is_guard s (suc level) k)
        ∙ chosen_too (is_chosen s.chosen k) (is_candidate s.chosen level k) (in_range range.0 range.1 k) (not (is_guard s level k)) (level == o.last_level || is_guard s (suc level) k) (candidate_chosen s.chosen level k))
      where
        chosen_too : (chosen a r g d : Bool) → (a ≡ true → chosen ≡ true) → (((a && r) && g) && d) ≡ (chosen && (((a && r) && g) && d))
        chosen_too true a r g d on = refl
        chosen_too false true r g d on = absurd (off (on refl))
          where
            off : false ≡ true → ⊥
            off e = cc
        chosen_too false false r g d on = refl

-- the Cut of a missing key, if there is one, or else another job
abbrev pub cond_key : Column → Shape → ℕ → Option Bytes → Job → Job
cond_key o s level None other = other
cond_key o s level (Some key) other = cut_job o s level (range_of (guards_at s level) key)

-- the first missing key is cut, if there is one
pub cut_or_is : (o : Column) (s : Shape) (level : ℕ) (p : Bytes → Bool) (ks : List Bytes) (other : Job)
    → cut_or o s level (filter p ks) other ≡ cond_key o s level (find p ks) other
cut_or_is o s level p [] other = refl
cut_or_is o s level p (k ∷ ks) other = by (p k) (cut_or_is o s level p ks other)
  where
    by : (b : Bool) → cut_or o s level (filter p ks) other ≡ cond_key o s level (find p ks) other
        → cut_or o s level (cond b (k ∷ filter p ks) (filter p ks)) other ≡ cond_key o s level (cond b (Some k) (find p ks)) other
    by true rest = refl
    by false rest = rest

-- ---- targets

-- the deepest level comes first
pub deeper_step : (o : Column) (s : Shape) (range : Bytes × Option Bytes) (level deeper : ℕ) (other : Job) → level < deeper
    → job_at o s (suc level) range (deeper - level) other ≡ cut_or o s deeper (missing s (suc level) range deeper) (job_at o s (suc level) range (deeper - 1 - level) other)
deeper_step o s range level deeper other less =
    let count = deeper - 1 - level in
    let more : deeper - level ≡ suc count = omega (arith, less) in
    let there : suc level + count ≡ deeper = omega (arith, less) in
    ap (λ n. job_at o s (suc level) range n other) more ∙ ap (λ m. cut_or o s m (missing s (suc level) range m) (job_at o s (suc level) range count other)) there

-- above all levels it is the other job
pub no_deeper : (o : Column) (s : Shape) (range : Bytes × Option Bytes) (level deeper : ℕ) (other : Job) → deeper ≤ level → job_at o s (suc level) range (deeper - level) other ≡ other
no_deeper o s range level deeper other le = let none : deeper - level ≡ 0 = omega (arith, le) in ap (λ n. job_at o s (suc level) range n other) none

-- above the last level a range wants the job of a target
pub target_is : (o : Column) (s : Shape) (range : Bytes × Option Bytes) (level : ℕ) → level < o.last_level → job_of_range o s level range ≡ job_at o s (suc level) range (o.last_level - level) (move_job s level range)
target_is o s range level less = ap (λ b. job_at o s (suc level) range (o.last_level - level) (cond b (move_job s level range) (merge_job o s range))) (lt-ltb level o.last_level less)

-- at the last level it wants the Merge
pub last_is : (o : Column) (s : Shape) (range : Bytes × Option Bytes) (level : ℕ) → level ≡ o.last_level → job_of_range o s level range ≡ merge_job o s range
last_is o s range level last =
    no_deeper o s range level o.last_level (cond (nat_lt level o.last_level) (move_job s level range) (merge_job o s range)) (omega (arith, last))
    ∙ ap (λ b. cond b (move_job s level range) (merge_job o s range)) (le-ltb level o.last_level (omega (arith, last)))

-- those of the candidates of the next level in a guard's range that are no guards of another level
pub missing_here : {T : Type 0} (row : T → TableRow) (o : Column) (v : Levels T) (s : Shape) (cs : List Chosen) (level other : ℕ) (range at : Bytes × Option Bytes) (wanted : List Bytes)
    → ChosenAscend → AscendingAreEqual → IsVersion row o v s → AreCandidates cs s → other ≤ length v.levels → range ≡ at
    → keys_ascend wanted ≡ true → ((key : Bytes) → has_key key wanted ≡ (is_candidate cs (level + 1) key && in_range range.0 range.1 key))
    → filter (λ key. not (has_key key (keys_at v other))) wanted ≡ missing s (suc level) at other
missing_here row o v s cs level other range at wanted ascend equal is candidates le range_is up has =
    missing_is row o v s cs (suc level) other at wanted ascend equal is candidates le up
    (λ key. has key ∙ ap (λ n. is_candidate cs n key && in_range range.0 range.1 key) (next_is level) ∙ ap (λ (r : Bytes × Option Bytes). is_candidate cs (suc level) key && in_range r.0 r.1 key) range_is)

-- one level less deep: what was found there, if anything, or else what the levels above it give
pub cut_step : (o : Column) (s : Shape) (range : Bytes × Option Bytes) (level deeper : ℕ) (other : Job) (keys : List Bytes) (found : Option Job) → level < deeper
    → keys ≡ missing s (suc level) range deeper
    → cut_or o s deeper keys (job_at o s (suc level) range (deeper - 1 - level) other) ≡ unwrap_or found (job_at o s (suc level) range (deeper - 1 - level) other)
    → job_at o s (suc level) range (deeper - level) other ≡ unwrap_or found (job_at o s (suc level) range (deeper - 1 - level) other)
cut_step o s range level deeper other keys found less keys_are cut =
    deeper_step o s range level deeper other less ∙ ap (λ ks. cut_or o s deeper ks (job_at o s (suc level) range (deeper - 1 - level) other)) (sym keys_are) ∙ cut
