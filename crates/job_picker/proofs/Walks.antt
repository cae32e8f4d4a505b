-- Walks over the guards of a level, and over the levels.
use Rattle.std.proofs.Common.{◌≡◌, ℕ, suc, ◌+◌, ◌-◌, ◌<◌, ◌≤◌, Bool, true, false, ◌||◌, cond, List, [], ◌∷◌, ◌++◌, map, drop, length, refl, sym, ap, ◌∙◌, append_assoc, arith}
use Rattle.std.specs.Prelude.{filter, find, nat_lt, Option, Some, None, is_some}
use Rattle.std.proofs.lemmas.Bool.{lt-ltb, le-ltb}
use Rattle.std.proofs.lemmas.List.{length-map}
use Rattle.peb_base.specs.Guards.{Ascend}
use Rattle.peb_base.specs.Keys.{Bytes}
use Rattle.peb_base.specs.Profiles.{column, Column}
use Rattle.peb_base.specs.declared.profile.Profile.{Profile}
use Rattle.peb_base.specs.declared.profile.Profile.TheVariants.{Normal, Small}
use Rattle.peb_base.specs.declared.table_row.TableRow.{TableRow}
use Rattle.flsm_model.specs.declared.job.Job.{Job}
use Rattle.flsm_model.specs.Fits.{is_some_list}
use Rattle.flsm_model.specs.GuardRanges.{range_at}
use Rattle.flsm_model.specs.Picking.{ranges_after, ranges_at, rows_in, room_at, over_at, job_at, move_job, merge_job, target_jobs, flush_job, flush_jobs, wanted}
use Rattle.flsm_model.specs.Shape.{Shape}
use Rattle.version.specs.Levels.{Levels}
use Rattle.job_picker.specs.Seen.{keys_at, tables_at, IsVersion, job_of_range, jobs_in, jobs_from}
use Rattle.job_picker.proofs.Filters.{find_behind, find_before, some_append, some_map}
use Rattle.job_picker.proofs.Seeing.{keys_are, rows_are, ranges_from, ranges_end}

-- the next one by either spelling
pub next_is : (n : ℕ) → n + 1 ≡ suc n
next_is n = omega arith

-- profiles have few levels
pub few_levels : (p : Profile) → (column p).last_level < 255
few_levels Normal = omega arith
few_levels Small = omega arith

-- ---- the ranges of a level from a guard on

abbrev pub left_from : {T : Type 0} → Levels T → ℕ → ℕ → List (Bytes × Option Bytes)
left_from v level guard = drop guard (ranges_after [] (keys_at v level))

-- at first all ranges are left
pub all_left : {T : Type 0} (row : T → TableRow) (o : Column) (v : Levels T) (s : Shape) (level : ℕ) → IsVersion row o v s → level ≤ length v.levels → ranges_at s level ≡ left_from v level 0
all_left row o v s level is le = ap (ranges_after []) (sym (keys_are row o v s is level le))

-- the range holds too many tables
abbrev pub is_over : Column → Shape → ℕ → Bytes × Option Bytes → Bool
is_over o s level range = nat_lt (room_at o level) (length (rows_in s level range))

-- a guard holds too many tables exactly where its range does
pub over_here : {T : Type 0} (row : T → TableRow) (o : Column) (v : Levels T) (s : Shape) (level guard : ℕ) → IsVersion row o v s → level ≤ length v.levels → Ascend [] (keys_at v level) → guard ≤ length (keys_at v level)
    → is_over o s level (range_at (keys_at v level) guard) ≡ nat_lt (room_at o level) (length (tables_at v level guard))
over_here row o v s level guard is le up within =
    ap (λ n. nat_lt (room_at o level) n) (ap length (sym (rows_are row o v s is level guard le up within)) ∙ length-map (tables_at v level guard) row)

-- the jobs of one range, and then of the others
one_more : (o : Column) (s : Shape) (level : ℕ) (range : Bytes × Option Bytes) (rest : List (Bytes × Option Bytes)) → jobs_in o s level (range ∷ rest) ≡ jobs_in o s level (range ∷ []) ++ jobs_in o s level rest
one_more o s level range rest = by (is_over o s level range)
  where
    by : (b : Bool) → map (job_of_range o s level) (cond b (range ∷ filter (is_over o s level) rest) (filter (is_over o s level) rest)) ≡ map (job_of_range o s level) (cond b (range ∷ []) []) ++ jobs_in o s level rest
    by true = refl
    by false = refl

-- where a guard has no free job it is the first of those behind it
pub guard_behind : {T : Type 0} (o : Column) (v : Levels T) (s : Shape) (free : Job → Bool) (level guard : ℕ) → guard ≤ length (keys_at v level)
    → None ≡ find free (jobs_in o s level (range_at (keys_at v level) guard ∷ []))
    → find free (jobs_in o s level (left_from v level guard)) ≡ find free (jobs_in o s level (left_from v level (suc guard)))
guard_behind o v s free level guard within none =
    ap (λ rs. find free (jobs_in o s level rs)) (ranges_from [] (keys_at v level) guard within)
    ∙ ap (find free) (one_more o s level (range_at (keys_at v level) guard) (left_from v level (suc guard)))
    ∙ find_behind free (jobs_in o s level (range_at (keys_at v level) guard ∷ [])) (jobs_in o s level (left_from v level (suc guard))) (sym none)

-- where it has one it is that one
pub guard_found : {T : Type 0} (o : Column) (v : Levels T) (s : Shape) (free : Job → Bool) (level guard : ℕ) (job : Job) → guard ≤ length (keys_at v level)
    → Some job ≡ find free (jobs_in o s level (range_at (keys_at v level) guard ∷ []))
    → find free (jobs_in o s level (left_from v level guard)) ≡ Some job
guard_found o v s free level guard job within some =
    ap (λ rs. find free (jobs_in o s level rs)) (ranges_from [] (keys_at v level) guard within)
    ∙ ap (find free) (one_more o s level (range_at (keys_at v level) guard) (left_from v level (suc guard)))
    ∙ find_before free (jobs_in o s level (range_at (keys_at v level) guard ∷ [])) (jobs_in o s level (left_from v level (suc guard))) job (sym some)

-- behind the last guard nothing is left
pub none_left : {T : Type 0} (v : Levels T) (level guard : ℕ) → guard ≡ suc (length (keys_at v level)) → left_from v level guard ≡ []
none_left v level guard at = ap (λ n. drop n (ranges_after [] (keys_at v level))) at ∙ ranges_end [] (keys_at v level)

-- a range within its room has no job
pub none_over : (o : Column) (s : Shape) (level : ℕ) (range : Bytes × Option Bytes) (free : Job → Bool) → is_over o s level range ≡ false → None ≡ find free (jobs_in o s level (range ∷ []))
none_over o s level range free e = sym (ap (λ b. find free (map (job_of_range o s level) (cond b (range ∷ []) []))) e)

-- a range that holds too many has its job
pub one_over : (o : Column) (s : Shape) (level : ℕ) (range : Bytes × Option Bytes) (free : Job → Bool) → is_over o s level range ≡ true
    → find free (job_of_range o s level range ∷ []) ≡ find free (jobs_in o s level (range ∷ []))
one_over o s level range free e = sym (ap (λ b. find free (map (job_of_range o s level) (cond b (range ∷ []) []))) e)

-- where the job of a range is free it is found
pub one_found : (o : Column) (s : Shape) (level : ℕ) (range : Bytes × Option Bytes) (free : Job → Bool) (job : Job) → job ≡ job_of_range o s level range → free job ≡ true
    → Some job ≡ find free (job_of_range o s level range ∷ [])
one_found o s level range free job is f =
    ap (λ j. Some j) is ∙ sym (ap (λ b. cond b (Some (job_of_range o s level range)) None) (ap free (sym is) ∙ f))

-- and else nothing is
pub one_kept : (o : Column) (s : Shape) (level : ℕ) (range : Bytes × Option Bytes) (free : Job → Bool) (job : Job) → job ≡ job_of_range o s level range → free job ≡ false
    → None ≡ find free (job_of_range o s level range ∷ [])
one_kept o s level range free job is f = sym (ap (λ b. cond b (Some (job_of_range o s level range)) None) (ap free (sym is) ∙ f))

-- over ranges, one by one
pub over_more : {T : Type 0} (o : Column) (v : Levels T) (s : Shape) (level guard : ℕ) → guard ≤ length (keys_at v level) → is_over o s level (range_at (keys_at v level) guard) ≡ false
    → filter (is_over o s level) (left_from v level guard) ≡ filter (is_over o s level) (left_from v level (suc guard))
over_more o v s level guard within e =
    ap (filter (is_over o s level)) (ranges_from [] (keys_at v level) guard within)
    ∙ ap (λ b. cond b (range_at (keys_at v level) guard ∷ filter (is_over o s level) (left_from v level (suc guard))) (filter (is_over o s level) (left_from v level (suc guard)))) e

-- a range that holds too many is one
pub over_some : {T : Type 0} (o : Column) (v : Levels T) (s : Shape) (level guard : ℕ) → guard ≤ length (keys_at v level) → is_over o s level (range_at (keys_at v level) guard) ≡ true
    → is_some_list (filter (is_over o s level) (left_from v level guard)) ≡ true
over_some o v s level guard within e =
    ap (λ rs. is_some_list (filter (is_over o s level) rs)) (ranges_from [] (keys_at v level) guard within)
    ∙ ap (λ b. is_some_list (cond b (range_at (keys_at v level) guard ∷ filter (is_over o s level) (left_from v level (suc guard))) (filter (is_over o s level) (left_from v level (suc guard))))) e

-- ---- levels

-- the jobs of a level above the last, and then of those below it
pub level_more : (o : Column) (s : Shape) (level : ℕ) → level < o.last_level → jobs_from o s level ≡ jobs_in o s level (ranges_at s level) ++ jobs_from o s (suc level)
level_more o s level less =
    let more : o.last_level - level ≡ suc (o.last_level - suc level) = omega (arith, less) in
    ap (λ n. target_jobs o s level n ++ map (merge_job o s) (over_at o s o.last_level)) more
    ∙ ap (λ b. (map (λ range. job_at o s (suc level) range (o.last_level - level) (cond b (move_job s level range) (merge_job o s range))) (over_at o s level) ++ target_jobs o s (suc level) (o.last_level - suc level))
    ++ map (merge_job o s) (over_at o s o.last_level)) (sym (lt-ltb level o.last_level less))
    ∙ append_assoc (jobs_in o s level (ranges_at s level)) (target_jobs o s (suc level) (o.last_level - suc level)) (map (merge_job o s) (over_at o s o.last_level))

-- those of the last level
pub level_last : (o : Column) (s : Shape) (level : ℕ) → level ≡ o.last_level → jobs_from o s level ≡ jobs_in o s level (ranges_at s level)
level_last o s level last =
    let none : o.last_level - level ≡ 0 = omega (arith, last) in
    ap (λ n. target_jobs o s level n ++ map (merge_job o s) (over_at o s o.last_level)) none
    ∙ ap (λ l. map (merge_job o s) (over_at o s l)) (sym last)
    ∙ ap (λ b. map (λ range. cond b (move_job s level range) (merge_job o s range)) (over_at o s level)) (sym (le-ltb level o.last_level (omega (arith, last))))
    ∙ ap (λ n. map (λ range. job_at o s (suc level) range n (cond (nat_lt level o.last_level) (move_job s level range) (merge_job o s range))) (over_at o s level)) (sym none)

-- the Flush, and then those of all levels
pub wanted_are : (o : Column) (s : Shape) (to : Option ℕ) → wanted o s to ≡ flush_jobs to ++ jobs_from o s 0
wanted_are o s to =
    let all : o.last_level ≡ o.last_level - 0 = omega arith in
    append_assoc (flush_jobs to) (target_jobs o s 0 o.last_level) (map (merge_job o s) (over_at o s o.last_level))
    ∙ ap (λ n. flush_jobs to ++ (target_jobs o s 0 n ++ map (merge_job o s) (over_at o s o.last_level))) all

-- where a level has no free job it is the first of those below it
pub level_behind : (o : Column) (s : Shape) (free : Job → Bool) (level : ℕ) → level < o.last_level → None ≡ find free (jobs_in o s level (ranges_at s level)) → find free (jobs_from o s level) ≡ find free (jobs_from o s (suc level))
level_behind o s free level less none = ap (find free) (level_more o s level less) ∙ find_behind free (jobs_in o s level (ranges_at s level)) (jobs_from o s (suc level)) (sym none)

-- where it has one it is that one
pub level_found : (o : Column) (s : Shape) (free : Job → Bool) (level : ℕ) (job : Job) → level < o.last_level → Some job ≡ find free (jobs_in o s level (ranges_at s level)) → find free (jobs_from o s level) ≡ Some job
level_found o s free level job less some = ap (find free) (level_more o s level less) ∙ find_before free (jobs_in o s level (ranges_at s level)) (jobs_from o s (suc level)) job (sym some)

-- some range of a level holds too many tables, or else of a deeper one
pub some_more : (o : Column) (s : Shape) (level : ℕ) (b : Bool) → level < o.last_level → b ≡ is_some_list (over_at o s level) → is_some_list (jobs_from o s level) ≡ (b || is_some_list (jobs_from o s (suc level)))
some_more o s level b less is =
    ap is_some_list (level_more o s level less) ∙ some_append (jobs_in o s level (ranges_at s level)) (jobs_from o s (suc level))
    ∙ ap (λ a. a || is_some_list (jobs_from o s (suc level))) (some_map (job_of_range o s level) (over_at o s level) ∙ sym is)

-- or at the last level
pub some_last : (o : Column) (s : Shape) (level : ℕ) → level ≡ o.last_level → is_some_list (jobs_from o s level) ≡ is_some_list (over_at o s level)
some_last o s level last = ap is_some_list (level_last o s level last) ∙ some_map (job_of_range o s level) (over_at o s level)

-- something is wanted exactly where it is frozen or some range holds too many
pub some_wanted : (o : Column) (s : Shape) (to : Option ℕ) → is_some_list (wanted o s to) ≡ (is_some to || is_some_list (jobs_from o s 0))
some_wanted o s None = ap is_some_list (wanted_are o s None)
some_wanted o s (Some to) = ap is_some_list (wanted_are o s (Some to))

-- ---- the Flush

-- a Flush that is free comes first
pub flush_found : (o : Column) (s : Shape) (free : Job → Bool) (to : Option ℕ) → true ≡ is_some to → free flush_job ≡ true → Some flush_job ≡ find free (wanted o s to)
flush_found o s free None some is = absurd (off some)
  where
    off : true ≡ false → ⊥
    off e = cc
flush_found o s free (Some to) some is = sym (ap (find free) (wanted_are o s (Some to)) ∙ ap (λ b. cond b (Some flush_job) (find free (jobs_from o s 0))) is)

-- one that isn't is passed over
pub flush_kept : (o : Column) (s : Shape) (free : Job → Bool) (to : Option ℕ) → free flush_job ≡ false → find free (jobs_from o s 0) ≡ find free (wanted o s to)
flush_kept o s free None is = sym (ap (find free) (wanted_are o s None))
flush_kept o s free (Some to) is = sym (ap (find free) (wanted_are o s (Some to)) ∙ ap (λ b. cond b (Some flush_job) (find free (jobs_from o s 0))) is)

-- where nothing is frozen there is none
pub none_frozen : (o : Column) (s : Shape) (free : Job → Bool) (to : Option ℕ) → false ≡ is_some to → find free (jobs_from o s 0) ≡ find free (wanted o s to)
none_frozen o s free None is = sym (ap (find free) (wanted_are o s None))
none_frozen o s free (Some to) is = absurd (off is)
  where
    off : false ≡ true → ⊥
    off e = cc
