-- Which jobs are wanted and picked in small shapes, and when a memtable is full.
use Rattle.std.proofs.Common.{◌≡◌, ℕ, Bool, true, false, List, [], ◌∷◌, length, Option, Some, None, refl}
use Rattle.std.specs.Prelude.{replicate, map}
use Rattle.peb_base.specs.Keys.{Bytes}
use Rattle.peb_base.specs.Choice.{bits}
use Rattle.peb_base.specs.declared.change.Change.TheVariants.{Put}
use Rattle.peb_base.specs.declared.op.Op.{Op}
use Rattle.peb_base.specs.declared.table_row.TableRow.{TableRow}
use Rattle.flsm_model.specs.declared.chosen.Chosen.{Chosen}
use Rattle.flsm_model.specs.declared.job_kind.JobKind.{JobKind}
use Rattle.flsm_model.specs.declared.job_kind.JobKind.TheVariants.{Flush as FlushJob, Move as MoveJob, Cut as CutJob, Merge as MergeJob}
use Rattle.flsm_model.specs.declared.job.Job.{Job}
use Rattle.flsm_model.specs.Shape.{Shape, empty_shape}
use Rattle.flsm_model.specs.Events.{Event, Opened, Commit, Freeze, Session, Standing, Running, base}
use Rattle.flsm_model.specs.Steps.{run}
use Rattle.flsm_model.specs.Jobs.{numbers_needed}
use Rattle.flsm_model.specs.Picking.{wanted, picked, flush_job}
use Rattle.flsm_model.specs.Settled.{is_full, freezes_in_time}
use Rattle.flsm_model.proofs.examples.Samples.{small, n, put, row, o_key}

-- ---- shapes with so many tables

-- a table of the keys from `a` to `z` but for one
abbrev table : ℕ → ℕ → TableRow
table count level = row count level (put 97 count 49 ∷ put 122 count 49 ∷ [])

abbrev w_key : List ℕ
w_key = 119 ∷ []

abbrev with_live : List TableRow → Shape
with_live rows = record (empty_shape small) { session = 1; live = rows }

-- three tables at the level, which is one too many
abbrev three : ℕ → Shape
three level = with_live (table 1 level ∷ table 2 level ∷ table 3 level ∷ [])

abbrev two : ℕ → Shape
two level = with_live (table 1 level ∷ table 2 level ∷ [])

abbrev job_of : JobKind → ℕ → Bytes → Option Bytes → List ℕ → List Bytes → Bool → Job
job_of kind level lo hi inputs keys whole =
    record { kind = kind; level = level; lo = lo; hi = hi; inputs = inputs; keys = keys; numbers = 0; floor = 0; whole = whole }

abbrev inputs : List ℕ
inputs = n 1 ∷ n 2 ∷ n 3 ∷ []

-- ---- what is wanted

nothing_at_two : (map (λ level. wanted small (two level) None) (0 ∷ 1 ∷ 2 ∷ 3 ∷ [])) ≡ ([] ∷ [] ∷ [] ∷ [] ∷ [])
nothing_at_two = refl

-- every level but the last has Moves, and the last one whole Merges
a_target_at_0 : wanted small (three 0) None ≡ job_of MoveJob 0 [] None inputs [] false ∷ []
a_target_at_0 = refl

a_target_at_1 : wanted small (three 1) None ≡ job_of MoveJob 1 [] None inputs [] false ∷ []
a_target_at_1 = refl

a_target_at_2 : wanted small (three 2) None ≡ job_of MoveJob 2 [] None inputs [] false ∷ []
a_target_at_2 = refl

a_merge_at_3 : wanted small (three 3) None ≡ job_of MergeJob 3 [] None inputs [] true ∷ []
a_merge_at_3 = refl

-- the Flush comes first, then the targets from above, then the Merges
abbrev every : Shape
every =
    with_live (
    table 1 3 ∷ table 2 3 ∷ table 3 3 ∷ table 4 1 ∷ table 5 1 ∷ table 6 1 ∷ table 7 0 ∷ table 8 0 ∷ table 9 0 ∷ []
    )

in_order_of_need : wanted small every (Some (n 9))
    ≡ flush_job
    ∷ job_of MoveJob 0 [] None (n 7 ∷ n 8 ∷ n 9 ∷ []) [] false
    ∷ job_of MoveJob 1 [] None (n 4 ∷ n 5 ∷ n 6 ∷ []) [] false
    ∷ job_of MergeJob 3 [] None inputs [] true
    ∷ []
in_order_of_need = refl

-- ---- Cuts before a Move: the deepest level first, by the keys that may be cut there

-- `o` is a candidate from level 1 on, `w` from level 2 on
abbrev chosen : List Chosen
chosen = record { key = o_key; level = 1 } ∷ record { key = w_key; level = 2 } ∷ []

abbrev uncut : List (List Bytes) → Shape
uncut guards = record (three 0) { chosen = chosen; guards = guards }

cut_at_3 : wanted small (uncut ([] ∷ [] ∷ [] ∷ [])) None ≡ job_of CutJob 3 [] None [] (o_key ∷ w_key ∷ []) false ∷ []
unfolding bits lib.Count.count_trailing_zeros
cut_at_3 = refl

cut_at_2 : wanted small (uncut ([] ∷ [] ∷ (o_key ∷ w_key ∷ []) ∷ [])) None ≡ job_of CutJob 2 [] None [] (o_key ∷ w_key ∷ []) false ∷ []
unfolding bits lib.Count.count_trailing_zeros
cut_at_2 = refl

-- `w` isn't a candidate of level 1
cut_at_1 : wanted small (uncut ([] ∷ (o_key ∷ w_key ∷ []) ∷ (o_key ∷ w_key ∷ []) ∷ [])) None ≡ job_of CutJob 1 [] None [] (o_key ∷ []) false ∷ []
unfolding bits lib.Count.count_trailing_zeros
cut_at_1 = refl

then_the_move : wanted small (uncut ((o_key ∷ []) ∷ (o_key ∷ w_key ∷ []) ∷ (o_key ∷ w_key ∷ []) ∷ [])) None ≡ job_of MoveJob 0 [] None inputs (o_key ∷ []) false ∷ []
unfolding bits lib.Count.count_trailing_zeros
then_the_move = refl

-- ---- what is picked

abbrev session_of : List Running → Session
session_of running =
    record {
      log = 1;
      stable = 0;
      committed = 0;
      reserved = 5;
      freezes = 0;
      mem_from = 0;
      frozen = None;
      held = [];
      running = running;
      faulted = None;
      edits_made = [];
      jobs_cut_short = [];
    }

abbrev standing : Shape → Standing
standing s = record (base true small [] []) { tree = record { shape = s; tables = [] } }

-- with the next table numbers and the floor of now
picks_the_first : picked small (standing (three 1)) (session_of []) ≡ Some (record (job_of MoveJob 1 [] None inputs [] false) { numbers = n 6; floor = 0 })
picks_the_first = refl

-- nothing that conflicts with a job in flight
picks_no_conflict : picked small (standing (three 1)) (session_of ((7, job_of MoveJob 1 [] None inputs [] false) ∷ [])) ≡ None
picks_no_conflict = refl

-- but the next one that doesn't
picks_the_next : picked small (standing every) (session_of ((7, job_of MoveJob 0 [] None (n 7 ∷ n 8 ∷ n 9 ∷ []) [] false) ∷ []))
    ≡ Some (record (job_of MoveJob 1 [] None (n 4 ∷ n 5 ∷ n 6 ∷ []) [] false) { numbers = n 6; floor = 0 })
picks_the_next = refl

-- ---- table numbers

numbers_of_jobs : map numbers_needed (
    job_of FlushJob 0 [] None [] [] false
    ∷ job_of MoveJob 1 [] None inputs (o_key ∷ w_key ∷ []) false
    ∷ job_of CutJob 2 [] None (n 1 ∷ n 2 ∷ []) (o_key ∷ w_key ∷ []) false
    ∷ job_of CutJob 2 [] None [] (o_key ∷ []) false
    ∷ job_of MergeJob 3 [] None inputs [] true ∷ []
    )
    ≡ (1 ∷ 3 ∷ 6 ∷ 0 ∷ 1 ∷ [])
numbers_of_jobs = refl

-- ---- memtables: 1024 bytes are full, one byte less isn't

abbrev one_entry : ℕ → List Op
one_entry length = record { key = 97 ∷ []; change = Put (replicate length 0) } ∷ []

abbrev filling : ℕ → List Event
filling length = Opened 1 1 ∷ Commit 1 (n 1) (one_entry length) ∷ []

abbrev filled : ℕ → Standing
filled length = run small (base true small [] []) (filling length)

full_at_1024 : is_full small (filled 1007) (filled 1007).session ≡ true
full_at_1024 = refl

not_full_at_1023 : is_full small (filled 1006) (filled 1006).session ≡ false
not_full_at_1023 = refl

abbrev next_put : Event
next_put = Commit 1 (n 2) (one_entry 1)

-- the full memtable is frozen before its actor's next Commit
frozen_in_time : freezes_in_time small (base true small [] []) (Opened 1 1 ∷ Commit 1 (n 1) (one_entry 1007) ∷ Freeze (n 1) ∷ next_put ∷ []) ≡ true
frozen_in_time = refl

frozen_too_late : freezes_in_time small (base true small [] []) (Opened 1 1 ∷ Commit 1 (n 1) (one_entry 1007) ∷ next_put ∷ Freeze (n 2) ∷ []) ≡ false
frozen_too_late = refl

no_need_to_freeze : freezes_in_time small (base true small [] []) (Opened 1 1 ∷ Commit 1 (n 1) (one_entry 1006) ∷ Commit 2 (n 2) [] ∷ []) ≡ true
no_need_to_freeze = refl
