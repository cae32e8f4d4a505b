-- Events and jobs at the edges of the rules: what is legal after a fault, at a flush mark and at the last operation.
use Rattle.std.proofs.Common.{false, ◌≡◌, ℕ, true, List, [], ◌∷◌, Some, None, refl, sym, arith}
use Rattle.std.specs.Prelude.{◌+◌, ◌-◌, ◌*◌, ◌^◌, ◌++◌}
use Rattle.std.proofs.lemmas.Bool.{true≢false, false≢true}
use Rattle.peb_base.specs.Choice.{bits}
use Rattle.peb_base.specs.Tables.{table_length}
use Rattle.peb_base.specs.declared.change.Change.TheVariants.{Put}
use Rattle.peb_base.specs.declared.op.Op.{Op}
use Rattle.peb_base.specs.declared.table_row.TableRow.{TableRow}
use Rattle.flsm_model.specs.declared.edit.Edit.{Edit}
use Rattle.flsm_model.specs.declared.edit.Edit.TheVariants.{Open, Flush, Move}
use Rattle.flsm_model.specs.declared.job_kind.JobKind.TheVariants.{Flush as FlushJob, Move as MoveJob, Merge as MergeJob}
use Rattle.flsm_model.specs.declared.job.Job.{Job}
use Rattle.flsm_model.specs.declared.mode.Mode.TheVariants.{Append}
use Rattle.flsm_model.specs.declared.short_cause.ShortCause.TheVariants.{Fault}
use Rattle.flsm_model.specs.Claims.{modes_conflict, jobs_conflict}
use Rattle.flsm_model.specs.Fits.{is_of_session, fits}
use Rattle.flsm_model.specs.Shape.{Record, Shape, empty_shape}
use Rattle.flsm_model.specs.Events.{Event, Opened, Commit, Synced, Look, Hold, Release, Freeze, Begin, Short, JournalFault, Stop, Session, Standing, base}
use Rattle.flsm_model.specs.Jobs.{IsMerge, floor_of}
use Rattle.flsm_model.specs.Steps.{run, held_without}
use Rattle.flsm_model.specs.Legal.{Allowed, AllowedIn}
use Rattle.flsm_model.specs.Settled.{idles_between, freezes_in_time}
use Rattle.flsm_model.proofs.examples.Samples.{small, n, put, row, job, described, o_key}

abbrev one_put : Op
one_put = record { key = 97 ∷ []; change = Put (49 ∷ []) }

abbrev after : List Event → Standing
after es = run small (base true small [] []) (Opened 1 1 ∷ Commit 1 (n 1) (one_put ∷ []) ∷ es)

abbrev May : List Event → Event → Type 0
May es e = Allowed small (after es) (after es).session e

abbrev flush : ℕ → Job
flush floor = job FlushJob 0 [] [] 1 floor

abbrev flushing : List Event
flushing = Freeze (n 1) ∷ Begin 2 (flush 1) ∷ []

abbrev flushed : Edit
flushed = Flush (row 1 0 (put 97 1 49 ∷ [])) 0 (n 1) 2 []

-- ---- at rest

abbrev table : ℕ → TableRow
table count = row count 1 (put 97 count 49 ∷ put 122 count 49 ∷ [])

abbrev three_tables : Standing
three_tables =
    let w = run small (base true small [] []) (Opened 1 1 ∷ []) in
    record w { tree = record { shape = record (empty_shape small) { session = 1; live = table 1 ∷ table 2 ∷ table 3 ∷ [] }; tables = [] } }

no_rest_by_a_look : idles_between small three_tables (Commit 1 (n 1) (one_put ∷ []) ∷ Look 1 (n 1) ∷ Commit 1 (n 2) (one_put ∷ []) ∷ []) ≡ false
no_rest_by_a_look = refl

appends_at_once : modes_conflict Append Append ≡ false
appends_at_once = refl

-- the limit of operations, both ways
abbrev counting : ℕ → Session
counting committed =
    record {
      log = 1;
      stable = 0;
      committed = committed;
      reserved = 0;
      freezes = 0;
      mem_from = 0;
      frozen = None;
      held = [];
      running = [];
      faulted = None;
      edits_made = [];
      jobs_cut_short = [];
    }

abbrev opened : Standing
opened = run small (base true small [] []) (Opened 1 1 ∷ [])

the_last_operation : AllowedIn small opened (counting (2 ^ 40 - 2)) (Commit 1 (2 ^ 40 + 1 + (2 ^ 40 - 2)) (one_put ∷ []))
the_last_operation = (refl, omega arith, omega arith, refl, omega arith)

no_further_operation : AllowedIn small opened (counting (2 ^ 40 - 1)) (Commit 1 (2 ^ 40 + 1 + (2 ^ 40 - 1)) (one_put ∷ [])) → ⊥
no_further_operation h = omega (arith, h.4)

-- a release takes one of two
releases_one : held_without (1, 5) ((1, 5) ∷ (1, 5) ∷ []) ≡ (1, 5) ∷ []
releases_one = refl

-- over devices that tell nothing, at the last flush
abbrev untold_record : Record
untold_record = Open 1 1 ∷ Flush (row 1 0 (put 97 1 49 ∷ [])) 0 (n 1) 2 [] ∷ []

abbrev silent : List Event → Standing
silent es = run small (base false small [] untold_record) (Opened 2 2 ∷ es)

abbrev Silently : List Event → Event → Type 0
Silently es e = Allowed small (silent es) (silent es).session e

a_snapshot_at_the_flush : Silently [] (Hold 1 (n 1))
a_snapshot_at_the_flush = (refl, omega arith)

a_sync_at_the_flush : Silently [] (Synced 1 (n 1))
a_sync_at_the_flush = (refl, refl)

no_freeze_of_what_was_flushed : Silently [] (Freeze (n 1)) → ⊥
no_freeze_of_what_was_flushed h = omega (arith, h.2)

a_move_with_the_floor_of_the_flush : Silently [] (Begin 2 (record (job MoveJob 0 (n 1 ∷ []) [] 1 1) { numbers = 2 * 2 ^ 40 + 1 }))
unfolding bits lib.Count.count_trailing_zeros
a_move_with_the_floor_of_the_flush =
    (refl, refl, record { free = refl; floor = refl; numbers = refl; room = omega arith; kind = record { range = refl; fit = refl; inside = refl; all = refl; committed = refl; keys = refl } })

-- after the journal's fault
a_short_after_a_fault : May (flushing ++ JournalFault ∷ []) (Short 2 Fault 28)
unfolding table_length
a_short_after_a_fault told = omega arith

a_release_after_a_fault : May (Hold 1 (n 1) ∷ JournalFault ∷ []) (Release 1 (n 1))
a_release_after_a_fault = refl

-- a stop may leave the edit of a job in flight, without a fault too, and of one that ended after the fault
a_stop_with_an_edit : May flushing (Stop (n 1) (Some flushed))
unfolding table_length bits lib.Count.count_trailing_zeros
a_stop_with_an_edit =
    (refl, omega arith, (2, record { formed = record { same = (refl, refl); fit = refl; inside = refl; numbers = refl }; holds = λ told. (described 1 0 (put 97 1 49) [], tt); chooses = λ told. refl }))

a_stop_with_the_edit_of_a_job_that_ended : May (flushing ++ JournalFault ∷ Short 2 Fault 28 ∷ []) (Stop (n 1) (Some flushed))
unfolding table_length bits lib.Count.count_trailing_zeros
a_stop_with_the_edit_of_a_job_that_ended =
    (refl, omega arith, (2, record { formed = record { same = (refl, refl); fit = refl; inside = refl; numbers = refl }; holds = λ told. (described 1 0 (put 97 1 49) [], tt); chooses = λ told. refl }))

no_stop_with_the_edit_of_a_job_that_ended_before : May (flushing ++ Short 2 Fault 28 ∷ JournalFault ∷ []) (Stop (n 1) (Some flushed)) → ⊥
no_stop_with_the_edit_of_a_job_that_ended_before h = h.2.1

-- batches that an opening found are in its memtable
abbrev recovered : Standing
recovered = run small (base true small [] []) (Opened 1 1 ∷ Commit 1 (n 1) (one_put ∷ []) ∷ Stop (n 1) None ∷ Opened 2 1 ∷ [])

a_freeze_of_recovered_batches : Allowed small recovered recovered.session (Freeze (n 1))
a_freeze_of_recovered_batches = (refl, refl, omega arith, refl)

-- jobs in neighbouring guards run at once
abbrev below_o : Job
below_o = record (job MoveJob 1 [] [] 1 1) { hi = Some o_key }

abbrev from_o : Job
from_o = record (job MoveJob 1 [] [] 2 1) { lo = o_key }

neighbours_at_once : jobs_conflict below_o from_o ≡ false
neighbours_at_once = refl

-- a Merge of all tables of its guard is whole
abbrev two_last : Standing
two_last =
    let w = run small (base true small [] []) (Opened 1 1 ∷ []) in
    record w { tree = record { shape = record (empty_shape small) { session = 1; live = row 1 3 (put 97 1 49 ∷ []) ∷ row 2 3 (put 97 2 49 ∷ []) ∷ [] }; tables = [] } }

no_merge_of_all_that_is_not_whole : IsMerge small two_last.tree.shape (counting 0) (job MergeJob 3 (n 1 ∷ n 2 ∷ []) [] 3 0) → ⊥
no_merge_of_all_that_is_not_whole h = false≢true h.whole

-- a job has the least floor that is held, and no other
no_flush_with_a_lower_floor : May (Freeze (n 1) ∷ []) (Begin 2 (flush 0)) → ⊥
no_flush_with_a_lower_floor h = omega (arith, h.2.floor)

least_floor : floor_of ((1, 5) ∷ (2, 3) ∷ (1, 4) ∷ []) 9 ≡ 3
least_floor = refl

-- of two actors over work, the first one waits before its next Commit, though the other has committed
no_rest_by_another_commit : idles_between small three_tables (Commit 1 (n 1) (one_put ∷ []) ∷ Commit 2 (n 2) (one_put ∷ []) ∷ Commit 1 (n 3) (one_put ∷ []) ∷ []) ≡ false
no_rest_by_another_commit = refl

-- the jobs of two actors, and the edits of other jobs are no outcomes
no_number_of_count_0 : is_of_session 1 (2 ^ 40) ≡ false
no_number_of_count_0 = refl

-- inputs below level 0 lie in one guard
abbrev two_guards : Shape
two_guards =
    record (empty_shape small) {
      session = 1;
      used = n 1 ∷ n 2 ∷ [];
      guards = (o_key ∷ []) ∷ (o_key ∷ []) ∷ (o_key ∷ []) ∷ [];
      live = row 1 1 (put 97 1 49 ∷ []) ∷ row 2 1 (put 122 2 49 ∷ []) ∷ [];
    }

inputs_of_one_guard : fits small two_guards (Move 1 (n 2) (n 1 ∷ []) []) ≡ true
unfolding bits lib.Count.count_trailing_zeros
inputs_of_one_guard = refl

no_inputs_of_two_guards : fits small two_guards (Move 1 (n 2) (n 1 ∷ n 2 ∷ []) []) ≡ false
unfolding bits lib.Count.count_trailing_zeros
no_inputs_of_two_guards = refl

-- the entries of a flush lie above the last one
no_flush_of_what_was_flushed : fits small (record (empty_shape small) { session = 1; to = n 1; log = 2 }) (Flush (row 2 0 (put 97 1 49 ∷ [])) (n 1) (n 2) 3 []) ≡ false
unfolding bits lib.Count.count_trailing_zeros
no_flush_of_what_was_flushed = refl
