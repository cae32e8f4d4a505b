-- Events that no legal history has, and the same at their limits, which it may have.
use Rattle.std.proofs.Common.{false, ◌≡◌, ℕ, true, List, [], ◌∷◌, Some, None, refl, sym, arith}
use Rattle.std.specs.Prelude.{replicate}
use Rattle.std.proofs.lemmas.Bool.{true≢false, false≢true}
use Rattle.std.proofs.lemmas.List.{length-replicate}
use Rattle.peb_base.specs.Numbers.{number_of}
use Rattle.peb_base.specs.Tables.{table_length}
use Rattle.peb_base.specs.declared.change.Change.TheVariants.{Put}
use Rattle.peb_base.specs.declared.op.Op.{Op}
use Rattle.peb_base.specs.declared.table_row.TableRow.{TableRow}
use Rattle.flsm_model.specs.declared.edit.Edit.TheVariants.{Open}
use Rattle.flsm_model.specs.declared.job_kind.JobKind.TheVariants.{Flush as FlushJob, Merge as MergeJob}
use Rattle.flsm_model.specs.declared.job.Job.{Job}
use Rattle.flsm_model.specs.declared.short_cause.ShortCause.TheVariants.{Fault}
use Rattle.flsm_model.specs.Events.{Event, Opened, Commit, Synced, Look, Hold, Release, Freeze, Begin, Short, JournalFault, Stop, Session, Standing, base}
use Rattle.flsm_model.specs.Steps.{run}
use Rattle.flsm_model.specs.Legal.{Allowed, AllowedIn}
use Rattle.flsm_model.specs.Trees.{Describes}
use Rattle.flsm_model.proofs.examples.Samples.{small, n, put, row, job}

-- ---- standings

abbrev one_put : Op
one_put = record { key = 97 ∷ []; change = Put (49 ∷ []) }

abbrev after : List Event → Standing
after es = run small (base true small [] []) (Opened 1 1 ∷ Commit 1 (n 1) (one_put ∷ []) ∷ es)

-- the event may come after these
abbrev May : List Event → Event → Type 0
May es e = Allowed small (after es) (after es).session e

abbrev flush : ℕ → Job
flush floor = job FlushJob 0 [] [] 1 floor

none_some : {X : Type 0} (x : X) → Some x ≡ None → ⊥
none_some x h = cc

-- ---- numbers that are told

no_old_look : May [] (Look 2 0) → ⊥
no_old_look h = omega (arith, h)

no_later_look : May [] (Look 2 (n 2)) → ⊥
no_later_look h = omega (arith, h)

no_old_sync : May [] (Synced 1 0) → ⊥
no_old_sync h = omega (arith, h.1)

no_old_hold : May [] (Hold 1 0) → ⊥
no_old_hold h = omega (arith, h.0)

no_old_freeze : May [] (Freeze 0) → ⊥
no_old_freeze h = omega (arith, h.3)

no_other_first : May [] (Commit 1 (n 3) (one_put ∷ [])) → ⊥
no_other_first h = omega (arith, h.3)

-- ---- stops

-- what was synced stays, and so does what was frozen
no_stop_below_a_sync : May (Synced 1 (n 1) ∷ []) (Stop 0 None) → ⊥
no_stop_below_a_sync h = omega (arith, h.1)

no_stop_below_a_freeze : May (Freeze (n 1) ∷ []) (Stop 0 None) → ⊥
no_stop_below_a_freeze h = omega (arith, h.1)

a_stop_before_a_sync : May [] (Stop 0 None)
a_stop_before_a_sync = (refl, omega arith, tt)

-- an opening makes stable what it finds, synced or not
no_stop_below_an_opening : May (Stop (n 1) None ∷ Opened 2 1 ∷ []) (Stop 0 None) → ⊥
no_stop_below_an_opening h = omega (arith, h.1)

a_stop_at_an_opening : May (Stop (n 1) None ∷ Opened 2 1 ∷ []) (Stop (n 1) None)
a_stop_at_an_opening = (refl, omega arith, tt)

-- what is synced later leaves what was stable before
no_stop_below_an_earlier_sync : May (Synced 1 (n 1) ∷ Commit 1 (n 2) (one_put ∷ []) ∷ []) (Stop 0 None) → ⊥
no_stop_below_an_earlier_sync h = omega (arith, h.1)

a_stop_at_an_earlier_sync : May (Synced 1 (n 1) ∷ Commit 1 (n 2) (one_put ∷ []) ∷ []) (Stop (n 1) None)
a_stop_at_an_earlier_sync = (refl, omega arith, tt)

-- a stop past the last batch has nothing to leave
no_stop_above_the_last : May [] (Stop (n 2) None) → ⊥
no_stop_above_the_last h = true≢false (sym h.0)

-- a stop drops the batches above its number, and no others
a_stop_drops_what_is_above : (after (Commit 1 (n 2) (one_put ∷ []) ∷ Stop (n 1) None ∷ [])).batches ≡ (n 1, one_put ∷ []) ∷ []
a_stop_drops_what_is_above = refl

a_stop_leaves_nothing_at_0 : (after (Commit 1 (n 2) (one_put ∷ []) ∷ Stop 0 None ∷ [])).batches ≡ []
a_stop_leaves_nothing_at_0 = refl

no_stop_without_a_session : Allowed small (after (Stop (n 1) None ∷ [])) None (Stop (n 1) None) → ⊥
no_stop_without_a_session h = h

-- a stop comes between batches
no_stop_within_a_batch : Allowed small (after (Commit 1 (n 2) (one_put ∷ one_put ∷ []) ∷ [])) (after (Commit 1 (n 2) (one_put ∷ one_put ∷ []) ∷ [])).session (Stop (n 2) None) → ⊥
no_stop_within_a_batch h = true≢false (sym h.0)

-- ---- after the journal's fault

no_commit_after_a_fault : May (JournalFault ∷ []) (Commit 1 (n 2) (one_put ∷ [])) → ⊥
no_commit_after_a_fault h = none_some [] h.0

no_sync_after_a_fault : May (JournalFault ∷ []) (Synced 1 (n 1)) → ⊥
no_sync_after_a_fault h = none_some [] h.0

no_freeze_after_a_fault : May (JournalFault ∷ []) (Freeze (n 1)) → ⊥
no_freeze_after_a_fault h = none_some [] h.0

no_job_after_a_fault : May (Freeze (n 1) ∷ JournalFault ∷ []) (Begin 2 (flush 1)) → ⊥
no_job_after_a_fault h = none_some [] h.0

no_second_fault : May (JournalFault ∷ []) JournalFault → ⊥
no_second_fault h = none_some [] h

a_hold_after_a_fault : May (JournalFault ∷ []) (Hold 1 (n 1))
a_hold_after_a_fault = (refl, omega arith)

a_stop_after_a_fault : May (JournalFault ∷ []) (Stop 0 None)
a_stop_after_a_fault = (refl, omega arith, tt)

-- the next session has no fault
a_commit_of_the_next_session : May (JournalFault ∷ Stop (n 1) None ∷ Opened 2 1 ∷ []) (Commit 1 (number_of 2 1) (one_put ∷ []))
a_commit_of_the_next_session = (refl, omega arith, omega arith, refl, omega arith)

a_look_after_a_fault : May (JournalFault ∷ []) (Look 1 (n 1))
a_look_after_a_fault = refl

-- ---- jobs

no_second_job : May (Freeze (n 1) ∷ Begin 2 (flush 1) ∷ []) (Begin 2 (job MergeJob 3 [] [] 2 1)) → ⊥
no_second_job h = none_some (flush 1) h.1

no_second_flush : May (Freeze (n 1) ∷ Begin 2 (flush 1) ∷ []) (Begin 3 (job FlushJob 0 [] [] 2 1)) → ⊥
no_second_flush h = true≢false (sym h.2.free)

no_flush_of_nothing : May [] (Begin 2 (flush 1)) → ⊥
no_flush_of_nothing h = true≢false (sym h.2.kind.frozen)

no_second_freeze : May (Freeze (n 1) ∷ Commit 1 (n 2) (one_put ∷ []) ∷ []) (Freeze (n 2)) → ⊥
no_second_freeze h = none_some (n 1) h.1

no_freeze_of_nothing : May (Freeze (n 1) ∷ []) (Freeze (n 1)) → ⊥
no_freeze_of_nothing h = omega (arith, h.2)

-- a job that is cut short wrote at most its outcome, here a table of 111 bytes
abbrev flushing : List Event
flushing = Freeze (n 1) ∷ Begin 2 (flush 1) ∷ []

a_short_at_the_limit : May flushing (Short 2 Fault 111)
unfolding table_length
a_short_at_the_limit told = omega arith

no_short_above_it : May flushing (Short 2 Fault 112) → ⊥
unfolding table_length
no_short_above_it h = omega (arith, h refl)

-- where nothing is known of contents, there is no such bound
abbrev silent : Standing
silent = run small (base false small [] []) (Opened 1 1 ∷ Commit 1 (n 1) (one_put ∷ []) ∷ flushing)

a_short_of_unknown_tables : Allowed small silent silent.session (Short 2 Fault 112)
a_short_of_unknown_tables told = absurd (false≢true told)

-- ---- rows

abbrev long_row : TableRow
long_row = record (row 1 0 (put 97 1 49 ∷ [])) { bytes = 112 }

no_row_of_another_length : Describes small long_row (put 97 1 49 ∷ []) → ⊥
unfolding table_length
no_row_of_another_length h = omega (arith, h.bytes)

-- ---- limits

a_batch_of_1000 : May [] (Commit 1 (n 2) (replicate 1000 one_put))
a_batch_of_1000 = let l = length-replicate 1000 one_put in (refl, omega (arith, l), omega (arith, l), refl, omega (arith, l))

no_batch_of_1001 : May [] (Commit 1 (n 2) (replicate 1001 one_put)) → ⊥
no_batch_of_1001 h = let l = length-replicate 1001 one_put in omega (arith, l, h.2)

no_empty_batch : May [] (Commit 1 (n 2) []) → ⊥
no_empty_batch h = omega (arith, h.1)

-- an actor with so many snapshots
abbrev holding : ℕ → Session
holding count =
    record {
      log = 1;
      stable = 0;
      committed = 0;
      reserved = 0;
      freezes = 0;
      mem_from = 0;
      frozen = None;
      held = replicate count (1, 0);
      running = [];
      faulted = None;
      edits_made = [];
      jobs_cut_short = [];
    }

abbrev opened : Standing
opened = run small (base true small [] []) (Opened 1 1 ∷ [])

a_64th_snapshot : AllowedIn small opened (holding 63) (Hold 1 0)
a_64th_snapshot = (refl, omega arith)

no_65th_snapshot : AllowedIn small opened (holding 64) (Hold 1 0) → ⊥
no_65th_snapshot h = omega (arith, h.1)

-- the snapshots of others don't count
a_snapshot_of_another : AllowedIn small opened (holding 64) (Hold 2 0)
a_snapshot_of_another = (refl, omega arith)

-- openings of a store whose last session was this one
abbrev stopped : ℕ → Standing
stopped session = base true small [] (Open session 1 ∷ [])

the_last_session : Allowed small (stopped 8388606) None (Opened 8388607 1)
the_last_session = (refl, refl, omega arith)

no_further_session : Allowed small (stopped 8388607) None (Opened 8388608 1) → ⊥
no_further_session h = omega (arith, h.2)

no_session_left_out : Allowed small (stopped 1) None (Opened 3 1) → ⊥
no_session_left_out h = omega (arith, h.1)

no_opening_while_open : May [] (Opened 2 1) → ⊥
no_opening_while_open h = h

no_release_of_what_is_not_held : May [] (Release 1 (n 1)) → ⊥
no_release_of_what_is_not_held h = true≢false (sym h)
