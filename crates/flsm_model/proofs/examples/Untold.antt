-- Histories over tables of which nothing is known: the record tells of one flush, and no batch was read.
use Rattle.std.proofs.Common.{ℕ, true, false, List, [], ◌∷◌, None, refl, sym, arith}
use Rattle.std.proofs.lemmas.Bool.{true≢false, false≢true}
use Rattle.peb_base.specs.Choice.{bits}
use Rattle.peb_base.specs.Numbers.{number_of}
use Rattle.peb_base.specs.Tables.{table_length}
use Rattle.flsm_model.specs.declared.edit.Edit.TheVariants.{Open, Flush}
use Rattle.flsm_model.specs.declared.job_kind.JobKind.TheVariants.{Flush as FlushJob}
use Rattle.flsm_model.specs.declared.job.Job.{Job}
use Rattle.flsm_model.specs.Events.{Event, Opened, Commit, Synced, Look, Hold, Freeze, Begin, Done, Stop, Standing, base}
use Rattle.flsm_model.specs.Legal.{Allowed, IsLegal, IsBase}
use Rattle.flsm_model.specs.Shape.{Record}
use Rattle.flsm_model.specs.Steps.{run}
use Rattle.flsm_model.proofs.examples.Samples.{small, n, put, row}
use Rattle.flsm_model.proofs.examples.ExampleHistories.{◌then◌, one_put}

abbrev flushed_once : Record
flushed_once = Open 1 1 ∷ Flush (row 1 0 (put 97 1 49 ∷ [])) 0 (n 1) 2 [] ∷ []

a_base : IsBase false small [] flushed_once
unfolding table_length bits lib.Count.count_trailing_zeros
a_base = record { legal = refl; sessions = omega arith; holds = λ told. absurd (false≢true told) }

-- a number of session 2
abbrev n2 : ℕ → ℕ
n2 count = number_of 2 count

abbrev flush_job : Job
flush_job =
    record {
      kind = FlushJob;
      level = 0;
      lo = [];
      hi = None;
      inputs = [];
      keys = [];
      numbers = n2 1;
      floor = n 1;
      whole = false;
    }

-- the last flush's number is read and held; the Flush's row may tell anything that fits
abbrev untold : List Event
untold =
    Opened 2 2
    ∷ Look 1 (n 1) ∷ Hold 1 (n 1)
    ∷ Commit 1 (n2 1) (one_put 97 49) ∷ Freeze (n2 1)
    ∷ Begin 2 flush_job
    ∷ Done 2 (Flush (record (row 1 0 (put 98 1 50 ∷ [])) { number = n2 1; first = n2 1; last = n2 1 }) (n 1) (n2 1) 3 [])
    ∷ Stop (n2 1) None
    ∷ Opened 3 3
    ∷ []

untold_is_legal : IsLegal small (base false small [] flushed_once) untold
unfolding table_length bits lib.Count.count_trailing_zeros
untold_is_legal =
    (refl, refl, omega arith)
    then refl then (refl, omega arith)
    then (refl, omega arith, omega arith, refl, omega arith)
    then (refl, refl, omega arith, refl)
    then (refl, refl, record { free = refl; floor = refl; numbers = refl; room = omega arith; kind = record { frozen = refl; range = (refl, refl); level = refl; nothing = (refl, refl) } })
    then (refl, record { formed = record { same = (refl, refl); fit = refl; inside = refl; numbers = refl }; holds = λ told. absurd (false≢true told); chooses = λ told. absurd (false≢true told) })
    then (refl, omega arith, tt)
    then (refl, refl, omega arith)
    then tt

-- ---- the last flush's mark

-- what stands after an opening over that record, and further events
abbrev after : List Event → Standing
after es = run small (base false small [] flushed_once) (Opened 2 2 ∷ es)

abbrev May : List Event → Event → Type 0
May es e = Allowed small (after es) (after es).session e

no_look_below_the_flush : May [] (Look 1 0) → ⊥
no_look_below_the_flush h = omega (arith, h)

a_look_at_the_flush : May [] (Look 1 (n 1))
a_look_at_the_flush = refl

no_hold_below_the_flush : May [] (Hold 1 0) → ⊥
no_hold_below_the_flush h = omega (arith, h.0)

no_sync_below_the_flush : May [] (Synced 1 0) → ⊥
no_sync_below_the_flush h = omega (arith, h.1)

no_freeze_of_what_was_flushed : May [] (Freeze (n 1)) → ⊥
no_freeze_of_what_was_flushed h = omega (arith, h.2)

-- a stop leaves what was flushed, and may leave no batch above it
no_stop_below_the_flush : May (Commit 1 (n2 1) (one_put 97 49) ∷ []) (Stop 0 None) → ⊥
no_stop_below_the_flush h = omega (arith, h.1)

a_stop_at_the_flush : May (Commit 1 (n2 1) (one_put 97 49) ∷ []) (Stop (n 1) None)
a_stop_at_the_flush = (refl, omega arith, tt)

a_stop_at_the_last : May (Commit 1 (n2 1) (one_put 97 49) ∷ []) (Stop (n2 1) None)
a_stop_at_the_last = (refl, omega arith, tt)

no_stop_between : May (Commit 1 (n2 1) (one_put 97 49) ∷ []) (Stop (n 2) None) → ⊥
no_stop_between h = true≢false (sym h.0)

no_stop_below_a_sync : May (Commit 1 (n2 1) (one_put 97 49) ∷ Synced 1 (n2 1) ∷ []) (Stop (n 1) None) → ⊥
no_stop_below_a_sync h = omega (arith, h.1)

-- where contents are known, the batches of the flush are there, and their ends alone are met
no_such_stop_where_told : Allowed small (run small (base true small [] flushed_once) (Opened 2 2 ∷ [])) (run small (base true small [] flushed_once) (Opened 2 2 ∷ [])).session (Stop (n 1) None) → ⊥
no_such_stop_where_told h = true≢false (sym h.0)
