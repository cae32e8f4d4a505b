-- Jobs, edits and stops that no legal history has at a moment of the history `at_once`, and those beside them that it may have.
use Rattle.std.proofs.Common.{false, ◌≡◌, ℕ, true, List, [], ◌∷◌, take, Option, Some, None, refl, sym, arith}
use Rattle.std.specs.Prelude.{map, option_map}
use Rattle.std.proofs.lemmas.Bool.{true≢false}
use Rattle.peb_base.specs.Choice.{bits}
use Rattle.peb_base.specs.Tables.{table_length}
use Rattle.flsm_model.specs.declared.edit.Edit.{Edit}
use Rattle.flsm_model.specs.declared.edit.Edit.TheVariants.{Open, Flush, Move, Cut}
use Rattle.flsm_model.specs.declared.job_kind.JobKind.TheVariants.{Move as MoveJob}
use Rattle.flsm_model.specs.declared.job.Job.{Job}
use Rattle.flsm_model.specs.declared.mode.Mode.TheVariants.{Take, Append, Cut as CutClaim}
use Rattle.flsm_model.specs.declared.short_cause.ShortCause.TheVariants.{Fault}
use Rattle.flsm_model.specs.Claims.{modes_conflict, jobs_conflict}
use Rattle.flsm_model.specs.Events.{Event, Opened, Commit, Begin, Done, Short, JournalFault, Stop, Session, Standing, base}
use Rattle.flsm_model.specs.Fits.{fits}
use Rattle.flsm_model.specs.Legal.{Allowed}
use Rattle.flsm_model.specs.Outcomes.{IsFormed}
use Rattle.flsm_model.specs.Settled.{Settled, is_idle, idles_between}
use Rattle.flsm_model.specs.Shape.{Record}
use Rattle.flsm_model.specs.Steps.{run}
use Rattle.flsm_model.proofs.examples.Samples.{small, n, put, row, described, job, o_key}
use Rattle.flsm_model.proofs.examples.ExampleHistories.{at_once, cut_at, move_three, stops, one_put, flush_job}

-- what stands after so many of its events
abbrev at : ℕ → Standing
at count = run small (base true small [] []) (take count at_once)

-- the event may come then
abbrev MayAt : ℕ → Event → Type 0
MayAt count e = Allowed small (at count) (at count).session e

busy : {X : Type 0} (x : X) → Some x ≡ None → ⊥
busy x h = cc

-- ---- actors and claims

-- while a Flush of actor 2 is in flight, another actor's Cut may begin, and none of actor 2
a_cut_beside_a_flush : MayAt 12 (Begin 3 (cut_at 3))
unfolding bits lib.Count.count_trailing_zeros
a_cut_beside_a_flush = (refl, refl, record { free = refl; floor = refl; numbers = refl; room = omega arith; kind = record { range = refl; fit = refl; inside = refl; keys = refl } })

no_cut_of_a_busy_actor : MayAt 12 (Begin 2 (cut_at 3)) → ⊥
no_cut_of_a_busy_actor h = busy (flush_job 3 3) h.1

no_flush_beside_a_flush : MayAt 12 (Begin 3 (flush_job 4 3)) → ⊥
no_flush_beside_a_flush h = true≢false (sym h.2.free)

-- while level 1 is cut, no Move appends to it; once it is cut, the Move may begin
no_move_into_a_level_that_is_cut : MayAt 18 (Begin 2 move_three) → ⊥
no_move_into_a_level_that_is_cut h = true≢false (sym h.2.free)

a_move_once_it_is_cut : MayAt 19 (Begin 2 move_three)
unfolding bits lib.Count.count_trailing_zeros
a_move_once_it_is_cut = (refl, refl, record { free = refl; floor = refl; numbers = refl; room = omega arith; kind = record { range = refl; fit = refl; inside = refl; all = refl; committed = refl; keys = refl } })

-- a Move waits until the candidates of its range are guards of each deeper level
no_move_before_the_cuts : MayAt 14 (Begin 2 move_three) → ⊥
unfolding bits lib.Count.count_trailing_zeros
no_move_before_the_cuts h = true≢false (sym h.2.kind.committed)

-- what bears what beside it, in one range of a level
modes_beside_each_other : map (λ m. map (modes_conflict m) (Take ∷ Append ∷ CutClaim ∷ [])) (Take ∷ Append ∷ CutClaim ∷ [])
    ≡ (true ∷ false ∷ true ∷ []) ∷ (false ∷ false ∷ true ∷ []) ∷ (true ∷ true ∷ true ∷ []) ∷ []
modes_beside_each_other = refl

-- ranges that only touch have no key in common
abbrev below_o : Job
below_o = record (job MoveJob 1 [] [] 9 3) { hi = Some o_key }

abbrev from_o : Job
from_o = record (job MoveJob 1 [] [] 9 3) { lo = o_key }

apart_at_o : (jobs_conflict below_o from_o ≡ false) × (jobs_conflict from_o below_o ≡ false)
apart_at_o = (refl, refl)

not_beside_itself : (jobs_conflict below_o below_o ≡ true) × (jobs_conflict from_o from_o ≡ true)
not_beside_itself = (refl, refl)

-- ---- table numbers

-- a job takes the next ones: neither those of another job nor any left out
no_numbers_of_another_job : MayAt 19 (Begin 2 (record move_three { numbers = n 3 })) → ⊥
no_numbers_of_another_job h = omega (arith, h.2.numbers)

no_numbers_left_out : MayAt 19 (Begin 2 (record move_three { numbers = n 5 })) → ⊥
no_numbers_left_out h = omega (arith, h.2.numbers)

-- the Move ends with rows of these numbers
abbrev moved : ℕ → ℕ → Edit
moved one two = Move 0 (n 3) (n 1 ∷ n 2 ∷ n 3 ∷ []) (row one 1 (put 97 1 49 ∷ []) ∷ row two 1 (put 111 2 50 ∷ put 122 3 51 ∷ []) ∷ [])

no_number_of_a_live_table : MayAt 20 (Done 2 (moved 3 5)) → ⊥
unfolding table_length bits lib.Count.count_trailing_zeros
no_number_of_a_live_table h = true≢false (sym h.1.formed.fit)

no_number_for_two_tables : MayAt 20 (Done 2 (moved 4 4)) → ⊥
unfolding table_length bits lib.Count.count_trailing_zeros
no_number_for_two_tables h = true≢false (sym h.1.formed.fit)

no_number_past_its_block : MayAt 20 (Done 2 (moved 4 6)) → ⊥
no_number_past_its_block h = true≢false (sym h.1.formed.numbers)

-- nor the number of a table that is gone
no_number_of_a_table_that_is_gone : fits small (at 21).tree.shape (Flush (row 1 0 (put 97 4 49 ∷ [])) (n 3) (n 4) 5 []) ≡ false
unfolding table_length bits lib.Count.count_trailing_zeros
no_number_of_a_table_that_is_gone = refl

a_number_of_no_table : fits small (at 21).tree.shape (Flush (row 6 0 (put 97 4 49 ∷ [])) (n 3) (n 4) 5 []) ≡ true
unfolding table_length bits lib.Count.count_trailing_zeros
a_number_of_no_table = refl

-- nor one of an earlier session
abbrev reopened : Standing
reopened = run small (at 22) (Opened 2 4 ∷ [])

no_number_of_an_earlier_session : fits small reopened.tree.shape (Flush (row 6 0 (put 97 4 49 ∷ [])) (n 3) (n 4) 5 []) ≡ false
unfolding table_length bits lib.Count.count_trailing_zeros
no_number_of_an_earlier_session = refl

-- ---- rows outside of their job's range

-- the Move of the table below `o`
abbrev move_below : Job
move_below = record (job MoveJob 1 (n 4 ∷ []) [] 6 3) { hi = Some o_key }

-- ends with one row of such a key
abbrev moved_key : ℕ → Edit
moved_key key = Move 1 (n 3) (n 4 ∷ []) (row 6 2 (put key 1 49 ∷ []) ∷ [])

-- in a session of table numbers from 1.6 on
abbrev then : Session
then =
    record {
      log = 1;
      stable = n 3;
      committed = 3;
      reserved = 5;
      freezes = 3;
      mem_from = n 3;
      frozen = None;
      held = [];
      running = (2, move_below) ∷ [];
      faulted = None;
      edits_made = [];
      jobs_cut_short = [];
    }

a_row_in_the_range : IsFormed small (at 21).tree.shape then move_below (moved_key 97)
unfolding table_length bits lib.Count.count_trailing_zeros
a_row_in_the_range = record { same = (refl, refl, refl); fit = refl; inside = refl; numbers = refl }

-- it fits, but it is no such job's
a_row_that_fits : fits small (at 21).tree.shape (moved_key 122) ≡ true
unfolding table_length bits lib.Count.count_trailing_zeros
a_row_that_fits = refl

no_row_outside_the_range : IsFormed small (at 21).tree.shape then move_below (moved_key 122) → ⊥
no_row_outside_the_range h = true≢false (sym h.inside)

-- ---- edits that a stop leaves

abbrev flushed : Edit
flushed = Flush (row 2 0 (put 97 1 49 ∷ [])) 0 (n 1) 2 []

-- after so many events of the history `stops`, in which the Flush is in flight from the sixth on
abbrev stopping : ℕ → List Event → Standing
stopping count es = run small (run small (base true small [] []) (take count stops)) es

abbrev MayStopAt : ℕ → List Event → Type 0
MayStopAt count es = Allowed small (stopping count es) (stopping count es).session (Stop (n 1) (Some flushed))

no_edit_of_a_job_that_ended : MayStopAt 5 [] → ⊥
no_edit_of_a_job_that_ended h = h.2.1

an_edit_of_a_job_in_flight : MayStopAt 6 []
unfolding table_length bits lib.Count.count_trailing_zeros
an_edit_of_a_job_in_flight = (refl, omega arith, (2, record { formed = record { same = (refl, refl); fit = refl; inside = refl; numbers = refl }; holds = λ told. (described 2 0 (put 97 1 49) [], tt); chooses = λ told. refl }))

-- in flight at the fault, and cut short since
an_edit_of_the_fault : MayStopAt 7 (Short 2 Fault 0 ∷ [])
unfolding table_length bits lib.Count.count_trailing_zeros
an_edit_of_the_fault = (refl, omega arith, (2, record { formed = record { same = (refl, refl); fit = refl; inside = refl; numbers = refl }; holds = λ told. (described 2 0 (put 97 1 49) [], tt); chooses = λ told. refl }))

no_edit_of_a_job_that_ended_before_the_fault : MayStopAt 6 (Short 2 Fault 0 ∷ JournalFault ∷ []) → ⊥
no_edit_of_a_job_that_ended_before_the_fault h = h.2.1

-- the edit is left, and is the last
a_stop_leaves_its_edit : (stopping 8 []).edits ≡ Open 1 1 ∷ flushed ∷ []
a_stop_leaves_its_edit = refl

a_stop_without_an_edit : (stopping 7 (Stop (n 1) None ∷ [])).edits ≡ Open 1 1 ∷ []
a_stop_without_an_edit = refl

-- ---- what a session keeps

-- the edits that it made, in their order, without its opening's
abbrev made : ℕ → Option Record
made count = option_map {T = Session} {U = Record} (λ s. s.edits_made) (at count).session

makes_none_at_first : made 1 ≡ Some []
makes_none_at_first = refl

keeps_its_edits : made 15
    ≡ Some (
    Flush (row 1 0 (put 97 1 49 ∷ [])) 0 (n 1) 2 []
    ∷ Flush (row 2 0 (put 111 2 50 ∷ [])) (n 1) (n 2) 3 (record { key = o_key; level = 1 } ∷ [])
    ∷ Flush (row 3 0 (put 122 3 51 ∷ [])) (n 2) (n 3) 4 []
    ∷ Cut 3 (o_key ∷ []) [] [] ∷ []
    )
keeps_its_edits = refl

-- its jobs that were cut short, with the level into which each wrote and its bytes
abbrev cut_short : List Event → Option (List (ℕ × ℕ))
cut_short es = option_map {T = Session} {U = List (ℕ × ℕ)} (λ s. s.jobs_cut_short) (stopping 5 es).session

keeps_its_shorts : cut_short (Begin 2 (flush_job 2 1) ∷ Short 2 Fault 30 ∷ []) ≡ Some ((0, 28) ∷ (0, 30) ∷ [])
keeps_its_shorts = refl

the_next_session_has_none : cut_short (Stop (n 1) None ∷ Opened 2 2 ∷ []) ≡ Some []
the_next_session_has_none = refl

-- a Move writes into the level below
a_short_move : option_map {T = Session} {U = List (ℕ × ℕ)} (λ s. s.jobs_cut_short) (run small (at 20) (Short 2 Fault 5 ∷ [])).session ≡ Some ((1, 5) ∷ [])
a_short_move = refl

-- ---- stores with work

-- frozen, with nothing in flight: the Flush is due
no_rest_before_a_flush : Settled small (base true small [] []) (take 11 at_once) → ⊥
no_rest_before_a_flush h = true≢false (sym h.frozen)

never_idle_before_a_flush : is_idle small (at 11) (at 11).session ≡ false
never_idle_before_a_flush = refl

-- while it is in flight nothing else is due
idle_beside_a_flush : is_idle small (at 8) (at 8).session ≡ true
unfolding bits lib.Count.count_trailing_zeros
idle_beside_a_flush = refl

-- a level that holds too much
some_nothing : {X : Type 0} (x : X) (xs : List X) → x ∷ xs ≡ [] → ⊥
some_nothing x xs h = cc

not_at_rest : Settled small (base true small [] []) (take 19 at_once) → ⊥
not_at_rest h = some_nothing ([], None) [] (h.room 0 (omega arith))

never_idle : is_idle small (at 19) (at 19).session ≡ false
unfolding bits lib.Count.count_trailing_zeros
never_idle = refl

idle_at_rest : is_idle small (at 21) (at 21).session ≡ true
unfolding bits lib.Count.count_trailing_zeros
idle_at_rest = refl

-- between two Commits of an actor, with a level that holds too much all the while
abbrev commits : List Event
commits = Commit 1 (n 4) (one_put 97 49) ∷ Commit 1 (n 5) (one_put 97 49) ∷ []

no_idle_between : idles_between small (at 19) commits ≡ false
unfolding bits lib.Count.count_trailing_zeros
no_idle_between = refl

idles_at_rest : idles_between small (at 21) commits ≡ true
unfolding bits lib.Count.count_trailing_zeros
idles_at_rest = refl
