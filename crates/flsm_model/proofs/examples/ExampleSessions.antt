-- What a session keeps and ends with, histories over devices that tell nothing, and what isn't at rest.
use Rattle.std.proofs.Common.{◌≡◌, ℕ, true, false, List, [], ◌∷◌, Option, Some, None, refl, sym, arith}
use Rattle.std.specs.Prelude.{◌+◌, ◌*◌, ◌^◌}
use Rattle.std.specs.List.{list_all}
use Rattle.std.proofs.lemmas.Bool.{true≢false, false≢true}
use Rattle.peb_base.specs.Choice.{bits}
use Rattle.peb_base.specs.declared.change.Change.TheVariants.{Put}
use Rattle.peb_base.specs.declared.op.Op.{Op}
use Rattle.peb_base.specs.declared.table_row.TableRow.{TableRow}
use Rattle.flsm_model.specs.declared.edit.Edit.{Edit}
use Rattle.flsm_model.specs.declared.edit.Edit.TheVariants.{Open, Flush, Move}
use Rattle.flsm_model.specs.declared.job_kind.JobKind.TheVariants.{Flush as FlushJob, Move as MoveJob, Cut as CutJob}
use Rattle.flsm_model.specs.declared.job.Job.{Job}
use Rattle.flsm_model.specs.declared.short_cause.ShortCause.TheVariants.{Fault}
use Rattle.flsm_model.specs.Shape.{Record, Shape, empty_shape}
use Rattle.flsm_model.specs.Fits.{fits, is_legal_record, lies_in}
use Rattle.flsm_model.specs.Ledgers.{Shorts}
use Rattle.flsm_model.specs.Events.{Event, Opened, Commit, Synced, Look, Hold, Freeze, Begin, Done, Short, JournalFault, Stop, Session, Standing, Running, base}
use Rattle.flsm_model.specs.Steps.{run, job_of, without_job}
use Rattle.flsm_model.specs.Jobs.{job_range}
use Rattle.flsm_model.specs.Outcomes.{IsFormed}
use Rattle.flsm_model.specs.Legal.{Allowed, IsLegal}
use Rattle.flsm_model.specs.Picking.{over_at}
use Rattle.flsm_model.specs.Settled.{none_frozen, is_idle, idles_between, Settled}
use Rattle.flsm_model.proofs.examples.Samples.{small, n, put, row, job, o_key}

infixr 5 ◌then◌
abbrev ◌then◌ : {A B : Type 0} → A → B → A × B
◌then◌ first rest = (first, rest)

abbrev one_put : Op
one_put = record { key = 97 ∷ []; change = Put (49 ∷ []) }

abbrev flush : ℕ → Job
flush count = job FlushJob 0 [] [] count 1

-- ---- what a session keeps: the edits that it made and the jobs that it cut short, with their bytes

abbrev flushed : Edit
flushed = Flush (row 2 0 (put 97 1 49 ∷ [])) 0 (n 1) 2 []

abbrev works : List Event
works =
    Opened 1 1 ∷ Commit 1 (n 1) (one_put ∷ []) ∷ Freeze (n 1)
    ∷ Begin 2 (flush 1) ∷ Short 2 Fault 28
    ∷ Begin 2 (flush 2) ∷ Done 2 flushed
    ∷ Begin 3 (job MoveJob 0 (n 2 ∷ []) [] 3 1) ∷ Short 3 Fault 17
    ∷ []

abbrev edits_of : Option Session → Record
edits_of None = []
edits_of (Some s) = s.edits_made

abbrev shorts_in : Option Session → Shorts
shorts_in None = []
shorts_in (Some s) = s.jobs_cut_short

abbrev worked : Standing
worked = run small (base true small [] []) works

keeps_its_edits : edits_of worked.session ≡ flushed ∷ []
keeps_its_edits = refl

keeps_its_shorts : shorts_in worked.session ≡ (0, 28) ∷ (1, 17) ∷ []
keeps_its_shorts = refl

-- the next session begins with none
abbrev next : Standing
next = run small worked (Stop (n 1) None ∷ Opened 2 2 ∷ [])

begins_anew : (edits_of next.session ≡ []) × (shorts_in next.session ≡ [])
begins_anew = (refl, refl)

-- while the record keeps them all
record_keeps_all : next.edits ≡ Open 1 1 ∷ flushed ∷ Open 2 2 ∷ []
record_keeps_all = refl

-- ---- the job of an actor

abbrev a_cut : Job
a_cut = job CutJob 3 [] (o_key ∷ []) 2 1

abbrev two_jobs : List Running
two_jobs = (2, flush 1) ∷ (3, a_cut) ∷ []

-- with another actor's job between
finds_behind_another : (job_of two_jobs 2 ≡ Some (flush 1)) × (job_of two_jobs 3 ≡ Some a_cut) × (job_of two_jobs 4 ≡ None)
finds_behind_another = (refl, refl, refl)

ends_its_own : (without_job two_jobs 2 ≡ (3, a_cut) ∷ []) × (without_job two_jobs 3 ≡ (2, flush 1) ∷ []) × (without_job two_jobs 4 ≡ two_jobs)
ends_its_own = (refl, refl, refl)

some_not_none : {X : Type 0} (x : X) → Some x ≡ None → ⊥
some_not_none x h = cc

-- an actor whose job stands behind another one begins no second job
abbrev busy : Standing
busy = run small (base true small [] []) (Opened 1 1 ∷ Commit 1 (n 1) (one_put ∷ []) ∷ Freeze (n 1) ∷ Begin 3 a_cut ∷ Begin 2 (flush 3) ∷ [])

no_second_job_behind_another : Allowed small busy busy.session (Begin 3 (job CutJob 2 [] (o_key ∷ []) 4 1)) → ⊥
no_second_job_behind_another h = some_not_none a_cut h.1

-- ---- stops

-- no stop leaves an edit that no job made
no_stop_with_an_edit_of_nobody : Allowed small worked worked.session (Stop (n 1) (Some flushed)) → ⊥
no_stop_with_an_edit_of_nobody h = h.2.1

-- what stood at the opening stays
abbrev reopened : Standing
reopened = run small worked (Stop (n 1) None ∷ Opened 2 2 ∷ Commit 1 (2 * 2 ^ 40 + 1) (one_put ∷ []) ∷ [])

no_stop_below_an_opening : Allowed small reopened reopened.session (Stop 0 None) → ⊥
no_stop_below_an_opening h = omega (arith, h.1)

a_stop_at_an_opening : Allowed small reopened reopened.session (Stop (n 1) None)
a_stop_at_an_opening = (refl, omega arith, tt)

a_stop_with_all : Allowed small reopened reopened.session (Stop (2 * 2 ^ 40 + 1) None)
a_stop_with_all = (refl, omega arith, tt)

-- ---- after the journal's fault

-- there is no later sync, also not of what was committed before, and no freeze; reads and snapshots go on
abbrev faulty : Standing
faulty = run small (base true small [] []) (Opened 1 1 ∷ Commit 1 (n 1) (one_put ∷ []) ∷ JournalFault ∷ Look 1 (n 1) ∷ [])

no_later_sync : Allowed small faulty faulty.session (Synced 2 (n 1)) → ⊥
no_later_sync h = some_not_none [] h.0

no_later_freeze : Allowed small faulty faulty.session (Freeze (n 1)) → ⊥
no_later_freeze h = some_not_none [] h.0

a_later_snapshot : Allowed small faulty faulty.session (Hold 2 (n 1))
a_later_snapshot = (refl, omega arith)

-- ---- devices that tell nothing: one table was flushed up to 1.1, and nothing of it is read

abbrev untold_record : Record
untold_record = Open 1 1 ∷ Flush (row 1 0 (put 97 1 49 ∷ [])) 0 (n 1) 2 [] ∷ []

untold_is_legal_record : is_legal_record small untold_record ≡ true
unfolding bits lib.Count.count_trailing_zeros
untold_is_legal_record = refl

abbrev silent : List Event → Standing
silent es = run small (base false small [] untold_record) (Opened 2 2 ∷ es)

-- the event may come after these
abbrev Silently : List Event → Event → Type 0
Silently es e = Allowed small (silent es) (silent es).session e

-- what is told and where a stop may cut begins at the last flush
a_look_at_the_flush : Silently [] (Look 1 (n 1))
a_look_at_the_flush = refl

no_look_below_the_flush : Silently [] (Look 1 0) → ⊥
no_look_below_the_flush h = omega (arith, h)

a_stop_at_the_flush : Silently [] (Stop (n 1) None)
a_stop_at_the_flush = (refl, omega arith, tt)

no_stop_below_the_flush : Silently [] (Stop 0 None) → ⊥
no_stop_below_the_flush h = omega (arith, h.1)

no_stop_above_all : Silently [] (Stop (n 2) None) → ⊥
no_stop_above_all h = true≢false (sym h.0)

-- a whole history: a flush whose table nobody knows, a stop at its end, and the next opening
abbrev second : ℕ
second = 2 * 2 ^ 40 + 1

abbrev any_row : TableRow
any_row = record (row 2 0 (put 98 2 49 ∷ [])) { number = second; first = second; last = second; bytes = 500 }

abbrev untold_history : List Event
untold_history =
    Opened 2 2 ∷ Look 1 (n 1) ∷ Commit 1 second (one_put ∷ []) ∷ Freeze second
    ∷ Begin 2 (record (flush 1) { numbers = second; floor = second })
    ∷ Done 2 (Flush any_row (n 1) second 3 [])
    ∷ Stop second None
    ∷ Opened 3 3
    ∷ []

untold_history_is_legal : IsLegal small (base false small [] untold_record) untold_history
unfolding bits lib.Count.count_trailing_zeros
untold_history_is_legal =
    (refl, refl, omega arith)
    then refl
    then (refl, omega arith, omega arith, refl, omega arith)
    then (refl, refl, omega arith, refl)
    then (refl, refl, record { free = refl; floor = refl; numbers = refl; room = omega arith; kind = record { frozen = refl; range = (refl, refl); level = refl; nothing = (refl, refl) } })
    then (refl, record { formed = record { same = (refl, refl); fit = refl; inside = refl; numbers = refl }; holds = λ told. absurd (false≢true told); chooses = λ told. absurd (false≢true told) })
    then (refl, omega arith, tt)
    then (refl, refl, omega arith)
    then tt

-- ---- rows that an edit adds

abbrev one_used : Shape
one_used = record (empty_shape small) { session = 1; used = n 1 ∷ [] }

abbrev flush_of : ℕ → Edit
flush_of count = Flush (row count 0 (put 97 1 49 ∷ [])) 0 (n 1) 2 []

-- no number is used twice, nor is one of a session that isn't open
a_new_number : fits small one_used (flush_of 2) ≡ true
unfolding bits lib.Count.count_trailing_zeros
a_new_number = refl

no_used_number : fits small one_used (flush_of 1) ≡ false
unfolding bits lib.Count.count_trailing_zeros
no_used_number = refl

-- nor twice in one edit
abbrev to_be_moved : Shape
to_be_moved =
    record (empty_shape small) {
      session = 1;
      to = n 2;
      log = 2;
      used = n 1 ∷ [];
      guards = (o_key ∷ []) ∷ (o_key ∷ []) ∷ (o_key ∷ []) ∷ [];
      live = row 1 0 (put 97 1 49 ∷ put 122 2 49 ∷ []) ∷ [];
    }

abbrev move_to : ℕ → ℕ → Edit
move_to first second = Move 0 (n 2) (n 1 ∷ []) (row first 1 (put 97 1 49 ∷ []) ∷ row second 1 (put 122 2 49 ∷ []) ∷ [])

two_new_numbers : fits small to_be_moved (move_to 2 3) ≡ true
unfolding bits lib.Count.count_trailing_zeros
two_new_numbers = refl

no_number_twice : fits small to_be_moved (move_to 2 2) ≡ false
unfolding bits lib.Count.count_trailing_zeros
no_number_twice = refl

-- an output lies in its job's range
abbrev above_o : Job
above_o = record (job MoveJob 1 (n 1 ∷ []) (o_key ∷ []) 2 2) { lo = o_key }

abbrev moved : List TableRow → Edit
moved rows = Move 1 (n 2) (n 1 ∷ []) rows

inside_the_range : list_all (lies_in (job_range above_o)) (row 2 2 (put 111 1 49 ∷ put 122 2 49 ∷ []) ∷ []) ≡ true
inside_the_range = refl

no_row_outside_the_range : (s : Shape) (m : Session) → IsFormed small s m above_o (moved (row 2 2 (put 97 1 49 ∷ []) ∷ [])) → ⊥
no_row_outside_the_range s m h = true≢false (sym h.inside)

-- nor may it begin there and end behind
abbrev below_o : Job
below_o = record (job MoveJob 1 (n 1 ∷ []) [] 2 2) { hi = Some o_key }

no_row_across_the_range : (s : Shape) (m : Session) → IsFormed small s m below_o (moved (row 2 2 (put 97 1 49 ∷ put 122 2 49 ∷ []) ∷ [])) → ⊥
no_row_across_the_range s m h = true≢false (sym h.inside)

-- and has one of the job's numbers
no_row_of_another_job : (s : Shape) (m : Session) → IsFormed small s m above_o (moved (row 4 2 (put 111 1 49 ∷ []) ∷ [])) → ⊥
no_row_of_another_job s m h = true≢false (sym h.numbers)

-- ---- a store with work isn't at rest

abbrev table : ℕ → TableRow
table count = row count 1 (put 97 count 49 ∷ put 122 count 49 ∷ [])

-- a session over so many tables of level 1
abbrev resting : List TableRow → Standing
resting rows =
    let w = run small (base true small [] []) (Opened 1 1 ∷ []) in
    record w { tree = record { shape = record (empty_shape small) { session = 1; live = rows }; tables = [] } }

abbrev two_tables : Standing
two_tables = resting (table 1 ∷ table 2 ∷ [])

abbrev three_tables : Standing
three_tables = resting (table 1 ∷ table 2 ∷ table 3 ∷ [])

idle_over_two : is_idle small two_tables two_tables.session ≡ true
idle_over_two = refl

not_idle_over_three : is_idle small three_tables three_tables.session ≡ false
not_idle_over_three = refl

room_over_two : over_at small two_tables.tree.shape 1 ≡ []
room_over_two = refl

not_settled_over_three : Settled small three_tables [] → ⊥
not_settled_over_three h = some_not_empty (h.room 1 (omega arith))
  where
    some_not_empty : {X : Type 0} {x : X} {xs : List X} → x ∷ xs ≡ [] → ⊥
    some_not_empty h = cc

-- nor while something is frozen
abbrev frozen : Standing
frozen = run small (base true small [] []) (Opened 1 1 ∷ Commit 1 (n 1) (one_put ∷ []) ∷ Freeze (n 1) ∷ [])

not_idle_while_frozen : (none_frozen frozen.session ≡ false) × (is_idle small frozen frozen.session ≡ false)
not_idle_while_frozen = (refl, refl)

-- between two Commits of one actor work is done
no_commits_over_work : idles_between small three_tables (Commit 1 (n 1) (one_put ∷ []) ∷ Commit 1 (n 2) (one_put ∷ []) ∷ []) ≡ false
no_commits_over_work = refl

commits_at_rest : idles_between small two_tables (Commit 1 (n 1) (one_put ∷ []) ∷ Commit 1 (n 2) (one_put ∷ []) ∷ []) ≡ true
commits_at_rest = refl

-- those of others don't wait for each other
commits_of_two : idles_between small three_tables (Commit 1 (n 1) (one_put ∷ []) ∷ Commit 2 (n 2) (one_put ∷ []) ∷ []) ≡ true
commits_of_two = refl
