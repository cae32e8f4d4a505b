-- Closed histories that are legal: the premises of the laws can be met, with jobs beside each other, a merge in the last level, and a stop.
use Rattle.std.proofs.Common.{◌≡◌, ℕ, zero, suc, ◌≤◌, true, false, List, [], ◌∷◌, take, Some, None, refl, arith}
use Rattle.peb_base.specs.Choice.{bits}
use Rattle.peb_base.specs.Tables.{table_length}
use Rattle.peb_base.specs.declared.change.Change.TheVariants.{Put, Delete}
use Rattle.peb_base.specs.declared.op.Op.{Op}
use Rattle.flsm_model.specs.declared.edit.Edit.TheVariants.{Flush, Move, Cut, Merge}
use Rattle.flsm_model.specs.declared.job_kind.JobKind.TheVariants.{Flush as FlushJob, Move as MoveJob, Cut as CutJob, Merge as MergeJob}
use Rattle.flsm_model.specs.declared.job.Job.{Job}
use Rattle.flsm_model.specs.declared.short_cause.ShortCause.TheVariants.{Fault}
use Rattle.flsm_model.specs.Events.{Event, Opened, Commit, Synced, Look, Hold, Release, Freeze, Begin, Done, Short, JournalFault, Stop, Standing, base}
use Rattle.flsm_model.specs.Claims.{jobs_conflict}
use Rattle.flsm_model.specs.Steps.{run}
use Rattle.flsm_model.specs.Legal.{IsLegal}
use Rattle.flsm_model.specs.Picking.{over_at}
use Rattle.flsm_model.specs.Settled.{Settled, idles_between}
use Rattle.flsm_model.specs.Bounds.{written, cut, attempted}
use Rattle.flsm_model.proofs.examples.Samples.{small, n, put, delete, row, described, job, o_key}

-- one fact, and those of the further events
infixr 5 ◌then◌
abbrev pub ◌then◌ : {A B : Type 0} → A → B → A × B
◌then◌ first rest = (first, rest)

abbrev pub one_put : ℕ → ℕ → List Op
one_put key value = record { key = key ∷ []; change = Put (value ∷ []) } ∷ []

abbrev one_deletion : ℕ → List Op
one_deletion key = record { key = key ∷ []; change = Delete } ∷ []

abbrev pub flush_job : ℕ → ℕ → Job
flush_job numbers floor = job FlushJob 0 [] [] numbers floor

-- ---- a put that is read, snapshots, and a second opening

abbrev reads : List Event
reads =
    Opened 1 1
    ∷ Look 1 0 ∷ Hold 1 0
    ∷ Commit 1 (n 1) (one_put 97 49)
    ∷ Synced 1 (n 1) ∷ Look 2 (n 1) ∷ Release 1 0
    ∷ Stop (n 1) None
    ∷ Opened 2 1
    ∷ []

reads_are_legal : IsLegal small (base true small [] []) reads
reads_are_legal =
    (refl, refl, omega arith)
    then refl then (refl, omega arith)
    then (refl, omega arith, omega arith, refl, omega arith)
    then (refl, refl) then refl then refl
    then (refl, omega arith, tt)
    then (refl, refl, omega arith)
    then tt

-- ---- jobs at once: a Cut of the last level runs beside a Flush, the other Cuts follow, and the Move finds its candidate cut

abbrev pub cut_at : ℕ → Job
cut_at level = job CutJob level [] (o_key ∷ []) 4 3

abbrev pub move_three : Job
move_three = job MoveJob 0 (n 1 ∷ n 2 ∷ n 3 ∷ []) (o_key ∷ []) 4 3

abbrev pub at_once : List Event
at_once =
    Opened 1 1
    ∷ Commit 1 (n 1) (one_put 97 49) ∷ Freeze (n 1) ∷ Begin 2 (flush_job 1 1)
    ∷ Done 2 (Flush (row 1 0 (put 97 1 49 ∷ [])) 0 (n 1) 2 [])
    ∷ Commit 1 (n 2) (one_put 111 50) ∷ Freeze (n 2) ∷ Begin 2 (flush_job 2 2)
    ∷ Done 2 (Flush (row 2 0 (put 111 2 50 ∷ [])) (n 1) (n 2) 3 (record { key = o_key; level = 1 } ∷ []))
    ∷ Commit 1 (n 3) (one_put 122 51) ∷ Freeze (n 3) ∷ Begin 2 (flush_job 3 3) ∷ Begin 3 (cut_at 3)
    ∷ Done 2 (Flush (row 3 0 (put 122 3 51 ∷ [])) (n 2) (n 3) 4 [])
    ∷ Done 3 (Cut 3 (o_key ∷ []) [] [])
    ∷ Begin 3 (cut_at 2) ∷ Done 3 (Cut 2 (o_key ∷ []) [] [])
    ∷ Begin 3 (cut_at 1) ∷ Done 3 (Cut 1 (o_key ∷ []) [] [])
    ∷ Begin 2 move_three
    ∷ Done 2 (Move 0 (n 3) (n 1 ∷ n 2 ∷ n 3 ∷ []) (row 4 1 (put 97 1 49 ∷ []) ∷ row 5 1 (put 111 2 50 ∷ put 122 3 51 ∷ []) ∷ []))
    ∷ Stop (n 3) None
    ∷ []

at_once_is_legal : IsLegal small (base true small [] []) at_once
unfolding table_length bits lib.Count.count_trailing_zeros
at_once_is_legal =
    (refl, refl, omega arith)
    then (refl, omega arith, omega arith, refl, omega arith)
    then (refl, refl, omega arith, refl)
    then (refl, refl, record { free = refl; floor = refl; numbers = refl; room = omega arith; kind = record { frozen = refl; range = (refl, refl); level = refl; nothing = (refl, refl) } })
    then (refl, record { formed = record { same = (refl, refl); fit = refl; inside = refl; numbers = refl }; holds = λ told. (described 1 0 (put 97 1 49) [], tt); chooses = λ told. refl })
    then (refl, omega arith, omega arith, refl, omega arith)
    then (refl, refl, omega arith, refl)
    then (refl, refl, record { free = refl; floor = refl; numbers = refl; room = omega arith; kind = record { frozen = refl; range = (refl, refl); level = refl; nothing = (refl, refl) } })
    then (refl, record { formed = record { same = (refl, refl); fit = refl; inside = refl; numbers = refl }; holds = λ told. (described 2 0 (put 111 2 50) [], tt); chooses = λ told. refl })
    then (refl, omega arith, omega arith, refl, omega arith)
    then (refl, refl, omega arith, refl)
    then (refl, refl, record { free = refl; floor = refl; numbers = refl; room = omega arith; kind = record { frozen = refl; range = (refl, refl); level = refl; nothing = (refl, refl) } })
    then (refl, refl, record { free = refl; floor = refl; numbers = refl; room = omega arith; kind = record { range = refl; fit = refl; inside = refl; keys = refl } })
    then (refl, record { formed = record { same = (refl, refl); fit = refl; inside = refl; numbers = refl }; holds = λ told. (described 3 0 (put 122 3 51) [], tt); chooses = λ told. refl })
    then (refl, record { formed = record { same = (refl, refl, refl); fit = refl; inside = refl; numbers = refl }; holds = λ told. tt; chooses = λ told. tt })
    then (refl, refl, record { free = refl; floor = refl; numbers = refl; room = omega arith; kind = record { range = refl; fit = refl; inside = refl; keys = refl } })
    then (refl, record { formed = record { same = (refl, refl, refl); fit = refl; inside = refl; numbers = refl }; holds = λ told. tt; chooses = λ told. tt })
    then (refl, refl, record { free = refl; floor = refl; numbers = refl; room = omega arith; kind = record { range = refl; fit = refl; inside = refl; keys = refl } })
    then (refl, record { formed = record { same = (refl, refl, refl); fit = refl; inside = refl; numbers = refl }; holds = λ told. tt; chooses = λ told. tt })
    then (refl, refl, record { free = refl; floor = refl; numbers = refl; room = omega arith; kind = record { range = refl; fit = refl; inside = refl; all = refl; committed = refl; keys = refl } })
    then (refl, record { formed = record { same = (refl, refl, refl); fit = refl; inside = refl; numbers = refl }; holds = λ told. (described 4 1 (put 97 1 49) [], (described 5 1 (put 111 2 50) (put 122 3 51 ∷ []), tt)); chooses = λ told. tt })
    then (refl, omega arith, tt)
    then tt

-- before its stop the store is settled, and it was idle between two Commits
at_once_room : (level : ℕ) → level ≤ small.last_level → over_at small (run small (base true small [] []) (take 21 at_once)).tree.shape level ≡ []
at_once_room zero le = refl
at_once_room (suc zero) le = refl
at_once_room (suc (suc zero)) le = refl
at_once_room (suc (suc (suc zero))) le = refl
at_once_room (suc (suc (suc (suc level)))) le = absurd (omega (arith, le))

at_once_settles : Settled small (base true small [] []) (take 21 at_once)
at_once_settles = record { frozen = refl; room = at_once_room; in_time = refl }

at_once_idles : idles_between small (base true small [] []) (take 21 at_once) ≡ true
unfolding bits lib.Count.count_trailing_zeros
at_once_idles = refl

-- a Cut of level 1 doesn't run beside a Move that appends to it
append_holds_cut : jobs_conflict (cut_at 1) move_three ≡ true
append_holds_cut = refl

-- a Move of level 0 and one of level 1 may run at once, two Moves of level 0 may not
moves_in_a_row : jobs_conflict move_three (job MoveJob 1 [] [] 9 3) ≡ false
moves_in_a_row = refl

two_moves : jobs_conflict move_three (job MoveJob 0 [] [] 9 3) ≡ true
two_moves = refl

-- ---- a merge in the last level: a put and its deletion get there one after the other, and the whole merge leaves nothing

abbrev merge_job : Job
merge_job = record (job MergeJob 3 (n 4 ∷ n 8 ∷ []) [] 9 2) { whole = true }

abbrev merges : List Event
merges =
    Opened 1 1
    ∷ Commit 1 (n 1) (one_put 97 49) ∷ Freeze (n 1) ∷ Begin 2 (flush_job 1 1)
    ∷ Done 2 (Flush (row 1 0 (put 97 1 49 ∷ [])) 0 (n 1) 2 [])
    ∷ Begin 2 (job MoveJob 0 (n 1 ∷ []) [] 2 1) ∷ Done 2 (Move 0 (n 1) (n 1 ∷ []) (row 2 1 (put 97 1 49 ∷ []) ∷ []))
    ∷ Begin 2 (job MoveJob 1 (n 2 ∷ []) [] 3 1) ∷ Done 2 (Move 1 (n 1) (n 2 ∷ []) (row 3 2 (put 97 1 49 ∷ []) ∷ []))
    ∷ Begin 2 (job MoveJob 2 (n 3 ∷ []) [] 4 1) ∷ Done 2 (Move 2 (n 1) (n 3 ∷ []) (row 4 3 (put 97 1 49 ∷ []) ∷ []))
    ∷ Commit 1 (n 2) (one_deletion 97) ∷ Freeze (n 2) ∷ Begin 2 (flush_job 5 2)
    ∷ Done 2 (Flush (row 5 0 (delete 97 2 ∷ [])) (n 1) (n 2) 3 [])
    ∷ Begin 2 (job MoveJob 0 (n 5 ∷ []) [] 6 2) ∷ Done 2 (Move 0 (n 2) (n 5 ∷ []) (row 6 1 (delete 97 2 ∷ []) ∷ []))
    ∷ Begin 2 (job MoveJob 1 (n 6 ∷ []) [] 7 2) ∷ Done 2 (Move 1 (n 2) (n 6 ∷ []) (row 7 2 (delete 97 2 ∷ []) ∷ []))
    ∷ Begin 2 (job MoveJob 2 (n 7 ∷ []) [] 8 2) ∷ Done 2 (Move 2 (n 2) (n 7 ∷ []) (row 8 3 (delete 97 2 ∷ []) ∷ []))
    ∷ Begin 2 merge_job ∷ Done 2 (Merge (n 2) true (n 4 ∷ n 8 ∷ []) [])
    ∷ []

merges_are_legal : IsLegal small (base true small [] []) merges
unfolding table_length bits lib.Count.count_trailing_zeros
merges_are_legal =
    (refl, refl, omega arith)
    then (refl, omega arith, omega arith, refl, omega arith)
    then (refl, refl, omega arith, refl)
    then (refl, refl, record { free = refl; floor = refl; numbers = refl; room = omega arith; kind = record { frozen = refl; range = (refl, refl); level = refl; nothing = (refl, refl) } })
    then (refl, record { formed = record { same = (refl, refl); fit = refl; inside = refl; numbers = refl }; holds = λ told. (described 1 0 (put 97 1 49) [], tt); chooses = λ told. refl })
    then (refl, refl, record { free = refl; floor = refl; numbers = refl; room = omega arith; kind = record { range = refl; fit = refl; inside = refl; all = refl; committed = refl; keys = refl } })
    then (refl, record { formed = record { same = (refl, refl, refl); fit = refl; inside = refl; numbers = refl }; holds = λ told. (described 2 1 (put 97 1 49) [], tt); chooses = λ told. tt })
    then (refl, refl, record { free = refl; floor = refl; numbers = refl; room = omega arith; kind = record { range = refl; fit = refl; inside = refl; all = refl; committed = refl; keys = refl } })
    then (refl, record { formed = record { same = (refl, refl, refl); fit = refl; inside = refl; numbers = refl }; holds = λ told. (described 3 2 (put 97 1 49) [], tt); chooses = λ told. tt })
    then (refl, refl, record { free = refl; floor = refl; numbers = refl; room = omega arith; kind = record { range = refl; fit = refl; inside = refl; all = refl; committed = refl; keys = refl } })
    then (refl, record { formed = record { same = (refl, refl, refl); fit = refl; inside = refl; numbers = refl }; holds = λ told. (described 4 3 (put 97 1 49) [], tt); chooses = λ told. tt })
    then (refl, omega arith, omega arith, refl, omega arith)
    then (refl, refl, omega arith, refl)
    then (refl, refl, record { free = refl; floor = refl; numbers = refl; room = omega arith; kind = record { frozen = refl; range = (refl, refl); level = refl; nothing = (refl, refl) } })
    then (refl, record { formed = record { same = (refl, refl); fit = refl; inside = refl; numbers = refl }; holds = λ told. (described 5 0 (delete 97 2) [], tt); chooses = λ told. refl })
    then (refl, refl, record { free = refl; floor = refl; numbers = refl; room = omega arith; kind = record { range = refl; fit = refl; inside = refl; all = refl; committed = refl; keys = refl } })
    then (refl, record { formed = record { same = (refl, refl, refl); fit = refl; inside = refl; numbers = refl }; holds = λ told. (described 6 1 (delete 97 2) [], tt); chooses = λ told. tt })
    then (refl, refl, record { free = refl; floor = refl; numbers = refl; room = omega arith; kind = record { range = refl; fit = refl; inside = refl; all = refl; committed = refl; keys = refl } })
    then (refl, record { formed = record { same = (refl, refl, refl); fit = refl; inside = refl; numbers = refl }; holds = λ told. (described 7 2 (delete 97 2) [], tt); chooses = λ told. tt })
    then (refl, refl, record { free = refl; floor = refl; numbers = refl; room = omega arith; kind = record { range = refl; fit = refl; inside = refl; all = refl; committed = refl; keys = refl } })
    then (refl, record { formed = record { same = (refl, refl, refl); fit = refl; inside = refl; numbers = refl }; holds = λ told. (described 8 3 (delete 97 2) [], tt); chooses = λ told. tt })
    then (refl, refl, record { free = refl; floor = refl; numbers = refl; room = omega arith; kind = record { level = refl; range = refl; fit = refl; inside = refl; whole = refl; keys = refl } })
    then (refl, record { formed = record { same = (refl, refl, refl); fit = refl; inside = refl; numbers = refl }; holds = λ told. tt; chooses = λ told. tt })
    then tt

no_table_is_left : (run small (base true small [] []) merges).tree.tables ≡ []
unfolding table_length
no_table_is_left = refl

-- ---- a flush that is cut short, and one whose edit a stop leaves

abbrev pub stops : List Event
stops =
    Opened 1 1
    ∷ Commit 1 (n 1) (one_put 97 49) ∷ Freeze (n 1)
    ∷ Begin 2 (flush_job 1 1) ∷ Short 2 Fault 28
    ∷ Begin 2 (flush_job 2 1) ∷ JournalFault
    ∷ Stop (n 1) (Some (Flush (row 2 0 (put 97 1 49 ∷ [])) 0 (n 1) 2 []))
    ∷ Opened 2 2
    ∷ []

stops_are_legal : IsLegal small (base true small [] []) stops
unfolding table_length bits lib.Count.count_trailing_zeros
stops_are_legal =
    (refl, refl, omega arith)
    then (refl, omega arith, omega arith, refl, omega arith)
    then (refl, refl, omega arith, refl)
    then (refl, refl, record { free = refl; floor = refl; numbers = refl; room = omega arith; kind = record { frozen = refl; range = (refl, refl); level = refl; nothing = (refl, refl) } })
    then omega arith
    then (refl, refl, record { free = refl; floor = refl; numbers = refl; room = omega arith; kind = record { frozen = refl; range = (refl, refl); level = refl; nothing = (refl, refl) } })
    then refl
    then (refl, omega arith, (2, record { formed = record { same = (refl, refl); fit = refl; inside = refl; numbers = refl }; holds = λ told. (described 2 0 (put 97 1 49) [], tt); chooses = λ told. refl }))
    then (refl, refl, omega arith)
    then tt

-- the entry was written into level 0 by the edit, and twice in vain
abbrev after_stop : Standing
after_stop = run small (base true small [] []) stops

stops_counts : (written small after_stop (n 1) 0 ≡ 3) × (cut small after_stop (n 1) 0 ≡ 0) × (attempted after_stop (n 1) 0 ≡ 2)
stops_counts = (refl, refl, refl)
