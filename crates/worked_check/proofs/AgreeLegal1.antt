-- The definitions agree on the history `Legal1`.
use Rattle.std.proofs.Common.{[], ◌∷◌, refl, arith}
use Rattle.peb_base.specs.Choice.{bits}
use Rattle.peb_base.specs.Tables.{table_length}
use Rattle.flsm_model.specs.Legal.{IsLegal}
use Rattle.worked_check.specs.Samples.{small, put, del}
use Rattle.worked_check.proofs.Then.{described, ◌then◌}
use Rattle.worked_check.specs.Answers.{Agrees, begin}
use Rattle.worked_check.specs.Legal1.{legal1_events, legal1_answers}

pub is_legal : IsLegal small begin legal1_events
unfolding table_length bits lib.Count.count_trailing_zeros
is_legal =
    (refl, refl, omega arith)
    then (refl, omega arith, omega arith, refl, omega arith)
    then (refl, omega arith, omega arith, refl, omega arith)
    then (refl, refl, omega arith, refl)
    then (refl, refl, record { free = refl; floor = refl; numbers = refl; room = omega arith; kind = record { frozen = refl; range = (refl, refl); level = refl; nothing = (refl, refl) } })
    then (refl, record { formed = record { same = (refl, refl); fit = refl; inside = refl; numbers = refl }; holds = λ told. (described small 1099511627777 0 (put (98 ∷ []) 1099511627779 (52 ∷ [])) ((put (114 ∷ []) 1099511627780 (50 ∷ [])) ∷ (put (114 ∷ []) 1099511627777 (53 ∷ [])) ∷ (put (122 ∷ []) 1099511627778 (52 ∷ [])) ∷ []), tt); chooses = λ told. refl })
    then (refl, omega arith, omega arith, refl, omega arith)
    then (refl, refl, record { free = refl; floor = refl; numbers = refl; room = omega arith; kind = record { range = refl; fit = refl; inside = refl; all = refl; committed = refl; keys = refl } })
    then (refl, omega arith, omega arith, refl, omega arith)
    then (refl, record { formed = record { same = (refl, refl, refl); fit = refl; inside = refl; numbers = refl }; holds = λ told. (described small 1099511627778 1 (put (98 ∷ []) 1099511627779 (52 ∷ [])) ((put (114 ∷ []) 1099511627780 (50 ∷ [])) ∷ (put (122 ∷ []) 1099511627778 (52 ∷ [])) ∷ []), tt); chooses = λ told. tt })
    then (refl, refl, record { free = refl; floor = refl; numbers = refl; room = omega arith; kind = record { range = refl; fit = refl; inside = refl; all = refl; committed = refl; keys = refl } })
    then (refl, record { formed = record { same = (refl, refl, refl); fit = refl; inside = refl; numbers = refl }; holds = λ told. (described small 1099511627779 2 (put (98 ∷ []) 1099511627779 (52 ∷ [])) ((put (114 ∷ []) 1099511627780 (50 ∷ [])) ∷ (put (122 ∷ []) 1099511627778 (52 ∷ [])) ∷ []), tt); chooses = λ told. tt })
    then (refl, refl, omega arith, refl)
    then (refl, refl, record { free = refl; floor = refl; numbers = refl; room = omega arith; kind = record { frozen = refl; range = (refl, refl); level = refl; nothing = (refl, refl) } })
    then (refl, omega arith)
    then (refl, record { formed = record { same = (refl, refl); fit = refl; inside = refl; numbers = refl }; holds = λ told. (described small 1099511627780 0 (put (98 ∷ []) 1099511627782 (51 ∷ [])) ((put (113 ∷ []) 1099511627781 (51 ∷ [])) ∷ []), tt); chooses = λ told. refl })
    then (refl, omega arith, omega arith, refl, omega arith)
    then (refl, refl, omega arith, refl)
    then (refl, refl, record { free = refl; floor = refl; numbers = refl; room = omega arith; kind = record { frozen = refl; range = (refl, refl); level = refl; nothing = (refl, refl) } })
    then (refl, omega arith)
    then (refl, refl, record { free = refl; floor = refl; numbers = refl; room = omega arith; kind = record { range = refl; fit = refl; inside = refl; all = refl; committed = refl; keys = refl } })
    then (refl, record { formed = record { same = (refl, refl, refl); fit = refl; inside = refl; numbers = refl }; holds = λ told. (described small 1099511627782 1 (put (98 ∷ []) 1099511627782 (51 ∷ [])) ((put (113 ∷ []) 1099511627781 (51 ∷ [])) ∷ []), tt); chooses = λ told. tt })
    then (refl, record { formed = record { same = (refl, refl); fit = refl; inside = refl; numbers = refl }; holds = λ told. (described small 1099511627781 0 (del (97 ∷ []) 1099511627784) ((put (111 ∷ []) 1099511627783 (49 ∷ [])) ∷ []), tt); chooses = λ told. refl })
    then (refl, refl, record { free = refl; floor = refl; numbers = refl; room = omega arith; kind = record { range = refl; fit = refl; inside = refl; keys = refl } })
    then (refl, omega arith, omega arith, refl, omega arith)
    then (refl, refl, omega arith, refl)
    then (refl, record { formed = record { same = (refl, refl, refl); fit = refl; inside = refl; numbers = refl }; holds = λ told. tt; chooses = λ told. tt })
    then (refl, refl, record { free = refl; floor = refl; numbers = refl; room = omega arith; kind = record { range = refl; fit = refl; inside = refl; keys = refl } })
    then (refl, omega arith, tt)
    then (refl, refl, omega arith)
    then (refl, refl, record { free = refl; floor = refl; numbers = refl; room = omega arith; kind = record { range = refl; fit = refl; inside = refl; keys = refl } })
    then (refl, omega arith, omega arith, refl, omega arith)
    then (refl, refl, omega arith, refl)
    then (refl, record { formed = record { same = (refl, refl, refl); fit = refl; inside = refl; numbers = refl }; holds = λ told. (described small 2199023255553 2 (put (98 ∷ []) 1099511627779 (52 ∷ [])) [], (described small 2199023255554 2 (put (114 ∷ []) 1099511627780 (50 ∷ [])) ((put (122 ∷ []) 1099511627778 (52 ∷ [])) ∷ []), tt)); chooses = λ told. tt })
    then (refl, refl, record { free = refl; floor = refl; numbers = refl; room = omega arith; kind = record { range = refl; fit = refl; inside = refl; all = refl; committed = refl; keys = refl } })
    then (refl, refl, record { free = refl; floor = refl; numbers = refl; room = omega arith; kind = record { range = refl; fit = refl; inside = refl; keys = refl } })
    then (refl, record { formed = record { same = (refl, refl, refl); fit = refl; inside = refl; numbers = refl }; holds = λ told. (described small 2199023255557 1 (put (98 ∷ []) 1099511627782 (51 ∷ [])) [], (described small 2199023255558 1 (put (113 ∷ []) 1099511627781 (51 ∷ [])) [], tt)); chooses = λ told. tt })
    then (refl, refl, record { free = refl; floor = refl; numbers = refl; room = omega arith; kind = record { frozen = refl; range = (refl, refl); level = refl; nothing = (refl, refl) } })
    then omega arith
    then (refl, record { formed = record { same = (refl, refl); fit = refl; inside = refl; numbers = refl }; holds = λ told. (described small 2199023255559 0 (del (103 ∷ 111 ∷ []) 2199023255554) ((put (111 ∷ []) 1099511627785 (53 ∷ [])) ∷ (put (255 ∷ []) 2199023255555 (51 ∷ [])) ∷ (del (255 ∷ []) 2199023255553) ∷ []), tt); chooses = λ told. refl })
    then tt

pub agrees : Agrees legal1_events legal1_answers
unfolding table_length bits lib.Count.count_trailing_zeros
agrees =
    record {
      edits = refl;
      batches = refl;
      guards = refl;
      live = refl;
      contents = refl;
      shows = refl;
      writes = refl;
      cuts = refl;
      ledgers = refl;
      over = refl;
      due = refl then refl then refl then refl then refl then refl then refl then refl then refl then refl then refl then refl then refl then refl then refl then refl then tt;
      fitting = refl then refl then refl then refl then refl then refl then refl then refl then refl then refl then tt;
    }
