-- The definitions agree on the history `Legal0`.
use Rattle.std.proofs.Common.{[], ◌∷◌, refl, arith}
use Rattle.peb_base.specs.Choice.{bits}
use Rattle.peb_base.specs.Tables.{table_length}
use Rattle.flsm_model.specs.Legal.{IsLegal}
use Rattle.worked_check.specs.Samples.{small, put, del}
use Rattle.worked_check.proofs.Then.{described, ◌then◌}
use Rattle.worked_check.specs.Answers.{Agrees, begin}
use Rattle.worked_check.specs.Legal0.{legal0_events, legal0_answers}

pub is_legal : IsLegal small begin legal0_events
unfolding table_length bits lib.Count.count_trailing_zeros
is_legal =
    (refl, refl, omega arith)
    then (refl, omega arith, omega arith, refl, omega arith)
    then (refl, omega arith, omega arith, refl, omega arith)
    then (refl, refl, omega arith, refl)
    then (refl, refl, record { free = refl; floor = refl; numbers = refl; room = omega arith; kind = record { frozen = refl; range = (refl, refl); level = refl; nothing = (refl, refl) } })
    then (refl, record { formed = record { same = (refl, refl); fit = refl; inside = refl; numbers = refl }; holds = λ told. (described small 1099511627777 0 (put (97 ∷ []) 1099511627779 (49 ∷ [])) ((put (113 ∷ []) 1099511627780 (54 ∷ [])) ∷ (put (114 ∷ []) 1099511627778 (52 ∷ [])) ∷ (del (122 ∷ []) 1099511627777) ∷ []), tt); chooses = λ told. refl })
    then (refl, omega arith, omega arith, refl, omega arith)
    then (refl, refl, record { free = refl; floor = refl; numbers = refl; room = omega arith; kind = record { range = refl; fit = refl; inside = refl; all = refl; committed = refl; keys = refl } })
    then (refl, refl, omega arith, refl)
    then (refl, refl, record { free = refl; floor = refl; numbers = refl; room = omega arith; kind = record { frozen = refl; range = (refl, refl); level = refl; nothing = (refl, refl) } })
    then (refl, record { formed = record { same = (refl, refl, refl); fit = refl; inside = refl; numbers = refl }; holds = λ told. (described small 1099511627778 1 (put (97 ∷ []) 1099511627779 (49 ∷ [])) ((put (113 ∷ []) 1099511627780 (54 ∷ [])) ∷ (put (114 ∷ []) 1099511627778 (52 ∷ [])) ∷ (del (122 ∷ []) 1099511627777) ∷ []), tt); chooses = λ told. tt })
    then (refl, record { formed = record { same = (refl, refl); fit = refl; inside = refl; numbers = refl }; holds = λ told. (described small 1099511627779 0 (put (98 ∷ []) 1099511627783 (53 ∷ [])) ((put (113 ∷ []) 1099511627781 (54 ∷ [])) ∷ (put (122 ∷ []) 1099511627782 (51 ∷ [])) ∷ []), tt); chooses = λ told. refl })
    then (refl, refl, record { free = refl; floor = refl; numbers = refl; room = omega arith; kind = record { range = refl; fit = refl; inside = refl; all = refl; committed = refl; keys = refl } })
    then (refl, omega arith)
    then (refl, omega arith)
    then (refl, omega arith, omega arith, refl, omega arith)
    then (refl, refl, record { free = refl; floor = refl; numbers = refl; room = omega arith; kind = record { range = refl; fit = refl; inside = refl; all = refl; committed = refl; keys = refl } })
    then (refl, refl, omega arith, refl)
    then (refl, record { formed = record { same = (refl, refl, refl); fit = refl; inside = refl; numbers = refl }; holds = λ told. (described small 1099511627781 2 (put (97 ∷ []) 1099511627779 (49 ∷ [])) ((put (113 ∷ []) 1099511627780 (54 ∷ [])) ∷ (put (114 ∷ []) 1099511627778 (52 ∷ [])) ∷ (del (122 ∷ []) 1099511627777) ∷ []), tt); chooses = λ told. tt })
    then (refl, record { formed = record { same = (refl, refl, refl); fit = refl; inside = refl; numbers = refl }; holds = λ told. (described small 1099511627780 1 (put (98 ∷ []) 1099511627783 (53 ∷ [])) ((put (113 ∷ []) 1099511627781 (54 ∷ [])) ∷ (put (122 ∷ []) 1099511627782 (51 ∷ [])) ∷ []), tt); chooses = λ told. tt })
    then (refl, refl, record { free = refl; floor = refl; numbers = refl; room = omega arith; kind = record { frozen = refl; range = (refl, refl); level = refl; nothing = (refl, refl) } })
    then (refl, refl, record { free = refl; floor = refl; numbers = refl; room = omega arith; kind = record { range = refl; fit = refl; inside = refl; all = refl; committed = refl; keys = refl } })
    then (refl, record { formed = record { same = (refl, refl, refl); fit = refl; inside = refl; numbers = refl }; holds = λ told. (described small 1099511627783 3 (put (97 ∷ []) 1099511627779 (49 ∷ [])) ((put (113 ∷ []) 1099511627780 (54 ∷ [])) ∷ (put (114 ∷ []) 1099511627778 (52 ∷ [])) ∷ (del (122 ∷ []) 1099511627777) ∷ []), tt); chooses = λ told. tt })
    then (refl, refl, record { free = refl; floor = refl; numbers = refl; room = omega arith; kind = record { level = refl; range = refl; fit = refl; inside = refl; whole = refl; keys = refl } })
    then (refl, record { formed = record { same = (refl, refl, refl); fit = refl; inside = refl; numbers = refl }; holds = λ told. (described small 1099511627784 3 (put (97 ∷ []) 1099511627779 (49 ∷ [])) ((put (113 ∷ []) 1099511627780 (54 ∷ [])) ∷ (put (114 ∷ []) 1099511627778 (52 ∷ [])) ∷ []), tt); chooses = λ told. tt })
    then (refl, record { formed = record { same = (refl, refl); fit = refl; inside = refl; numbers = refl }; holds = λ told. (described small 1099511627782 0 (put (97 ∷ []) 1099511627784 (54 ∷ [])) [], tt); chooses = λ told. refl })
    then (refl, omega arith, omega arith, refl, omega arith)
    then (refl, omega arith, omega arith, refl, omega arith)
    then (refl, refl, record { free = refl; floor = refl; numbers = refl; room = omega arith; kind = record { range = refl; fit = refl; inside = refl; all = refl; committed = refl; keys = refl } })
    then omega arith
    then (refl, refl, omega arith, refl)
    then (refl, refl, record { free = refl; floor = refl; numbers = refl; room = omega arith; kind = record { frozen = refl; range = (refl, refl); level = refl; nothing = (refl, refl) } })
    then (refl, record { formed = record { same = (refl, refl); fit = refl; inside = refl; numbers = refl }; holds = λ told. (described small 1099511627786 0 (put (99 ∷ []) 1099511627786 (53 ∷ [])) ((put (112 ∷ 111 ∷ []) 1099511627785 (49 ∷ [])) ∷ (put (116 ∷ 111 ∷ []) 1099511627788 (53 ∷ [])) ∷ (del (116 ∷ 111 ∷ []) 1099511627787) ∷ []), tt); chooses = λ told. refl })
    then (refl, omega arith, omega arith, refl, omega arith)
    then (refl, refl, omega arith, refl)
    then (refl, refl, record { free = refl; floor = refl; numbers = refl; room = omega arith; kind = record { range = refl; fit = refl; inside = refl; keys = refl } })
    then (refl, record { formed = record { same = (refl, refl, refl); fit = refl; inside = refl; numbers = refl }; holds = λ told. (described small 1099511627787 3 (put (97 ∷ []) 1099511627779 (49 ∷ [])) [], (described small 1099511627789 3 (put (113 ∷ []) 1099511627780 (54 ∷ [])) ((put (114 ∷ []) 1099511627778 (52 ∷ [])) ∷ []), tt)); chooses = λ told. tt })
    then (refl, refl, record { free = refl; floor = refl; numbers = refl; room = omega arith; kind = record { frozen = refl; range = (refl, refl); level = refl; nothing = (refl, refl) } })
    then (refl, record { formed = record { same = (refl, refl); fit = refl; inside = refl; numbers = refl }; holds = λ told. (described small 1099511627791 0 (put (97 ∷ 111 ∷ []) 1099511627789 (53 ∷ [])) [], tt); chooses = λ told. refl })
    then (refl, omega arith, omega arith, refl, omega arith)
    then (refl, refl, record { free = refl; floor = refl; numbers = refl; room = omega arith; kind = record { range = refl; fit = refl; inside = refl; keys = refl } })
    then (refl, record { formed = record { same = (refl, refl, refl); fit = refl; inside = refl; numbers = refl }; holds = λ told. tt; chooses = λ told. tt })
    then (refl, refl, record { free = refl; floor = refl; numbers = refl; room = omega arith; kind = record { range = refl; fit = refl; inside = refl; keys = refl } })
    then (refl, record { formed = record { same = (refl, refl, refl); fit = refl; inside = refl; numbers = refl }; holds = λ told. tt; chooses = λ told. tt })
    then (refl, refl, record { free = refl; floor = refl; numbers = refl; room = omega arith; kind = record { range = refl; fit = refl; inside = refl; keys = refl } })
    then (refl, record { formed = record { same = (refl, refl, refl); fit = refl; inside = refl; numbers = refl }; holds = λ told. (described small 1099511627793 1 (put (98 ∷ []) 1099511627783 (53 ∷ [])) [], (described small 1099511627794 1 (put (113 ∷ []) 1099511627781 (54 ∷ [])) [], (described small 1099511627795 1 (put (122 ∷ []) 1099511627782 (51 ∷ [])) [], tt))); chooses = λ told. tt })
    then (refl, refl, record { free = refl; floor = refl; numbers = refl; room = omega arith; kind = record { range = refl; fit = refl; inside = refl; all = refl; committed = refl; keys = refl } })
    then (refl, record { formed = record { same = (refl, refl, refl); fit = refl; inside = refl; numbers = refl }; holds = λ told. (described small 1099511627796 1 (put (97 ∷ []) 1099511627784 (54 ∷ [])) [], (described small 1099511627797 1 (put (97 ∷ 111 ∷ []) 1099511627789 (53 ∷ [])) ((put (99 ∷ []) 1099511627786 (53 ∷ [])) ∷ []), (described small 1099511627798 1 (put (112 ∷ 111 ∷ []) 1099511627785 (49 ∷ [])) [], (described small 1099511627799 1 (put (116 ∷ 111 ∷ []) 1099511627788 (53 ∷ [])) ((del (116 ∷ 111 ∷ []) 1099511627787) ∷ []), tt)))); chooses = λ told. tt })
    then tt

pub agrees : Agrees legal0_events legal0_answers
unfolding table_length bits lib.Count.count_trailing_zeros
agrees =
    record {
      edits = refl;
      batches = refl;
      guards = refl;
      live = refl;
      contents = refl;
      shows = refl;
      writes = refl;
      cuts = refl;
      ledgers = refl;
      over = refl;
      due = refl then refl then refl then refl then refl then refl then refl then refl then refl then refl then refl then refl then refl then refl then refl then refl then refl then refl then tt;
      fitting = refl then refl then refl then refl then refl then refl then refl then refl then refl then refl then refl then refl then refl then refl then refl then tt;
    }
