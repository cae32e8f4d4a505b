-- The definitions agree on the history `Tiny`.
use Rattle.std.proofs.Common.{[], ◌∷◌, refl, arith}
use Rattle.peb_base.specs.Choice.{bits}
use Rattle.peb_base.specs.Tables.{table_length}
use Rattle.flsm_model.specs.Legal.{IsLegal}
use Rattle.worked_check.specs.Samples.{small, put, del}
use Rattle.worked_check.proofs.Then.{described, ◌then◌}
use Rattle.worked_check.specs.Answers.{Agrees, begin}
use Rattle.worked_check.specs.Tiny.{tiny_events, tiny_answers}

pub is_legal : IsLegal small begin tiny_events
unfolding table_length bits lib.Count.count_trailing_zeros
is_legal =
    (refl, refl, omega arith)
    then (refl, omega arith, omega arith, refl, omega arith)
    then (refl, omega arith, omega arith, refl, omega arith)
    then (refl, omega arith)
    then (refl, refl, omega arith, refl)
    then (refl, refl, record { free = refl; floor = refl; numbers = refl; room = omega arith; kind = record { frozen = refl; range = (refl, refl); level = refl; nothing = (refl, refl) } })
    then (refl, record { formed = record { same = (refl, refl); fit = refl; inside = refl; numbers = refl }; holds = λ told. (described small 1099511627777 0 (del (113 ∷ []) 1099511627779) ((put (113 ∷ []) 1099511627777 (53 ∷ [])) ∷ (del (122 ∷ []) 1099511627778) ∷ []), tt); chooses = λ told. refl })
    then (refl, omega arith, omega arith, refl, omega arith)
    then (refl, refl, record { free = refl; floor = refl; numbers = refl; room = omega arith; kind = record { range = refl; fit = refl; inside = refl; all = refl; committed = refl; keys = refl } })
    then (refl, omega arith, omega arith, refl, omega arith)
    then (refl, record { formed = record { same = (refl, refl, refl); fit = refl; inside = refl; numbers = refl }; holds = λ told. (described small 1099511627778 1 (del (113 ∷ []) 1099511627779) ((del (122 ∷ []) 1099511627778) ∷ []), tt); chooses = λ told. tt })
    then (refl, refl, record { free = refl; floor = refl; numbers = refl; room = omega arith; kind = record { range = refl; fit = refl; inside = refl; all = refl; committed = refl; keys = refl } })
    then (refl, refl, omega arith, refl)
    then (refl, record { formed = record { same = (refl, refl, refl); fit = refl; inside = refl; numbers = refl }; holds = λ told. (described small 1099511627779 2 (del (113 ∷ []) 1099511627779) ((del (122 ∷ []) 1099511627778) ∷ []), tt); chooses = λ told. tt })
    then (refl, refl, record { free = refl; floor = refl; numbers = refl; room = omega arith; kind = record { range = refl; fit = refl; inside = refl; all = refl; committed = refl; keys = refl } })
    then (refl, record { formed = record { same = (refl, refl, refl); fit = refl; inside = refl; numbers = refl }; holds = λ told. (described small 1099511627780 3 (del (113 ∷ []) 1099511627779) ((del (122 ∷ []) 1099511627778) ∷ []), tt); chooses = λ told. tt })
    then (refl, refl, record { free = refl; floor = refl; numbers = refl; room = omega arith; kind = record { frozen = refl; range = (refl, refl); level = refl; nothing = (refl, refl) } })
    then (refl, record { formed = record { same = (refl, refl); fit = refl; inside = refl; numbers = refl }; holds = λ told. (described small 1099511627781 0 (put (97 ∷ []) 1099511627784 (52 ∷ [])) ((del (97 ∷ []) 1099511627781) ∷ (put (98 ∷ 111 ∷ []) 1099511627782 (54 ∷ [])) ∷ (put (98 ∷ 111 ∷ []) 1099511627780 (51 ∷ [])) ∷ (del (113 ∷ []) 1099511627785) ∷ (del (113 ∷ []) 1099511627783) ∷ []), tt); chooses = λ told. refl })
    then tt

pub agrees : Agrees tiny_events tiny_answers
unfolding table_length bits lib.Count.count_trailing_zeros
agrees =
    record {
      edits = refl;
      batches = refl;
      guards = refl;
      live = refl;
      contents = refl;
      shows = refl;
      writes = refl;
      cuts = refl;
      ledgers = refl;
      over = refl;
      due = refl then refl then refl then refl then refl then refl then refl then refl then tt;
      fitting = refl then refl then refl then refl then refl then tt;
    }
