-- The definitions agree on the history `Deep0`.
use Rattle.std.proofs.Common.{refl}
use Rattle.peb_base.specs.Choice.{bits}
use Rattle.peb_base.specs.Tables.{table_length}
use Rattle.worked_check.proofs.Then.{◌then◌}
use Rattle.worked_check.specs.Answers.{Agrees}
use Rattle.worked_check.specs.Deep0.{deep0_events, deep0_answers}

pub agrees : Agrees deep0_events deep0_answers
unfolding table_length bits lib.Count.count_trailing_zeros
agrees =
    record {
      edits = refl;
      batches = refl;
      guards = refl;
      live = refl;
      contents = refl;
      shows = refl;
      writes = refl;
      cuts = refl;
      ledgers = refl;
      over = refl;
      due = refl then refl then refl then refl then refl then refl then refl then refl then refl then refl then refl then refl then refl then refl then refl then refl then refl then refl then refl then refl then refl then refl then refl then refl then refl then refl then refl then refl then refl then refl then refl then refl then refl then tt;
      fitting = refl then refl then refl then refl then refl then refl then refl then refl then refl then refl then refl then refl then refl then refl then refl then refl then refl then refl then refl then refl then refl then refl then refl then refl then tt;
    }
