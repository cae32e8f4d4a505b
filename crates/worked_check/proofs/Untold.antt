-- Two jobs at once, whose edits fit by themselves: where nothing is known of the first one's entries, the second no longer fits.
use Rattle.std.proofs.Common.{◌≡◌, true, false, [], ◌∷◌, Some, None, refl}
use Rattle.peb_base.specs.Choice.{bits}
use Rattle.peb_base.specs.Batches.{last_number}
use Rattle.flsm_model.specs.declared.edit.Edit.{Edit}
use Rattle.flsm_model.specs.declared.edit.Edit.TheVariants.{Open, Flush, Move, Cut}
use Rattle.flsm_model.specs.declared.job_kind.JobKind.TheVariants.{Move as MoveJob, Cut as CutJob}
use Rattle.flsm_model.specs.Claims.{jobs_conflict}
use Rattle.flsm_model.specs.Shape.{Record, Shape, empty_shape, shape_of, shape_after}
use Rattle.flsm_model.specs.Fits.{fits, is_legal_record}
use Rattle.flsm_model.specs.Events.{base, last_of}
use Rattle.worked_check.specs.Samples.{small, row_of, chosen_key, job_of}

abbrev s : Shape
s =
    record (empty_shape small) {
      session = 1;
      to = 1099511627780;
      log = 2;
      used = 1099511627777 ∷ [];
      chosen = chosen_key (111 ∷ []) 1 ∷ chosen_key (119 ∷ []) 2 ∷ [];
      guards = ((111 ∷ []) ∷ []) ∷ ((111 ∷ []) ∷ []) ∷ ((111 ∷ []) ∷ (119 ∷ []) ∷ []) ∷ [];
      live = row_of 1099511627777 1 0 (97 ∷ []) (98 ∷ []) 2 4 1099511627777 1099511627778 130 ∷ [];
    }

abbrev move : Edit
move = Move 1 0 (1099511627777 ∷ []) (row_of 1099511627778 2 0 (112 ∷ []) (122 ∷ []) 2 4 1099511627777 1099511627778 130 ∷ [])

abbrev cut : Edit
cut = Cut 2 ((119 ∷ []) ∷ []) [] []

move_fits : fits small s move ≡ true
unfolding bits lib.Count.count_trailing_zeros
move_fits = refl

cut_fits : fits small s cut ≡ true
unfolding bits lib.Count.count_trailing_zeros
cut_fits = refl

at_once : jobs_conflict (job_of MoveJob 1 [] (Some (111 ∷ [])) (1099511627777 ∷ []) [] 0 0 false) (job_of CutJob 2 (111 ∷ []) None [] ((119 ∷ []) ∷ []) 0 0 false) ≡ false
at_once = refl

cut_no_longer_fits : fits small (shape_after s move) cut ≡ false
unfolding bits lib.Count.count_trailing_zeros
cut_no_longer_fits = refl

-- ---- an opening over a device that tells nothing: the record was flushed up to 1.1, the logs hold nothing above

abbrev reopened : Record
reopened = Open 1 1 ∷ Flush (row_of 1099511627777 0 0 (97 ∷ []) (97 ∷ []) 1 2 1099511627777 1099511627777 111) 0 1099511627777 2 [] ∷ []

record_is_legal : is_legal_record small reopened ≡ true
unfolding bits lib.Count.count_trailing_zeros
record_is_legal = refl

flushed_to : (shape_of small reopened).to ≡ 1099511627777
flushed_to = refl

last_is_zero : last_number (base false small [] reopened).batches ≡ 0
last_is_zero = refl

-- so the last number is that of the mark
last_is_flushed : last_of (base false small [] reopened) ≡ 1099511627777
last_is_flushed = refl
