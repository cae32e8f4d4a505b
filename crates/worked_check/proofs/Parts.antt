-- Kept entries, pieces and claims, at random.
use Rattle.std.proofs.Common.{◌≡◌, true, false, [], ◌∷◌, Some, None, refl}
use Rattle.peb_base.specs.Entries.{in_order}
use Rattle.flsm_model.specs.Compaction.{kept, pieces}
use Rattle.flsm_model.specs.Claims.{jobs_conflict}
use Rattle.flsm_model.specs.declared.job_kind.JobKind.TheVariants.{Flush as FlushJob, Move as MoveJob, Cut as CutJob, Merge as MergeJob}
use Rattle.worked_check.specs.Samples.{put, del, job_of}

kept_same : kept (in_order ((put (97 ∷ []) 3 (49 ∷ [])) ∷ (del (97 ∷ []) 7) ∷ (put (97 ∷ []) 1 (49 ∷ [])) ∷ [])) 3 true
    ∷ kept (in_order ((del (97 ∷ 98 ∷ []) 7) ∷ (del (97 ∷ 98 ∷ []) 2) ∷ (put (97 ∷ []) 4 (49 ∷ [])) ∷ (put (97 ∷ 98 ∷ []) 10 (49 ∷ [])) ∷ [])) 9 false
    ∷ kept (in_order ((put (97 ∷ []) 4 (49 ∷ [])) ∷ [])) 2 true
    ∷ kept (in_order ((del (97 ∷ 98 ∷ []) 9) ∷ (del (97 ∷ 98 ∷ []) 2) ∷ [])) 9 false
    ∷ kept (in_order ((put (97 ∷ 98 ∷ []) 6 (49 ∷ [])) ∷ (del (97 ∷ 98 ∷ []) 2) ∷ [])) 3 true
    ∷ kept (in_order ((del (98 ∷ []) 7) ∷ (put (97 ∷ []) 6 (49 ∷ [])) ∷ (del (97 ∷ []) 8) ∷ (put (98 ∷ []) 9 (49 ∷ [])) ∷ (put (98 ∷ []) 3 (49 ∷ [])) ∷ [])) 4 false
    ∷ kept (in_order ((del (97 ∷ 98 ∷ []) 2) ∷ [])) 12 true
    ∷ kept (in_order ((put (98 ∷ []) 7 (49 ∷ [])) ∷ (put (97 ∷ 98 ∷ []) 1 (49 ∷ [])) ∷ (del (98 ∷ []) 2) ∷ (put (97 ∷ []) 6 (49 ∷ [])) ∷ [])) 7 false
    ∷ kept (in_order ((put (97 ∷ 98 ∷ []) 1 (49 ∷ [])) ∷ [])) 10 false
    ∷ kept (in_order ((del (98 ∷ []) 8) ∷ (put (97 ∷ []) 5 (49 ∷ [])) ∷ (put (97 ∷ []) 7 (49 ∷ [])) ∷ (put (97 ∷ []) 6 (49 ∷ [])) ∷ (del (98 ∷ []) 1) ∷ (del (98 ∷ []) 4) ∷ [])) 7 true
    ∷ kept (in_order ((put (98 ∷ []) 3 (49 ∷ [])) ∷ (put (98 ∷ []) 7 (49 ∷ [])) ∷ (put (98 ∷ []) 9 (49 ∷ [])) ∷ [])) 2 true
    ∷ kept (in_order ((put (97 ∷ []) 4 (49 ∷ [])) ∷ (del (97 ∷ 98 ∷ []) 11) ∷ [])) 4 true
    ∷ kept (in_order ((put (97 ∷ 98 ∷ []) 9 (49 ∷ [])) ∷ (put (97 ∷ 98 ∷ []) 6 (49 ∷ [])) ∷ (del (97 ∷ 98 ∷ []) 10) ∷ (put (97 ∷ 98 ∷ []) 3 (49 ∷ [])) ∷ [])) 6 true
    ∷ kept (in_order ((del (97 ∷ []) 2) ∷ (del (97 ∷ []) 8) ∷ (del (97 ∷ []) 7) ∷ (del (97 ∷ []) 1) ∷ [])) 9 true
    ∷ kept (in_order ((del (97 ∷ 98 ∷ []) 6) ∷ [])) 3 false
    ∷ kept (in_order ((put (98 ∷ []) 11 (49 ∷ [])) ∷ (del (98 ∷ []) 5) ∷ [])) 7 false
    ∷ kept (in_order ((del (97 ∷ []) 8) ∷ (put (98 ∷ []) 11 (49 ∷ [])) ∷ (put (98 ∷ []) 5 (49 ∷ [])) ∷ (put (97 ∷ []) 2 (49 ∷ [])) ∷ [])) 3 false
    ∷ kept (in_order ((del (97 ∷ 98 ∷ []) 6) ∷ (put (97 ∷ 98 ∷ []) 3 (49 ∷ [])) ∷ (put (97 ∷ 98 ∷ []) 9 (49 ∷ [])) ∷ (del (97 ∷ 98 ∷ []) 1) ∷ (del (97 ∷ []) 7) ∷ [])) 3 false
    ∷ kept (in_order ((put (97 ∷ 98 ∷ []) 9 (49 ∷ [])) ∷ (put (97 ∷ []) 6 (49 ∷ [])) ∷ (put (98 ∷ []) 4 (49 ∷ [])) ∷ (put (97 ∷ []) 11 (49 ∷ [])) ∷ (del (98 ∷ []) 7) ∷ (put (97 ∷ 98 ∷ []) 2 (49 ∷ [])) ∷ (del (98 ∷ []) 8) ∷ [])) 11 false
    ∷ kept (in_order ((put (97 ∷ []) 2 (49 ∷ [])) ∷ (del (98 ∷ []) 4) ∷ (put (97 ∷ 98 ∷ []) 11 (49 ∷ [])) ∷ [])) 9 false
    ∷ kept (in_order ((put (98 ∷ []) 11 (49 ∷ [])) ∷ (put (97 ∷ []) 6 (49 ∷ [])) ∷ (del (97 ∷ []) 2) ∷ (del (97 ∷ 98 ∷ []) 9) ∷ [])) 12 false
    ∷ kept (in_order ((put (97 ∷ []) 7 (49 ∷ [])) ∷ (del (97 ∷ []) 8) ∷ (put (98 ∷ []) 11 (49 ∷ [])) ∷ (put (97 ∷ []) 2 (49 ∷ [])) ∷ (put (97 ∷ 98 ∷ []) 6 (49 ∷ [])) ∷ (put (97 ∷ 98 ∷ []) 10 (49 ∷ [])) ∷ [])) 2 false
    ∷ kept (in_order ((put (97 ∷ 98 ∷ []) 1 (49 ∷ [])) ∷ (put (97 ∷ 98 ∷ []) 11 (49 ∷ [])) ∷ [])) 2 true
    ∷ kept (in_order ((put (97 ∷ []) 4 (49 ∷ [])) ∷ (del (98 ∷ []) 11) ∷ (put (98 ∷ []) 1 (49 ∷ [])) ∷ (put (97 ∷ []) 5 (49 ∷ [])) ∷ (put (98 ∷ []) 2 (49 ∷ [])) ∷ (put (97 ∷ 98 ∷ []) 3 (49 ∷ [])) ∷ (del (97 ∷ 98 ∷ []) 8) ∷ [])) 8 true
    ∷ kept (in_order ((put (97 ∷ []) 9 (49 ∷ [])) ∷ (put (97 ∷ []) 11 (49 ∷ [])) ∷ [])) 12 false
    ∷ kept (in_order ((put (97 ∷ 98 ∷ []) 3 (49 ∷ [])) ∷ (del (97 ∷ 98 ∷ []) 8) ∷ [])) 10 false
    ∷ kept (in_order ((del (97 ∷ []) 8) ∷ (put (97 ∷ []) 2 (49 ∷ [])) ∷ (del (97 ∷ 98 ∷ []) 9) ∷ (del (97 ∷ []) 1) ∷ (put (97 ∷ 98 ∷ []) 10 (49 ∷ [])) ∷ [])) 9 false
    ∷ kept (in_order ((put (97 ∷ 98 ∷ []) 5 (49 ∷ [])) ∷ (put (98 ∷ []) 8 (49 ∷ [])) ∷ (put (97 ∷ []) 9 (49 ∷ [])) ∷ (del (97 ∷ []) 10) ∷ (del (98 ∷ []) 11) ∷ (put (97 ∷ []) 2 (49 ∷ [])) ∷ [])) 6 true
    ∷ kept (in_order ((put (97 ∷ []) 5 (49 ∷ [])) ∷ (put (97 ∷ []) 2 (49 ∷ [])) ∷ (del (97 ∷ []) 3) ∷ (del (98 ∷ []) 6) ∷ (put (97 ∷ 98 ∷ []) 10 (49 ∷ [])) ∷ (put (97 ∷ []) 9 (49 ∷ [])) ∷ [])) 8 true
    ∷ kept (in_order ((del (97 ∷ 98 ∷ []) 4) ∷ (put (98 ∷ []) 6 (49 ∷ [])) ∷ (put (98 ∷ []) 10 (49 ∷ [])) ∷ (del (98 ∷ []) 2) ∷ [])) 9 true
    ∷ kept (in_order ((put (97 ∷ []) 2 (49 ∷ [])) ∷ [])) 1 true
    ∷ kept (in_order ((put (97 ∷ []) 1 (49 ∷ [])) ∷ (put (97 ∷ 98 ∷ []) 3 (49 ∷ [])) ∷ (del (98 ∷ []) 5) ∷ [])) 8 false
    ∷ kept (in_order ((del (97 ∷ 98 ∷ []) 8) ∷ (del (97 ∷ []) 6) ∷ (put (97 ∷ []) 2 (49 ∷ [])) ∷ (del (98 ∷ []) 5) ∷ (del (97 ∷ []) 1) ∷ [])) 1 true
    ∷ kept (in_order ((del (97 ∷ 98 ∷ []) 9) ∷ (put (97 ∷ 98 ∷ []) 7 (49 ∷ [])) ∷ (put (97 ∷ []) 5 (49 ∷ [])) ∷ [])) 4 true
    ∷ kept (in_order ((put (97 ∷ 98 ∷ []) 5 (49 ∷ [])) ∷ (del (98 ∷ []) 11) ∷ [])) 10 true
    ∷ kept (in_order ((del (97 ∷ []) 1) ∷ (put (97 ∷ 98 ∷ []) 5 (49 ∷ [])) ∷ (put (97 ∷ []) 11 (49 ∷ [])) ∷ [])) 3 false
    ∷ kept (in_order ((del (97 ∷ 98 ∷ []) 11) ∷ [])) 7 false
    ∷ kept (in_order ((del (98 ∷ []) 9) ∷ (put (97 ∷ 98 ∷ []) 5 (49 ∷ [])) ∷ (del (97 ∷ []) 4) ∷ (put (98 ∷ []) 11 (49 ∷ [])) ∷ [])) 2 true
    ∷ kept (in_order ((put (98 ∷ []) 5 (49 ∷ [])) ∷ (put (97 ∷ 98 ∷ []) 7 (49 ∷ [])) ∷ (del (97 ∷ 98 ∷ []) 3) ∷ (del (98 ∷ []) 1) ∷ (del (97 ∷ []) 8) ∷ (del (98 ∷ []) 6) ∷ [])) 5 false
    ∷ kept (in_order ((del (98 ∷ []) 6) ∷ (del (98 ∷ []) 4) ∷ (del (98 ∷ []) 1) ∷ (del (97 ∷ 98 ∷ []) 5) ∷ (put (97 ∷ 98 ∷ []) 2 (49 ∷ [])) ∷ [])) 1 true
    ∷ kept (in_order ((put (98 ∷ []) 3 (49 ∷ [])) ∷ [])) 6 true
    ∷ kept (in_order ((put (97 ∷ 98 ∷ []) 11 (49 ∷ [])) ∷ (put (97 ∷ []) 4 (49 ∷ [])) ∷ (put (97 ∷ 98 ∷ []) 2 (49 ∷ [])) ∷ [])) 9 true
    ∷ kept (in_order ((put (97 ∷ 98 ∷ []) 8 (49 ∷ [])) ∷ (del (97 ∷ []) 3) ∷ (put (97 ∷ 98 ∷ []) 5 (49 ∷ [])) ∷ [])) 10 true
    ∷ kept (in_order ((put (97 ∷ 98 ∷ []) 9 (49 ∷ [])) ∷ (put (97 ∷ 98 ∷ []) 3 (49 ∷ [])) ∷ (put (97 ∷ 98 ∷ []) 11 (49 ∷ [])) ∷ (del (97 ∷ []) 1) ∷ (put (97 ∷ []) 7 (49 ∷ [])) ∷ (del (97 ∷ []) 6) ∷ [])) 7 false
    ∷ kept (in_order ((put (98 ∷ []) 1 (49 ∷ [])) ∷ (put (97 ∷ 98 ∷ []) 9 (49 ∷ [])) ∷ (del (97 ∷ 98 ∷ []) 4) ∷ (del (97 ∷ 98 ∷ []) 8) ∷ (put (97 ∷ 98 ∷ []) 3 (49 ∷ [])) ∷ (put (97 ∷ []) 11 (49 ∷ [])) ∷ [])) 3 false
    ∷ kept (in_order ((put (98 ∷ []) 4 (49 ∷ [])) ∷ (put (97 ∷ []) 8 (49 ∷ [])) ∷ [])) 10 true
    ∷ kept (in_order ((put (97 ∷ 98 ∷ []) 10 (49 ∷ [])) ∷ [])) 1 false
    ∷ kept (in_order ((put (97 ∷ []) 5 (49 ∷ [])) ∷ (del (98 ∷ []) 11) ∷ (del (97 ∷ 98 ∷ []) 3) ∷ [])) 3 false
    ∷ kept (in_order ((put (98 ∷ []) 9 (49 ∷ [])) ∷ (put (97 ∷ []) 5 (49 ∷ [])) ∷ (del (97 ∷ 98 ∷ []) 8) ∷ [])) 1 false
    ∷ kept (in_order ((del (98 ∷ []) 5) ∷ [])) 8 false
    ∷ kept (in_order ((put (97 ∷ []) 5 (49 ∷ [])) ∷ (put (97 ∷ []) 7 (49 ∷ [])) ∷ (put (98 ∷ []) 4 (49 ∷ [])) ∷ (put (97 ∷ []) 9 (49 ∷ [])) ∷ [])) 10 false
    ∷ kept (in_order ((put (97 ∷ []) 6 (49 ∷ [])) ∷ [])) 7 true
    ∷ kept (in_order ((put (97 ∷ 98 ∷ []) 1 (49 ∷ [])) ∷ (put (98 ∷ []) 8 (49 ∷ [])) ∷ [])) 6 true
    ∷ kept (in_order ((put (98 ∷ []) 2 (49 ∷ [])) ∷ (del (98 ∷ []) 6) ∷ (put (97 ∷ []) 1 (49 ∷ [])) ∷ [])) 11 true
    ∷ kept (in_order ((del (97 ∷ 98 ∷ []) 2) ∷ (put (98 ∷ []) 7 (49 ∷ [])) ∷ (del (97 ∷ []) 10) ∷ [])) 0 false
    ∷ kept (in_order ((del (98 ∷ []) 11) ∷ (del (98 ∷ []) 3) ∷ (put (98 ∷ []) 4 (49 ∷ [])) ∷ [])) 6 false
    ∷ kept (in_order ((del (97 ∷ 98 ∷ []) 11) ∷ (put (97 ∷ 98 ∷ []) 7 (49 ∷ [])) ∷ (put (97 ∷ 98 ∷ []) 9 (49 ∷ [])) ∷ (del (98 ∷ []) 4) ∷ (del (97 ∷ 98 ∷ []) 6) ∷ (del (98 ∷ []) 1) ∷ (del (98 ∷ []) 10) ∷ [])) 11 false
    ∷ kept (in_order ((del (97 ∷ 98 ∷ []) 5) ∷ (put (97 ∷ []) 7 (49 ∷ [])) ∷ (del (97 ∷ []) 4) ∷ (put (98 ∷ []) 11 (49 ∷ [])) ∷ (put (98 ∷ []) 9 (49 ∷ [])) ∷ (del (98 ∷ []) 8) ∷ [])) 8 true
    ∷ kept (in_order ((put (98 ∷ []) 3 (49 ∷ [])) ∷ [])) 5 true
    ∷ kept (in_order ((put (97 ∷ 98 ∷ []) 10 (49 ∷ [])) ∷ (del (98 ∷ []) 4) ∷ (del (97 ∷ 98 ∷ []) 1) ∷ [])) 4 true
    ∷ kept (in_order ((put (98 ∷ []) 8 (49 ∷ [])) ∷ [])) 5 true
    ∷ kept (in_order ((del (98 ∷ []) 9) ∷ (del (98 ∷ []) 4) ∷ (put (98 ∷ []) 2 (49 ∷ [])) ∷ (del (97 ∷ []) 5) ∷ (put (98 ∷ []) 11 (49 ∷ [])) ∷ [])) 12 true
    ∷ kept (in_order ((put (97 ∷ 98 ∷ []) 8 (49 ∷ [])) ∷ (del (98 ∷ []) 1) ∷ (del (97 ∷ []) 2) ∷ (put (97 ∷ []) 7 (49 ∷ [])) ∷ (del (97 ∷ 98 ∷ []) 11) ∷ [])) 11 false
    ∷ kept (in_order ((put (97 ∷ 98 ∷ []) 8 (49 ∷ [])) ∷ (put (97 ∷ 98 ∷ []) 2 (49 ∷ [])) ∷ (put (97 ∷ []) 9 (49 ∷ [])) ∷ (put (97 ∷ 98 ∷ []) 1 (49 ∷ [])) ∷ (put (97 ∷ 98 ∷ []) 11 (49 ∷ [])) ∷ (del (97 ∷ []) 10) ∷ (put (97 ∷ 98 ∷ []) 6 (49 ∷ [])) ∷ [])) 3 true
    ∷ kept (in_order ((put (97 ∷ []) 10 (49 ∷ [])) ∷ (del (98 ∷ []) 1) ∷ [])) 5 false
    ∷ kept (in_order ((put (97 ∷ []) 8 (49 ∷ [])) ∷ (put (97 ∷ []) 9 (49 ∷ [])) ∷ [])) 11 false
    ∷ kept (in_order ((put (97 ∷ []) 1 (49 ∷ [])) ∷ [])) 10 false
    ∷ kept (in_order ((put (97 ∷ []) 5 (49 ∷ [])) ∷ [])) 5 true
    ∷ kept (in_order ((del (97 ∷ 98 ∷ []) 6) ∷ [])) 10 true
    ∷ kept (in_order ((put (97 ∷ 98 ∷ []) 5 (49 ∷ [])) ∷ [])) 1 true
    ∷ kept (in_order ((put (97 ∷ []) 5 (49 ∷ [])) ∷ (put (98 ∷ []) 4 (49 ∷ [])) ∷ [])) 4 true
    ∷ kept (in_order ((put (98 ∷ []) 8 (49 ∷ [])) ∷ (put (97 ∷ []) 10 (49 ∷ [])) ∷ (put (97 ∷ []) 3 (49 ∷ [])) ∷ (del (97 ∷ []) 4) ∷ (del (97 ∷ 98 ∷ []) 11) ∷ [])) 0 false
    ∷ kept (in_order ((put (97 ∷ 98 ∷ []) 7 (49 ∷ [])) ∷ (del (97 ∷ 98 ∷ []) 8) ∷ [])) 1 false
    ∷ kept (in_order ((put (97 ∷ 98 ∷ []) 4 (49 ∷ [])) ∷ (put (98 ∷ []) 3 (49 ∷ [])) ∷ (put (98 ∷ []) 9 (49 ∷ [])) ∷ [])) 5 true
    ∷ kept (in_order ((del (97 ∷ []) 1) ∷ [])) 5 true
    ∷ kept (in_order ((del (97 ∷ []) 9) ∷ [])) 12 false
    ∷ kept (in_order ((del (98 ∷ []) 7) ∷ (put (98 ∷ []) 2 (49 ∷ [])) ∷ (del (98 ∷ []) 1) ∷ (del (98 ∷ []) 8) ∷ (put (97 ∷ 98 ∷ []) 10 (49 ∷ [])) ∷ (del (97 ∷ []) 3) ∷ (del (98 ∷ []) 5) ∷ [])) 0 true
    ∷ kept (in_order ((del (97 ∷ 98 ∷ []) 2) ∷ (put (97 ∷ 98 ∷ []) 10 (49 ∷ [])) ∷ (put (98 ∷ []) 6 (49 ∷ [])) ∷ (del (98 ∷ []) 9) ∷ (put (97 ∷ 98 ∷ []) 3 (49 ∷ [])) ∷ (put (97 ∷ 98 ∷ []) 7 (49 ∷ [])) ∷ [])) 1 true
    ∷ kept (in_order ((put (97 ∷ 98 ∷ []) 2 (49 ∷ [])) ∷ (put (98 ∷ []) 8 (49 ∷ [])) ∷ [])) 6 false
    ∷ kept (in_order ((put (97 ∷ []) 8 (49 ∷ [])) ∷ (del (97 ∷ 98 ∷ []) 3) ∷ [])) 11 false
    ∷ []
    ≡ ((del (97 ∷ []) 7) ∷ (put (97 ∷ []) 3 (49 ∷ [])) ∷ [])
    ∷ ((put (97 ∷ []) 4 (49 ∷ [])) ∷ (put (97 ∷ 98 ∷ []) 10 (49 ∷ [])) ∷ (del (97 ∷ 98 ∷ []) 7) ∷ [])
    ∷ ((put (97 ∷ []) 4 (49 ∷ [])) ∷ [])
    ∷ ((del (97 ∷ 98 ∷ []) 9) ∷ [])
    ∷ ((put (97 ∷ 98 ∷ []) 6 (49 ∷ [])) ∷ [])
    ∷ ((del (97 ∷ []) 8) ∷ (put (97 ∷ []) 6 (49 ∷ [])) ∷ (put (98 ∷ []) 9 (49 ∷ [])) ∷ (del (98 ∷ []) 7) ∷ (put (98 ∷ []) 3 (49 ∷ [])) ∷ [])
    ∷ []
    ∷ ((put (97 ∷ []) 6 (49 ∷ [])) ∷ (put (97 ∷ 98 ∷ []) 1 (49 ∷ [])) ∷ (put (98 ∷ []) 7 (49 ∷ [])) ∷ [])
    ∷ ((put (97 ∷ 98 ∷ []) 1 (49 ∷ [])) ∷ [])
    ∷ ((put (97 ∷ []) 7 (49 ∷ [])) ∷ (del (98 ∷ []) 8) ∷ [])
    ∷ ((put (98 ∷ []) 9 (49 ∷ [])) ∷ (put (98 ∷ []) 7 (49 ∷ [])) ∷ (put (98 ∷ []) 3 (49 ∷ [])) ∷ [])
    ∷ ((put (97 ∷ []) 4 (49 ∷ [])) ∷ (del (97 ∷ 98 ∷ []) 11) ∷ [])
    ∷ ((del (97 ∷ 98 ∷ []) 10) ∷ (put (97 ∷ 98 ∷ []) 9 (49 ∷ [])) ∷ (put (97 ∷ 98 ∷ []) 6 (49 ∷ [])) ∷ [])
    ∷ []
    ∷ ((del (97 ∷ 98 ∷ []) 6) ∷ [])
    ∷ ((put (98 ∷ []) 11 (49 ∷ [])) ∷ (del (98 ∷ []) 5) ∷ [])
    ∷ ((del (97 ∷ []) 8) ∷ (put (97 ∷ []) 2 (49 ∷ [])) ∷ (put (98 ∷ []) 11 (49 ∷ [])) ∷ (put (98 ∷ []) 5 (49 ∷ [])) ∷ [])
    ∷ ((del (97 ∷ []) 7) ∷ (put (97 ∷ 98 ∷ []) 9 (49 ∷ [])) ∷ (del (97 ∷ 98 ∷ []) 6) ∷ (put (97 ∷ 98 ∷ []) 3 (49 ∷ [])) ∷ [])
    ∷ ((put (97 ∷ []) 11 (49 ∷ [])) ∷ (put (97 ∷ 98 ∷ []) 9 (49 ∷ [])) ∷ (del (98 ∷ []) 8) ∷ [])
    ∷ ((put (97 ∷ []) 2 (49 ∷ [])) ∷ (put (97 ∷ 98 ∷ []) 11 (49 ∷ [])) ∷ (del (98 ∷ []) 4) ∷ [])
    ∷ ((put (97 ∷ []) 6 (49 ∷ [])) ∷ (del (97 ∷ 98 ∷ []) 9) ∷ (put (98 ∷ []) 11 (49 ∷ [])) ∷ [])
    ∷ ((del (97 ∷ []) 8) ∷ (put (97 ∷ []) 7 (49 ∷ [])) ∷ (put (97 ∷ []) 2 (49 ∷ [])) ∷ (put (97 ∷ 98 ∷ []) 10 (49 ∷ [])) ∷ (put (97 ∷ 98 ∷ []) 6 (49 ∷ [])) ∷ (put (98 ∷ []) 11 (49 ∷ [])) ∷ [])
    ∷ ((put (97 ∷ 98 ∷ []) 11 (49 ∷ [])) ∷ (put (97 ∷ 98 ∷ []) 1 (49 ∷ [])) ∷ [])
    ∷ ((put (97 ∷ []) 5 (49 ∷ [])) ∷ (del (98 ∷ []) 11) ∷ (put (98 ∷ []) 2 (49 ∷ [])) ∷ [])
    ∷ ((put (97 ∷ []) 11 (49 ∷ [])) ∷ [])
    ∷ ((del (97 ∷ 98 ∷ []) 8) ∷ [])
    ∷ ((del (97 ∷ []) 8) ∷ (put (97 ∷ 98 ∷ []) 10 (49 ∷ [])) ∷ (del (97 ∷ 98 ∷ []) 9) ∷ [])
    ∷ ((del (97 ∷ []) 10) ∷ (put (97 ∷ []) 9 (49 ∷ [])) ∷ (put (97 ∷ []) 2 (49 ∷ [])) ∷ (put (97 ∷ 98 ∷ []) 5 (49 ∷ [])) ∷ (del (98 ∷ []) 11) ∷ (put (98 ∷ []) 8 (49 ∷ [])) ∷ [])
    ∷ ((put (97 ∷ []) 9 (49 ∷ [])) ∷ (put (97 ∷ []) 5 (49 ∷ [])) ∷ (put (97 ∷ 98 ∷ []) 10 (49 ∷ [])) ∷ [])
    ∷ ((put (98 ∷ []) 10 (49 ∷ [])) ∷ (put (98 ∷ []) 6 (49 ∷ [])) ∷ [])
    ∷ ((put (97 ∷ []) 2 (49 ∷ [])) ∷ [])
    ∷ ((put (97 ∷ []) 1 (49 ∷ [])) ∷ (put (97 ∷ 98 ∷ []) 3 (49 ∷ [])) ∷ (del (98 ∷ []) 5) ∷ [])
    ∷ ((del (97 ∷ []) 6) ∷ (put (97 ∷ []) 2 (49 ∷ [])) ∷ (del (97 ∷ 98 ∷ []) 8) ∷ (del (98 ∷ []) 5) ∷ [])
    ∷ ((put (97 ∷ []) 5 (49 ∷ [])) ∷ (del (97 ∷ 98 ∷ []) 9) ∷ (put (97 ∷ 98 ∷ []) 7 (49 ∷ [])) ∷ [])
    ∷ ((put (97 ∷ 98 ∷ []) 5 (49 ∷ [])) ∷ (del (98 ∷ []) 11) ∷ [])
    ∷ ((put (97 ∷ []) 11 (49 ∷ [])) ∷ (del (97 ∷ []) 1) ∷ (put (97 ∷ 98 ∷ []) 5 (49 ∷ [])) ∷ [])
    ∷ ((del (97 ∷ 98 ∷ []) 11) ∷ [])
    ∷ ((del (97 ∷ []) 4) ∷ (put (97 ∷ 98 ∷ []) 5 (49 ∷ [])) ∷ (put (98 ∷ []) 11 (49 ∷ [])) ∷ (del (98 ∷ []) 9) ∷ [])
    ∷ ((del (97 ∷ []) 8) ∷ (put (97 ∷ 98 ∷ []) 7 (49 ∷ [])) ∷ (del (97 ∷ 98 ∷ []) 3) ∷ (del (98 ∷ []) 6) ∷ (put (98 ∷ []) 5 (49 ∷ [])) ∷ [])
    ∷ ((del (97 ∷ 98 ∷ []) 5) ∷ (put (97 ∷ 98 ∷ []) 2 (49 ∷ [])) ∷ (del (98 ∷ []) 6) ∷ (del (98 ∷ []) 4) ∷ [])
    ∷ ((put (98 ∷ []) 3 (49 ∷ [])) ∷ [])
    ∷ ((put (97 ∷ []) 4 (49 ∷ [])) ∷ (put (97 ∷ 98 ∷ []) 11 (49 ∷ [])) ∷ (put (97 ∷ 98 ∷ []) 2 (49 ∷ [])) ∷ [])
    ∷ ((put (97 ∷ 98 ∷ []) 8 (49 ∷ [])) ∷ [])
    ∷ ((put (97 ∷ []) 7 (49 ∷ [])) ∷ (put (97 ∷ 98 ∷ []) 11 (49 ∷ [])) ∷ (put (97 ∷ 98 ∷ []) 9 (49 ∷ [])) ∷ (put (97 ∷ 98 ∷ []) 3 (49 ∷ [])) ∷ [])
    ∷ ((put (97 ∷ []) 11 (49 ∷ [])) ∷ (put (97 ∷ 98 ∷ []) 9 (49 ∷ [])) ∷ (del (97 ∷ 98 ∷ []) 8) ∷ (del (97 ∷ 98 ∷ []) 4) ∷ (put (97 ∷ 98 ∷ []) 3 (49 ∷ [])) ∷ (put (98 ∷ []) 1 (49 ∷ [])) ∷ [])
    ∷ ((put (97 ∷ []) 8 (49 ∷ [])) ∷ (put (98 ∷ []) 4 (49 ∷ [])) ∷ [])
    ∷ ((put (97 ∷ 98 ∷ []) 10 (49 ∷ [])) ∷ [])
    ∷ ((put (97 ∷ []) 5 (49 ∷ [])) ∷ (del (97 ∷ 98 ∷ []) 3) ∷ (del (98 ∷ []) 11) ∷ [])
    ∷ ((put (97 ∷ []) 5 (49 ∷ [])) ∷ (del (97 ∷ 98 ∷ []) 8) ∷ (put (98 ∷ []) 9 (49 ∷ [])) ∷ [])
    ∷ ((del (98 ∷ []) 5) ∷ [])
    ∷ ((put (97 ∷ []) 9 (49 ∷ [])) ∷ (put (98 ∷ []) 4 (49 ∷ [])) ∷ [])
    ∷ ((put (97 ∷ []) 6 (49 ∷ [])) ∷ [])
    ∷ ((put (97 ∷ 98 ∷ []) 1 (49 ∷ [])) ∷ (put (98 ∷ []) 8 (49 ∷ [])) ∷ [])
    ∷ ((put (97 ∷ []) 1 (49 ∷ [])) ∷ [])
    ∷ ((del (97 ∷ []) 10) ∷ (del (97 ∷ 98 ∷ []) 2) ∷ (put (98 ∷ []) 7 (49 ∷ [])) ∷ [])
    ∷ ((del (98 ∷ []) 11) ∷ (put (98 ∷ []) 4 (49 ∷ [])) ∷ [])
    ∷ ((del (97 ∷ 98 ∷ []) 11) ∷ (del (98 ∷ []) 10) ∷ [])
    ∷ ((put (97 ∷ []) 7 (49 ∷ [])) ∷ (put (98 ∷ []) 11 (49 ∷ [])) ∷ (put (98 ∷ []) 9 (49 ∷ [])) ∷ [])
    ∷ ((put (98 ∷ []) 3 (49 ∷ [])) ∷ [])
    ∷ ((put (97 ∷ 98 ∷ []) 10 (49 ∷ [])) ∷ [])
    ∷ ((put (98 ∷ []) 8 (49 ∷ [])) ∷ [])
    ∷ ((put (98 ∷ []) 11 (49 ∷ [])) ∷ [])
    ∷ ((put (97 ∷ []) 7 (49 ∷ [])) ∷ (del (97 ∷ 98 ∷ []) 11) ∷ (del (98 ∷ []) 1) ∷ [])
    ∷ ((del (97 ∷ []) 10) ∷ (put (97 ∷ []) 9 (49 ∷ [])) ∷ (put (97 ∷ 98 ∷ []) 11 (49 ∷ [])) ∷ (put (97 ∷ 98 ∷ []) 8 (49 ∷ [])) ∷ (put (97 ∷ 98 ∷ []) 6 (49 ∷ [])) ∷ (put (97 ∷ 98 ∷ []) 2 (49 ∷ [])) ∷ [])
    ∷ ((put (97 ∷ []) 10 (49 ∷ [])) ∷ (del (98 ∷ []) 1) ∷ [])
    ∷ ((put (97 ∷ []) 9 (49 ∷ [])) ∷ [])
    ∷ ((put (97 ∷ []) 1 (49 ∷ [])) ∷ [])
    ∷ ((put (97 ∷ []) 5 (49 ∷ [])) ∷ [])
    ∷ []
    ∷ ((put (97 ∷ 98 ∷ []) 5 (49 ∷ [])) ∷ [])
    ∷ ((put (97 ∷ []) 5 (49 ∷ [])) ∷ (put (98 ∷ []) 4 (49 ∷ [])) ∷ [])
    ∷ ((put (97 ∷ []) 10 (49 ∷ [])) ∷ (del (97 ∷ []) 4) ∷ (put (97 ∷ []) 3 (49 ∷ [])) ∷ (del (97 ∷ 98 ∷ []) 11) ∷ (put (98 ∷ []) 8 (49 ∷ [])) ∷ [])
    ∷ ((del (97 ∷ 98 ∷ []) 8) ∷ (put (97 ∷ 98 ∷ []) 7 (49 ∷ [])) ∷ [])
    ∷ ((put (97 ∷ 98 ∷ []) 4 (49 ∷ [])) ∷ (put (98 ∷ []) 9 (49 ∷ [])) ∷ (put (98 ∷ []) 3 (49 ∷ [])) ∷ [])
    ∷ []
    ∷ ((del (97 ∷ []) 9) ∷ [])
    ∷ ((del (97 ∷ []) 3) ∷ (put (97 ∷ 98 ∷ []) 10 (49 ∷ [])) ∷ (del (98 ∷ []) 8) ∷ (del (98 ∷ []) 7) ∷ (del (98 ∷ []) 5) ∷ (put (98 ∷ []) 2 (49 ∷ [])) ∷ (del (98 ∷ []) 1) ∷ [])
    ∷ ((put (97 ∷ 98 ∷ []) 10 (49 ∷ [])) ∷ (put (97 ∷ 98 ∷ []) 7 (49 ∷ [])) ∷ (put (97 ∷ 98 ∷ []) 3 (49 ∷ [])) ∷ (del (97 ∷ 98 ∷ []) 2) ∷ (del (98 ∷ []) 9) ∷ (put (98 ∷ []) 6 (49 ∷ [])) ∷ [])
    ∷ ((put (97 ∷ 98 ∷ []) 2 (49 ∷ [])) ∷ (put (98 ∷ []) 8 (49 ∷ [])) ∷ [])
    ∷ ((put (97 ∷ []) 8 (49 ∷ [])) ∷ (del (97 ∷ 98 ∷ []) 3) ∷ [])
    ∷ []
kept_same = refl

pieces_same : pieces ((put (99 ∷ []) 4 (49 ∷ [])) ∷ (put (101 ∷ []) 8 (49 ∷ [])) ∷ (put (103 ∷ []) 10 (49 ∷ [])) ∷ (put (103 ∷ []) 6 (49 ∷ [])) ∷ []) []
    ∷ pieces ((put (97 ∷ []) 11 (49 ∷ [])) ∷ (put (97 ∷ []) 7 (49 ∷ [])) ∷ (put (100 ∷ []) 4 (49 ∷ [])) ∷ (put (102 ∷ []) 3 (49 ∷ [])) ∷ []) ((99 ∷ []) ∷ (102 ∷ []) ∷ (103 ∷ []) ∷ [])
    ∷ pieces [] []
    ∷ pieces ((put (97 ∷ []) 2 (49 ∷ [])) ∷ (put (98 ∷ []) 10 (49 ∷ [])) ∷ []) ((99 ∷ []) ∷ (104 ∷ []) ∷ [])
    ∷ pieces ((put (100 ∷ []) 3 (49 ∷ [])) ∷ []) ((98 ∷ []) ∷ (100 ∷ []) ∷ (101 ∷ []) ∷ [])
    ∷ pieces ((put (99 ∷ []) 10 (49 ∷ [])) ∷ (put (99 ∷ []) 5 (49 ∷ [])) ∷ []) ((100 ∷ []) ∷ (101 ∷ []) ∷ [])
    ∷ pieces ((put (98 ∷ []) 4 (49 ∷ [])) ∷ (put (98 ∷ []) 3 (49 ∷ [])) ∷ (put (99 ∷ []) 11 (49 ∷ [])) ∷ []) ((98 ∷ []) ∷ (100 ∷ []) ∷ (102 ∷ []) ∷ (103 ∷ []) ∷ [])
    ∷ pieces ((put (98 ∷ []) 9 (49 ∷ [])) ∷ (put (101 ∷ []) 4 (49 ∷ [])) ∷ []) []
    ∷ pieces ((put (98 ∷ []) 1 (49 ∷ [])) ∷ (put (99 ∷ []) 4 (49 ∷ [])) ∷ (put (100 ∷ []) 10 (49 ∷ [])) ∷ (put (103 ∷ []) 8 (49 ∷ [])) ∷ (put (103 ∷ []) 2 (49 ∷ [])) ∷ []) []
    ∷ pieces ((put (97 ∷ []) 4 (49 ∷ [])) ∷ (put (98 ∷ []) 2 (49 ∷ [])) ∷ []) ((98 ∷ []) ∷ (99 ∷ []) ∷ (100 ∷ []) ∷ (102 ∷ []) ∷ [])
    ∷ pieces ((put (97 ∷ []) 10 (49 ∷ [])) ∷ (put (101 ∷ []) 1 (49 ∷ [])) ∷ (put (102 ∷ []) 5 (49 ∷ [])) ∷ []) ((97 ∷ []) ∷ (100 ∷ []) ∷ (102 ∷ []) ∷ [])
    ∷ pieces ((put (98 ∷ []) 3 (49 ∷ [])) ∷ (put (99 ∷ []) 1 (49 ∷ [])) ∷ []) []
    ∷ pieces ((put (98 ∷ []) 6 (49 ∷ [])) ∷ (put (99 ∷ []) 1 (49 ∷ [])) ∷ (put (100 ∷ []) 11 (49 ∷ [])) ∷ (put (102 ∷ []) 4 (49 ∷ [])) ∷ []) ((97 ∷ []) ∷ (98 ∷ []) ∷ (100 ∷ []) ∷ (101 ∷ []) ∷ [])
    ∷ pieces ((put (98 ∷ []) 4 (49 ∷ [])) ∷ (put (100 ∷ []) 9 (49 ∷ [])) ∷ (put (101 ∷ []) 2 (49 ∷ [])) ∷ (put (102 ∷ []) 11 (49 ∷ [])) ∷ (put (102 ∷ []) 1 (49 ∷ [])) ∷ (put (103 ∷ []) 8 (49 ∷ [])) ∷ []) ((98 ∷ []) ∷ (99 ∷ []) ∷ (101 ∷ []) ∷ (103 ∷ []) ∷ [])
    ∷ pieces ((put (97 ∷ []) 5 (49 ∷ [])) ∷ (put (99 ∷ []) 11 (49 ∷ [])) ∷ (put (102 ∷ []) 7 (49 ∷ [])) ∷ []) ((97 ∷ []) ∷ (102 ∷ []) ∷ (103 ∷ []) ∷ [])
    ∷ pieces ((put (97 ∷ []) 9 (49 ∷ [])) ∷ (put (97 ∷ []) 1 (49 ∷ [])) ∷ (put (98 ∷ []) 4 (49 ∷ [])) ∷ (put (100 ∷ []) 7 (49 ∷ [])) ∷ (put (100 ∷ []) 6 (49 ∷ [])) ∷ (put (103 ∷ []) 2 (49 ∷ [])) ∷ []) ((99 ∷ []) ∷ (102 ∷ []) ∷ (104 ∷ []) ∷ [])
    ∷ pieces ((put (97 ∷ []) 1 (49 ∷ [])) ∷ []) ((98 ∷ []) ∷ (99 ∷ []) ∷ (102 ∷ []) ∷ (103 ∷ []) ∷ [])
    ∷ pieces ((put (97 ∷ []) 11 (49 ∷ [])) ∷ (put (97 ∷ []) 6 (49 ∷ [])) ∷ (put (98 ∷ []) 10 (49 ∷ [])) ∷ (put (98 ∷ []) 9 (49 ∷ [])) ∷ (put (101 ∷ []) 3 (49 ∷ [])) ∷ []) ((100 ∷ []) ∷ (101 ∷ []) ∷ (104 ∷ []) ∷ [])
    ∷ pieces ((put (100 ∷ []) 1 (49 ∷ [])) ∷ []) ((97 ∷ []) ∷ (103 ∷ []) ∷ [])
    ∷ pieces [] ((99 ∷ []) ∷ (100 ∷ []) ∷ (103 ∷ []) ∷ [])
    ∷ pieces ((put (97 ∷ []) 1 (49 ∷ [])) ∷ (put (98 ∷ []) 9 (49 ∷ [])) ∷ (put (98 ∷ []) 8 (49 ∷ [])) ∷ (put (98 ∷ []) 5 (49 ∷ [])) ∷ (put (99 ∷ []) 4 (49 ∷ [])) ∷ (put (100 ∷ []) 3 (49 ∷ [])) ∷ []) ((97 ∷ []) ∷ [])
    ∷ pieces ((put (100 ∷ []) 11 (49 ∷ [])) ∷ (put (100 ∷ []) 6 (49 ∷ [])) ∷ (put (101 ∷ []) 2 (49 ∷ [])) ∷ (put (101 ∷ []) 1 (49 ∷ [])) ∷ []) ((101 ∷ []) ∷ (103 ∷ []) ∷ [])
    ∷ pieces ((put (98 ∷ []) 6 (49 ∷ [])) ∷ (put (100 ∷ []) 10 (49 ∷ [])) ∷ (put (100 ∷ []) 4 (49 ∷ [])) ∷ (put (101 ∷ []) 7 (49 ∷ [])) ∷ []) []
    ∷ pieces [] ((100 ∷ []) ∷ (104 ∷ []) ∷ [])
    ∷ pieces ((put (97 ∷ []) 10 (49 ∷ [])) ∷ (put (97 ∷ []) 1 (49 ∷ [])) ∷ (put (98 ∷ []) 8 (49 ∷ [])) ∷ (put (99 ∷ []) 4 (49 ∷ [])) ∷ (put (99 ∷ []) 3 (49 ∷ [])) ∷ (put (100 ∷ []) 11 (49 ∷ [])) ∷ []) ((97 ∷ []) ∷ (99 ∷ []) ∷ [])
    ∷ pieces [] ((97 ∷ []) ∷ (98 ∷ []) ∷ [])
    ∷ pieces ((put (97 ∷ []) 10 (49 ∷ [])) ∷ (put (98 ∷ []) 8 (49 ∷ [])) ∷ (put (101 ∷ []) 9 (49 ∷ [])) ∷ (put (102 ∷ []) 7 (49 ∷ [])) ∷ (put (102 ∷ []) 3 (49 ∷ [])) ∷ (put (103 ∷ []) 1 (49 ∷ [])) ∷ []) ((104 ∷ []) ∷ [])
    ∷ pieces ((put (97 ∷ []) 3 (49 ∷ [])) ∷ (put (103 ∷ []) 4 (49 ∷ [])) ∷ []) ((99 ∷ []) ∷ (101 ∷ []) ∷ [])
    ∷ pieces ((put (100 ∷ []) 5 (49 ∷ [])) ∷ (put (103 ∷ []) 10 (49 ∷ [])) ∷ []) ((101 ∷ []) ∷ [])
    ∷ pieces ((put (97 ∷ []) 5 (49 ∷ [])) ∷ (put (98 ∷ []) 10 (49 ∷ [])) ∷ (put (99 ∷ []) 8 (49 ∷ [])) ∷ (put (99 ∷ []) 4 (49 ∷ [])) ∷ []) ((103 ∷ []) ∷ [])
    ∷ pieces ((put (99 ∷ []) 11 (49 ∷ [])) ∷ []) ((99 ∷ []) ∷ (103 ∷ []) ∷ [])
    ∷ pieces ((put (100 ∷ []) 2 (49 ∷ [])) ∷ (put (101 ∷ []) 9 (49 ∷ [])) ∷ (put (101 ∷ []) 6 (49 ∷ [])) ∷ (put (101 ∷ []) 1 (49 ∷ [])) ∷ (put (102 ∷ []) 3 (49 ∷ [])) ∷ (put (103 ∷ []) 5 (49 ∷ [])) ∷ []) []
    ∷ pieces ((put (102 ∷ []) 9 (49 ∷ [])) ∷ (put (103 ∷ []) 7 (49 ∷ [])) ∷ []) ((101 ∷ []) ∷ (103 ∷ []) ∷ [])
    ∷ pieces ((put (99 ∷ []) 10 (49 ∷ [])) ∷ (put (99 ∷ []) 3 (49 ∷ [])) ∷ []) []
    ∷ pieces ((put (99 ∷ []) 4 (49 ∷ [])) ∷ (put (101 ∷ []) 1 (49 ∷ [])) ∷ (put (103 ∷ []) 3 (49 ∷ [])) ∷ []) ((101 ∷ []) ∷ (102 ∷ []) ∷ [])
    ∷ pieces ((put (100 ∷ []) 4 (49 ∷ [])) ∷ (put (100 ∷ []) 3 (49 ∷ [])) ∷ (put (101 ∷ []) 8 (49 ∷ [])) ∷ (put (101 ∷ []) 1 (49 ∷ [])) ∷ (put (102 ∷ []) 11 (49 ∷ [])) ∷ []) ((97 ∷ []) ∷ (99 ∷ []) ∷ [])
    ∷ pieces ((put (97 ∷ []) 10 (49 ∷ [])) ∷ (put (97 ∷ []) 4 (49 ∷ [])) ∷ (put (97 ∷ []) 1 (49 ∷ [])) ∷ []) ((98 ∷ []) ∷ (101 ∷ []) ∷ (102 ∷ []) ∷ [])
    ∷ pieces ((put (98 ∷ []) 4 (49 ∷ [])) ∷ (put (99 ∷ []) 7 (49 ∷ [])) ∷ (put (101 ∷ []) 5 (49 ∷ [])) ∷ (put (103 ∷ []) 3 (49 ∷ [])) ∷ []) ((97 ∷ []) ∷ (99 ∷ []) ∷ [])
    ∷ pieces ((put (98 ∷ []) 4 (49 ∷ [])) ∷ (put (99 ∷ []) 1 (49 ∷ [])) ∷ (put (100 ∷ []) 6 (49 ∷ [])) ∷ (put (102 ∷ []) 8 (49 ∷ [])) ∷ (put (103 ∷ []) 3 (49 ∷ [])) ∷ (put (103 ∷ []) 2 (49 ∷ [])) ∷ []) ((97 ∷ []) ∷ [])
    ∷ pieces ((put (97 ∷ []) 11 (49 ∷ [])) ∷ (put (97 ∷ []) 8 (49 ∷ [])) ∷ (put (97 ∷ []) 6 (49 ∷ [])) ∷ (put (98 ∷ []) 9 (49 ∷ [])) ∷ (put (101 ∷ []) 2 (49 ∷ [])) ∷ []) []
    ∷ []
    ≡ (((put (99 ∷ []) 4 (49 ∷ [])) ∷ (put (101 ∷ []) 8 (49 ∷ [])) ∷ (put (103 ∷ []) 10 (49 ∷ [])) ∷ (put (103 ∷ []) 6 (49 ∷ [])) ∷ []) ∷ [])
    ∷ (((put (97 ∷ []) 11 (49 ∷ [])) ∷ (put (97 ∷ []) 7 (49 ∷ [])) ∷ []) ∷ ((put (100 ∷ []) 4 (49 ∷ [])) ∷ []) ∷ ((put (102 ∷ []) 3 (49 ∷ [])) ∷ []) ∷ [])
    ∷ []
    ∷ (((put (97 ∷ []) 2 (49 ∷ [])) ∷ (put (98 ∷ []) 10 (49 ∷ [])) ∷ []) ∷ [])
    ∷ (((put (100 ∷ []) 3 (49 ∷ [])) ∷ []) ∷ [])
    ∷ (((put (99 ∷ []) 10 (49 ∷ [])) ∷ (put (99 ∷ []) 5 (49 ∷ [])) ∷ []) ∷ [])
    ∷ (((put (98 ∷ []) 4 (49 ∷ [])) ∷ (put (98 ∷ []) 3 (49 ∷ [])) ∷ (put (99 ∷ []) 11 (49 ∷ [])) ∷ []) ∷ [])
    ∷ (((put (98 ∷ []) 9 (49 ∷ [])) ∷ (put (101 ∷ []) 4 (49 ∷ [])) ∷ []) ∷ [])
    ∷ (((put (98 ∷ []) 1 (49 ∷ [])) ∷ (put (99 ∷ []) 4 (49 ∷ [])) ∷ (put (100 ∷ []) 10 (49 ∷ [])) ∷ (put (103 ∷ []) 8 (49 ∷ [])) ∷ (put (103 ∷ []) 2 (49 ∷ [])) ∷ []) ∷ [])
    ∷ (((put (97 ∷ []) 4 (49 ∷ [])) ∷ []) ∷ ((put (98 ∷ []) 2 (49 ∷ [])) ∷ []) ∷ [])
    ∷ (((put (97 ∷ []) 10 (49 ∷ [])) ∷ []) ∷ ((put (101 ∷ []) 1 (49 ∷ [])) ∷ []) ∷ ((put (102 ∷ []) 5 (49 ∷ [])) ∷ []) ∷ [])
    ∷ (((put (98 ∷ []) 3 (49 ∷ [])) ∷ (put (99 ∷ []) 1 (49 ∷ [])) ∷ []) ∷ [])
    ∷ (((put (98 ∷ []) 6 (49 ∷ [])) ∷ (put (99 ∷ []) 1 (49 ∷ [])) ∷ []) ∷ ((put (100 ∷ []) 11 (49 ∷ [])) ∷ []) ∷ ((put (102 ∷ []) 4 (49 ∷ [])) ∷ []) ∷ [])
    ∷ (((put (98 ∷ []) 4 (49 ∷ [])) ∷ []) ∷ ((put (100 ∷ []) 9 (49 ∷ [])) ∷ []) ∷ ((put (101 ∷ []) 2 (49 ∷ [])) ∷ (put (102 ∷ []) 11 (49 ∷ [])) ∷ (put (102 ∷ []) 1 (49 ∷ [])) ∷ []) ∷ ((put (103 ∷ []) 8 (49 ∷ [])) ∷ []) ∷ [])
    ∷ (((put (97 ∷ []) 5 (49 ∷ [])) ∷ (put (99 ∷ []) 11 (49 ∷ [])) ∷ []) ∷ ((put (102 ∷ []) 7 (49 ∷ [])) ∷ []) ∷ [])
    ∷ (((put (97 ∷ []) 9 (49 ∷ [])) ∷ (put (97 ∷ []) 1 (49 ∷ [])) ∷ (put (98 ∷ []) 4 (49 ∷ [])) ∷ []) ∷ ((put (100 ∷ []) 7 (49 ∷ [])) ∷ (put (100 ∷ []) 6 (49 ∷ [])) ∷ []) ∷ ((put (103 ∷ []) 2 (49 ∷ [])) ∷ []) ∷ [])
    ∷ (((put (97 ∷ []) 1 (49 ∷ [])) ∷ []) ∷ [])
    ∷ (((put (97 ∷ []) 11 (49 ∷ [])) ∷ (put (97 ∷ []) 6 (49 ∷ [])) ∷ (put (98 ∷ []) 10 (49 ∷ [])) ∷ (put (98 ∷ []) 9 (49 ∷ [])) ∷ []) ∷ ((put (101 ∷ []) 3 (49 ∷ [])) ∷ []) ∷ [])
    ∷ (((put (100 ∷ []) 1 (49 ∷ [])) ∷ []) ∷ [])
    ∷ []
    ∷ (((put (97 ∷ []) 1 (49 ∷ [])) ∷ (put (98 ∷ []) 9 (49 ∷ [])) ∷ (put (98 ∷ []) 8 (49 ∷ [])) ∷ (put (98 ∷ []) 5 (49 ∷ [])) ∷ (put (99 ∷ []) 4 (49 ∷ [])) ∷ (put (100 ∷ []) 3 (49 ∷ [])) ∷ []) ∷ [])
    ∷ (((put (100 ∷ []) 11 (49 ∷ [])) ∷ (put (100 ∷ []) 6 (49 ∷ [])) ∷ []) ∷ ((put (101 ∷ []) 2 (49 ∷ [])) ∷ (put (101 ∷ []) 1 (49 ∷ [])) ∷ []) ∷ [])
    ∷ (((put (98 ∷ []) 6 (49 ∷ [])) ∷ (put (100 ∷ []) 10 (49 ∷ [])) ∷ (put (100 ∷ []) 4 (49 ∷ [])) ∷ (put (101 ∷ []) 7 (49 ∷ [])) ∷ []) ∷ [])
    ∷ []
    ∷ (((put (97 ∷ []) 10 (49 ∷ [])) ∷ (put (97 ∷ []) 1 (49 ∷ [])) ∷ (put (98 ∷ []) 8 (49 ∷ [])) ∷ []) ∷ ((put (99 ∷ []) 4 (49 ∷ [])) ∷ (put (99 ∷ []) 3 (49 ∷ [])) ∷ (put (100 ∷ []) 11 (49 ∷ [])) ∷ []) ∷ [])
    ∷ []
    ∷ (((put (97 ∷ []) 10 (49 ∷ [])) ∷ (put (98 ∷ []) 8 (49 ∷ [])) ∷ (put (101 ∷ []) 9 (49 ∷ [])) ∷ (put (102 ∷ []) 7 (49 ∷ [])) ∷ (put (102 ∷ []) 3 (49 ∷ [])) ∷ (put (103 ∷ []) 1 (49 ∷ [])) ∷ []) ∷ [])
    ∷ (((put (97 ∷ []) 3 (49 ∷ [])) ∷ []) ∷ ((put (103 ∷ []) 4 (49 ∷ [])) ∷ []) ∷ [])
    ∷ (((put (100 ∷ []) 5 (49 ∷ [])) ∷ []) ∷ ((put (103 ∷ []) 10 (49 ∷ [])) ∷ []) ∷ [])
    ∷ (((put (97 ∷ []) 5 (49 ∷ [])) ∷ (put (98 ∷ []) 10 (49 ∷ [])) ∷ (put (99 ∷ []) 8 (49 ∷ [])) ∷ (put (99 ∷ []) 4 (49 ∷ [])) ∷ []) ∷ [])
    ∷ (((put (99 ∷ []) 11 (49 ∷ [])) ∷ []) ∷ [])
    ∷ (((put (100 ∷ []) 2 (49 ∷ [])) ∷ (put (101 ∷ []) 9 (49 ∷ [])) ∷ (put (101 ∷ []) 6 (49 ∷ [])) ∷ (put (101 ∷ []) 1 (49 ∷ [])) ∷ (put (102 ∷ []) 3 (49 ∷ [])) ∷ (put (103 ∷ []) 5 (49 ∷ [])) ∷ []) ∷ [])
    ∷ (((put (102 ∷ []) 9 (49 ∷ [])) ∷ []) ∷ ((put (103 ∷ []) 7 (49 ∷ [])) ∷ []) ∷ [])
    ∷ (((put (99 ∷ []) 10 (49 ∷ [])) ∷ (put (99 ∷ []) 3 (49 ∷ [])) ∷ []) ∷ [])
    ∷ (((put (99 ∷ []) 4 (49 ∷ [])) ∷ []) ∷ ((put (101 ∷ []) 1 (49 ∷ [])) ∷ []) ∷ ((put (103 ∷ []) 3 (49 ∷ [])) ∷ []) ∷ [])
    ∷ (((put (100 ∷ []) 4 (49 ∷ [])) ∷ (put (100 ∷ []) 3 (49 ∷ [])) ∷ (put (101 ∷ []) 8 (49 ∷ [])) ∷ (put (101 ∷ []) 1 (49 ∷ [])) ∷ (put (102 ∷ []) 11 (49 ∷ [])) ∷ []) ∷ [])
    ∷ (((put (97 ∷ []) 10 (49 ∷ [])) ∷ (put (97 ∷ []) 4 (49 ∷ [])) ∷ (put (97 ∷ []) 1 (49 ∷ [])) ∷ []) ∷ [])
    ∷ (((put (98 ∷ []) 4 (49 ∷ [])) ∷ []) ∷ ((put (99 ∷ []) 7 (49 ∷ [])) ∷ (put (101 ∷ []) 5 (49 ∷ [])) ∷ (put (103 ∷ []) 3 (49 ∷ [])) ∷ []) ∷ [])
    ∷ (((put (98 ∷ []) 4 (49 ∷ [])) ∷ (put (99 ∷ []) 1 (49 ∷ [])) ∷ (put (100 ∷ []) 6 (49 ∷ [])) ∷ (put (102 ∷ []) 8 (49 ∷ [])) ∷ (put (103 ∷ []) 3 (49 ∷ [])) ∷ (put (103 ∷ []) 2 (49 ∷ [])) ∷ []) ∷ [])
    ∷ (((put (97 ∷ []) 11 (49 ∷ [])) ∷ (put (97 ∷ []) 8 (49 ∷ [])) ∷ (put (97 ∷ []) 6 (49 ∷ [])) ∷ (put (98 ∷ []) 9 (49 ∷ [])) ∷ (put (101 ∷ []) 2 (49 ∷ [])) ∷ []) ∷ [])
    ∷ []
pieces_same = refl

claims_same : jobs_conflict (job_of CutJob 1 (99 ∷ []) None [] [] 1 0 false) (job_of FlushJob 0 [] None [] [] 1 0 false)
    ∷ jobs_conflict (job_of CutJob 1 (99 ∷ []) (Some (103 ∷ [])) [] [] 1 0 false) (job_of MoveJob 2 (111 ∷ []) (Some (120 ∷ [])) [] [] 1 0 false)
    ∷ jobs_conflict (job_of MoveJob 2 [] (Some (120 ∷ [])) [] [] 1 0 false) (job_of MergeJob 3 (111 ∷ []) (Some (120 ∷ [])) [] [] 1 0 false)
    ∷ jobs_conflict (job_of CutJob 2 (111 ∷ []) (Some (120 ∷ [])) [] [] 1 0 false) (job_of CutJob 3 (111 ∷ []) None [] [] 1 0 false)
    ∷ jobs_conflict (job_of MoveJob 0 [] None [] [] 1 0 false) (job_of MoveJob 2 [] (Some (120 ∷ [])) [] [] 1 0 false)
    ∷ jobs_conflict (job_of MergeJob 3 [] (Some (120 ∷ [])) [] [] 1 0 false) (job_of MergeJob 3 (111 ∷ []) (Some (120 ∷ [])) [] [] 1 0 false)
    ∷ jobs_conflict (job_of CutJob 2 (99 ∷ []) None [] [] 1 0 false) (job_of CutJob 1 (103 ∷ []) (Some (119 ∷ [])) [] [] 1 0 false)
    ∷ jobs_conflict (job_of MergeJob 3 (103 ∷ []) (Some (119 ∷ [])) [] [] 1 0 false) (job_of CutJob 3 (99 ∷ []) (Some (103 ∷ [])) [] [] 1 0 false)
    ∷ jobs_conflict (job_of MergeJob 3 (111 ∷ []) (Some (119 ∷ [])) [] [] 1 0 false) (job_of CutJob 1 [] (Some (99 ∷ [])) [] [] 1 0 false)
    ∷ jobs_conflict (job_of MergeJob 3 (103 ∷ []) (Some (119 ∷ [])) [] [] 1 0 false) (job_of CutJob 3 [] (Some (103 ∷ [])) [] [] 1 0 false)
    ∷ jobs_conflict (job_of MoveJob 0 [] None [] [] 1 0 false) (job_of FlushJob 0 [] None [] [] 1 0 false)
    ∷ jobs_conflict (job_of CutJob 2 (99 ∷ []) None [] [] 1 0 false) (job_of FlushJob 0 [] None [] [] 1 0 false)
    ∷ jobs_conflict (job_of MergeJob 3 [] (Some (111 ∷ [])) [] [] 1 0 false) (job_of FlushJob 0 [] None [] [] 1 0 false)
    ∷ jobs_conflict (job_of FlushJob 0 [] None [] [] 1 0 false) (job_of MoveJob 2 [] (Some (111 ∷ [])) [] [] 1 0 false)
    ∷ jobs_conflict (job_of CutJob 1 (99 ∷ []) (Some (119 ∷ [])) [] [] 1 0 false) (job_of FlushJob 0 [] None [] [] 1 0 false)
    ∷ jobs_conflict (job_of MergeJob 3 (103 ∷ []) (Some (111 ∷ [])) [] [] 1 0 false) (job_of FlushJob 0 [] None [] [] 1 0 false)
    ∷ jobs_conflict (job_of MergeJob 3 (103 ∷ []) (Some (120 ∷ [])) [] [] 1 0 false) (job_of CutJob 1 (103 ∷ []) (Some (120 ∷ [])) [] [] 1 0 false)
    ∷ jobs_conflict (job_of MoveJob 0 [] None [] [] 1 0 false) (job_of MoveJob 1 (111 ∷ []) (Some (119 ∷ [])) [] [] 1 0 false)
    ∷ jobs_conflict (job_of CutJob 1 (111 ∷ []) None [] [] 1 0 false) (job_of CutJob 1 (103 ∷ []) (Some (111 ∷ [])) [] [] 1 0 false)
    ∷ jobs_conflict (job_of MergeJob 3 (99 ∷ []) None [] [] 1 0 false) (job_of CutJob 1 (111 ∷ []) None [] [] 1 0 false)
    ∷ jobs_conflict (job_of CutJob 2 [] None [] [] 1 0 false) (job_of MoveJob 1 (111 ∷ []) (Some (120 ∷ [])) [] [] 1 0 false)
    ∷ jobs_conflict (job_of MoveJob 1 (103 ∷ []) (Some (120 ∷ [])) [] [] 1 0 false) (job_of CutJob 2 (99 ∷ []) (Some (119 ∷ [])) [] [] 1 0 false)
    ∷ jobs_conflict (job_of CutJob 1 [] (Some (99 ∷ [])) [] [] 1 0 false) (job_of MergeJob 3 (103 ∷ []) (Some (120 ∷ [])) [] [] 1 0 false)
    ∷ jobs_conflict (job_of FlushJob 0 [] None [] [] 1 0 false) (job_of MergeJob 3 [] (Some (120 ∷ [])) [] [] 1 0 false)
    ∷ jobs_conflict (job_of MoveJob 1 (111 ∷ []) (Some (120 ∷ [])) [] [] 1 0 false) (job_of CutJob 2 (99 ∷ []) (Some (103 ∷ [])) [] [] 1 0 false)
    ∷ jobs_conflict (job_of MoveJob 2 [] (Some (120 ∷ [])) [] [] 1 0 false) (job_of CutJob 3 (99 ∷ []) (Some (103 ∷ [])) [] [] 1 0 false)
    ∷ jobs_conflict (job_of MergeJob 3 (103 ∷ []) (Some (119 ∷ [])) [] [] 1 0 false) (job_of CutJob 3 (103 ∷ []) (Some (119 ∷ [])) [] [] 1 0 false)
    ∷ jobs_conflict (job_of MoveJob 1 (99 ∷ []) (Some (111 ∷ [])) [] [] 1 0 false) (job_of MoveJob 1 (99 ∷ []) (Some (119 ∷ [])) [] [] 1 0 false)
    ∷ jobs_conflict (job_of MoveJob 2 (103 ∷ []) (Some (119 ∷ [])) [] [] 1 0 false) (job_of MoveJob 1 (103 ∷ []) None [] [] 1 0 false)
    ∷ jobs_conflict (job_of MoveJob 2 (99 ∷ []) (Some (103 ∷ [])) [] [] 1 0 false) (job_of MoveJob 0 [] None [] [] 1 0 false)
    ∷ jobs_conflict (job_of MergeJob 3 (103 ∷ []) (Some (119 ∷ [])) [] [] 1 0 false) (job_of FlushJob 0 [] None [] [] 1 0 false)
    ∷ jobs_conflict (job_of MoveJob 0 [] None [] [] 1 0 false) (job_of CutJob 1 (111 ∷ []) (Some (119 ∷ [])) [] [] 1 0 false)
    ∷ jobs_conflict (job_of MergeJob 3 (103 ∷ []) (Some (111 ∷ [])) [] [] 1 0 false) (job_of FlushJob 0 [] None [] [] 1 0 false)
    ∷ jobs_conflict (job_of CutJob 2 [] (Some (111 ∷ [])) [] [] 1 0 false) (job_of MoveJob 1 (111 ∷ []) None [] [] 1 0 false)
    ∷ jobs_conflict (job_of MergeJob 3 (99 ∷ []) (Some (119 ∷ [])) [] [] 1 0 false) (job_of MergeJob 3 (111 ∷ []) (Some (119 ∷ [])) [] [] 1 0 false)
    ∷ jobs_conflict (job_of MoveJob 2 [] (Some (99 ∷ [])) [] [] 1 0 false) (job_of MoveJob 1 (99 ∷ []) (Some (120 ∷ [])) [] [] 1 0 false)
    ∷ jobs_conflict (job_of CutJob 2 [] (Some (103 ∷ [])) [] [] 1 0 false) (job_of CutJob 3 (99 ∷ []) (Some (120 ∷ [])) [] [] 1 0 false)
    ∷ jobs_conflict (job_of FlushJob 0 [] None [] [] 1 0 false) (job_of FlushJob 0 [] None [] [] 1 0 false)
    ∷ jobs_conflict (job_of CutJob 1 (99 ∷ []) (Some (111 ∷ [])) [] [] 1 0 false) (job_of MoveJob 0 [] None [] [] 1 0 false)
    ∷ jobs_conflict (job_of CutJob 1 (111 ∷ []) (Some (120 ∷ [])) [] [] 1 0 false) (job_of FlushJob 0 [] None [] [] 1 0 false)
    ∷ jobs_conflict (job_of CutJob 2 (111 ∷ []) None [] [] 1 0 false) (job_of MergeJob 3 [] (Some (111 ∷ [])) [] [] 1 0 false)
    ∷ jobs_conflict (job_of CutJob 3 [] (Some (120 ∷ [])) [] [] 1 0 false) (job_of MoveJob 1 [] None [] [] 1 0 false)
    ∷ jobs_conflict (job_of FlushJob 0 [] None [] [] 1 0 false) (job_of MergeJob 3 (103 ∷ []) (Some (120 ∷ [])) [] [] 1 0 false)
    ∷ jobs_conflict (job_of FlushJob 0 [] None [] [] 1 0 false) (job_of MergeJob 3 (99 ∷ []) (Some (103 ∷ [])) [] [] 1 0 false)
    ∷ jobs_conflict (job_of CutJob 1 (99 ∷ []) None [] [] 1 0 false) (job_of MergeJob 3 (99 ∷ []) (Some (119 ∷ [])) [] [] 1 0 false)
    ∷ jobs_conflict (job_of MoveJob 2 (111 ∷ []) (Some (119 ∷ [])) [] [] 1 0 false) (job_of MoveJob 2 (99 ∷ []) (Some (103 ∷ [])) [] [] 1 0 false)
    ∷ jobs_conflict (job_of MoveJob 0 [] None [] [] 1 0 false) (job_of MergeJob 3 (103 ∷ []) (Some (111 ∷ [])) [] [] 1 0 false)
    ∷ jobs_conflict (job_of MergeJob 3 [] (Some (111 ∷ [])) [] [] 1 0 false) (job_of MoveJob 1 (103 ∷ []) (Some (120 ∷ [])) [] [] 1 0 false)
    ∷ jobs_conflict (job_of CutJob 2 [] (Some (111 ∷ [])) [] [] 1 0 false) (job_of MoveJob 0 [] None [] [] 1 0 false)
    ∷ jobs_conflict (job_of CutJob 1 (103 ∷ []) (Some (119 ∷ [])) [] [] 1 0 false) (job_of CutJob 3 [] (Some (111 ∷ [])) [] [] 1 0 false)
    ∷ jobs_conflict (job_of FlushJob 0 [] None [] [] 1 0 false) (job_of MergeJob 3 [] (Some (103 ∷ [])) [] [] 1 0 false)
    ∷ jobs_conflict (job_of MoveJob 0 [] None [] [] 1 0 false) (job_of CutJob 1 (99 ∷ []) (Some (103 ∷ [])) [] [] 1 0 false)
    ∷ jobs_conflict (job_of CutJob 3 [] (Some (111 ∷ [])) [] [] 1 0 false) (job_of CutJob 2 (99 ∷ []) (Some (103 ∷ [])) [] [] 1 0 false)
    ∷ jobs_conflict (job_of MergeJob 3 [] (Some (111 ∷ [])) [] [] 1 0 false) (job_of CutJob 1 [] (Some (120 ∷ [])) [] [] 1 0 false)
    ∷ jobs_conflict (job_of CutJob 1 (111 ∷ []) (Some (119 ∷ [])) [] [] 1 0 false) (job_of CutJob 2 (111 ∷ []) None [] [] 1 0 false)
    ∷ jobs_conflict (job_of MergeJob 3 (111 ∷ []) None [] [] 1 0 false) (job_of CutJob 3 [] (Some (119 ∷ [])) [] [] 1 0 false)
    ∷ jobs_conflict (job_of MoveJob 1 (111 ∷ []) (Some (120 ∷ [])) [] [] 1 0 false) (job_of MoveJob 1 (111 ∷ []) (Some (119 ∷ [])) [] [] 1 0 false)
    ∷ jobs_conflict (job_of MergeJob 3 (103 ∷ []) None [] [] 1 0 false) (job_of FlushJob 0 [] None [] [] 1 0 false)
    ∷ jobs_conflict (job_of MergeJob 3 [] (Some (103 ∷ [])) [] [] 1 0 false) (job_of CutJob 1 [] (Some (119 ∷ [])) [] [] 1 0 false)
    ∷ jobs_conflict (job_of MergeJob 3 (99 ∷ []) (Some (120 ∷ [])) [] [] 1 0 false) (job_of FlushJob 0 [] None [] [] 1 0 false)
    ∷ jobs_conflict (job_of MoveJob 1 (99 ∷ []) (Some (120 ∷ [])) [] [] 1 0 false) (job_of CutJob 2 (103 ∷ []) None [] [] 1 0 false)
    ∷ jobs_conflict (job_of MoveJob 1 (111 ∷ []) (Some (119 ∷ [])) [] [] 1 0 false) (job_of MoveJob 2 (103 ∷ []) (Some (119 ∷ [])) [] [] 1 0 false)
    ∷ jobs_conflict (job_of MergeJob 3 (103 ∷ []) (Some (119 ∷ [])) [] [] 1 0 false) (job_of MoveJob 2 (99 ∷ []) (Some (111 ∷ [])) [] [] 1 0 false)
    ∷ jobs_conflict (job_of MergeJob 3 (111 ∷ []) (Some (120 ∷ [])) [] [] 1 0 false) (job_of CutJob 3 [] (Some (99 ∷ [])) [] [] 1 0 false)
    ∷ jobs_conflict (job_of MoveJob 0 [] None [] [] 1 0 false) (job_of FlushJob 0 [] None [] [] 1 0 false)
    ∷ jobs_conflict (job_of CutJob 1 (111 ∷ []) (Some (120 ∷ [])) [] [] 1 0 false) (job_of MoveJob 2 [] (Some (119 ∷ [])) [] [] 1 0 false)
    ∷ jobs_conflict (job_of FlushJob 0 [] None [] [] 1 0 false) (job_of CutJob 1 [] (Some (111 ∷ [])) [] [] 1 0 false)
    ∷ jobs_conflict (job_of MoveJob 0 [] None [] [] 1 0 false) (job_of FlushJob 0 [] None [] [] 1 0 false)
    ∷ jobs_conflict (job_of MoveJob 0 [] None [] [] 1 0 false) (job_of CutJob 2 (103 ∷ []) (Some (119 ∷ [])) [] [] 1 0 false)
    ∷ jobs_conflict (job_of CutJob 2 [] (Some (99 ∷ [])) [] [] 1 0 false) (job_of CutJob 3 [] (Some (99 ∷ [])) [] [] 1 0 false)
    ∷ jobs_conflict (job_of CutJob 1 [] (Some (99 ∷ [])) [] [] 1 0 false) (job_of CutJob 2 (111 ∷ []) None [] [] 1 0 false)
    ∷ jobs_conflict (job_of FlushJob 0 [] None [] [] 1 0 false) (job_of CutJob 3 (99 ∷ []) (Some (103 ∷ [])) [] [] 1 0 false)
    ∷ jobs_conflict (job_of CutJob 1 [] (Some (111 ∷ [])) [] [] 1 0 false) (job_of CutJob 1 [] (Some (99 ∷ [])) [] [] 1 0 false)
    ∷ jobs_conflict (job_of FlushJob 0 [] None [] [] 1 0 false) (job_of MergeJob 3 (99 ∷ []) None [] [] 1 0 false)
    ∷ jobs_conflict (job_of MoveJob 1 (103 ∷ []) (Some (119 ∷ [])) [] [] 1 0 false) (job_of CutJob 3 (99 ∷ []) None [] [] 1 0 false)
    ∷ jobs_conflict (job_of MoveJob 2 (99 ∷ []) None [] [] 1 0 false) (job_of MoveJob 2 (111 ∷ []) (Some (119 ∷ [])) [] [] 1 0 false)
    ∷ jobs_conflict (job_of MergeJob 3 [] None [] [] 1 0 false) (job_of FlushJob 0 [] None [] [] 1 0 false)
    ∷ jobs_conflict (job_of MergeJob 3 (111 ∷ []) (Some (119 ∷ [])) [] [] 1 0 false) (job_of MoveJob 2 (99 ∷ []) (Some (103 ∷ [])) [] [] 1 0 false)
    ∷ jobs_conflict (job_of CutJob 2 (103 ∷ []) (Some (111 ∷ [])) [] [] 1 0 false) (job_of CutJob 1 (99 ∷ []) None [] [] 1 0 false)
    ∷ jobs_conflict (job_of MoveJob 2 (111 ∷ []) (Some (119 ∷ [])) [] [] 1 0 false) (job_of CutJob 2 (103 ∷ []) (Some (120 ∷ [])) [] [] 1 0 false)
    ∷ jobs_conflict (job_of MoveJob 0 [] None [] [] 1 0 false) (job_of MergeJob 3 (103 ∷ []) None [] [] 1 0 false)
    ∷ jobs_conflict (job_of MoveJob 2 (111 ∷ []) None [] [] 1 0 false) (job_of CutJob 3 (111 ∷ []) (Some (120 ∷ [])) [] [] 1 0 false)
    ∷ jobs_conflict (job_of MoveJob 1 [] (Some (120 ∷ [])) [] [] 1 0 false) (job_of MoveJob 1 (99 ∷ []) (Some (111 ∷ [])) [] [] 1 0 false)
    ∷ jobs_conflict (job_of FlushJob 0 [] None [] [] 1 0 false) (job_of CutJob 2 (111 ∷ []) (Some (119 ∷ [])) [] [] 1 0 false)
    ∷ jobs_conflict (job_of CutJob 3 (111 ∷ []) (Some (119 ∷ [])) [] [] 1 0 false) (job_of MoveJob 2 (103 ∷ []) None [] [] 1 0 false)
    ∷ jobs_conflict (job_of MergeJob 3 (99 ∷ []) (Some (120 ∷ [])) [] [] 1 0 false) (job_of CutJob 2 (111 ∷ []) (Some (120 ∷ [])) [] [] 1 0 false)
    ∷ jobs_conflict (job_of FlushJob 0 [] None [] [] 1 0 false) (job_of FlushJob 0 [] None [] [] 1 0 false)
    ∷ jobs_conflict (job_of CutJob 2 (103 ∷ []) (Some (111 ∷ [])) [] [] 1 0 false) (job_of CutJob 1 (99 ∷ []) (Some (119 ∷ [])) [] [] 1 0 false)
    ∷ jobs_conflict (job_of MoveJob 0 [] None [] [] 1 0 false) (job_of MergeJob 3 (103 ∷ []) (Some (111 ∷ [])) [] [] 1 0 false)
    ∷ jobs_conflict (job_of CutJob 1 [] (Some (99 ∷ [])) [] [] 1 0 false) (job_of MoveJob 0 [] None [] [] 1 0 false)
    ∷ jobs_conflict (job_of MergeJob 3 (99 ∷ []) (Some (120 ∷ [])) [] [] 1 0 false) (job_of CutJob 2 (103 ∷ []) None [] [] 1 0 false)
    ∷ jobs_conflict (job_of FlushJob 0 [] None [] [] 1 0 false) (job_of CutJob 3 (99 ∷ []) (Some (120 ∷ [])) [] [] 1 0 false)
    ∷ jobs_conflict (job_of MoveJob 1 (111 ∷ []) (Some (120 ∷ [])) [] [] 1 0 false) (job_of CutJob 2 [] (Some (120 ∷ [])) [] [] 1 0 false)
    ∷ jobs_conflict (job_of MoveJob 0 [] None [] [] 1 0 false) (job_of FlushJob 0 [] None [] [] 1 0 false)
    ∷ jobs_conflict (job_of FlushJob 0 [] None [] [] 1 0 false) (job_of MergeJob 3 [] (Some (103 ∷ [])) [] [] 1 0 false)
    ∷ jobs_conflict (job_of MergeJob 3 [] (Some (120 ∷ [])) [] [] 1 0 false) (job_of MoveJob 2 [] (Some (111 ∷ [])) [] [] 1 0 false)
    ∷ jobs_conflict (job_of CutJob 1 (111 ∷ []) None [] [] 1 0 false) (job_of MoveJob 0 [] None [] [] 1 0 false)
    ∷ jobs_conflict (job_of MoveJob 0 [] None [] [] 1 0 false) (job_of MoveJob 1 [] None [] [] 1 0 false)
    ∷ jobs_conflict (job_of MoveJob 2 (111 ∷ []) None [] [] 1 0 false) (job_of FlushJob 0 [] None [] [] 1 0 false)
    ∷ jobs_conflict (job_of FlushJob 0 [] None [] [] 1 0 false) (job_of MergeJob 3 (111 ∷ []) (Some (120 ∷ [])) [] [] 1 0 false)
    ∷ jobs_conflict (job_of FlushJob 0 [] None [] [] 1 0 false) (job_of MoveJob 1 [] (Some (120 ∷ [])) [] [] 1 0 false)
    ∷ jobs_conflict (job_of CutJob 1 (111 ∷ []) None [] [] 1 0 false) (job_of MoveJob 2 (111 ∷ []) (Some (120 ∷ [])) [] [] 1 0 false)
    ∷ jobs_conflict (job_of MoveJob 0 [] None [] [] 1 0 false) (job_of MoveJob 0 [] None [] [] 1 0 false)
    ∷ jobs_conflict (job_of MoveJob 2 (111 ∷ []) None [] [] 1 0 false) (job_of CutJob 3 [] (Some (99 ∷ [])) [] [] 1 0 false)
    ∷ jobs_conflict (job_of MoveJob 1 (111 ∷ []) None [] [] 1 0 false) (job_of MergeJob 3 (103 ∷ []) (Some (119 ∷ [])) [] [] 1 0 false)
    ∷ jobs_conflict (job_of MergeJob 3 (111 ∷ []) (Some (120 ∷ [])) [] [] 1 0 false) (job_of MoveJob 1 (103 ∷ []) (Some (111 ∷ [])) [] [] 1 0 false)
    ∷ jobs_conflict (job_of CutJob 1 [] (Some (120 ∷ [])) [] [] 1 0 false) (job_of CutJob 2 (99 ∷ []) (Some (120 ∷ [])) [] [] 1 0 false)
    ∷ jobs_conflict (job_of CutJob 2 (111 ∷ []) (Some (119 ∷ [])) [] [] 1 0 false) (job_of FlushJob 0 [] None [] [] 1 0 false)
    ∷ jobs_conflict (job_of FlushJob 0 [] None [] [] 1 0 false) (job_of MoveJob 2 (103 ∷ []) None [] [] 1 0 false)
    ∷ jobs_conflict (job_of MoveJob 0 [] None [] [] 1 0 false) (job_of CutJob 1 (99 ∷ []) None [] [] 1 0 false)
    ∷ jobs_conflict (job_of CutJob 2 (99 ∷ []) None [] [] 1 0 false) (job_of MergeJob 3 [] (Some (99 ∷ [])) [] [] 1 0 false)
    ∷ jobs_conflict (job_of CutJob 3 (99 ∷ []) (Some (103 ∷ [])) [] [] 1 0 false) (job_of FlushJob 0 [] None [] [] 1 0 false)
    ∷ jobs_conflict (job_of MoveJob 1 [] (Some (99 ∷ [])) [] [] 1 0 false) (job_of MoveJob 1 (99 ∷ []) (Some (119 ∷ [])) [] [] 1 0 false)
    ∷ jobs_conflict (job_of MoveJob 2 (99 ∷ []) (Some (119 ∷ [])) [] [] 1 0 false) (job_of CutJob 1 (111 ∷ []) (Some (119 ∷ [])) [] [] 1 0 false)
    ∷ jobs_conflict (job_of MoveJob 0 [] None [] [] 1 0 false) (job_of CutJob 3 (99 ∷ []) (Some (111 ∷ [])) [] [] 1 0 false)
    ∷ jobs_conflict (job_of MoveJob 0 [] None [] [] 1 0 false) (job_of FlushJob 0 [] None [] [] 1 0 false)
    ∷ jobs_conflict (job_of CutJob 3 [] (Some (103 ∷ [])) [] [] 1 0 false) (job_of MoveJob 1 (111 ∷ []) None [] [] 1 0 false)
    ∷ jobs_conflict (job_of FlushJob 0 [] None [] [] 1 0 false) (job_of MoveJob 2 (99 ∷ []) (Some (119 ∷ [])) [] [] 1 0 false)
    ∷ jobs_conflict (job_of CutJob 1 (99 ∷ []) (Some (120 ∷ [])) [] [] 1 0 false) (job_of CutJob 1 (103 ∷ []) (Some (111 ∷ [])) [] [] 1 0 false)
    ∷ jobs_conflict (job_of CutJob 1 (103 ∷ []) (Some (119 ∷ [])) [] [] 1 0 false) (job_of MoveJob 2 [] (Some (120 ∷ [])) [] [] 1 0 false)
    ∷ jobs_conflict (job_of FlushJob 0 [] None [] [] 1 0 false) (job_of CutJob 1 (99 ∷ []) None [] [] 1 0 false)
    ∷ jobs_conflict (job_of MoveJob 0 [] None [] [] 1 0 false) (job_of CutJob 1 [] (Some (120 ∷ [])) [] [] 1 0 false)
    ∷ jobs_conflict (job_of MoveJob 2 [] None [] [] 1 0 false) (job_of MergeJob 3 (103 ∷ []) None [] [] 1 0 false)
    ∷ jobs_conflict (job_of CutJob 3 (111 ∷ []) (Some (120 ∷ [])) [] [] 1 0 false) (job_of MoveJob 2 [] (Some (120 ∷ [])) [] [] 1 0 false)
    ∷ jobs_conflict (job_of FlushJob 0 [] None [] [] 1 0 false) (job_of FlushJob 0 [] None [] [] 1 0 false)
    ∷ jobs_conflict (job_of CutJob 3 (103 ∷ []) None [] [] 1 0 false) (job_of FlushJob 0 [] None [] [] 1 0 false)
    ∷ jobs_conflict (job_of MoveJob 2 (99 ∷ []) (Some (119 ∷ [])) [] [] 1 0 false) (job_of MoveJob 2 (111 ∷ []) (Some (120 ∷ [])) [] [] 1 0 false)
    ∷ jobs_conflict (job_of CutJob 1 (111 ∷ []) (Some (120 ∷ [])) [] [] 1 0 false) (job_of CutJob 3 [] (Some (99 ∷ [])) [] [] 1 0 false)
    ∷ jobs_conflict (job_of FlushJob 0 [] None [] [] 1 0 false) (job_of CutJob 2 (111 ∷ []) (Some (120 ∷ [])) [] [] 1 0 false)
    ∷ jobs_conflict (job_of MoveJob 1 [] (Some (120 ∷ [])) [] [] 1 0 false) (job_of CutJob 3 (103 ∷ []) (Some (119 ∷ [])) [] [] 1 0 false)
    ∷ jobs_conflict (job_of CutJob 3 [] (Some (120 ∷ [])) [] [] 1 0 false) (job_of FlushJob 0 [] None [] [] 1 0 false)
    ∷ jobs_conflict (job_of FlushJob 0 [] None [] [] 1 0 false) (job_of MoveJob 2 [] (Some (119 ∷ [])) [] [] 1 0 false)
    ∷ jobs_conflict (job_of MoveJob 1 (111 ∷ []) (Some (120 ∷ [])) [] [] 1 0 false) (job_of FlushJob 0 [] None [] [] 1 0 false)
    ∷ jobs_conflict (job_of MergeJob 3 (103 ∷ []) None [] [] 1 0 false) (job_of CutJob 2 [] (Some (103 ∷ [])) [] [] 1 0 false)
    ∷ jobs_conflict (job_of FlushJob 0 [] None [] [] 1 0 false) (job_of FlushJob 0 [] None [] [] 1 0 false)
    ∷ jobs_conflict (job_of MoveJob 1 (99 ∷ []) None [] [] 1 0 false) (job_of FlushJob 0 [] None [] [] 1 0 false)
    ∷ jobs_conflict (job_of MoveJob 0 [] None [] [] 1 0 false) (job_of CutJob 1 (111 ∷ []) None [] [] 1 0 false)
    ∷ jobs_conflict (job_of CutJob 2 (111 ∷ []) (Some (120 ∷ [])) [] [] 1 0 false) (job_of MoveJob 1 [] (Some (111 ∷ [])) [] [] 1 0 false)
    ∷ jobs_conflict (job_of CutJob 2 (99 ∷ []) (Some (103 ∷ [])) [] [] 1 0 false) (job_of MoveJob 2 (103 ∷ []) (Some (111 ∷ [])) [] [] 1 0 false)
    ∷ jobs_conflict (job_of CutJob 3 (111 ∷ []) (Some (119 ∷ [])) [] [] 1 0 false) (job_of MoveJob 0 [] None [] [] 1 0 false)
    ∷ jobs_conflict (job_of MoveJob 0 [] None [] [] 1 0 false) (job_of CutJob 2 (111 ∷ []) None [] [] 1 0 false)
    ∷ jobs_conflict (job_of MoveJob 0 [] None [] [] 1 0 false) (job_of MoveJob 2 (111 ∷ []) (Some (119 ∷ [])) [] [] 1 0 false)
    ∷ jobs_conflict (job_of MoveJob 0 [] None [] [] 1 0 false) (job_of FlushJob 0 [] None [] [] 1 0 false)
    ∷ jobs_conflict (job_of CutJob 3 (103 ∷ []) (Some (111 ∷ [])) [] [] 1 0 false) (job_of MergeJob 3 (111 ∷ []) (Some (119 ∷ [])) [] [] 1 0 false)
    ∷ jobs_conflict (job_of MoveJob 2 (99 ∷ []) (Some (119 ∷ [])) [] [] 1 0 false) (job_of CutJob 3 (103 ∷ []) (Some (119 ∷ [])) [] [] 1 0 false)
    ∷ jobs_conflict (job_of MergeJob 3 (103 ∷ []) None [] [] 1 0 false) (job_of MergeJob 3 (103 ∷ []) (Some (119 ∷ [])) [] [] 1 0 false)
    ∷ jobs_conflict (job_of CutJob 1 (111 ∷ []) (Some (120 ∷ [])) [] [] 1 0 false) (job_of CutJob 2 (111 ∷ []) (Some (120 ∷ [])) [] [] 1 0 false)
    ∷ jobs_conflict (job_of MoveJob 1 [] (Some (99 ∷ [])) [] [] 1 0 false) (job_of CutJob 2 (103 ∷ []) (Some (120 ∷ [])) [] [] 1 0 false)
    ∷ jobs_conflict (job_of MoveJob 1 (111 ∷ []) (Some (120 ∷ [])) [] [] 1 0 false) (job_of MoveJob 0 [] None [] [] 1 0 false)
    ∷ jobs_conflict (job_of CutJob 2 (103 ∷ []) (Some (119 ∷ [])) [] [] 1 0 false) (job_of CutJob 1 (111 ∷ []) (Some (120 ∷ [])) [] [] 1 0 false)
    ∷ []
    ≡ false ∷ false ∷ false ∷ false ∷ false ∷ true ∷ false ∷ false ∷ false ∷ false ∷ false ∷ false ∷ false ∷ false ∷ false ∷ false ∷ false ∷ false ∷ false ∷ false ∷ true ∷ true ∷ false ∷ false ∷ false ∷ true ∷ true ∷ true ∷ false ∷ false ∷ false ∷ true ∷ false ∷ false ∷ true ∷ false ∷ false ∷ true ∷ true ∷ false ∷ false ∷ false ∷ false ∷ false ∷ false ∷ false ∷ false ∷ false ∷ false ∷ false ∷ false ∷ true ∷ false ∷ false ∷ false ∷ true ∷ true ∷ false ∷ false ∷ false ∷ true ∷ false ∷ false ∷ false ∷ false ∷ false ∷ false ∷ false ∷ false ∷ false ∷ false ∷ false ∷ true ∷ false ∷ false ∷ true ∷ false ∷ false ∷ false ∷ true ∷ false ∷ true ∷ true ∷ false ∷ true ∷ false ∷ true ∷ false ∷ false ∷ true ∷ false ∷ false ∷ true ∷ false ∷ false ∷ false ∷ true ∷ false ∷ false ∷ false ∷ false ∷ false ∷ true ∷ false ∷ false ∷ false ∷ false ∷ false ∷ false ∷ true ∷ false ∷ false ∷ false ∷ false ∷ false ∷ false ∷ false ∷ false ∷ true ∷ false ∷ false ∷ true ∷ false ∷ true ∷ true ∷ false ∷ true ∷ false ∷ false ∷ false ∷ false ∷ false ∷ false ∷ false ∷ true ∷ false ∷ true ∷ false ∷ false ∷ false ∷ false ∷ false ∷ false ∷ false ∷ true ∷ true ∷ false ∷ false ∷ false ∷ false ∷ []
claims_same = refl
