-- A run leaves what the next one asks.
use Rattle.std.proofs.Common.{◌≡◌, ◌∷◌, ◌++◌, IsTrue, [], inl, inr, refl, sym, ◌∙◌, ap, subst}
use Rattle.std.proofs.lemmas.List.{append-nil}
use Rattle.peb_base.specs.declared.profile.Profile.TheVariants.{Small}
use Rattle.peb_base.specs.declared.profile.Profile.{Profile}
use Rattle.peb_base.specs.Batches.{Batches}
use Rattle.std.specs.Prelude.{ℕ}
use Rattle.disk_model.specs.declared.journal_file.JournalFile.TheVariants.{Log}
use Rattle.disk_model.specs.Images.{Image}
use Rattle.flsm_model.specs.Shape.{Record}
use Rattle.store_layout.specs.Recorded.{next_opening, StandsBeside}
use Rattle.flsm_core.specs.Place.{Start, Place, all_of, IsRecordOf, WasRecordOf}
use Rattle.flsm_core.specs.Standing.{Leaves}
use Rattle.recovery.specs.NextLog.{next_log_other}
use Rattle.recovery.specs.Range.{GoesOn, IsIn}
use Rattle.pebbles_cli.specs.Crashes.{LeavesRanges, FinishedLogsStay, small_range}
use Rattle.pebbles_cli.specs.Outside.{Outside}

-- the same edits, and none more
goes_on_none : (edits : Record) → GoesOn edits edits
goes_on_none edits = ([], sym (append-nil edits))

-- what stands for the base and for the record, or that and its opening, has first batches of the base, all of them
of_base : (base : Batches) (edits : Record) (log : ℕ) (image : Image) → StandsBeside Small base edits log image → IsIn (small_range base base edits) image
of_base base edits log image (inl plain) =
    record { batches = base; edits = edits; enough = ([], sym (append-nil base)); within = ([], sym (append-nil base)); recorded = goes_on_none edits; stands = plain }
of_base base edits log image (inr with) = record {
  batches = base;
  edits = edits ++ next_opening Small edits log ∷ [];
  enough = ([], sym (append-nil base));
  within = ([], sym (append-nil base));
  recorded = (next_opening Small edits log ∷ [], refl);
  stands = with;
}

-- where more records are allowed, the same is left
leaves_wider : (profile : Profile) (P Q : Record → Type 0) (least all : Batches) (image : Image) → ((edits : Record) → P edits → Q edits) → Leaves profile P least all image → Leaves profile Q least all image
leaves_wider profile P Q least all image wider left =
    record { batches = left.batches; edits = left.edits; enough = left.enough; within = left.within; recorded = wider left.edits left.recorded; stands = left.stands }

-- a record of a place goes on from the one that was opened
was_goes_on : (p : Place) (later : Record) → p.edits ≡ p.start.edits ++ later → (edits : Record) → WasRecordOf p edits → GoesOn p.start.edits edits
was_goes_on p later is edits (inl first) = ([], first ∙ sym (append-nil p.start.edits))
was_goes_on p later is edits (inr now) = (later, now ∙ is)

pub leaves_ranges : {old new : Outside} → LeavesRanges old new
leaves_ranges {old} {new} asked cause base edits told tells opens (inl refused) = (
  λ image left. let now = refused.now told base edits opens in of_base base edits now.0 image (now.1 image left),
  λ image left. let ever = refused.ever told base edits opens in of_base base edits ever.0 image (ever.1 image left),
)
leaves_ranges {old} {new} asked cause base edits told tells opens (inr ran) =
    let left = ran.closing.left tells in
    let p = ran.closed.place in
    let honest : IsTrue p.start.honest =
    subst (λ (s : Start). IsTrue s.honest) (sym ran.starts) refl in
    let opening : Record = next_opening Small edits ran.log ∷ [] in
    let grown : p.edits ≡ p.start.edits ++ opening = ran.recorded ∙ ap (λ (s : Start). s.edits ++ opening) (sym ran.starts) in (
      λ image here. subst (λ (f : Profile). Leaves f (GoesOn p.edits) p.settled (all_of p) image) (ap (λ (s : Start). s.profile) ran.starts)
          (leaves_wider p.start.profile (IsRecordOf p) (GoesOn p.edits) p.settled (all_of p) image (λ e is. ([], is ∙ sym (append-nil p.edits)))
          (left.now honest image here)),
      λ image here.
          subst (λ (s : Start). Leaves s.profile (GoesOn s.edits) s.base (all_of p) image) ran.starts
          (leaves_wider p.start.profile (WasRecordOf p) (GoesOn p.start.edits) p.start.base (all_of p) image (was_goes_on p opening grown)
          (left.ever honest image
          (subst (λ (s : Start). new.devices.journal.left_since s.moment image)
          (sym ran.starts) here))),
    )

pub finished_logs_stay : {old new : Outside} → FinishedLogsStay old new
finished_logs_stay {old} {new} start asked cause told ran n finished =
    let next = ran.touched in
    let other = next_log_other old.devices.tells Small (Log ran.log) old.devices.journal
    new.devices.journal next told n finished in (
      next.touched.reads (Log n) other.record_differs other.log_differs,
      λ t content early always image left.
          let before = next.touched.images told t image early left in
          before.2 (Log n) other.record_differs other.log_differs ∙ always before.0 before.1,
    )
