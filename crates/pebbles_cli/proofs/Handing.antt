-- What an opening hands on of what the devices told.
use Rattle.std.proofs.Common.{◌≡◌, ◌≢◌, ℕ, ◌≤◌, Bool, true, false, List, inl, inr, refl, sym, ap, ◌∙◌, subst, arith}
use Rattle.peb_base.specs.Batches.{Batches}
use Rattle.peb_base.specs.declared.profile.Profile.{Profile}
use Rattle.peb_base.specs.Faults.{Rose}
use Rattle.disk_model.specs.Images.{Image}
use Rattle.disk_model.specs.SinkNames.{Label, SinkNames, after_client, after_return}
use Rattle.disk_model.specs.Told.{JournalTold, TablesTold, TellsTheSame, TablesStay}
use Rattle.recovery.specs.declared.open_fault.OpenFault.{OpenFault}
use Rattle.recovery.specs.declared.open_fault.OpenFault.TheVariants as opens
use Rattle.flsm_core.specs.Place.{Place, Start, opened, start_at}
use Rattle.peb_base.specs.declared.profile.Profile.TheVariants.{Small}
use Rattle.disk_model.specs.declared.journal_file.JournalFile.{JournalFile}
use Rattle.disk_model.specs.declared.journal_file.JournalFile.TheVariants.{ManifestA}
use Rattle.flsm_model.specs.Shape.{Record}
use Rattle.recovery.specs.Range.{Range, AreIn, StartsIn}
use Rattle.store_layout.specs.Recorded.{ReadsBy}
use Rattle.flsm_core.specs.Standing.{IsLeftBy}
use Rattle.recovery.specs.Opened.{OpensBy, LeavesOpening}
use Rattle.recovery.specs.Opening.{HasWatched}
use Rattle.recovery.specs.Reading.{StoreCause}
use Rattle.recovery.specs.NextLog.{next_log_on}
use Rattle.flsm_core.specs.Touched.{HasTouched, touched_self, touched_on, touched_same}
use Rattle.script.specs.declared.cause.Cause.{Cause}
use Rattle.script.specs.declared.cause.Cause.TheVariants as causes
use Rattle.pebbles_cli.specs.Causes.{RefusalCause, opening_cause}
use Rattle.pebbles_cli.specs.Names.{replies_label}
use Rattle.pebbles_cli.specs.Outside.{Outside}
use Rattle.pebbles_cli.specs.Top.{Asked, NotOpened, TouchesAtMost}

pub same_then : {a b c : JournalTold} → TellsTheSame a b → TellsTheSame b c → TellsTheSame a c
same_then x y = record {
  bytes = y.bytes ∙ x.bytes;
  images = λ image. (λ left. (x.images image).0 ((y.images image).0 left), λ left. (y.images image).1 ((x.images image).1 left));
  time = y.time ∙ x.time;
  past = λ t image. (λ left. (x.past t image).0 ((y.past t image).0 left), λ left. (y.past t image).1 ((x.past t image).1 left));
  count = y.count ∙ x.count;
  still_steady = λ steady. y.still_steady (x.still_steady steady);
}

pub tables_then : {a b c : TablesTold} → TablesStay a b → TablesStay b c → TablesStay a c
tables_then x y = record {
  there = y.there ∙ x.there;
  left = y.left ∙ x.left;
  done = y.done ∙ x.done;
  count = y.count ∙ x.count;
  still_steady = λ steady. y.still_steady (x.still_steady steady);
}

pub tables_stay : (a : TablesTold) → TablesStay a a
tables_stay a = record { there = refl; left = refl; done = refl; count = refl; still_steady = λ steady. steady }

pub tells_itself : (a : JournalTold) → TellsTheSame a a
tells_itself a = record {
  bytes = refl;
  images = λ image. (λ left. left, λ left. left);
  time = refl;
  past = λ t image. (λ left. left, λ left. left);
  count = refl;
  still_steady = λ steady. steady;
}

-- what opens on what is told opens on the same told otherwise
pub opens_same : (a b : JournalTold) (honest : Bool) (profile : Profile) (base : Batches) (edits : Record) → TellsTheSame a b → OpensBy profile edits honest base a → OpensBy profile edits honest base b
opens_same a b true profile base edits same on = λ image left. on image ((same.images image).0 left)
opens_same a b false profile base edits same on = (on.0, subst (λ (i : Image). ReadsBy profile edits i on.0 base) (sym same.bytes) on.1)

-- where an opening began is told the same
pub starts_same : (a b : JournalTold) (profile : Profile) (honest : Bool) (base : Batches) (edits : Record) → TellsTheSame a b → start_at b profile honest base edits ≡ start_at a profile honest base edits
starts_same a b profile honest base edits same = λ i. record { moment = same.time i; faults = same.count i; profile = profile; honest = honest; base = base; edits = edits }

-- an opening in a range begins where the same is told otherwise
pub starts_in_same : (range : Range) (a b : JournalTold) (start : Start) → TellsTheSame a b → StartsIn range b start → StartsIn range a start
starts_in_same range a b start same starts = record {
  profile = starts.profile;
  sure = starts.sure;
  enough = starts.enough;
  within = starts.within;
  recorded = starts.recorded;
  logs = starts.logs;
  reads = subst (λ (i : Image). ReadsBy range.profile start.edits i starts.logs start.base) same.bytes starts.reads;
  began = omega (arith, same.time, starts.began);
  counted = omega (arith, same.count, starts.counted);
}

-- images in a range are in it where the same is told before and after
pub in_between : (range : Range) (a b c d : JournalTold) → TellsTheSame a b → TellsTheSame c d → AreIn range (c.left_since b.moment) → AreIn range (d.left_since a.moment)
in_between range a b c d first last inside image left =
    inside image (subst (λ (t : ℕ). c.left_since t image) (sym first.time) ((last.past a.moment image).0 left))

-- nothing was done, so each image is one of before
pub in_same : (range : Range) (a b : JournalTold) → ((image : Image) → a.left_since a.moment image → a.may_leave image)
    → TellsTheSame a b → AreIn range a.may_leave → AreIn range (b.left_since a.moment)
in_same range a b only same on image left = on image (only image ((same.past a.moment image).0 left))

-- nothing was done
pub watched_same : (a b : JournalTold) → ((t : ℕ) (image : Image) → t ≤ a.moment → a.may_leave image → a.left_since t image) → ((image : Image) → a.left_since a.moment image → a.may_leave image)
    → TellsTheSame a b → HasWatched a b
watched_same a b counts only same = record {
  seen = same.bytes;
  time = record {
    later = omega (arith, same.time);
    nothing_else = λ t image le left. inl ((same.past t image).0 left);
    keeps = λ t image le left. (same.past t image).1 left;
    counts = λ t image le left. (same.past t image).1 (counts t image le (only image ((same.past a.moment image).0 left)));
  };
  each = λ image left. only image ((same.past a.moment image).0 left);
}

-- the same is told before and after
pub watched_between : (a b c d : JournalTold) → TellsTheSame a b → HasWatched b c → TellsTheSame c d → HasWatched a d
watched_between a b c d first watched last = record {
  seen = last.bytes ∙ watched.seen ∙ first.bytes;
  time = record {
    later = omega (arith, first.time, watched.time.later, last.time);
    nothing_else = λ t image le left. elim (watched.time.nothing_else t image (omega (arith, le, first.time)) ((last.past t image).0 left)) [
      | inl past ↦ inl ((first.past t image).0 past)
      | inr since ↦ inr (moved since)
    ];
    keeps = λ t image le past. (last.past t image).1 (watched.time.keeps t image (omega (arith, le, first.time)) ((first.past t image).1 past));
    counts = λ t image le left. (last.past t image).1 (watched.time.counts t image (omega (arith, le, first.time)) (back left));
  };
  each = λ image left. (first.images image).0 (watched.each image (back left));
}
  where
    moved : {image : Image} → c.left_since b.moment image → d.left_since a.moment image
    moved {image} left = (last.past a.moment image).1 (subst (λ (t : ℕ). c.left_since t image) first.time left)

    back : {image : Image} → d.left_since a.moment image → c.left_since b.moment image
    back {image} left = subst (λ (t : ℕ). c.left_since t image) (sym first.time) ((last.past a.moment image).0 left)

-- what a refused opening touched is told the same before and after
pub touches_between : (tells : Bool) (a b c d : JournalTold) → TellsTheSame a b → TouchesAtMost tells b c → TellsTheSame c d → TouchesAtMost tells a d
touches_between tells a b c d first (inl watched) last = inl (watched_between a b c d first watched last)
touches_between tells a b c d first (inr (file, next)) last = inr (file, next_log_on tells Small file a b c d first next (touched_same tells file c d last))

-- what changed one file is told the same before and after
pub touched_between : (tells : Bool) (file : JournalFile) (a b c d : JournalTold) → TellsTheSame a b → HasTouched tells file b c → TellsTheSame c d → HasTouched tells file a d
touched_between tells file a b c d first touched last =
    touched_on tells file a b d (touched_same tells file a b first) (touched_on tells file b c d touched (touched_same tells file c d last))

-- what a refused opening left stands where the same is told
pub leaves_between : (a b c d : JournalTold) (base : Batches) (edits : Record) → TellsTheSame a b → TellsTheSame c d → LeavesOpening Small base edits (c.left_since b.moment) → LeavesOpening Small base edits (d.left_since a.moment)
leaves_between a b c d base edits first last left =
    (left.0, λ image since. left.1 image (subst (λ (t : ℕ). c.left_since t image) (sym first.time) ((last.past a.moment image).0 since)))

-- nothing was done, so each image stands as before
pub leaves_same : (a b : JournalTold) (base : Batches) (edits : Record) → ((image : Image) → a.left_since a.moment image → a.may_leave image) → TellsTheSame a b → OpensBy Small edits true base a → LeavesOpening Small base edits (b.left_since a.moment)
leaves_same a b base edits only same on = (0, λ image left. inl (on image (only image ((same.past a.moment image).0 left))))

-- what was left is told the same
pub left_same : (p : Place) (a b : JournalTold) → TellsTheSame a b → IsLeftBy p a → IsLeftBy p b
left_same p a b same left = record {
  now = λ honest image here. left.now honest image ((same.images image).0 here);
  ever = λ honest image here. left.ever honest image ((same.past p.start.moment image).0 here);
}

pub rose_same : (a b c d : ℕ) → a ≡ b → d ≡ c → Rose a c → Rose b d
rose_same a b c d ab dc rose = omega (arith, ab, dc, rose)

-- ---- causes

-- the same fault, where the journal's count rose for another reason
pub store_weaker : (fault : OpenFault) (P Q : Type 0) (tells : Bool) (seen seen' : Image) (profile : Profile) → seen' ≡ seen → (P → Q) → StoreCause P tells seen profile fault → StoreCause Q tells seen' profile fault
store_weaker opens.Journal P Q tells seen seen' profile same up cause = up cause
store_weaker (opens.Damaged file at) P Q tells seen seen' profile same up cause = subst (λ (i : Image). StoreCause Q tells i profile (opens.Damaged file at)) (sym same) cause
store_weaker (opens.Profile have asked) P Q tells seen seen' profile same up cause = subst (λ (i : Image). StoreCause Q tells i profile (opens.Profile have asked)) (sym same) cause
store_weaker (opens.Limit kind n) P Q tells seen seen' profile same up cause = subst (λ (i : Image). StoreCause Q tells i profile (opens.Limit kind n)) (sym same) cause
store_weaker opens.Memory P Q tells seen seen' profile same up cause = tt

-- no other fault is told as want of memory
pub memory_only : (fault : OpenFault) → opening_cause fault ≡ causes.Memory → fault ≡ opens.Memory
memory_only opens.Memory is = refl
memory_only opens.Journal is = absurd (cc)
memory_only (opens.Damaged file at) is = absurd (cc)
memory_only (opens.Profile have asked) is = absurd (cc)
memory_only (opens.Limit kind n) is = absurd (cc)

-- nothing was opened, and nothing was done
pub nothing_opened : (asked : Asked) (old : Outside) (cause : Cause)
    → ((t : ℕ) (image : Image) → t ≤ old.devices.journal.moment → old.devices.journal.may_leave image → old.devices.journal.left_since t image)
    → ((image : Image) → old.devices.journal.left_since old.devices.journal.moment image → old.devices.journal.may_leave image)
    → RefusalCause asked.text old.devices old.devices cause → NotOpened asked old old cause
nothing_opened asked old cause counts only why = record {
  why = why;
  directory = inl refl;
  sinks = refl;
  touched = inl (watched_same old.devices.journal old.devices.journal counts only (tells_itself old.devices.journal));
  untouched = λ other short. watched_same old.devices.journal old.devices.journal counts only (tells_itself old.devices.journal);
  memory = λ short. touched_self old.devices.tells ManifestA old.devices.journal;
  ever = λ told base edits on. (0, λ image left. inl (on image (only image left)));
  now = λ told base edits on. (0, λ image left. inl (on image left));
  tables = tables_stay old.devices.tables;
}

-- the names of the sinks, once that of the replies was handed back
pub replies_named : (name : List ℕ) (label label' : Label) (names names1 names2 : SinkNames) → label' ≡ label → label ≡ record { client = 1; name = name }
    → names1 ≡ after_client names → names2 ≡ after_return 1 label' names1 → names2 ≡ after_return 1 (replies_label name) (after_client names)
replies_named name label label' names names1 names2 kept labelled opened returned =
    returned ∙ ap (after_return 1 label') opened ∙ ap (λ (l : Label). after_return 1 l (after_client names)) (kept ∙ labelled)
