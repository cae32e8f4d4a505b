-- Which file of a journal calls have changed.
use Rattle.std.specs.Prelude.{◌≡◌, ◌≢◌, ◌⊎◌, ℕ, ◌≤◌, Bool, IsTrue, List, Option}
use Rattle.std.proofs.Common.{inl, inr, refl, ap, ◌∙◌, subst, arith}
use Rattle.disk_model.specs.declared.journal_file.JournalFile.{JournalFile}
use Rattle.disk_model.specs.Images.{Image, Elapses, Follows, In}
use Rattle.disk_model.specs.Told.{JournalTold, TellsTheSame}

-- the images are the same but for one file
abbrev pub AreSameBut : JournalFile → Image → Image → Type 0
AreSameBut file a b = (other : JournalFile) → other ≢ file → b other ≡ a other

-- Calls changed one file at most: as reads give the others they are the same, and an image that was left
-- since a time is, but for this file, one that was left since that time before the calls.
pub record HasTouched (tells : Bool) (file : JournalFile) (old new : JournalTold) : Type 0 where
  pub later : old.moment ≤ new.moment
  pub reads : AreSameBut file old.seen new.seen
  pub images : IsTrue tells → (t : ℕ) (image : Image) → t ≤ old.moment → new.left_since t image
      → (before : Image) × old.left_since t before × AreSameBut file before image
  -- an image left since t was so before the calls, or it is left since any later time before them
  pub since : (t s : ℕ) (image : Image) → t ≤ s → s ≤ old.moment → new.left_since t image
      → old.left_since t image ⊎ new.left_since s image
  pub keeps : (t : ℕ) (image : Image) → t ≤ old.moment → old.left_since t image
      → new.left_since t image

pub touched_self : (tells : Bool) (file : JournalFile) (told : JournalTold)
    → HasTouched tells file told told
touched_self tells file told = record {
  later = omega arith;
  reads = λ other differ. refl;
  images = λ sure t image le left. (image, left, λ other differ. refl);
  since = λ t s image low le left. inl left;
  keeps = λ t image le left. left;
}

pub touched_on : (tells : Bool) (file : JournalFile) (a b c : JournalTold)
    → HasTouched tells file a b → HasTouched tells file b c → HasTouched tells file a c
touched_on tells file a b c one two = record {
  later = omega (arith, one.later, two.later);
  reads = λ other differ. two.reads other differ ∙ one.reads other differ;
  images = λ told t image le left.
      let mid = two.images told t image (omega (arith, le, one.later)) left in
      let first = one.images told t mid.0 le mid.1 in
      (first.0, first.1, λ other differ. mid.2 other differ ∙ first.2 other differ);
  since = λ t s image low le left.
      elim (two.since t s image low (omega (arith, le, one.later)) left) [
        | inl mid ↦ elim (one.since t s image low le mid) [
          | inl first ↦ inl first
          | inr during ↦ inr (two.keeps s image (omega (arith, le, one.later)) during)
        ]
        | inr during ↦ inr during
      ];
  keeps = λ t image le left. two.keeps t image (omega (arith, le, one.later))
      (one.keeps t image le left);
}

-- what is left now counts since each time
abbrev pub Counts : JournalTold → Type 0
Counts told = (t : ℕ) (image : Image) → t ≤ told.moment → told.may_leave image → told.left_since t image

-- each image that the call leaves is one from before but for the file
abbrev pub LeavesBut : JournalFile → (Image → Type 0) → (Image → Type 0) → Type 0
LeavesBut file before after =
    (image : Image) → after image → (old : Image) × before old × AreSameBut file old image

-- a step in one file leaves the others
pub leaves_but : (file : JournalFile) (R : Option (List ℕ) → Option (List ℕ) → Type 0)
    (before after : Image → Type 0) → Follows (In file R) before after
    → LeavesBut file before after
leaves_but file R before after follows =
    λ image left. let from = follows image left in (from.0, from.1, from.2.elsewhere)

-- what was left since a time was left before the call, or since any time between
since_step : (old new : JournalTold)
    → Elapses old.moment new.moment old.left_since new.left_since → (t s : ℕ) (image : Image)
    → t ≤ s → s ≤ old.moment → new.left_since t image
    → old.left_since t image ⊎ new.left_since s image
since_step old new time t s image low le left = elim (time.nothing_else t image (omega (arith, low, le)) left) [
  | inl past ↦ inl past
  | inr during ↦ inr (time.counts s image le during)
]

-- one call that changed one file
pub touched_step : (tells : Bool) (file : JournalFile) (old new : JournalTold) → Counts old
    → Elapses old.moment new.moment old.left_since new.left_since
    → AreSameBut file old.seen new.seen
    → (IsTrue tells → LeavesBut file old.may_leave (new.left_since old.moment))
    → HasTouched tells file old new
touched_step tells file old new counts time reads follows = record {
  later = time.later;
  reads = reads;
  images = λ told t image le left. elim (time.nothing_else t image le left) [
    | inl past ↦ (image, past, λ other differ. refl)
    | inr since ↦ let from = follows told image since in (from.0, counts t from.0 le from.1, from.2)
  ];
  since = since_step old new time;
  keeps = time.keeps;
}

-- what tells the same has changed no file
pub touched_same : (tells : Bool) (file : JournalFile) (a b : JournalTold) → TellsTheSame a b
    → HasTouched tells file a b
touched_same tells file a b same = record {
  later = omega (arith, same.time);
  reads = λ other differ. ap (λ (i : Image). i other) same.bytes;
  images = λ told t image le left. (image, (same.past t image).0 left, λ other differ. refl);
  since = λ t s image low le left. inl ((same.past t image).0 left);
  keeps = λ t image le left. (same.past t image).1 left;
}

-- calls led from the one place of a log to the other, and changed no file but the log's
pub record HasTouchedLog (tells : Bool) (old_file new_file : JournalFile)
    (old new : JournalTold) : Type 0 where
  pub log : new_file ≡ old_file
  pub touched : HasTouched tells old_file old new

pub log_touched_self : (tells : Bool) (file : JournalFile) (told : JournalTold)
    → HasTouchedLog tells file file told told
log_touched_self tells file told = record { log = refl; touched = touched_self tells file told }

pub log_touched_on : (tells : Bool) (f g h : JournalFile) (a b c : JournalTold)
    → HasTouchedLog tells f g a b → HasTouchedLog tells g h b c → HasTouchedLog tells f h a c
log_touched_on tells f g h a b c one two = record {
  log = two.log ∙ one.log;
  touched = touched_on tells f a b c one.touched
      (subst (λ (file : JournalFile). HasTouched tells file b c) one.log two.touched);
}
