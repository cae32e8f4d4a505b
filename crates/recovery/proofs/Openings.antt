-- The steps of an opening that only read and sync.
use Rattle.std.proofs.Common.{◌≡◌, ℕ, ◌≤◌, Bool, true, false, IsTrue, List, [], ◌∷◌, Result, Ok, Err, refl, sym, ◌∙◌, subst, inl, inr}
use Rattle.std.specs.Prelude.{IfOk, IfErr}
use Rattle.std.proofs.lemmas.List.{append-nil}
use Rattle.disk_model.specs.declared.journal_file.JournalFile.TheVariants.{Log}
use Rattle.disk_model.specs.declared.journal_file.JournalFile.{JournalFile}
use Rattle.disk_model.specs.declared.journal.Journal.{Ghosts}
use Rattle.disk_model.specs.Images.{Image, In, Stays, Follows}
use Rattle.disk_model.specs.Told.{told_by}
use Rattle.disk_model.specs.Files.{same_file, same_true, same_self, decide}
use Rattle.disk_model.specs.Moments.{elapses_on, elapses_none}
use Rattle.record_log.specs.declared.header.Header.{Header}
use Rattle.record_log.specs.declared.record.Record.{Record}
use Rattle.record_log.specs.Log.{IsLog, Holds}
use Rattle.record_log.specs.Records.{bodies_of, views}
use Rattle.store_layout.specs.Logs.{Held, flat}
use Rattle.recovery.specs.Opening.{HasWatched}
use Rattle.recovery.proofs.Founds.{bodies_read}

-- the log that was taken in
pub record Taken (tells : Bool) (seen : Image) (number : ℕ) (header : Header) (records : List Record) : Type 0 where
  pub log : Held
  pub header_is : log.header ≡ header
  pub bodies : flat log.groups ≡ bodies_of records
  pub told : IsTrue tells → IsLog (Log number) log.header log.groups (seen (Log number))

pub taken : (tells : Bool) (seen : Image) (number : ℕ) (header : Header) (records : List Record) → (IsTrue tells → Holds (Log number) header (views records) (seen (Log number)))
    → Taken tells seen number header records
taken true seen number header records holds =
    let h = holds refl in record { log = record { header = header; groups = h.groups }; header_is = refl; bodies = bodies_read records h.groups h.given; told = λ t. h.log }
taken false seen number header records holds =
    record { log = record { header = header; groups = bodies_of records ∷ [] }; header_is = refl; bodies = append-nil (bodies_of records); told = λ t. absurd (cc) }

-- ---- several reads in a row

pub watched_none : {D : Type 0} (d : Ghosts D) (journal : D) → ((t : ℕ) (image : Image) → t ≤ d.moment journal → d.may_leave journal image → d.left_since journal t image)
    → ((image : Image) → d.left_since journal (d.moment journal) image → d.may_leave journal image) → HasWatched (told_by d journal) (told_by d journal)
watched_none d journal counts only = record {
  seen = refl;
  time = elapses_none (d.moment journal) (d.left_since journal) (λ t image le left. counts t image le (only image left));
  each = only;
}

pub watched_on : {D : Type 0} (d : Ghosts D) (old mid new : D) → ((image : Image) → d.may_leave mid image → d.left_since mid (d.moment old) image)
    → HasWatched (told_by d old) (told_by d mid) → HasWatched (told_by d mid) (told_by d new) → HasWatched (told_by d old) (told_by d new)
watched_on d old mid new counts one two = record {
  seen = two.seen ∙ one.seen;
  time = elapses_on one.time two.time;
  each = λ image left. elim (two.time.nothing_else (d.moment old) image one.time.later left) [
    | inl past ↦ one.each image past
    | inr now ↦ one.each image (counts image (two.each image now))
  ];
}

-- an image that was one of before is it: calls that only read or sync change no image
pub watched_image : (file : JournalFile) (old new : Image) → In file Stays old new → new ≡ old
watched_image file old new step =
    let each : (other : JournalFile) → new other ≡ old other = λ other. elim (decide (same_file other file)) [
      | inl is ↦ subst (λ (f : JournalFile). new f ≡ old f) (sym (same_true other file is)) step.here
      | inr not ↦ step.elsewhere other (λ e. apart other file e not)
    ] in
    λ i other. each other i
  where
    apart : (other file : JournalFile) → other ≡ file → same_file other file ≡ false → ⊥
    apart other file e not = let is : same_file other file ≡ true = subst (λ (f : JournalFile). same_file other f ≡ true) e (same_self other) in cc

-- images of before, where each has followed by a read or a sync
pub watched_each : (file : JournalFile) (may since : Image → Type 0) → Follows (In file Stays) may since → (image : Image) → since image → may image
watched_each file may since follows image left =
    let from = follows image left in subst may (sym (watched_image file from.0 image from.2)) from.1

-- ---- facts on a result, weakened

pub if_ok : {T E : Type 0} (r : Result T E) (P Q : T → Type 0) → ((x : T) → P x → Q x) → IfOk r P → IfOk r Q
if_ok (Ok x) P Q f p = f x p
if_ok (Err e) P Q f p = tt

pub if_err : {T E : Type 0} (r : Result T E) (P Q : E → Type 0) → ((e : E) → P e → Q e) → IfErr r P → IfErr r Q
if_err (Ok x) P Q f p = tt
if_err (Err e) P Q f p = f e p

pub if_both : {T E : Type 0} (r : Result T E) (P Q R : T → Type 0) → ((x : T) → P x → Q x → R x) → IfOk r P → IfOk r Q → IfOk r R
if_both (Ok x) P Q R f p q = f x p q
if_both (Err e) P Q R f p q = tt
