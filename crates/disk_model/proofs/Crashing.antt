-- What a crash takes after one call more.
use Rattle.std.proofs.Common.{◌≡◌, inl, inr, ℕ, ◌<◌, ◌+◌, List, [], ◌∷◌, ◌++◌, length, reverse, take, drop, get_or, None, refl, sym, ap, ◌∙◌, subst}
use Rattle.std.proofs.lemmas.List.{reverse-append, take_more, take-append-drop}
use Rattle.disk_model.specs.declared.journal_file.JournalFile.{JournalFile}
use Rattle.disk_model.specs.declared.call.Call.{Call}
use Rattle.disk_model.specs.declared.call.Call.TheVariants.{Sync, Remove}
use Rattle.disk_model.specs.declared.pick.Pick.{Pick}
use Rattle.disk_model.specs.Images.{Image}
use Rattle.disk_model.specs.Files.{changed, changed_here, same_file, same_true, decide}
use Rattle.disk_model.specs.Past.{read_after, kept_after, AreCalls, IsLeft, IsWithin, read_left}
use Rattle.disk_model.specs.Crashes.{IsTaken}
use Rattle.disk_model.proofs.Mix.{mixed, mix}
use Rattle.disk_model.proofs.Names.{changed_same}
use Rattle.disk_model.proofs.Putting.{put_in}

at_one : (file : JournalFile) (here there : Image) (other : JournalFile) → mixed file here there other ≡ changed file (here file) there other
at_one file here there other = elim (decide (same_file other file)) [
  | inl is ↦ rw is (ap here (same_true other file is))
  | inr not ↦ rw not refl
]

pub taken_sync : (pick : Pick) (first : Image) (calls : List Call) (file : JournalFile) (read left new : Image) → new ≡ changed file (read file) left
    → IsTaken pick first calls read left → IsTaken pick first (Sync file ∷ calls) read new
taken_sync pick first calls file read left new made taken =
    let same : mixed file read left ≡ new = (λ i other. at_one file read left other i) ∙ sym made in
    let of_read : IsLeft first calls read = subst (IsLeft first calls) (sym taken.reads) (read_left first calls taken.are) in
    record {
      are = (tt, taken.are);
      reads = taken.reads;
      left = (
        subst (IsLeft first calls) same (mix file first calls read left of_read taken.left),
        ap (λ i. i file) made ∙ changed_here file (read file) left ∙ ap (λ i. i file) taken.reads,
      );
      new = λ is. made ∙ ap (changed file (read file)) (taken.new is) ∙ changed_same file read;
      old = λ is. made ∙ ap (changed file (read file)) (taken.old is) ∙ ap (λ (r : Image). changed file (r file) (kept_after first calls)) taken.reads;
    }

pub taken_removal : (pick : Pick) (first : Image) (calls : List Call) (file : JournalFile) (read left read2 new : Image)
    → read2 ≡ changed file None read → new ≡ changed file None left → IsTaken pick first calls read left → IsTaken pick first (Remove file ∷ calls) read2 new
taken_removal pick first calls file read left read2 new gone made taken = record {
  are = (tt, taken.are);
  reads = gone ∙ ap (changed file None) taken.reads;
  left = (left, taken.left, put_in file (λ old now. now ≡ None) left new None made refl);
  new = λ is. made ∙ ap (changed file None) (taken.new is) ∙ sym gone;
  old = λ is. made ∙ ap (changed file None) (taken.old is);
}

-- the calls before some are calls too
are_before : (first : Image) (later earlier : List Call) → AreCalls first (later ++ earlier) → AreCalls first earlier
are_before first [] earlier are = are
are_before first (call ∷ later) earlier are = are_before first later earlier are.1

-- the first calls, and the next one
module _ (first : Image) (calls : List Call) (i : ℕ) (call : Call) (within : i < length calls) (is : call ≡ get_or calls i call) where
  pub next_call : call ∷ reverse (take i calls) ≡ reverse (take (i + 1) calls)
  next_call = sym (ap reverse (take_more calls i call within ∙ ap (λ c. take i calls ++ c ∷ []) (sym is)) ∙ reverse-append (take i calls) (call ∷ []))

  pub next_within : AreCalls first (reverse calls) → IsWithin call (read_after first (reverse (take i calls)))
  next_within are =
      let parts : reverse calls ≡ reverse (drop (i + 1) calls) ++ reverse (take (i + 1) calls) =
      ap reverse (sym (take-append-drop (i + 1) calls)) ∙ reverse-append (take (i + 1) calls) (drop (i + 1) calls) in
      let some = are_before first (reverse (drop (i + 1) calls)) (reverse (take (i + 1) calls)) (subst (AreCalls first) parts are) in
      let next : AreCalls first (call ∷ reverse (take i calls)) = subst (AreCalls first) (sym next_call) some in next.0
