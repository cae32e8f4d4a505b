-- What a crash leaves, in the calls on the log.
use Rattle.std.proofs.Common.{◌≡◌, ◌≢◌, ℕ, ◌+◌, true, IsTrue, List, [], ◌∷◌, ◌++◌, map, length, refl, sym, ◌∙◌, subst, inl, inr}
use Rattle.peb_base.specs.Batches.{are_in_order}
use Rattle.disk_model.specs.declared.journal_file.JournalFile.{JournalFile}
use Rattle.disk_model.specs.declared.journal_file.JournalFile.TheVariants.{Log}
use Rattle.disk_model.specs.Images.{Image, In, Follows}
use Rattle.record_log.specs.declared.header.Header.{Header}
use Rattle.record_log.specs.declared.log_file.LogFile.{LogFile}
use Rattle.record_log.specs.Log.{IsLog}
use Rattle.record_log.specs.Groups.{records_bytes, with_group}
use Rattle.record_log.specs.State.{log_file, log_tail}
use Rattle.record_log.specs.Ready.{IsReady, IsBeforeOrAfter}
use Rattle.disk_model.specs.declared.journal.Journal.{Ghosts}
use Rattle.std.specs.List.{AllByRecursion}
use Rattle.store_layout.specs.Logs.{IsBatchIn, SpellsAll, record_of}
use Rattle.store_layout.specs.Recorded.{first_log, StandsBy}
use Rattle.store_layout.specs.RecordedLaws.{stands_changed}
use Rattle.flsm_core.specs.Place.{Place, all_of, all_settled, IsRecordOf}
use Rattle.flsm_core.specs.Standing.{Leaves, Waits, Rests}
use Rattle.store_layout.specs.Fronts.{front_in_order, front_refl, front_more}
use Rattle.store_layout.specs.SpelledLaws.{closed, spells_group}

-- what the closing of a group promises of each moment of it
abbrev pub ClosesAny : {D : Type 0} → Ghosts D → D → D → LogFile → Type 0
ClosesAny d old new log = (header : Header) (groups : List (List (List ℕ))) (bodies : List (List ℕ))
    → IsReady d.tells d.seen d.may_leave old log header groups → log_tail log ≡ records_bytes bodies
    → Follows (In (log_file log) (λ before after. IsBeforeOrAfter (log_file log) header groups bodies after)) (d.may_leave old) (d.left_since new (d.moment old))

-- a call closes the tail's group of a store at this place
pub record Closes {D : Type 0} (d : Ghosts D) (old : D) (log : LogFile) (session : ℕ) (p : Place) : Type 0 where
  pub rests : Rests d old log session p
  pub waits : Waits log session p
  pub ordered : are_in_order (all_of p) ≡ true

module _ {D : Type 0} (d : Ghosts D) (old : D) (log : LogFile) (session : ℕ) (p : Place) (at : Closes d old log session p) where
  -- the number of its log
  abbrev number : ℕ
  number = first_log p.start.profile p.edits + length at.rests.logs

  -- the log's images are those of before, or have the group
  whole : (new : D) → ClosesAny d old new log
      → Follows (In (Log number) (λ before after. IsBeforeOrAfter (Log number) at.rests.current.header at.rests.current.groups (map record_of p.waiting) after)) (d.may_leave old) (d.left_since new (d.moment old))
  whole new any =
      subst (λ (f : JournalFile). Follows (In f (λ before after. IsBeforeOrAfter f at.rests.current.header at.rests.current.groups (map record_of p.waiting) after)) (d.may_leave old) (d.left_since new (d.moment old)))
      at.rests.file (any at.rests.current.header at.rests.current.groups (map record_of p.waiting) at.rests.ready at.waits.tail)

  -- the logs with the group spell all batches
  pub spells_all : SpellsAll (at.rests.logs ++ closed at.rests.current p.waiting ∷ []) (all_of p)
  spells_all = spells_group at.rests.logs at.rests.current p.settled p.waiting (subst (λ (s : ℕ). AllByRecursion (IsBatchIn s) p.waiting) (sym at.rests.owned) at.waits.each) at.rests.spelled

  -- an image with the group stands for all of them
  with_all : (before image : Image) → StandsBy p.start.profile p.settled p.edits (at.rests.logs ++ at.rests.current ∷ []) before
      → ((other : JournalFile) → other ≢ Log number → image other ≡ before other) → IsLog (Log number) at.rests.current.header (with_group at.rests.current.groups (map record_of p.waiting)) (image (Log number))
      → StandsBy p.start.profile (all_of p) p.edits (at.rests.logs ++ closed at.rests.current p.waiting ∷ []) image
  with_all before image stands else made =
      stands_changed p.start.profile p.settled (all_of p) p.edits before image number at.rests.logs at.rests.current (closed at.rests.current p.waiting) stands refl refl else made spells_all at.ordered

  -- while the group is closed, a crash leaves the settled batches or all of them
  pub close_leaves : (new : D) (image : Image) → IsTrue p.start.honest → ClosesAny d old new log → d.left_since new (d.moment old) image → Leaves p.start.profile (IsRecordOf p) p.settled (all_of p) image
  close_leaves new image honest any left =
      let from = whole new any image left in
      let stands = at.rests.stands honest from.0 from.1 in
      elim from.2.here [
        | inl before ↦ record {
          batches = p.settled;
          edits = p.edits;
          enough = front_refl p.settled;
          within = front_more p.settled p.waiting;
          recorded = refl;
          stands = record {
            logs = at.rests.logs ++ at.rests.current ∷ [];
            by = stands_changed p.start.profile p.settled p.settled p.edits from.0 image number at.rests.logs at.rests.current at.rests.current stands refl refl from.2.elsewhere before
                at.rests.spelled (front_in_order p.settled p.waiting at.ordered);
          };
        }
        | inr made ↦ record {
          batches = all_of p;
          edits = p.edits;
          enough = front_more p.settled p.waiting;
          within = front_refl (all_of p);
          recorded = refl;
          stands = record { logs = at.rests.logs ++ closed at.rests.current p.waiting ∷ []; by = with_all from.0 image stands from.2.elsewhere made };
        }
      ]

-- what an Ok of the closing says
pub record HasClosed {D : Type 0} (d : Ghosts D) (old new : D) (log log' : LogFile) : Type 0 where
  pub images : ClosesAny d old new log
  pub counts : (image : Image) → d.may_leave new image → d.left_since new (d.moment old) image
  pub ready : (header : Header) (groups : List (List (List ℕ))) (bodies : List (List ℕ)) → IsReady d.tells d.seen d.may_leave old log header groups → log_tail log ≡ records_bytes bodies
      → IsReady d.tells d.seen d.may_leave new log' header (with_group groups bodies)
  pub file : log_file log' ≡ log_file log
  pub tail : log_tail log' ≡ []

-- the file of a log that is ready is in each image as it is read
pub ready_form : {D : Type 0} (d : Ghosts D) (journal : D) (log : LogFile) (file : JournalFile) (header : Header) (groups : List (List (List ℕ))) → log_file log ≡ file
    → IsReady d.tells d.seen d.may_leave journal log header groups → (image : Image) → d.may_leave journal image → IsLog file header groups (image file)
ready_form d journal log file header groups is ready image left =
    subst (λ (f : JournalFile). IsLog f header groups (image f)) is
    (subst (λ b. IsLog (log_file log) header groups b) (sym (ready.kept image left)) ready.form)

-- after it the journal has all batches
pub close_rests : {D : Type 0} (d : Ghosts D) (old new : D) (log log' : LogFile) (session : ℕ) (p : Place)
    → Closes d old log session p → HasClosed d old new log log' → Rests d new log' session (all_settled p)
close_rests d old new log log' session p at call =
    let rests = at.rests in
    let current = rests.current in
    let n : ℕ = first_log p.start.profile p.edits + length rests.logs in
    let ready = call.ready current.header current.groups (map record_of p.waiting) rests.ready at.waits.tail in
    let file : log_file log' ≡ Log n = call.file ∙ rests.file in
    record {
      logs = rests.logs;
      current = closed current p.waiting;
      spelled = spells_all d old log session p at;
      file = file;
      owned = rests.owned;
      ready = ready;
      stands = λ honest image left.
          let from = whole d old log session p at new call.images image (call.counts image left) in
          with_all d old log session p at from.0 image (rests.stands honest from.0 from.1) from.2.elsewhere (ready_form d new log' (Log n) current.header (with_group current.groups (map record_of p.waiting)) file ready image left);
    }

-- where nothing is under way, a crash leaves the settled batches
pub rests_leaves : {D : Type 0} (d : Ghosts D) (journal : D) (log : LogFile) (session : ℕ) (p : Place) (image : Image)
    → Rests d journal log session p → IsTrue p.start.honest → d.may_leave journal image → Leaves p.start.profile (IsRecordOf p) p.settled (all_of p) image
rests_leaves d journal log session p image rests honest left = record {
  batches = p.settled;
  edits = p.edits;
  enough = front_refl p.settled;
  within = front_more p.settled p.waiting;
  recorded = refl;
  stands = record { logs = rests.logs ++ rests.current ∷ []; by = rests.stands honest image left };
}
