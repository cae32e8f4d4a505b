-- Where a state stands after a call.
use Rattle.std.proofs.Common.{◌≡◌, ℕ, ◌+◌, ◌-◌, ◌<◌, ◌≤◌, true, false, IsTrue, [], ◌∷◌, ◌++◌, refl, sym, ap, ◌∙◌, subst, arith, inl, inr, append_assoc}
use Rattle.std.proofs.lemmas.List.{append-nil}
use Rattle.std.specs.List.{AllByRecursion}
use Rattle.peb_base.specs.declared.op.Op.{Op}
use Rattle.peb_base.specs.Numbers.{session_of}
use Rattle.peb_base.specs.declared.profile.Profile.{Profile}
use Rattle.peb_base.specs.Batches.{Batches, last_number, are_in_order}
use Rattle.peb_base.specs.Map.{apply_change, map_at}
use Rattle.peb_base.specs.MapLaws.{last_of_push, in_order_push, map_after_one}
use Rattle.disk_model.specs.Images.{Image, Elapses, Rose}
use Rattle.record_log.specs.declared.log_file.LogFile.{LogFile}
use Rattle.record_log.specs.Groups.{record_bytes}
use Rattle.record_log.specs.State.{log_file, log_place, log_tail}
use Rattle.record_log.specs.Ready.{ready_with}
use Rattle.flsm_core.specs.declared.state.State.{State}
use Rattle.disk_model.specs.declared.journal.Journal.{Ghosts}
use Rattle.flsm_model.specs.Shape.{Record}
use Rattle.store_layout.specs.Logs.{IsBatchIn, record_of}
use Rattle.store_layout.specs.Recorded.{StandsBeside}
use Rattle.flsm_core.specs.Place.{Place, Start, all_of, opened, IsRecordOf, WasRecordOf, next_number, with_batch, all_settled, halted}
use Rattle.store_layout.specs.Fronts.{IsFront, front_refl, front_more, front_trans}
use Rattle.flsm_core.specs.Standing.{Leaves, Waits, Rests, IsAt}
use Rattle.store_layout.specs.SpelledLaws.{each-append, waiting-push}
use Rattle.flsm_core.proofs.Images.{ClosesAny, Closes, HasClosed, close_leaves, close_rests, rests_leaves}

-- fewer batches that must be there, and more records that are allowed
leaves_lower : (profile : Profile) (P Q : Record → Type 0) (low least all : Batches) (image : Image) → ((edits : Record) → P edits → Q edits) → IsFront low least → Leaves profile P least all image → Leaves profile Q low all image
leaves_lower profile P Q low least all image wider front leaves = record {
  batches = leaves.batches;
  edits = leaves.edits;
  enough = front_trans low least leaves.batches front leaves.enough;
  within = leaves.within;
  recorded = wider leaves.edits leaves.recorded;
  stands = leaves.stands;
}

leaves_grow : (profile : Profile) (P : Record → Type 0) (least all more : Batches) (image : Image) → Leaves profile P least all image → Leaves profile P least (all ++ more) image
leaves_grow profile P least all more image leaves = record {
  batches = leaves.batches;
  edits = leaves.edits;
  enough = leaves.enough;
  within = front_trans leaves.batches all (all ++ more) leaves.within (front_more all more);
  recorded = leaves.recorded;
  stands = leaves.stands;
}

-- ---- one more batch waits

-- what a put did
pub record HasPut {J : Type 0} (old new : State J) (n : ℕ) (op : Op) : Type 0 where
  pub journal : new.journal ≡ old.journal
  pub session : new.session ≡ old.session
  pub stopped : new.stopped ≡ old.stopped
  pub file : log_file new.log ≡ log_file old.log
  pub place : log_place new.log ≡ log_place old.log
  pub tail : log_tail new.log ≡ log_tail old.log ++ record_bytes (record_of (n, op ∷ []))
  pub last : new.last ≡ n
  pub current : new.current ≡ apply_change op.key op.change old.current
  pub batch : IsBatchIn old.session (n, op ∷ [])

-- the same rest with another tail in the log
rests_moved : {D : Type 0} (d : Ghosts D) (journal : D) (log log' : LogFile) (session : ℕ) (p : Place) (b : Batches) → log_file log' ≡ log_file log → log_place log' ≡ log_place log
    → Rests d journal log session p → Rests d journal log' session (record p { waiting = b })
rests_moved d journal log log' session p b file place rests = record {
  logs = rests.logs;
  current = rests.current;
  spelled = rests.spelled;
  file = file ∙ rests.file;
  owned = rests.owned;
  ready = ready_with d.tells d.seen d.may_leave journal log log' rests.current.header rests.current.groups file place rests.ready;
  stands = rests.stands;
}

rests_put : {D : Type 0} (d : Ghosts D) (old new : State D) (n : ℕ) (op : Op) (p : Place) (b : Batches) → HasPut old new n op
    → Rests d old.journal old.log old.session p → Rests d new.journal new.log new.session (record p { waiting = b })
rests_put {D} d old new n op p b did rests =
    subst (λ (s : ℕ). Rests d new.journal new.log s (record p { waiting = b })) (sym did.session)
    (subst (λ (j : D). Rests d j new.log old.session (record p { waiting = b })) (sym did.journal)
    (rests_moved d old.journal old.log new.log old.session p b did.file did.place rests))

waits_put : {D : Type 0} (old new : State D) (n : ℕ) (op : Op) (p : Place) → HasPut old new n op
    → Waits old.log old.session p → Waits new.log new.session (record p { waiting = p.waiting ++ (n, op ∷ []) ∷ [] })
waits_put old new n op p did waits = record {
  tail = did.tail ∙ ap (λ r. r ++ record_bytes (record_of (n, op ∷ []))) waits.tail ∙ sym (waiting-push p.waiting (n, op ∷ []));
  each = subst (λ (s : ℕ). AllByRecursion (IsBatchIn s) (p.waiting ++ (n, op ∷ []) ∷ [])) (sym did.session)
      (each-append old.session p.waiting ((n, op ∷ []) ∷ []) waits.each (did.batch, tt));
}

-- the place with this batch waiting
abbrev one_more : Place → ℕ → Op → Place
one_more p n op = record p { waiting = p.waiting ++ (n, op ∷ []) ∷ [] }

at_one_more : {D : Type 0} (d : Ghosts D) (old new : State D) (n : ℕ) (op : Op) (p : Place) → HasPut old new n op → last_number (all_of p) < n
    → IsAt d old p → IsAt d new (one_more p n op)
at_one_more {D} d old new n op p did next is =
    let grown : all_of (one_more p n op) ≡ all_of p ++ (n, op ∷ []) ∷ [] = sym (append_assoc p.settled p.waiting ((n, op ∷ []) ∷ [])) in
    let one : n + 1 - 1 ≡ n = omega arith in
    let last : last_number (all_of p ++ (n, op ∷ []) ∷ []) ≡ n = last_of_push (all_of p) n (op ∷ []) next ∙ one in
    record {
      began = subst (λ (j : D). p.start.moment ≤ d.moment j) (sym did.journal) is.began;
      counted = subst (λ (j : D). p.start.faults ≤ d.faults j) (sym did.journal) is.counted;
      grown = is.grown;
      ordered = ap are_in_order grown ∙ in_order_push (all_of p) n (op ∷ []) is.ordered next (omega arith) (ap session_of (sym one));
      last = did.last ∙ sym (ap last_number grown ∙ last);
      current = did.current ∙ ap (λ m. apply_change op.key op.change m) is.current
          ∙ sym (map_after_one (all_of p) n op next) ∙ sym (ap (λ bs. map_at bs (last_number bs)) grown ∙ ap (map_at (all_of p ++ (n, op ∷ []) ∷ [])) last);
      stopped = did.stopped ∙ is.stopped;
      halted = λ over. subst (λ (j : D). Rose p.start.faults (d.faults j)) (sym did.journal) (is.halted over);
      waits = λ fine. waits_put old new n op p did (is.waits fine);
      since = λ told honest image left. subst (λ bs. Leaves p.start.profile (WasRecordOf p) p.start.base bs image) (sym grown)
          (leaves_grow p.start.profile (WasRecordOf p) p.start.base (all_of p) ((n, op ∷ []) ∷ []) image (is.since told honest image (subst (λ (j : D). d.left_since j p.start.moment image) did.journal left)));
      now = λ told honest image left. subst (λ bs. Leaves p.start.profile (IsRecordOf p) p.settled bs image) (sym grown)
          (leaves_grow p.start.profile (IsRecordOf p) p.settled (all_of p) ((n, op ∷ []) ∷ []) image (is.now told honest image (subst (λ (j : D). d.may_leave j image) did.journal left)));
      rests = λ told fine. rests_put d old new n op p (p.waiting ++ (n, op ∷ []) ∷ []) did (is.rests told fine);
    }

-- a put leads to its place
pub at_put : {D : Type 0} (d : Ghosts D) (old new : State D) (session n : ℕ) (op : Op) (p : Place) → HasPut old new n op → n ≡ next_number session (all_of p)
    → IsAt d old p → IsAt d new (with_batch session p (op ∷ []))
at_put d old new session n op p did numbered is =
    let next : last_number (all_of p) < n = omega (arith, numbered) in
    subst (λ (m : ℕ). IsAt d new (one_more p m op)) numbered (at_one_more d old new n op p did next is)

-- ---- the tail's group was closed

-- the images of all moments since the opening, over one more call
since_on : {D : Type 0} (d : Ghosts D) (old new : D) (p : Place) (all : Batches) → p.start.moment ≤ d.moment old → IsFront p.start.base p.settled
    → Elapses (d.moment old) (d.moment new) (d.left_since old) (d.left_since new)
    → ((image : Image) → d.left_since old p.start.moment image → Leaves p.start.profile (WasRecordOf p) p.start.base all image)
    → ((image : Image) → d.left_since new (d.moment old) image → Leaves p.start.profile (IsRecordOf p) p.settled all image)
    → (image : Image) → d.left_since new p.start.moment image → Leaves p.start.profile (WasRecordOf p) p.start.base all image
since_on d old new p all began grown time past during image left = elim (time.nothing_else p.start.moment image began left) [
  | inl before ↦ past image before
  | inr now ↦ leaves_lower p.start.profile (IsRecordOf p) (WasRecordOf p) p.start.base p.settled all image (λ edits is. inr is) grown (during image now)
]

-- a state that isn't stopped closes its tail's group
closes_at : {D : Type 0} (d : Ghosts D) (state : State D) (p : Place) → IsAt d state p → IsTrue d.tells → p.stopped ≡ false → Closes d state.journal state.log state.session p
closes_at d state p is told fine = record { rests = is.rests told fine; waits = is.waits fine; ordered = is.ordered }

all_same : (p : Place) → all_of (all_settled p) ≡ all_of p
all_same p = append-nil (all_of p)

pub at_synced : {D : Type 0} (d : Ghosts D) (old new : State D) (p : Place) → new.session ≡ old.session → new.stopped ≡ old.stopped → new.last ≡ old.last → new.current ≡ old.current → p.stopped ≡ false
    → log_tail new.log ≡ [] → Elapses (d.moment old.journal) (d.moment new.journal) (d.left_since old.journal) (d.left_since new.journal) → d.faults old.journal ≤ d.faults new.journal
    → (IsTrue d.tells → HasClosed d old.journal new.journal old.log new.log)
    → IsAt d old p → IsAt d new (all_settled p)
at_synced {D} d old new p session stopped last current fine tail time later call is =
    let all = all_same p in
    let rests : (told : IsTrue d.tells) → Rests d new.journal new.log new.session (all_settled p) = λ told.
    subst (λ (s : ℕ). Rests d new.journal new.log s (all_settled p)) (sym session)
    (close_rests d old.journal new.journal old.log new.log old.session p (closes_at d old p is told fine) (call told)) in
    let ordered : are_in_order (all_of (all_settled p)) ≡ true = ap are_in_order all ∙ is.ordered in
    record {
      began = omega (arith, is.began, time.later);
      counted = omega (arith, is.counted, later);
      grown = front_trans p.start.base p.settled (all_of p) is.grown (front_more p.settled p.waiting);
      ordered = ordered;
      last = last ∙ is.last ∙ sym (ap last_number all);
      current = current ∙ is.current ∙ sym (ap (λ bs. map_at bs (last_number bs)) all);
      stopped = stopped ∙ is.stopped;
      halted = λ over. absurd (cc);
      waits = λ go. record { tail = tail; each = tt };
      since = λ told honest image left. subst (λ bs. Leaves p.start.profile (WasRecordOf p) p.start.base bs image) (sym all)
          (since_on d old.journal new.journal p (all_of p) is.began is.grown time (is.since told honest)
          (λ at now. close_leaves d old.journal old.log old.session p (closes_at d old p is told fine) new.journal at honest (call told).images now) image left);
      now = λ told honest image left. rests_leaves d new.journal new.log new.session (all_settled p) image (rests told) honest left;
      rests = λ told go. rests told;
    }

-- a count that rose since has risen from an earlier one
rose_from : (first before now : ℕ) → first ≤ before → Rose before now → Rose first now
rose_from first before now le rose = omega (arith, le, rose)

-- the journal failed while the group was closed
pub at_halted : {D : Type 0} (d : Ghosts D) (old new : State D) (p : Place) → new.stopped ≡ true → new.last ≡ old.last → new.current ≡ old.current
    → Elapses (d.moment old.journal) (d.moment new.journal) (d.left_since old.journal) (d.left_since new.journal)
    → (IsTrue d.tells → (image : Image) → d.may_leave new.journal image → d.left_since new.journal (d.moment old.journal) image)
    → (IsTrue d.tells → IsTrue p.start.honest → (image : Image) → d.left_since new.journal (d.moment old.journal) image → Leaves p.start.profile (IsRecordOf p) p.settled (all_of p) image)
    → Rose (d.faults old.journal) (d.faults new.journal) → d.faults old.journal ≤ d.faults new.journal
    → IsAt d old p → IsAt d new (halted p)
at_halted d old new p stopped last current time counts during rose later is = record {
  began = omega (arith, is.began, time.later);
  counted = omega (arith, is.counted, later);
  grown = is.grown;
  ordered = is.ordered;
  last = last ∙ is.last;
  current = current ∙ is.current;
  stopped = stopped;
  halted = λ over. rose_from p.start.faults (d.faults old.journal) (d.faults new.journal) is.counted rose;
  waits = λ fine. absurd (cc);
  since = λ told honest. since_on d old.journal new.journal p (all_of p) is.began is.grown time (is.since told honest) (during told honest);
  now = λ told honest image left. during told honest image (counts told image left);
  rests = λ told fine. absurd (cc);
}

-- while the group is closed a crash leaves the settled batches or all
pub during_close : {D : Type 0} (d : Ghosts D) (old : State D) (new : D) (p : Place) → p.stopped ≡ false → IsAt d old p → IsTrue d.tells → IsTrue p.start.honest
    → ClosesAny d old.journal new old.log
    → (image : Image) → d.left_since new (d.moment old.journal) image → Leaves p.start.profile (IsRecordOf p) p.settled (all_of p) image
during_close d old new p fine is told honest any image left = close_leaves d old.journal old.log old.session p (closes_at d old p is told fine) new image honest any left

-- ---- an opening

-- what stands for the base, and for the record as it was or with the opening, is what an opening leaves
leaves_all : (start : Start) (log : ℕ) (image : Image) → StandsBeside start.profile start.base start.edits log image → Leaves start.profile (WasRecordOf (opened start log)) start.base (start.base ++ []) image
leaves_all start log image (inl plain) =
    record { batches = start.base; edits = start.edits; enough = front_refl start.base; within = front_more start.base []; recorded = inl refl; stands = plain }
leaves_all start log image (inr with) =
    record { batches = start.base; edits = (opened start log).edits; enough = front_refl start.base; within = front_more start.base []; recorded = inr refl; stands = with }

-- what an opening has made
pub record HasOpened {J : Type 0} (new : State J) (batches : Batches) : Type 0 where
  pub ordered : are_in_order batches ≡ true
  pub last : new.last ≡ last_number batches
  pub current : new.current ≡ map_at batches (last_number batches)
  pub stopped : new.stopped ≡ false
  pub tail : log_tail new.log ≡ []

-- a store of what an opening has made ready stands where that began
pub at_begun : {D : Type 0} (d : Ghosts D) (new : State D) (start : Start) (log : ℕ) → start.moment ≤ d.moment new.journal → start.faults ≤ d.faults new.journal → HasOpened new start.base
    → (IsTrue d.tells → IsTrue start.honest → (image : Image) → d.left_since new.journal start.moment image → StandsBeside start.profile start.base start.edits log image)
    → (IsTrue d.tells → Rests d new.journal new.log new.session (opened start log)) → IsAt d new (opened start log)
at_begun d new start log began counted did past rests =
    let p = opened start log in
    let all : all_of p ≡ start.base = append-nil start.base in
    let ordered : are_in_order (all_of p) ≡ true = ap are_in_order all ∙ did.ordered in
    record {
      began = began;
      counted = counted;
      grown = front_refl start.base;
      ordered = ordered;
      last = did.last ∙ sym (ap last_number all);
      current = did.current ∙ sym (ap (λ bs. map_at bs (last_number bs)) all);
      stopped = did.stopped;
      halted = λ over. absurd (cc);
      waits = λ fine. record { tail = did.tail; each = tt };
      since = λ told sure image left. leaves_all start log image (past told sure image left);
      now = λ told sure image left. rests_leaves d new.journal new.log new.session p image (rests told) sure left;
      rests = λ told fine. rests told;
    }
