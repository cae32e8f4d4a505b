-- The beginning of a session, and what a crash leaves of it.
use Rattle.std.proofs.Common.{◌≡◌, ℕ, ◌+◌, ◌*◌, ◌^◌, ◌≤◌, true, IsTrue, List, [], ◌∷◌, ◌++◌, length, sym, ap, ◌∙◌, subst, arith, inl, inr}
use Rattle.peb_base.specs.declared.profile.Profile.{Profile}
use Rattle.peb_base.specs.Batches.{Batches, last_number, are_in_order}
use Rattle.peb_base.specs.Map.{map_at}
use Rattle.disk_model.specs.declared.journal.Journal.{Ghosts}
use Rattle.disk_model.specs.declared.journal_file.JournalFile.{JournalFile}
use Rattle.disk_model.specs.declared.journal_file.JournalFile.TheVariants.{Log, ManifestA}
use Rattle.disk_model.specs.Images.{Image, Elapses, In, Follows}
use Rattle.record_log.specs.declared.header.Header.{Header}
use Rattle.record_log.specs.declared.log_file.LogFile.{LogFile}
use Rattle.record_log.specs.Crash.{Creates}
use Rattle.record_log.specs.Header.{log_header}
use Rattle.record_log.specs.Log.{IsLog}
use Rattle.record_log.specs.Ready.{IsReady}
use Rattle.record_log.specs.State.{log_file, log_tail}
use Rattle.flsm_model.specs.Shape.{Record}
use Rattle.manifest.specs.Manifests.{IsManifest}
use Rattle.store_layout.specs.Logs.{Held}
use Rattle.store_layout.specs.Recorded.{Bounds, bounds_of, first_log, session_of_record, next_opening, HoldsRecord, IsWithin, StandsBy, StandsFor, StandsBeside}
use Rattle.store_layout.specs.RecordedLaws.{opened_bounds, stands_recorded, stands_opened, stands_created, stands_made}
use Rattle.store_layout.specs.SpelledLaws.{fresh, spells_one_more}
use Rattle.flsm_core.specs.declared.parts.Parts.{Parts}
use Rattle.flsm_core.specs.Begun.{IsBegun}
use Rattle.flsm_core.specs.Place.{Start, opened}
use Rattle.flsm_core.specs.Standing.{Rests}
use Rattle.recovery.specs.declared.looked.Looked.{Looked}
use Rattle.recovery.specs.Looking.{Stored, HasLooked, stored_of, HasRead, HasRecorded}
use Rattle.recovery.specs.Session.{IsNextHeader, IsRecording, IsMaking, IsBeginning}
use Rattle.recovery.proofs.Sessions.{log_no_manifest}

-- ---- the opening is recorded

-- the number of the log that comes next, which the record's session bounds
pub record IsNext (profile : Profile) (edits : Record) (logs : List Held) (n : ℕ) : Type 0 where
  pub next : first_log profile edits + length logs ≡ n
  pub room : n ≤ session_of_record profile edits * 2 ^ 41 + 1

-- an image that has the opening in its manifest stands for the record with it
pub with_opening : (profile : Profile) (batches : Batches) (edits : Record) (logs : List Held) (n : ℕ) → IsNext profile edits logs n → (before image : Image) → StandsBy profile batches edits logs before
    → ((m : ℕ) → image (Log m) ≡ before (Log m)) → IsManifest profile (edits ++ next_opening profile edits n ∷ []) (image ManifestA)
    → StandsBy profile batches (edits ++ next_opening profile edits n ∷ []) logs image
with_opening profile batches edits logs n is before image s same holds =
    stands_opened profile batches edits logs before image n s same holds (omega (arith, is.next, s.lies.some, s.lies.before)) is.room

-- while the opening is recorded
pub recording_stands : (profile : Profile) (batches : Batches) (edits : Record) (logs : List Held) (n : ℕ) → IsNext profile edits logs n → (before image : Image) → StandsBy profile batches edits logs before
    → IsRecording profile edits n before image → StandsBeside profile batches edits n image
recording_stands profile batches edits logs n is before image s step =
    let same : (m : ℕ) → image (Log m) ≡ before (Log m) = λ m. step.elsewhere (Log m) (log_no_manifest m) in
    let plain : HoldsRecord profile edits (image ManifestA) → StandsFor profile batches edits image = λ holds.
    record { logs = logs; by = stands_recorded profile batches edits edits logs before image s same holds s.reads.legal s.openings (omega arith) } in
    elim step.here [
      | inl stays ↦ inl (plain (subst (HoldsRecord profile edits) (sym stays) s.reads.recorded))
      | inr more ↦ elim more [
        | inl holds ↦ inl (plain holds)
        | inr with ↦ inr (record { logs = logs; by = with_opening profile batches edits logs n is before image s same with })
      ]
    ]

-- what the recording of the opening did
pub record Recording {D : Type 0} (d : Ghosts D) (old new : D) (start : Start) (n : ℕ) : Type 0 where
  pub time : Elapses (d.moment old) (d.moment new) (d.left_since old) (d.left_since new)
  pub later : d.faults old ≤ d.faults new
  pub follows : IsTrue d.tells → Follows (IsRecording start.profile start.edits n) (d.may_leave old) (d.left_since new (d.moment old))
  pub counts : (image : Image) → d.may_leave new image → d.left_since new (d.moment old) image
  pub kept : IsTrue d.tells → (image : Image) → d.may_leave new image → IsManifest start.profile (opened start n).edits (image ManifestA)

-- the number of the next log, by what was read
pub is_next : {D : Type 0} (d : Ghosts D) (mid : D) (profile : Profile) (looked : Looked) (stored : Stored) → HasLooked d mid profile looked stored → IsNext profile stored.edits stored.logs looked.read.next
is_next d mid profile looked stored looks =
    let next : looked.read.next ≡ first_log profile stored.edits + length stored.logs = looks.logs.next in
    let session : looked.read.session ≡ session_of_record profile stored.edits = looks.logs.session in
    let numbered : looked.read.next ≤ 2 ^ 41 * looked.read.session + 1 = looked.read.numbered in
    record { next = sym next; room = omega (arith, numbered, session) }

-- what was read is recorded with the opening
pub is_recorded : {D : Type 0} (d : Ghosts D) (old new : D) (start : Start) (logs : List Held) (looked : Looked) → HasLooked d old start.profile looked (stored_of start logs) → HasRead d old start logs
    → Recording d old new start looked.read.next → HasRecorded d new start logs looked.read.next
is_recorded d old new start logs looked looks has r =
    let n = looked.read.next in
    let next = is_next d old start.profile looked (stored_of start logs) looks in
    record {
      began = omega (arith, has.began, r.time.later);
      counted = omega (arith, has.counted, r.later);
      next = next.next;
      spelled = looks.logs.spelled;
      past = λ told sure image left. elim (r.time.nothing_else start.moment image has.began left) [
        | inl past ↦ inl (has.past told sure image past)
        | inr during ↦
            let from = r.follows told image during in
            recording_stands start.profile start.base start.edits logs n next from.0 image (has.stands told sure from.0 from.1) from.2
      ];
      stands = λ told sure image left.
          let from = r.follows told image (r.counts image left) in
          with_opening start.profile start.base start.edits logs n next from.0 image (has.stands told sure from.0 from.1) (λ m. from.2.elsewhere (Log m) (log_no_manifest m)) (r.kept told image left);
    }

-- ---- its log is made

-- a record with its next opening asks for the same logs
pub opened_first : (profile : Profile) (edits : Record) (n : ℕ) → first_log profile (edits ++ next_opening profile edits n ∷ []) ≡ first_log profile edits
opened_first profile edits n = ap (λ (b : Bounds). b.first) (opened_bounds profile edits (session_of_record profile edits + 1) n)

-- and its session is the next one
pub opened_session : (profile : Profile) (edits : Record) (n : ℕ) → session_of_record profile (edits ++ next_opening profile edits n ∷ []) ≡ session_of_record profile edits + 1
opened_session profile edits n = ap (λ (b : Bounds). b.session) (opened_bounds profile edits (session_of_record profile edits + 1) n)

-- while the log is made
pub making_stands : (profile : Profile) (batches : Batches) (edits : Record) (logs : List Held) (n : ℕ) → IsNext profile edits logs n → (before image : Image) → StandsBy profile batches edits logs before
    → IsMaking profile edits n before image → StandsBeside profile batches edits n image
making_stands profile batches edits logs n is before image s m =
    let same : (k : ℕ) → m.between (Log k) ≡ before (Log k) = λ k. m.recording.elsewhere (Log k) (log_no_manifest k) in
    let first = opened_first profile edits n in
    let last = opened_session profile edits n in
    inr (stands_created profile batches (edits ++ next_opening profile edits n ∷ []) logs m.between image n (log_header profile n (session_of_record profile edits + 1))
    (with_opening profile batches edits logs n is before m.between s same m.recorded)
    (omega (arith, first, is.next)) (refl_profile, omega (arith, last)) m.making)
  where
    refl_profile : profile ≡ profile
    refl_profile = λ i. profile

pub beginning_stands : (profile : Profile) (batches : Batches) (edits : Record) (logs : List Held) (n : ℕ) → IsNext profile edits logs n → (before image : Image) → StandsBy profile batches edits logs before
    → IsBeginning profile edits n before image → StandsBeside profile batches edits n image
beginning_stands profile batches edits logs n is before image s (inl recording) = recording_stands profile batches edits logs n is before image s recording
beginning_stands profile batches edits logs n is before image s (inr making) = making_stands profile batches edits logs n is before image s making

-- ---- a store of the log

-- what an Ok of creating a log says
pub record HasCreated {D : Type 0} (d : Ghosts D) (old new : D) (k : ℕ) (header : Header) (log : LogFile) : Type 0 where
  pub images : Follows (In (Log k) (Creates (Log k) header)) (d.may_leave old) (d.left_since new (d.moment old))
  pub counts : (image : Image) → d.may_leave new image → d.left_since new (d.moment old) image
  pub ready : IsReady d.tells d.seen d.may_leave new log header []
  pub file : log_file log ≡ Log k
  pub tail : log_tail log ≡ []

-- the parts are those of these batches
pub record AreOfBatches {D : Type 0} (parts : Parts D) (batches : Batches) : Type 0 where
  pub ordered : are_in_order batches ≡ true
  pub last : parts.last ≡ last_number batches
  pub current : parts.current ≡ map_at batches (last_number batches)
  pub tail : log_tail parts.log ≡ []

module _ {D : Type 0} (d : Ghosts D) (mid : D) (start : Start) (logs : List Held) (n : ℕ) (header : Header) (own : IsNextHeader start header) (has : HasRecorded d mid start logs n) where
  next_is : first_log start.profile (opened start n).edits + length logs ≡ n
  next_is = let first = opened_first start.profile start.edits n in omega (arith, first, has.next)

  within_next : IsWithin (bounds_of start.profile (opened start n).edits) header
  within_next = let last = opened_session start.profile start.edits n in (own.profile, omega (arith, own.session, last))

  -- while the next log is created, a crash leaves the base
  create_leaves : (new : D) → IsTrue d.tells → IsTrue start.honest → Follows (In (Log n) (Creates (Log n) header)) (d.may_leave mid) (d.left_since new (d.moment mid))
      → (image : Image) → d.left_since new (d.moment mid) image → StandsBeside start.profile start.base start.edits n image
  create_leaves new told sure follows image left =
      let from = follows image left in
      inr (stands_created start.profile start.base (opened start n).edits logs from.0 image n header (has.stands told sure from.0 from.1) next_is within_next from.2)

  -- then the store is at rest
  create_rests : (new : D) (session : ℕ) (log : LogFile) → IsTrue d.tells → header.session ≡ session → HasCreated d mid new n header log → Rests d new log session (opened start n)
  create_rests new session log told owned call = record {
    logs = logs;
    current = fresh header;
    spelled = spells_one_more logs header start.base has.spelled;
    file = call.file ∙ ap Log (sym next_is);
    owned = owned;
    ready = call.ready;
    stands = λ sure image left.
        let from = call.images image (call.counts image left) in
        let here : IsLog (Log n) header [] (image (Log n)) = subst (λ (f : JournalFile). IsLog f header [] (image f)) call.file
        (subst (λ b. IsLog (log_file log) header [] b) (sym (call.ready.kept image left)) call.ready.form) in
        stands_made start.profile start.base (opened start n).edits logs from.0 image n header (has.stands told sure from.0 from.1) next_is within_next from.2.elsewhere here;
  }

  -- behind the logs that were read, with the next one, the parts have the opening's base
  pub is_begun : (parts : Parts D) → header.session ≡ parts.session → AreOfBatches parts start.base
      → Elapses (d.moment mid) (d.moment parts.journal) (d.left_since mid) (d.left_since parts.journal) → d.faults mid ≤ d.faults parts.journal
      → (IsTrue d.tells → HasCreated d mid parts.journal n header parts.log) → IsBegun d parts start n
  is_begun parts owned are time later call = record {
    began = omega (arith, has.began, time.later);
    counted = omega (arith, has.counted, later);
    ordered = are.ordered;
    last = are.last;
    current = are.current;
    tail = are.tail;
    past = λ told sure image left. elim (time.nothing_else start.moment image has.began left) [
      | inl before ↦ has.past told sure image before
      | inr during ↦ create_leaves parts.journal told sure (call told).images image during
    ];
    rests = λ told. create_rests parts.journal parts.session parts.log told owned (call told);
  }
