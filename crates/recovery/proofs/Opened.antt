-- What an opening makes of what it read.
use Rattle.std.proofs.Common.{◌≡◌, ◌⊎◌, ℕ, ◌+◌, ◌*◌, ◌^◌, ◌<◌, ◌≤◌, Bool, true, false, IsTrue, List, [], ◌∷◌, ◌++◌, length, None, refl, sym, ap, ◌∙◌, subst, arith, inl, inr, append_assoc, length-append}
use Rattle.peb_base.specs.Batches.{Batches, last_number}
use Rattle.peb_base.specs.declared.profile.Profile.{Profile}
use Rattle.disk_model.specs.declared.journal.Journal.{Ghosts}
use Rattle.disk_model.specs.declared.journal_file.JournalFile.TheVariants.{Log, ManifestA}
use Rattle.disk_model.specs.Images.{Image, Elapses, Follows}
use Rattle.disk_model.specs.Told.{told_by}
use Rattle.flsm_model.specs.Shape.{Record, Shape}
use Rattle.manifest.specs.Manifests.{IsManifest}
use Rattle.store_layout.specs.Fronts.{IsFront}
use Rattle.store_layout.specs.LogFacts.{OneLog, Finished, OneBatch}
use Rattle.store_layout.specs.LogLaws.{holds_upto, logs_differ, below}
use Rattle.store_layout.specs.Logs.{Held}
use Rattle.store_layout.specs.Recorded.{first_log, session_of_record, next_opening, HoldsRecord, ReadsBy, SameStore, StandsBy, StandsFor, StandsBeside}
use Rattle.store_layout.specs.RecordedLaws.{OneManifest, one_record, one_store}
use Rattle.flsm_core.specs.declared.state.State.{State}
use Rattle.flsm_core.specs.Place.{Start, opened, start_at}
use Rattle.flsm_core.specs.Standing.{IsAt}
use Rattle.flsm_core.specs.State.{state_session, state_file}
use Rattle.recovery.specs.declared.looked.Looked.{Looked}
use Rattle.recovery.specs.Looking.{Stored, HasLooked, stored_of, HasRead}
use Rattle.recovery.specs.Opened.{OpensBy, OpenedOn, HasOlder}
use Rattle.recovery.specs.Opening.{HasWatched}
use Rattle.recovery.specs.Range.{Range, GoesOn, IsIn, AreIn}
use Rattle.recovery.specs.Session.{IsBeginning}
use Rattle.recovery.proofs.Begins.{IsNext, is_next, beginning_stands}
use Rattle.recovery.proofs.Sessions.{log_no_manifest}

-- what the laws of logs and manifests say
pub record Facts : Type 0 where
  pub fin : Finished
  pub one : OneLog
  pub batch : OneBatch
  pub manifest : OneManifest

-- ---- what was read

-- the image stands for what is stored
abbrev pub StandsAs : Profile → Stored → Image → Type 0
StandsAs profile stored image = StandsBy profile stored.batches stored.edits stored.logs image

-- what stands for the one stands for the other, where these are the same
same_by : (profile : Profile) (d e : Record) (a b : List Held) (x y : Batches) (image : Image) → SameStore d e a b x y → StandsBy profile x d a image → StandsBy profile y e b image
same_by profile d e a b x y image same stands =
    subst (λ (l : List Held). StandsBy profile y e l image) same.logs
    (subst (λ (r : Record). StandsBy profile y r a image) same.edits
    (subst (λ (c : Batches). StandsBy profile c d a image) same.batches stands))

-- each image after the reading is read so
pub reads_image : {D : Type 0} (d : Ghosts D) (journal : D) (profile : Profile) (looked : Looked) (stored : Stored) → HasLooked d journal profile looked stored → IsTrue d.tells
    → (image : Image) → d.may_leave journal image → ReadsBy profile stored.edits image stored.logs stored.batches
reads_image d journal profile looked stored looks told image left =
    let r = looks.reads told in
    let next : looked.read.next ≡ first_log profile stored.edits + length stored.logs = looks.logs.next in
    record {
      recorded = subst (HoldsRecord profile stored.edits) (sym (looks.record_kept image left)) r.recorded;
      legal = r.legal;
      read = record {
        holds = holds_upto (first_log profile stored.edits) stored.logs (d.seen journal) image
            (λ m from to. looks.logs_kept m from (omega (arith, to, next)) image left) r.read.holds;
        within = r.read.within;
        spelled = r.read.spelled;
        ordered = r.read.ordered;
      };
    }

-- so an image that stands for something stands for it
pub as_stored : Facts → (profile : Profile) (stored : Stored) (image : Image) → ReadsBy profile stored.edits image stored.logs stored.batches → (b : Batches) (e : Record) → StandsFor profile b e image → StandsAs profile stored image
as_stored f profile stored image r b e s =
    same_by profile e stored.edits s.logs stored.logs b stored.batches image (one_store f.fin f.one f.batch f.manifest profile profile image e stored.edits s.logs stored.logs b stored.batches s.by.reads r) s.by

-- ---- the whole opening

-- an opening that began with the one journal read it, up to the next one, and then began a session
pub record Opens {D : Type 0} (d : Ghosts D) (old mid new : D) (profile : Profile) (looked : Looked) (stored : Stored) : Type 0 where
  pub told : IsTrue d.tells
  pub watched : HasWatched (told_by d old) (told_by d mid)
  pub looks : HasLooked d mid profile looked stored
  pub counts : (image : Image) → d.may_leave mid image → d.left_since mid (d.moment old) image
  pub read : d.may_leave old (d.seen old)
  pub time : Elapses (d.moment mid) (d.moment new) (d.left_since mid) (d.left_since new)
  pub follows : Follows (IsBeginning profile stored.edits looked.read.next) (d.may_leave mid) (d.left_since new (d.moment mid))

module _ (f : Facts) {D : Type 0} (d : Ghosts D) (old mid new : D) (profile : Profile) (looked : Looked) (stored : Stored) (o : Opens d old mid new profile looked stored) where
  next_one : IsNext profile stored.edits stored.logs looked.read.next
  next_one = is_next d mid profile looked stored o.looks

  -- what was read of the journal at the beginning
  pub read_first : ReadsBy profile stored.edits (d.seen old) stored.logs stored.batches
  read_first = subst (λ (i : Image). ReadsBy profile stored.edits i stored.logs stored.batches) o.watched.seen (o.looks.reads o.told)

  -- it is what an image stands for that is read so
  pub first_same : (b : Batches) (e : Record) (logs : List Held) → ReadsBy profile e (d.seen old) logs b → SameStore stored.edits e stored.logs logs stored.batches b
  first_same b e logs reads = one_store f.fin f.one f.batch f.manifest profile profile (d.seen old) stored.edits e stored.logs logs stored.batches b read_first reads

  module _ (every : (image : Image) → d.may_leave old image → (b : Batches) × (e : Record) × StandsFor profile b e image) where
    -- each image after the reading stands for what was read
    pub mid_stands : (image : Image) → d.may_leave mid image → StandsAs profile stored image
    mid_stands image left =
        let e = every image (o.watched.each image (o.counts image left)) in
        as_stored f profile stored image (reads_image d mid profile looked stored o.looks o.told image left) e.0 e.1 e.2

    -- each image since the opening began is one from before, or stands for what was read
    pub since_stands : (image : Image) → d.left_since new (d.moment old) image → d.may_leave old image ⊎ StandsBeside profile stored.batches stored.edits looked.read.next image
    since_stands image left = elim (o.time.nothing_else (d.moment old) image o.watched.time.later left) [
      | inl past ↦ inl (o.watched.each image past)
      | inr during ↦
          let from = o.follows image during in
          inr (beginning_stands profile stored.batches stored.edits stored.logs looked.read.next next_one from.0 image (mid_stands from.0 from.1) from.2)
    ]

  -- the logs below those that were read are as they were, in each image after the reading
  pub since_older : (image : Image) → d.left_since new (d.moment old) image → d.may_leave old image ⊎ HasOlder profile (d.seen old) image
  since_older image left = elim (o.time.nothing_else (d.moment old) image o.watched.time.later left) [
    | inl past ↦ inl (o.watched.each image past)
    | inr during ↦
        let from = o.follows image during in
        let kept = o.looks.older_kept in
        let seen : d.seen mid ≡ d.seen old = o.watched.seen in
        inr (record {
          edits = stored.edits;
          recorded = read_first.recorded;
          low = kept.low;
          ended = subst (λ (i : Image). (kept.low ≡ 0) ⊎ (i (Log kept.low) ≡ None)) seen (kept.ended o.told);
          same = λ m low high. beside m (omega (arith, high, next_one.next)) from.0 image from.2 ∙ kept.kept m low high from.0 from.1 ∙ ap (λ (i : Image). i (Log m)) seen;
        })
  ]
    where
      beside : (m : ℕ) → m < looked.read.next → (before image : Image) → IsBeginning profile stored.edits looked.read.next before image → image (Log m) ≡ before (Log m)
      beside m low before image (inl recording) = recording.elsewhere (Log m) (log_no_manifest m)
      beside m low before image (inr making) =
          making.making.elsewhere (Log m) (logs_differ m looked.read.next (below m looked.read.next low)) ∙ making.recording.elsewhere (Log m) (log_no_manifest m)

-- ---- what the clauses ask for

-- what was read is the base that was asked for, and the opening has read it
pub record ReadSo {D : Type 0} (d : Ghosts D) (mid : D) (profile : Profile) (looked : Looked) (start : Start) (logs : List Held) : Type 0 where
  pub looks : HasLooked d mid profile looked (stored_of start logs)
  pub has : HasRead d mid start logs

-- what was stored, by other names of its record and its batches
looks_same : {D : Type 0} (d : Ghosts D) (mid : D) (profile : Profile) (looked : Looked) (stored : Stored) (e : Record) (b : Batches) → stored.edits ≡ e → stored.batches ≡ b → HasLooked d mid profile looked stored
    → HasLooked d mid profile looked (record { edits = e; logs = stored.logs; batches = b })
looks_same d mid profile looked stored e b edits batches looks =
    subst (λ (x : Batches). HasLooked d mid profile looked (record { edits = e; logs = stored.logs; batches = x })) batches
    (subst (λ (x : Record). HasLooked d mid profile looked (record { edits = x; logs = stored.logs; batches = stored.batches })) edits looks)

-- over images that may differ nothing is asked of the files
pub read_unsure : {D : Type 0} (d : Ghosts D) (mid : D) (start : Start) (logs : List Held) → start.moment ≤ d.moment mid → start.faults ≤ d.faults mid → start.honest ≡ false → HasRead d mid start logs
read_unsure d mid start logs began counted unsure = record {
  began = began;
  counted = counted;
  past = λ told sure. let no : true ≡ false = sym sure ∙ unsure in absurd (cc);
  stands = λ told sure. let no : true ≡ false = sym sure ∙ unsure in absurd (cc);
}

pub read_so : (f : Facts) {D : Type 0} (d : Ghosts D) (old mid new : D) (profile : Profile) (looked : Looked) (stored : Stored) → Opens d old mid new profile looked stored → d.faults old ≤ d.faults mid
    → (honest : Bool) (base : Batches) (edits : Record) → OpensBy profile edits honest base (told_by d old) → ReadSo d mid profile looked (start_at (told_by d old) profile honest base edits) stored.logs
read_so f d old mid new profile looked stored o later true base edits on =
    let s = on (d.seen old) o.read in
    let same = first_same f d old mid new profile looked stored o base edits s.logs s.by.reads in
    record {
      looks = looks_same d mid profile looked stored edits base same.edits same.batches o.looks;
      has = record {
        began = o.watched.time.later;
        counted = later;
        past = λ told sure image left. on image (o.watched.each image left);
        stands = λ told sure image left.
            same_by profile stored.edits edits stored.logs stored.logs stored.batches base image (record { edits = same.edits; logs = refl; batches = same.batches })
            (mid_stands f d old mid new profile looked stored o (λ image left. (base, edits, on image left)) image left);
      };
    }
read_so f d old mid new profile looked stored o later false base edits on =
    let same = first_same f d old mid new profile looked stored o base edits on.0 on.1 in
    record {
      looks = looks_same d mid profile looked stored edits base same.edits same.batches o.looks;
      has = read_unsure d mid (start_at (told_by d old) profile false base edits) stored.logs o.watched.time.later later refl;
    }

-- the state of a session that was begun behind it was opened so
pub opened_on : {D : Type 0} (d : Ghosts D) (mid : D) (profile : Profile) (looked : Looked) (start : Start) (logs : List Held) (state : State D) → start.profile ≡ profile
    → HasLooked d mid profile looked (stored_of start logs) → state_session state ≡ looked.recorded.shape.session + 1 → state_file state ≡ Log looked.read.next
    → IsAt d state (opened start looked.read.next) → OpenedOn d state start
opened_on d mid profile looked start logs state asked looks session file stands =
    let last : looked.read.replay.last ≡ last_number start.base = looks.logs.replay.last in
    let below : looked.read.replay.last < (looked.read.session + 1) * 2 ^ 40 = looked.read.within in
    record {
      log = looked.read.next;
      file = file;
      next = session ∙ ap (λ (s : Shape). s.session + 1) looks.shape.shape ∙ ap (λ (p : Profile). session_of_record p start.edits + 1) (sym asked);
      above = omega (arith, last, below, session, looked.same);
      stands = stands;
    }

-- each image since then stands for the base that was asked for
pub leaves_opening : (f : Facts) {D : Type 0} (d : Ghosts D) (old mid new : D) (profile : Profile) (looked : Looked) (stored : Stored) → Opens d old mid new profile looked stored
    → (base : Batches) (edits : Record) → ((image : Image) → d.may_leave old image → StandsFor profile base edits image)
    → (image : Image) → d.left_since new (d.moment old) image → StandsBeside profile base edits looked.read.next image
leaves_opening f d old mid new profile looked stored o base edits on image left =
    let every : (image : Image) → d.may_leave old image → (b : Batches) × (e : Record) × StandsFor profile b e image = λ image left. (base, edits, on image left) in
    let s = on (d.seen old) o.read in
    let same = first_same f d old mid new profile looked stored o base edits s.logs s.by.reads in
    elim (since_stands f d old mid new profile looked stored o every image left) [
      | inl past ↦ inl (on image past)
      | inr beside ↦ subst (λ (x : Record). StandsBeside profile base x looked.read.next image) same.edits
          (subst (λ (x : Batches). StandsBeside profile x stored.edits looked.read.next image) same.batches beside)
    ]

-- an image with the opening in its manifest stands for the record with it
pub stands_with : Facts → (profile : Profile) (base : Batches) (edits : Record) (n : ℕ) (image : Image) → StandsBeside profile base edits n image
    → IsManifest profile (edits ++ next_opening profile edits n ∷ []) (image ManifestA) → StandsFor profile base (edits ++ next_opening profile edits n ∷ []) image
stands_with f profile base edits n image (inl plain) with =
    let same = one_record f.fin f.manifest profile edits (edits ++ next_opening profile edits n ∷ []) (image ManifestA) plain.by.reads.recorded (inr with) in
    absurd (omega (arith, ap length same, length-append edits (next_opening profile edits n ∷ [])))
stands_with f profile base edits n image (inr opened) with = opened

-- ---- images that differ

-- what was read lies in the range
pub record ReadIn (range : Range) (stored : Stored) : Type 0 where
  pub enough : IsFront range.least stored.batches
  pub within : IsFront stored.batches range.all
  pub recorded : GoesOn range.edits stored.edits

-- what stands for it, and an opening behind it, is in the range
beside_in : (range : Range) (stored : Stored) (n : ℕ) (image : Image) → ReadIn range stored → StandsBeside range.profile stored.batches stored.edits n image → IsIn range image
beside_in range stored n image inside (inl plain) =
    record { batches = stored.batches; edits = stored.edits; enough = inside.enough; within = inside.within; recorded = inside.recorded; stands = plain }
beside_in range stored n image inside (inr with) =
    let edit = next_opening range.profile stored.edits n in
    record {
      batches = stored.batches;
      edits = stored.edits ++ edit ∷ [];
      enough = inside.enough;
      within = inside.within;
      recorded = (inside.recorded.0 ++ edit ∷ [], ap (λ (x : Record). x ++ edit ∷ []) inside.recorded.1 ∙ append_assoc range.edits inside.recorded.0 (edit ∷ []));
      stands = with;
    }

module _ (f : Facts) {D : Type 0} (d : Ghosts D) (old mid new : D) (profile : Profile) (looked : Looked) (stored : Stored) (o : Opens d old mid new profile looked stored)
    (range : Range) (asked : range.profile ≡ profile) (all : AreIn range (d.may_leave old)) where
  here : Opens d old mid new range.profile looked stored
  here = subst (λ (p : Profile). Opens d old mid new p looked stored) (sym asked) o

  every_in : (image : Image) → d.may_leave old image → (b : Batches) × (e : Record) × StandsFor range.profile b e image
  every_in image left = let s = all image left in (s.batches, s.edits, s.stands)

  pub range_read : ReadIn range stored
  range_read =
      let left = all (d.seen old) o.read in
      let same = first_same f d old mid new range.profile looked stored here left.batches left.edits left.stands.logs left.stands.by.reads in
      record {
        enough = subst (IsFront range.least) (sym same.batches) left.enough;
        within = subst (λ (b : Batches). IsFront b range.all) (sym same.batches) left.within;
        recorded = subst (GoesOn range.edits) (sym same.edits) left.recorded;
      }

  -- what was read at the beginning
  pub range_first : ReadsBy range.profile stored.edits (d.seen old) stored.logs stored.batches
  range_first = read_first f d old mid new range.profile looked stored here

  -- the opening has read as if it had begun with the journal after that
  pub range_has_read : ((image : Image) → d.left_since mid (d.moment mid) image → d.may_leave mid image) → HasRead d mid (start_at (told_by d mid) range.profile true stored.batches stored.edits) stored.logs
  range_has_read only =
      let stands = mid_stands f d old mid new range.profile looked stored here every_in in
      record {
        began = omega arith;
        counted = omega arith;
        past = λ told sure image left. record { logs = stored.logs; by = stands image (only image left) };
        stands = λ told sure. stands;
      }

  -- each image since the opening began is in the range
  pub all_in : AreIn range (d.left_since new (d.moment old))
  all_in image left = elim (since_stands f d old mid new range.profile looked stored here every_in image left) [
    | inl past ↦ all image past
    | inr beside ↦ beside_in range stored looked.read.next image range_read beside
  ]
