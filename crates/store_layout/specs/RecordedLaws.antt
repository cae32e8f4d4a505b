-- How an image stands for a record, and what an opening makes of it.
use Rattle.std.specs.Prelude.{◌≡◌, ◌≢◌, ◌⊎◌, ℕ, suc, ◌+◌, ◌-◌, ◌*◌, ◌^◌, ◌≤◌, true, false, ◌&&◌, Bool, List, [], ◌∷◌, ◌++◌, length, Option, refl, nat_lt, nat_le}
use Rattle.std.specs.List.{AllByRecursion}
use Rattle.std.proofs.Common.{sym, ap, ◌∙◌, subst, arith, inl, inr, length-append}
use Rattle.std.proofs.lemmas.Bool.{and_from, and_parts, lt-ltb, le-leb}
use Rattle.peb_base.specs.declared.profile.Profile.{Profile}
use Rattle.peb_base.specs.declared.op.Op.{Op}
use Rattle.peb_base.specs.Profiles.{column, Column}
use Rattle.peb_base.specs.Batches.{Batches, are_in_order}
use Rattle.disk_model.specs.declared.journal_file.JournalFile.{JournalFile}
use Rattle.disk_model.specs.declared.journal_file.JournalFile.TheVariants.{Log, ManifestA}
use Rattle.disk_model.specs.Images.{Image, In}
use Rattle.record_log.specs.declared.header.Header.{Header}
use Rattle.record_log.specs.BatchRecord.{IsBatch}
use Rattle.record_log.specs.Crash.{Creates}
use Rattle.record_log.specs.Log.{IsLog, IsUnfinished}
use Rattle.flsm_model.specs.declared.edit.Edit.{Edit}
use Rattle.flsm_model.specs.declared.edit.Edit.TheVariants.{Open, Flush, Move, Cut, Merge}
use Rattle.flsm_model.specs.Fits.{fits, fit_from, is_legal_record}
use Rattle.flsm_model.specs.Shape.{Record, Shape, empty_shape, shape_after, shape_from, shape_of}
use Rattle.manifest.specs.Manifests.{IsManifest, manifest_header, edit_groups}
use Rattle.store_layout.specs.LogFacts.{OneLog, Finished, OneBatch}
use Rattle.store_layout.specs.LogLaws.{logs_differ, below, above, holds_same, holds_changed, holds_begun, holds_next, holds_end}
use Rattle.store_layout.specs.Logs.{Held, HoldsLogs, SpellsAll, IsBatchIn}
use Rattle.store_layout.specs.OneReading.{same_logs, spells_one}
use Rattle.store_layout.specs.SpelledLaws.{fresh, spells_one_more}
use Rattle.store_layout.specs.Recorded.{HoldsRecord, session_of_record, first_log, next_opening, IsOpening, AreOpenings, Bounds, bounds_of, IsWithin, AreWithin, ReadsBy, SameStore, Lies, StandsBy, StandsFor}

-- ---- lists

-- one element more
pub all_push : {X : Type 0} (P : X → Type 0) (xs : List X) (x : X) → AllByRecursion P xs → P x
    → AllByRecursion P (xs ++ x ∷ [])
all_push P [] x all here = (here, tt)
all_push P (y ∷ xs) x all here = (all.0, all_push P xs x all.1 here)

-- two lists joined
all_join : {X : Type 0} (P : X → Type 0) (xs ys : List X) → AllByRecursion P xs
    → AllByRecursion P ys → AllByRecursion P (xs ++ ys)
all_join P [] ys first second = second
all_join P (x ∷ xs) ys first second = (first.0, all_join P xs ys first.1 second)

-- ---- records

shape_push : (s : Shape) (r : Record) (e : Edit)
    → shape_from s (r ++ e ∷ []) ≡ shape_after (shape_from s r) e
shape_push s [] e = refl
shape_push s (x ∷ r) e = shape_push (shape_after s x) r e

fit_more : (o : Column) (s : Shape) (r : Record) (e : Edit) → fit_from o s r ≡ true
    → fit_from o s (r ++ e ∷ []) ≡ fits o (shape_from s r) e
fit_more o s [] e legal = alone (fits o s e)
  where
    alone : (b : Bool) → (b && true) ≡ b
    alone true = refl
    alone false = refl
fit_more o s (x ∷ r) e legal =
    let parts = and_parts (fits o s x) (fit_from o (shape_after s x) r) legal in
    rw parts.0 (fit_more o (shape_after s x) r e parts.1)

-- openings leave the first log
opens_stay : (s : Shape) (edits : Record) → AreOpenings edits → (shape_from s edits).log ≡ s.log
opens_stay s [] all = refl
opens_stay s (Open session log ∷ edits) all =
    opens_stay (shape_after s (Open session log)) edits all.1
opens_stay s (Flush row from to log chosen ∷ edits) all = absurd all.0
opens_stay s (Move level floor inputs outputs ∷ edits) all = absurd all.0
opens_stay s (Cut level keys inputs outputs ∷ edits) all = absurd all.0
opens_stay s (Merge floor whole inputs outputs ∷ edits) all = absurd all.0

-- a record of openings alone asks for all logs
pub openings_first : (profile : Profile) (edits : Record) → AreOpenings edits
    → first_log profile edits ≡ 1
openings_first profile edits all = opens_stay (empty_shape (column profile)) edits all

-- an opening behind a record has its session, and leaves the first log
pub opened_bounds : (profile : Profile) (edits : Record) (session log : ℕ)
    → bounds_of profile (edits ++ Open session log ∷ []) ≡ record {
      profile = profile;
      first = first_log profile edits;
      session = session;
    }
opened_bounds profile edits session log =
    ap (λ (s : Shape). record { profile = profile; first = s.log; session = s.session })
    (shape_push (empty_shape (column profile)) edits (Open session log))

-- the next opening fits, where its first log isn't too far
pub legal_opening : (profile : Profile) (edits : Record) (session log : ℕ)
    → is_legal_record (column profile) edits ≡ true
    → session ≡ session_of_record profile edits + 1 → first_log profile edits ≤ log → 1 ≤ log
    → log ≤ session_of_record profile edits * 2 ^ 41 + 1
    → is_legal_record (column profile) (edits ++ Open session log ∷ []) ≡ true
legal_opening profile edits session log legal next from some room =
    let s = shape_of (column profile) edits in
    let a : nat_lt s.session session ≡ true = lt-ltb s.session session (omega (arith, next)) in
    let b : nat_le s.log log ≡ true = le-leb s.log log from in
    let c : nat_le 1 log ≡ true = le-leb 1 log some in
    let d : nat_le log ((session - 1) * 2 ^ 41 + 1) ≡ true =
    le-leb log ((session - 1) * 2 ^ 41 + 1) (omega (arith, room, next)) in
    fit_more (column profile) (empty_shape (column profile)) edits (Open session log) legal
    ∙ and_from _ _ (and_from _ _ (and_from _ _ a b) c) d

-- ---- logs

-- logs within bounds are within those of a later session
pub within_later : (a b : Bounds) (logs : List Held) → b.profile ≡ a.profile
    → a.session ≤ b.session → AreWithin a logs → AreWithin b logs
within_later a b [] same later all = tt
within_later a b (log ∷ logs) same later all = (
  (all.0.0 ∙ sym same, omega (arith, all.0.1, later)),
  within_later a b logs same later all.1,
)

-- another log with the header of the last
within_last : (bounds : Bounds) (logs : List Held) (log log' : Held) → log'.header ≡ log.header
    → AreWithin bounds (logs ++ log ∷ []) → AreWithin bounds (logs ++ log' ∷ [])
within_last bounds [] log log' same all = (subst (IsWithin bounds) (sym same) all.0, tt)
within_last bounds (x ∷ logs) log log' same all =
    (all.0, within_last bounds logs log log' same all.1)

-- each batch that logs spell is within its limits
pub spelled_each : (logs : List Held) (batches : Batches) → SpellsAll logs batches
    → AllByRecursion (λ (b : ℕ × List Op). IsBatch b.0 b.1) batches
spelled_each [] batches none =
    subst (AllByRecursion (λ (b : ℕ × List Op). IsBatch b.0 b.1)) (sym none) tt
spelled_each (log ∷ logs) batches (own, rest, is, spells, more) =
    subst (AllByRecursion (λ (b : ℕ × List Op). IsBatch b.0 b.1)) (sym is)
    (all_join (λ (b : ℕ × List Op). IsBatch b.0 b.1) own rest
    (limits log.header.session own spells.each) (spelled_each logs rest more))
  where
    limits : (session : ℕ) (bs : Batches) → AllByRecursion (IsBatchIn session) bs
        → AllByRecursion (λ (b : ℕ × List Op). IsBatch b.0 b.1) bs
    limits session [] all = tt
    limits session (b ∷ bs) all = (all.0.batch, limits session bs all.1)

-- ---- one reading

-- a manifest holds one list of edits
abbrev pub OneManifest : Type 0
OneManifest = (found : Option (List ℕ)) (a b : Profile) (first second : Record)
    → IsManifest a first found → IsManifest b second found → (a ≡ b) × (first ≡ second)

-- the same edits, in one profile where there are any
pub record SameRecord (profile other : Profile) (a b : Record) : Type 0 where
  pub edits : a ≡ b
  pub profiles : (profile ≡ other) ⊎ (a ≡ [])

-- a file holds one record
same_record : Finished → OneManifest → (profile other : Profile) (a b : Record)
    (found : Option (List ℕ)) → HoldsRecord profile a found → HoldsRecord other b found
    → SameRecord profile other a b
same_record fin one profile other a b found (inl x) (inl y) =
    record { edits = x.1 ∙ sym y.1; profiles = inr x.1 }
same_record fin one profile other a b found (inl x) (inr y) =
    absurd (fin ManifestA found (manifest_header other) (edit_groups b) y.log x.0)
same_record fin one profile other a b found (inr x) (inl y) =
    absurd (fin ManifestA found (manifest_header profile) (edit_groups a) x.log y.0)
same_record fin one profile other a b found (inr x) (inr y) =
    let same = one found profile other a b x y in
    record { edits = same.1; profiles = inl same.0 }

pub one_record : Finished → OneManifest → (profile : Profile) (a b : Record)
    (found : Option (List ℕ)) → HoldsRecord profile a found → HoldsRecord profile b found → a ≡ b
one_record fin one profile a b found x y =
    (same_record fin one profile profile a b found x y).edits

-- so it asks for the same first log
same_first : (profile other : Profile) (a b : Record) → SameRecord profile other a b
    → first_log profile a ≡ first_log other b
same_first profile other a b same = elim same.profiles [
  | inl is ↦ ap (λ (p : Profile). first_log p a) is ∙ ap (first_log other) same.edits
  | inr none ↦ ap (first_log profile) none ∙ sym (ap (first_log other) (sym same.edits ∙ none))
]

-- an image is read in one way, whatever the profile
pub one_store : Finished → OneLog → OneBatch → OneManifest
    → (profile other : Profile) (image : Image) (d e : Record) (a b : List Held) (x y : Batches)
    → ReadsBy profile d image a x → ReadsBy other e image b y → SameStore d e a b x y
one_store fin one batch manifest profile other image d e a b x y ra rb =
    let same = same_record fin manifest profile other d e (image ManifestA) ra.recorded rb.recorded in
    let there : HoldsLogs (first_log other e) a image =
    subst (λ (n : ℕ). HoldsLogs n a image) (same_first profile other d e same) ra.read.holds in
    let logs : a ≡ b = same_logs fin one (first_log other e) image a b there rb.read.holds in
    record {
      edits = same.edits;
      logs = logs;
      batches = spells_one batch b x y
          (subst (λ (l : List Held). SpellsAll l x) logs ra.read.spelled) rb.read.spelled;
    }

-- ---- what an image stands for

-- an image with the same logs stands for a later record that it holds
pub stands_recorded : (profile : Profile) (batches : Batches) (old new : Record) (logs : List Held)
    (before image : Image) → StandsBy profile batches old logs before
    → ((m : ℕ) → image (Log m) ≡ before (Log m)) → HoldsRecord profile new (image ManifestA)
    → is_legal_record (column profile) new ≡ true → AreOpenings new
    → session_of_record profile old ≤ session_of_record profile new
    → StandsBy profile batches new logs image
stands_recorded profile batches old new logs before image s same holds legal openings later =
    let first : first_log profile old ≡ first_log profile new =
    openings_first profile old s.openings ∙ sym (openings_first profile new openings) in
    record {
      openings = openings;
      each = s.each;
      reads = record {
        recorded = holds;
        legal = legal;
        read = record {
          holds = subst (λ (n : ℕ). HoldsLogs n logs image) first
              (holds_same (first_log profile old) logs before image (λ m le. same m)
              s.reads.read.holds);
          within = within_later (bounds_of profile old) (bounds_of profile new) logs refl later
              s.reads.read.within;
          spelled = s.reads.read.spelled;
          ordered = s.reads.read.ordered;
        };
      };
      oldest = s.oldest;
      lies = record {
        some = s.lies.some;
        before = omega (arith, s.lies.before, first);
        none_below = λ m low. same m ∙ s.lies.none_below m low;
        older = λ m from low is. s.lies.older m from (omega (arith, low, first)) (sym (same m) ∙ is);
        none_above = λ m high. same m ∙ s.lies.none_above m (omega (arith, high, first));
      };
    }

manifest_no_log : (n : ℕ) → ManifestA ≢ Log n
manifest_no_log n e = cc

-- an image that is another one but for the log of a number
abbrev pub DiffersIn : ℕ → Image → Image → Type 0
DiffersIn n before image = (other : JournalFile) → other ≢ Log n → image other ≡ before other

-- it has the same record
recorded_beside : (profile : Profile) (edits : Record) (n : ℕ) (before image : Image)
    → DiffersIn n before image → HoldsRecord profile edits (before ManifestA)
    → HoldsRecord profile edits (image ManifestA)
recorded_beside profile edits n before image else holds =
    subst (HoldsRecord profile edits) (sym (else ManifestA (manifest_no_log n))) holds

-- it has the same logs below that, and none above
lies_beside : (first oldest n : ℕ) (logs more : List Held) (before image : Image)
    → DiffersIn n before image → first ≤ n → n ≤ first + length more → length logs ≤ length more
    → Lies first oldest logs before → Lies first oldest more image
lies_beside first oldest n logs more before image else from to longer lies = record {
  some = lies.some;
  before = lies.before;
  none_below = λ m low. else (Log m) (logs_differ m n (below m n (omega (arith, low, from, lies.before))))
      ∙ lies.none_below m low;
  older = λ m least low is. lies.older m least low
      (sym (else (Log m) (logs_differ m n (below m n (omega (arith, low, from))))) ∙ is);
  none_above = λ m high. else (Log m) (logs_differ m n (above m n (omega (arith, high, to))))
      ∙ lies.none_above m (omega (arith, high, longer));
}

-- an image in which the last log has other groups stands for the batches that they spell
pub stands_changed : (profile : Profile) (old new : Batches) (edits : Record) (before image : Image)
    (n : ℕ) (logs : List Held) (log log' : Held)
    → StandsBy profile old edits (logs ++ log ∷ []) before → first_log profile edits + length logs ≡ n
    → log'.header ≡ log.header → DiffersIn n before image
    → IsLog (Log n) log'.header log'.groups (image (Log n)) → SpellsAll (logs ++ log' ∷ []) new
    → are_in_order new ≡ true → StandsBy profile new edits (logs ++ log' ∷ []) image
stands_changed profile old new edits before image n logs log log' s at header else made spells ordered =
    let first : ℕ = first_log profile edits in
    let size = length-append logs (log ∷ []) in
    let size' = length-append logs (log' ∷ []) in
    record {
      openings = s.openings;
      each = spelled_each (logs ++ log' ∷ []) new spells;
      reads = record {
        recorded = recorded_beside profile edits n before image else s.reads.recorded;
        legal = s.reads.legal;
        read = record {
          holds = holds_changed first n logs log log' before image at
              (λ m le differ. else (Log m) (logs_differ m n differ)) made s.reads.read.holds;
          within = within_last (bounds_of profile edits) logs log log' header s.reads.read.within;
          spelled = spells;
          ordered = ordered;
        };
      };
      oldest = s.oldest;
      lies = lies_beside first s.oldest n (logs ++ log ∷ []) (logs ++ log' ∷ []) before image else
          (omega (arith, at)) (omega (arith, at, size')) (omega (arith, size, size')) s.lies;
    }

-- an image in which the next log was made stands for what it stood for, by one log more
pub stands_made : (profile : Profile) (batches : Batches) (edits : Record) (logs : List Held)
    (before image : Image) (n : ℕ) (header : Header) → StandsBy profile batches edits logs before
    → first_log profile edits + length logs ≡ n → IsWithin (bounds_of profile edits) header
    → DiffersIn n before image → IsLog (Log n) header [] (image (Log n))
    → StandsBy profile batches edits (logs ++ fresh header ∷ []) image
stands_made profile batches edits logs before image n header s at within else made =
    let first : ℕ = first_log profile edits in
    let size = length-append logs (fresh header ∷ []) in
    record {
      openings = s.openings;
      each = s.each;
      reads = record {
        recorded = recorded_beside profile edits n before image else s.reads.recorded;
        legal = s.reads.legal;
        read = record {
          holds = holds_next first n logs (fresh header) before image at
              (λ m le differ. else (Log m) (logs_differ m n differ))
              (s.lies.none_above (suc n) (omega (arith, at))) made s.reads.read.holds;
          within = all_push (λ (log : Held). IsWithin (bounds_of profile edits) log.header) logs
              (fresh header) s.reads.read.within within;
          spelled = spells_one_more logs header batches s.reads.read.spelled;
          ordered = s.reads.read.ordered;
        };
      };
      oldest = s.oldest;
      lies = lies_beside first s.oldest n logs (logs ++ fresh header ∷ []) before image else
          (omega (arith, at)) (omega (arith, at, size)) (omega (arith, size)) s.lies;
    }

-- one in which it was begun stands for it by the same logs
stands_begun : (profile : Profile) (batches : Batches) (edits : Record) (logs : List Held)
    (before image : Image) (n : ℕ) → StandsBy profile batches edits logs before
    → first_log profile edits + length logs ≡ n → DiffersIn n before image
    → IsUnfinished (image (Log n)) → StandsBy profile batches edits logs image
stands_begun profile batches edits logs before image n s at else unfinished = record {
  openings = s.openings;
  each = s.each;
  reads = record {
    recorded = recorded_beside profile edits n before image else s.reads.recorded;
    legal = s.reads.legal;
    read = record {
      holds = holds_begun (first_log profile edits) n logs before image at
          (λ m le differ. else (Log m) (logs_differ m n differ)) unfinished s.reads.read.holds;
      within = s.reads.read.within;
      spelled = s.reads.read.spelled;
      ordered = s.reads.read.ordered;
    };
  };
  oldest = s.oldest;
  lies = lies_beside (first_log profile edits) s.oldest n logs logs before image else
      (omega (arith, at)) (omega (arith, at)) (omega arith) s.lies;
}

-- while its next log is created, the image stands for what it stood for
pub stands_created : (profile : Profile) (batches : Batches) (edits : Record) (logs : List Held)
    (before image : Image) (n : ℕ) (header : Header) → StandsBy profile batches edits logs before
    → first_log profile edits + length logs ≡ n → IsWithin (bounds_of profile edits) header
    → In (Log n) (Creates (Log n) header) before image → StandsFor profile batches edits image
stands_created profile batches edits logs before image n header s at within step =
    elim step.here [
      | inl stays ↦ same (subst IsUnfinished (sym stays)
          (holds_end (first_log profile edits) n logs before at s.reads.read.holds))
      | inr more ↦ elim more [
        | inl unfinished ↦ same unfinished
        | inr made ↦ record {
          logs = logs ++ fresh header ∷ [];
          by = stands_made profile batches edits logs before image n header s at within
              step.elsewhere made;
        }
      ]
    ]
  where
    same : IsUnfinished (image (Log n)) → StandsFor profile batches edits image
    same unfinished = record {
      logs = logs;
      by = stands_begun profile batches edits logs before image n s at step.elsewhere unfinished;
    }

-- ---- the next opening

-- an image that records the next opening stands for the record with the opening, by the same logs
pub stands_opened : (profile : Profile) (batches : Batches) (edits : Record) (logs : List Held)
    (before image : Image) (log : ℕ) → StandsBy profile batches edits logs before
    → ((m : ℕ) → image (Log m) ≡ before (Log m))
    → IsManifest profile (edits ++ next_opening profile edits log ∷ []) (image ManifestA)
    → 1 ≤ log → log ≤ session_of_record profile edits * 2 ^ 41 + 1
    → StandsBy profile batches (edits ++ next_opening profile edits log ∷ []) logs image
stands_opened profile batches edits logs before image log s same holds some room =
    let session = session_of_record profile edits + 1 in
    let bounds = opened_bounds profile edits session log in
    let now : session_of_record profile (edits ++ Open session log ∷ []) ≡ session =
    ap (λ (b : Bounds). b.session) bounds in
    let first = openings_first profile edits s.openings in
    stands_recorded profile batches edits (edits ++ Open session log ∷ []) logs before image s same
    (inr holds)
    (legal_opening profile edits session log s.reads.legal refl (omega (arith, first, some)) some
    room)
    (all_push IsOpening edits (Open session log) s.openings tt) (omega (arith, now))
