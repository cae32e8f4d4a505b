-- What is damaged is never read by a record.
use Rattle.std.proofs.Common.{◌≡◌, ℕ, ◌+◌, true, Bool, IsTrue, List, [], ◌∷◌, ◌++◌, length, Option, Some, sym, ap, ◌∙◌, subst, arith, inl, inr, append_assoc, refl, true≢false, length-append, ◌<◌}
use Rattle.peb_base.specs.Batches.{Batches, are_in_order}
use Rattle.std.proofs.lemmas.Bool.{and_from, and_parts}
use Rattle.peb_base.specs.declared.profile.Profile.{Profile}
use Rattle.peb_base.specs.Profiles.{column, Column}
use Rattle.disk_model.specs.declared.journal_file.JournalFile.{JournalFile}
use Rattle.flsm_model.specs.Fits.{fits, fit_from, is_legal_record}
use Rattle.manifest.specs.Manifests.{IsManifest, IsDamagedManifest, IsDamagedBehind, manifest_header, edit_groups}
use Rattle.disk_model.specs.declared.journal_file.JournalFile.TheVariants.{Log, ManifestA}
use Rattle.disk_model.specs.Images.{Image}
use Rattle.record_log.specs.Groups.{placed, groups_bytes}
use Rattle.record_log.specs.Header.{header_bytes}
use Rattle.record_log.specs.Log.{IsLog, IsUnfinished, IsDamaged, HasNoHeader}
use Rattle.flsm_model.specs.Shape.{Record, Shape, empty_shape, shape_after}
use Rattle.store_layout.specs.Fronts.{front_in_order}
use Rattle.store_layout.specs.LogFacts.{OneLog, Undamaged, Finished, OneBatch}
use Rattle.store_layout.specs.Logs.{Held, flat, HoldsLogs, AreRecords, SpellsAll}
use Rattle.store_layout.specs.OneReading.{same_held, goes, cut, spells_one}
use Rattle.store_layout.specs.Recorded.{Bounds, bounds_of, HoldsRecord, IsWithin, AreWithin, ReadsFrom}
use Rattle.store_layout.specs.RecordedLaws.{OneManifest, one_record}
use Rattle.recovery.specs.declared.open_fault.OpenFault.{OpenFault}
use Rattle.recovery.specs.declared.open_fault.OpenFault.TheVariants as opens
use Rattle.recovery.specs.Opening.{CantGoOn, IsOutOfForm}
use Rattle.recovery.specs.Reading.{IsForeign, IsMisplaced, IsDamagedLog, IsUnreadableIn, LogsCause, StoreCause}
use Rattle.recovery.specs.Record.{HoldsMisfit, IsDamagedRecord, RecordCause}
use Rattle.recovery.proofs.Founds.{bodies_placed}
use Rattle.recovery.proofs.Replays.{stopped_cant}

-- what is damaged was created to its end
abbrev DamageIsFinished : Type 0
DamageIsFinished = (file : JournalFile) (bytes : List ℕ) (at : ℕ) → IsDamaged file bytes at → IsUnfinished (Some bytes) → ⊥

-- a file with a manifest isn't damaged
abbrev UndamagedManifest : Type 0
UndamagedManifest = (found : Option (List ℕ)) (profile : Profile) (edits : Record) (at : ℕ) → IsManifest profile edits found → IsDamagedManifest found at → ⊥

-- logs behind others are within bounds
within_behind : (bounds : Bounds) (first more : List Held) → AreWithin bounds (first ++ more) → AreWithin bounds more
within_behind bounds [] more all = all
within_behind bounds (x ∷ first) more all = within_behind bounds first more all.1

-- a log that isn't in form
out_of_form : Undamaged → (n at : ℕ) (image : Image) → IsOutOfForm n at image → (more : List Held) → HoldsLogs n more image → ⊥
out_of_form un n at image (bytes, found, damaged) [] holds = short (subst IsUnfinished found holds)
  where
    short : IsUnfinished (Some bytes) → ⊥
    short (inl less) = omega (arith, less, damaged.long)
    short (inr closed) = closed damaged.made
out_of_form un n at image (bytes, found, damaged) (l ∷ more) holds = un (Log n) bytes l.header l.groups at (subst (λ b. IsLog (Log n) l.header l.groups b) found holds.0) damaged

-- one whose header isn't within bounds
foreign : Finished → OneLog → (bounds : Bounds) (n : ℕ) (image : Image) → IsForeign bounds n image → (more : List Held) → HoldsLogs n more image → AreWithin bounds more → ⊥
foreign fin one bounds n image (log, form, out) [] holds within = fin (Log n) (image (Log n)) log.header log.groups form holds
foreign fin one bounds n image (log, form, out) (l ∷ more) holds within =
    out (subst (IsWithin bounds) (one (Log n) (image (Log n)) l.header log.header l.groups log.groups holds.0 form).0 within.0)

-- one whose records can't go on
misplaced : Finished → OneLog → OneBatch → (bounds : Bounds) (batches : Batches) (n at : ℕ) (image : Image) → IsMisplaced bounds batches n at image → (more : List Held) (x y : Batches) → HoldsLogs n more image
    → x ≡ batches → SpellsAll more y → are_in_order (x ++ y) ≡ true → ⊥
misplaced fin one batch bounds batches n at image d [] x y holds same spells ordered = fin (Log n) (image (Log n)) d.log.header d.log.groups d.form holds
misplaced fin one batch bounds batches n at image d (l ∷ more) x y holds same (own, rest, is, these, others) ordered =
    let e = one (Log n) (image (Log n)) l.header d.log.header l.groups d.log.groups holds.0 d.form in
    let cant : CantGoOn d.log.header.session batches (flat d.log.groups) =
    subst (λ bodies. CantGoOn d.log.header.session batches bodies) (bodies_placed 24 d.log.groups) (stopped_cant batch d.log.header.session batches (placed 24 d.log.groups) at d.stops) in
    let whole : (batches ++ own) ++ rest ≡ x ++ y = append_assoc batches own rest ∙ ap (λ r. batches ++ r) (sym is) ∙ ap (λ r. r ++ y) (sym same) in
    cant own (subst (λ (h : Held). AreRecords h.header.session (flat h.groups) own) (same_held l d.log e) these) (front_in_order (batches ++ own) rest (ap are_in_order whole ∙ ordered))

-- an image with a damaged log isn't read within bounds
pub damaged_unread : Finished → OneLog → Undamaged → OneBatch → (bounds : Bounds) (n at : ℕ) (image : Image) → IsDamagedLog bounds n at image → (logs : List Held) (batches : Batches) → ReadsFrom bounds image logs batches → ⊥
damaged_unread fin one un batch bounds n at image d logs batches r =
    let g = goes fin one bounds.first d.logs logs image d.reads.begins r.holds in
    let c = cut d.logs g.more batches (subst (λ l. SpellsAll l batches) g.is r.spelled) in
    let holds : HoldsLogs n g.more image = subst (λ (k : ℕ). HoldsLogs k g.more image) (sym d.next) g.holds in
    elim d.damage [
      | inl form ↦ out_of_form un n at image form g.more holds
      | inr other ↦ elim other [
        | inl out ↦ foreign fin one bounds n image out.0 g.more holds (within_behind bounds d.logs g.more (subst (AreWithin bounds) g.is r.within))
        | inr placed ↦ misplaced fin one batch bounds d.batches n at image placed g.more c.fronts c.others holds (spells_one batch d.logs c.fronts d.batches c.spells_first d.reads.spelled) c.spells_second
            (sym (ap are_in_order c.is) ∙ r.ordered)
      ]
    ]

-- why logs weren't read is why a store wasn't, where this is its record
pub store_refused : Finished → OneLog → Undamaged → OneBatch → OneManifest → (rose : Type 0) (tells : Bool) (seen : Image) (profile : Profile) (edits : Record) (fault : OpenFault)
    → (IsTrue tells → HoldsRecord profile edits (seen ManifestA)) → LogsCause rose tells seen (bounds_of profile edits) fault → StoreCause rose tells seen profile fault
store_refused fin one un batch manifest rose tells seen profile edits opens.Journal holds cause = cause
store_refused fin one un batch manifest rose tells seen profile edits (opens.Damaged file at) holds (n, is, damage) = inr (
  n,
  is,
  λ told. (
    λ other logs batches reads. damaged_unread fin one un batch (bounds_of profile edits) n at seen (damage told) logs batches
        (subst (λ (r : Record). ReadsFrom (bounds_of profile r) seen logs batches) (one_record fin manifest profile other edits (seen ManifestA) reads.recorded (holds told)) reads.read),
    (edits, holds told, damage told),
  ),
)
store_refused fin one un batch manifest rose tells seen profile edits (opens.Profile have asked) holds cause = absurd cause
store_refused fin one un batch manifest rose tells seen profile edits (opens.Limit kind n) holds cause = absurd cause
store_refused fin one un batch manifest rose tells seen profile edits opens.Memory holds cause = tt

-- ---- a manifest that isn't a record

-- the first edits of a legal record are one
legal_front : (o : Column) (s : Shape) (r more : Record) → fit_from o s (r ++ more) ≡ true → fit_from o s r ≡ true
legal_front o s [] more legal = refl
legal_front o s (e ∷ r) more legal =
    let parts = and_parts (fits o s e) (fit_from o (shape_after s e) (r ++ more)) legal in
    and_from (fits o s e) (fit_from o (shape_after s e) r) parts.0 (legal_front o (shape_after s e) r more parts.1)

-- a file that is damaged behind edits was created to its end
behind_finished : Finished → (profile : Profile) (edits : Record) (found : Option (List ℕ)) (at : ℕ) → IsDamagedBehind profile edits found at → IsUnfinished found → ⊥
behind_finished fin profile edits found at d none =
    let header = manifest_header profile in
    let groups = edit_groups edits in
    let tail : length (groups_bytes groups ++ 1 ∷ d.rest) ≡ length (groups_bytes groups ++ 0 ∷ d.rest) =
    length-append (groups_bytes groups) (1 ∷ d.rest) ∙ sym (length-append (groups_bytes groups) (0 ∷ d.rest)) in
    let size : length (header_bytes header ++ groups_bytes groups ++ 1 ∷ d.rest) ≡ length (header_bytes header ++ groups_bytes groups ++ 0 ∷ d.rest) =
    length-append (header_bytes header) (groups_bytes groups ++ 1 ∷ d.rest) ∙ ap (λ (n : ℕ). length (header_bytes header) + n) tail
    ∙ sym (length-append (header_bytes header) (groups_bytes groups ++ 0 ∷ d.rest)) in
    let whole : IsUnfinished (Some (header_bytes header ++ groups_bytes groups ++ 1 ∷ d.rest)) =
    subst (λ (bytes : List ℕ). IsUnfinished (Some bytes)) d.splits.spelled (subst IsUnfinished d.holds none) in
    let closed : IsUnfinished (Some (header_bytes header ++ groups_bytes groups ++ 0 ∷ d.rest)) =
    elim whole [ inl short ↦ inl (subst (λ (n : ℕ). n < 25) size short) | inr shut ↦ inr shut ] in
    fin ManifestA (Some (header_bytes header ++ groups_bytes groups ++ 0 ∷ d.rest)) header groups
    (record {
      gate = 0;
      rest = d.rest;
      bytes = header_bytes header ++ groups_bytes groups ++ 0 ∷ d.rest;
      holds = refl;
      closed = λ e. omega (arith, e);
      splits = record { fits = d.splits.fits; each = d.splits.each; spelled = refl };
    })
    closed

-- nothing is read by a manifest that isn't in form, or whose edits don't fit one another
pub record_unread : Finished → DamageIsFinished → OneManifest → UndamagedManifest → (profile : Profile) (seen : Image) (at : ℕ) → IsDamagedRecord (seen ManifestA) at → IsUnreadableIn profile seen
record_unread fin long one un profile seen at damage edits logs batches reads = refused damage reads.recorded
  where
    misfit : (m : HoldsMisfit (seen ManifestA) at) → IsManifest m.profile (m.before ++ m.edit ∷ m.behind) (seen ManifestA) → IsManifest profile edits (seen ManifestA) → ⊥
    misfit m all holds =
        let same = one (seen ManifestA) profile m.profile edits (m.before ++ m.edit ∷ m.behind) holds all in
        let whole : fit_from (column m.profile) (empty_shape (column m.profile)) ((m.before ++ m.edit ∷ []) ++ m.behind) ≡ true =
        ap (is_legal_record (column m.profile)) (append_assoc m.before (m.edit ∷ []) m.behind ∙ sym same.1) ∙ ap (λ (p : Profile). is_legal_record (column p) edits) (sym same.0) ∙ reads.legal in
        true≢false (sym (legal_front (column m.profile) (empty_shape (column m.profile)) (m.before ++ m.edit ∷ []) m.behind whole) ∙ m.misfit)

    headless : HasNoHeader ManifestA (seen ManifestA) → IsUnfinished (seen ManifestA) → ⊥
    headless h none = elim (subst IsUnfinished h.holds none) [ inl short ↦ omega (arith, short, h.long) | inr shut ↦ shut h.made ]

    refused : IsDamagedRecord (seen ManifestA) at → HoldsRecord profile edits (seen ManifestA) → ⊥
    refused (inl h) (inl none) = headless h.1 none.0
    refused (inl h) (inr holds) = un (seen ManifestA) profile edits at holds (inl h)
    refused (inr (inl m)) (inl none) = elim m.begins [
      | inl all ↦ fin ManifestA (seen ManifestA) (manifest_header m.profile) (edit_groups (m.before ++ m.edit ∷ m.behind)) all.log none.0
      | inr more ↦ behind_finished fin m.profile (m.before ++ m.edit ∷ m.behind) (seen ManifestA) more.0 more.1 none.0
    ]
    refused (inr (inl m)) (inr holds) = elim m.begins [
      | inl all ↦ misfit m all holds
      | inr more ↦ un (seen ManifestA) profile edits more.0 holds (inr (m.profile, m.before ++ m.edit ∷ m.behind, more.1))
    ]
    refused (inr (inr d)) (inl none) = behind_finished fin d.0 d.1 (seen ManifestA) at d.2 none.0
    refused (inr (inr d)) (inr holds) = un (seen ManifestA) profile edits at holds (inr (d.0, d.1, d.2))

-- why a record wasn't read is why a store wasn't
pub store_unrecorded : Finished → DamageIsFinished → OneManifest → UndamagedManifest → (rose : Type 0) (tells : Bool) (seen : Image) (profile : Profile) (fault : OpenFault)
    → RecordCause rose tells (seen ManifestA) profile fault → StoreCause rose tells seen profile fault
store_unrecorded fin long one un rose tells seen profile opens.Journal cause = cause
store_unrecorded fin long one un rose tells seen profile (opens.Damaged file at) cause =
    inl (cause.0, λ told. (record_unread fin long one un profile seen at (cause.1 told), cause.1 told))
store_unrecorded fin long one un rose tells seen profile (opens.Profile have asked) cause = cause
store_unrecorded fin long one un rose tells seen profile (opens.Limit kind n) cause = cause
store_unrecorded fin long one un rose tells seen profile opens.Memory cause = tt
