-- What the edits of a manifest are folded to.
use Rattle.std.specs.Prelude.{IfSome, IfOk, IfErr, IsOk}
use Rattle.std.proofs.Common.{◌≡◌, ◌≢◌, ℕ, suc, ◌+◌, ◌<◌, ◌≤◌, Bool, true, false, IsTrue, List, [], ◌∷◌, ◌++◌, map, length, take, drop, get_or, Option, None, Some, Result, Ok, Err, refl, sym, ap, ◌∙◌, subst, arith, length-append, inl, inr}
use Rattle.std.proofs.lemmas.List.{take_more, take-append-drop, map-append as map_append}
use Rattle.std.proofs.Math.Seq.{drop-cons}
use Rattle.peb_base.specs.declared.profile.Profile.{Profile}
use Rattle.peb_base.specs.Profiles.{column, Column}
use Rattle.disk_model.specs.declared.journal.Journal.{Ghosts}
use Rattle.disk_model.specs.declared.journal_file.JournalFile.TheVariants.{ManifestA}
use Rattle.disk_model.specs.Images.{Image, Keeps}
use Rattle.record_log.specs.declared.log_fault.LogFault.{LogFault}
use Rattle.record_log.specs.declared.log_fault.LogFault.TheVariants as logs
use Rattle.record_log.specs.Damage.{AtDamage}
use Rattle.record_log.specs.Groups.{group_bytes, groups_bytes, placed}
use Rattle.record_log.specs.Log.{HasNoHeader, IsUnfinished}
use Rattle.flsm_model.specs.declared.edit.Edit.{Edit}
use Rattle.flsm_model.specs.Fits.{is_legal_record, IsShapeOf, GoesOn}
use Rattle.flsm_model.specs.Shape.{Record, Shape}
use Rattle.manifest.specs.Edits.{edit_bytes}
use Rattle.manifest.specs.declared.append_fault.AppendFault.{AppendFault}
use Rattle.manifest.specs.declared.append_fault.AppendFault.TheVariants as appends
use Rattle.manifest.specs.declared.manifest_file.Manifest.{Manifest}
use Rattle.manifest.specs.Manifests.{IsManifest, IsDamagedBehind, IsReadyManifest, IsUnspent, IsBeforeOrAfterEdit, CreatesManifest, edit_groups, edits_of, ArePlaced}
use Rattle.recovery.specs.declared.open_fault.OpenFault.{OpenFault}
use Rattle.recovery.specs.declared.open_fault.OpenFault.TheVariants as opens
use Rattle.recovery.specs.Record.{IsFirstMisfit, BeginsWithEdits, HoldsMisfit, FoldCause, RecordCause, IsReadyRecord, Records, RecordingCause, append_fault, record_fault, session_of_record}

-- ---- one edit more

-- the edits up to the next one
pub edits_step : (found : List (ℕ × Edit)) (i : ℕ) (item : ℕ × Edit) → i < length found → item ≡ get_or found i item → edits_of (take (i + 1) found) ≡ edits_of (take i found) ++ item.1 ∷ []
edits_step found i item lt is =
    ap edits_of (take_more found i item lt) ∙ map_append (λ (p : ℕ × Edit). p.1) (take i found) (get_or found i item ∷ []) ∙ ap (λ (p : ℕ × Edit). edits_of (take i found) ++ p.1 ∷ []) (sym is)

-- the edits before one, it, and those behind it
pub edits_split : (found : List (ℕ × Edit)) (i : ℕ) (item : ℕ × Edit) → i < length found → item ≡ get_or found i item → found ≡ take i found ++ item ∷ drop (suc i) found
edits_split found i item lt is =
    sym (take-append-drop i found) ∙ ap (λ r. take i found ++ r) (drop-cons found i item lt ∙ ap (λ (x : ℕ × Edit). x ∷ drop (suc i) found) (sym is))

-- an edit that was taken in
pub fold_on : (o : Column) (old new : Shape) (r : Record) (e : Edit) (taken : Bool) → GoesOn o old new e taken → taken ≡ true → IsShapeOf o old r → IsShapeOf o new (r ++ e ∷ [])
fold_on o old new r e true goes is shape = (goes r shape).1
fold_on o old new r e false goes is shape = absurd (cc)

-- one that wasn't
pub fold_refused : (o : Column) (old new : Shape) (r : Record) (e : Edit) (taken : Bool) → GoesOn o old new e taken → taken ≡ false → IsShapeOf o old r → is_legal_record o (r ++ e ∷ []) ≡ false
fold_refused o old new r e taken goes is shape = sym (goes r shape).0 ∙ is

-- the first edit that wasn't
pub first_misfit : (o : Column) (found : List (ℕ × Edit)) (i at : ℕ) (item : ℕ × Edit) → i < length found → item ≡ get_or found i item → at ≡ item.0
    → is_legal_record o (edits_of (take i found)) ≡ true → is_legal_record o (edits_of (take i found) ++ item.1 ∷ []) ≡ false → IsFirstMisfit o found at
first_misfit o found i at item lt is place legal misfit = record {
  before = take i found;
  edit = item.1;
  behind = drop (suc i) found;
  split = edits_split found i item lt is ∙ ap (λ (n : ℕ). take i found ++ (n, item.1) ∷ drop (suc i) found) (sym place);
  legal = legal;
  misfit = misfit;
}

-- ---- where it stands in the file

first_place : (x y : ℕ × List ℕ) (xs ys : List (ℕ × List ℕ)) → x ∷ xs ≡ y ∷ ys → x.0 ≡ y.0
first_place x y xs ys e = ap (λ (l : List (ℕ × List ℕ)). (get_or l 0 x).0) e

later_places : (x y : ℕ × List ℕ) (xs ys : List (ℕ × List ℕ)) → x ∷ xs ≡ y ∷ ys → xs ≡ ys
later_places x y xs ys e = ap (drop 1) e

-- the place of an edit is behind the groups of those before it
pub place_of : (from at : ℕ) (before : List (ℕ × Edit)) (edit : Edit) (behind : List (ℕ × Edit))
    → map (λ (p : ℕ × Edit). (p.0, edit_bytes p.1)) (before ++ (at, edit) ∷ behind) ≡ placed from (edit_groups (edits_of (before ++ (at, edit) ∷ behind)))
    → at ≡ from + length (groups_bytes (edit_groups (edits_of before)))
place_of from at [] edit behind is = omega (arith, first_place _ _ _ _ is)
place_of from at (p ∷ before) edit behind is =
    let group = edit_bytes p.1 ∷ [] in
    let rest = place_of (from + length (group_bytes group)) at before edit behind (later_places _ _ _ _ is) in
    omega (arith, rest, length-append (group_bytes group) (groups_bytes (edit_groups (edits_of before))))

-- so the file begins with it there
pub misfit_in : (have : Profile) (found : List (ℕ × Edit)) (at : ℕ) (file : Option (List ℕ)) → BeginsWithEdits have (edits_of found) file → ArePlaced found
    → IsFirstMisfit (column have) found at → HoldsMisfit file at
misfit_in have found at file begins placed first = record {
  profile = have;
  before = edits_of first.before;
  edit = first.edit;
  behind = edits_of first.behind;
  begins = subst (λ (es : Record). BeginsWithEdits have es file) (ap edits_of first.split ∙ map_append (λ (p : ℕ × Edit). p.1) first.before ((at, first.edit) ∷ first.behind)) begins;
  legal = first.legal;
  misfit = first.misfit;
  place = place_of 24 at first.before first.edit first.behind (subst ArePlaced first.split placed);
}

-- ---- causes

-- a fact on what a result holds
pub ok_of : {T E : Type 0} (r : Result T E) (x : T) (P : T → Type 0) → r ≡ Ok x → IfOk r P → P x
ok_of r x P is fact = subst (λ s. IfOk s P) is fact

-- a manifest that was read, and where it was damaged behind its edits, where the journal tells
pub record ReadUpTo (tells : Bool) (have : Profile) (edits : Record) (manifest : Result Manifest ℕ) (file : Option (List ℕ)) : Type 0 where
  pub whole : IfOk manifest (λ m. IsTrue tells → IsManifest have edits file)
  pub broken : IfErr manifest (λ at. IsTrue tells → IsDamagedBehind have edits file at)

begins_with : (tells : Bool) (have : Profile) (edits : Record) (manifest : Result Manifest ℕ) (file : Option (List ℕ)) → ReadUpTo tells have edits manifest file → IsTrue tells → BeginsWithEdits have edits file
begins_with tells have edits (Ok m) file read told = inl (read.whole told)
begins_with tells have edits (Err at) file read told = inr (at, read.broken told)

is_whole : (tells : Bool) (have : Profile) (edits : Record) (manifest : Result Manifest ℕ) (file : Option (List ℕ)) → ReadUpTo tells have edits manifest file → IsOk manifest → IsTrue tells → IsManifest have edits file
is_whole tells have edits (Ok m) file read ok told = read.whole told
is_whole tells have edits (Err at) file read ok told = absurd (let clash : ◌≡◌ {A = Bool} false true = ok in cc)

is_broken : (tells : Bool) (have : Profile) (edits : Record) (manifest : Result Manifest ℕ) (file : Option (List ℕ)) (at : ℕ) → ReadUpTo tells have edits manifest file → manifest ≡ Err at → IsTrue tells → IsDamagedBehind have edits file at
is_broken tells have edits manifest file at read is told =
    let own : IfErr {T = Manifest} (Err at) (λ a. IsTrue tells → IsDamagedBehind have edits file a) = subst (λ (r : Result Manifest ℕ). IfErr r (λ a. IsTrue tells → IsDamagedBehind have edits file a)) is read.broken in own told

pub fold_cause : (rose : Type 0) (tells : Bool) (file : Option (List ℕ)) (asked have : Profile) (found : List (ℕ × Edit)) (manifest : Result Manifest ℕ) (fault : OpenFault) → ReadUpTo tells have (edits_of found) manifest file → (IsTrue tells → ArePlaced found)
    → FoldCause asked have found manifest fault → RecordCause rose tells file asked fault
fold_cause rose tells file asked have found manifest opens.Journal read placed cause = absurd cause
fold_cause rose tells file asked have found manifest (opens.Damaged name at) read placed (is, inl misfit) =
    (is, λ told. inr (inl (misfit_in have found at file (begins_with tells have (edits_of found) manifest file read told) (placed told) misfit)))
fold_cause rose tells file asked have found manifest (opens.Damaged name at) read placed (is, inr broken) =
    (is, λ told. inr (inr (have, edits_of found, is_broken tells have (edits_of found) manifest file at read broken.0 told, broken.1)))
fold_cause rose tells file asked have found manifest (opens.Profile mine yours) read placed cause = (
  cause.1,
  subst (λ (p : Profile). p ≢ asked) (sym cause.0) cause.2,
  λ told. (
    edits_of found,
    subst (λ (p : Profile). IsManifest p (edits_of found) file × (is_legal_record (column p) (edits_of found) ≡ true)) (sym cause.0) (is_whole tells have (edits_of found) manifest file read cause.3 told, cause.4),
  ),
)
fold_cause rose tells file asked have found manifest (opens.Limit kind n) read placed cause = (
  cause.0,
  cause.1,
  λ told. (
    edits_of found,
    (
      subst (λ (p : Profile). IsManifest p (edits_of found) file) cause.2 (is_whole tells have (edits_of found) manifest file read cause.3 told),
      subst (λ (p : Profile). is_legal_record (column p) (edits_of found) ≡ true) cause.2 cause.4,
    ),
    subst (λ (p : Profile). 8388607 ≤ session_of_record p (edits_of found)) cause.2 cause.5,
  ),
)
fold_cause rose tells file asked have found manifest opens.Memory read placed cause = tt

pub replay_cause : (rose : Type 0) (tells : Bool) (file : Option (List ℕ)) (asked : Profile) (fault : LogFault) → (fault ≡ logs.Fault → rose) → AtDamage fault (λ at. (at ≡ 0) × (IsTrue tells → HasNoHeader ManifestA file))
    → RecordCause rose tells file asked (record_fault fault)
replay_cause rose tells file asked logs.Fault cause damage = cause refl
replay_cause rose tells file asked (logs.Damaged at) cause damage = (refl, λ told. inl (damage.0, damage.1 told))
replay_cause rose tells file asked logs.Memory cause damage = tt

-- the same of a file that is read the same, and of a journal that rose for another reason
pub cause_on : (P Q : Type 0) (tells : Bool) (file file' : Option (List ℕ)) (asked : Profile) (fault : OpenFault) → (P → Q) → file ≡ file' → RecordCause P tells file asked fault → RecordCause Q tells file' asked fault
cause_on P Q tells file file' asked opens.Journal up same cause = up cause
cause_on P Q tells file file' asked (opens.Damaged name at) up same cause = subst (λ f. RecordCause Q tells f asked (opens.Damaged name at)) same cause
cause_on P Q tells file file' asked (opens.Profile have yours) up same cause = subst (λ f. RecordCause Q tells f asked (opens.Profile have yours)) same cause
cause_on P Q tells file file' asked (opens.Limit kind n) up same cause = subst (λ f. RecordCause Q tells f asked (opens.Limit kind n)) same cause
cause_on P Q tells file file' asked opens.Memory up same cause = tt

-- ---- the manifest

-- where none was created, none is ready
pub none_ready : {D : Type 0} (d : Ghosts D) (old new : D) (profile : Profile) (manifest : Option Manifest) → manifest ≡ None → d.seen new ≡ d.seen old
    → IsUnfinished (d.seen old ManifestA) → Keeps ManifestA (d.seen old ManifestA) (d.may_leave new) → IsReadyRecord d new profile [] manifest
none_ready d old new profile manifest is seen absent kept = subst (IsReadyRecord d new profile []) (sym is) (
  refl,
  subst (λ (i : Image). IsUnfinished (i ManifestA)) (sym seen) absent,
  λ image left. kept image left ∙ ap (λ (i : Image). i ManifestA) (sym seen),
)

-- one that was replayed is ready, in the profile that it has
pub some_ready : {D : Type 0} (d : Ghosts D) (new : D) (profile have : Profile) (edits : Record) (manifest : Option Manifest) (made : Manifest) → manifest ≡ Some made → have ≡ profile
    → IsReadyManifest d.tells d.seen d.may_leave new made have edits → IsReadyRecord d new profile edits manifest
some_ready d new profile have edits manifest made is same ready =
    subst (IsReadyRecord d new profile edits) (sym is) (subst (λ (p : Profile). IsReadyManifest d.tells d.seen d.may_leave new made p edits) same ready)

-- nothing waits in a manifest that isn't there, nor in one in which nothing does
pub unspent_if : (manifest : Option Manifest) (made : Manifest) → manifest ≡ Some made → IsUnspent made → IfSome manifest IsUnspent
unspent_if manifest made is unspent = subst (λ (m : Option Manifest). IfSome m IsUnspent) (sym is) unspent

pub unspent_none : (manifest : Option Manifest) → manifest ≡ None → IfSome manifest IsUnspent
unspent_none manifest is = subst (λ (m : Option Manifest). IfSome m IsUnspent) (sym is) tt

-- while the manifest is created, it holds no edit
pub created_records : (profile : Profile) (edits : Record) (edit : Edit) (old new : Option (List ℕ)) → edits ≡ [] → CreatesManifest profile old new → Records profile edits edit old new
created_records profile edits edit old new none (inl same) = inl same
created_records profile edits edit old new none (inr (inl unfinished)) = inr (inl (inl (unfinished, none)))
created_records profile edits edit old new none (inr (inr is)) = inr (inl (inr (subst (λ (es : Record). IsManifest profile es new) (sym none) is)))

-- while an edit is appended, it holds those before, or these and it
pub appended_records : (profile : Profile) (edits : Record) (edit : Edit) (old new : Option (List ℕ)) → IsBeforeOrAfterEdit profile edits edit new → Records profile edits edit old new
appended_records profile edits edit old new (inl before) = inr (inl (inr before))
appended_records profile edits edit old new (inr after) = inr (inr after)

-- why an append that isn't too long failed
pub append_refused : (rose : Type 0) (fault : AppendFault) → (fault ≡ appends.Fault → rose) → (fault ≡ appends.Full → ⊥) → RecordingCause rose (append_fault fault)
append_refused rose appends.Fault cause short = cause refl
append_refused rose appends.Full cause short = absurd (short refl)
append_refused rose appends.Memory cause short = tt
