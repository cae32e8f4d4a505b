-- The manifest's file, as a file of groups.
use Rattle.std.specs.Prelude.{IfOk, IfErr, IfSome, IfNone}
use Rattle.std.proofs.Common.{◌≡◌, ◌⊎◌, inl, inr, ℕ, ◌+◌, Bool, IsTrue, List, [], ◌∷◌, ◌++◌, length, Option, None, Some, Result, Ok, Err, refl, sym, ap, ◌∙◌, subst, append_assoc}
use Rattle.std.proofs.lemmas.List.{append-nil}
use Rattle.std.specs.List.{AllByRecursion}
use Rattle.disk_model.specs.Images.{Image, In, Follows}
use Rattle.disk_model.specs.Moments.{follows_as}
use Rattle.disk_model.specs.declared.journal_file.JournalFile.{JournalFile}
use Rattle.disk_model.specs.declared.journal_file.JournalFile.TheVariants.{ManifestA}
use Rattle.peb_base.specs.declared.profile.Profile.{Profile}
use Rattle.flsm_model.specs.declared.edit.Edit.{Edit}
use Rattle.record_log.specs.declared.header.Header.{Header}
use Rattle.record_log.specs.declared.log_file.LogFile.{LogFile}
use Rattle.record_log.specs.GroupLaws.{one_group}
use Rattle.record_log.specs.Groups.{record_bytes, records_bytes, group_bytes, groups_bytes, IsGroup, AreGroups, placed}
use Rattle.record_log.specs.Header.{header_bytes, IsHeaderOf}
use Rattle.record_log.specs.Log.{Splits, IsLog, Holds, BreaksOff}
use Rattle.record_log.specs.Ready.{IsReady, IsBeforeOrAfter}
use Rattle.record_log.specs.State.{log_file, log_tail}
use Rattle.manifest.specs.declared.manifest_file.Manifest.{Manifest}
use Rattle.manifest.specs.Edits.{edit_bytes, IsEdit}
use Rattle.manifest.specs.GroupOfEdit.{FirstNoEdit}
use Rattle.manifest.specs.Manifests.{manifest_header, edit_groups, IsManifest, IsBeforeOrAfterEdit, IsReadyManifest, IsDamagedBehind, manifest_log}
use Rattle.manifest.proofs.Items.{all-push}
use Rattle.manifest.proofs.SoFar.{groups_of_push}

-- the record of the edit waits, and nothing else
pub one_waits : (before after body : List ℕ) (edit : Edit) → before ≡ [] → after ≡ before ++ record_bytes body → body ≡ edit_bytes edit → after ≡ records_bytes (edit_bytes edit ∷ [])
one_waits before after body edit none added is = added ∙ (λ i. none i ++ record_bytes (is i)) ∙ sym (append-nil (record_bytes (edit_bytes edit)))

before_or_after : (profile : Profile) (edits : List Edit) (edit : Edit) → AllByRecursion IsEdit edits → IsEdit edit → (found : Option (List ℕ)) → IsBeforeOrAfter ManifestA (manifest_header profile) (edit_groups edits) (edit_bytes edit ∷ []) found → IsBeforeOrAfterEdit profile edits edit found
before_or_after profile edits edit each is found (inl log) = inl (record { each = each; log = log })
before_or_after profile edits edit each is found (inr log) = inr (record {
  each = all-push IsEdit edits edit each is;
  log = subst (λ groups. IsLog ManifestA (manifest_header profile) groups found) (sym (groups_of_push edits edit)) log;
})

-- what a crash leaves while the edit's group is closed
pub moments : (file : JournalFile) (profile : Profile) (edits : List Edit) (edit : Edit) (may since : Image → Type 0) → file ≡ ManifestA → AllByRecursion IsEdit edits → IsEdit edit
    → Follows (In file (λ old new. IsBeforeOrAfter file (manifest_header profile) (edit_groups edits) (edit_bytes edit ∷ []) new)) may since
    → Follows (In ManifestA (λ old new. IsBeforeOrAfterEdit profile edits edit new)) may since
moments file profile edits edit may since is each is_edit follows =
    follows_as ManifestA (λ old new. IsBeforeOrAfter ManifestA (manifest_header profile) (edit_groups edits) (edit_bytes edit ∷ []) new) (λ old new. IsBeforeOrAfterEdit profile edits edit new) may since
    (λ old new so. before_or_after profile edits edit each is_edit new so)
    (subst (λ (f : JournalFile). Follows (In f (λ old new. IsBeforeOrAfter f (manifest_header profile) (edit_groups edits) (edit_bytes edit ∷ []) new)) may since) is follows)

-- the log is ready for what follows the edit
pub ready_after : {D : Type 0} (tells : Bool) (seen : D → Image) (may_leave : D → Image → Type 0) (journal : D) (log : LogFile) (profile : Profile) (edits : List Edit) (edit : Edit)
    → IsReady tells seen may_leave journal log (manifest_header profile) (edit_groups edits ++ (edit_bytes edit ∷ []) ∷ []) → IsReady tells seen may_leave journal log (manifest_header profile) (edit_groups (edits ++ edit ∷ []))
ready_after tells seen may_leave journal log profile edits edit ready =
    subst (λ groups. IsReady tells seen may_leave journal log (manifest_header profile) groups) (sym (groups_of_push edits edit)) ready

-- a header that the manifest may have is that of its profile
pub the_header : (header : Header) → IsHeaderOf ManifestA header → header ≡ manifest_header header.profile
the_header header is = λ i. record { kind = is.0 i; form = is.1 i; profile = header.profile; number = is.2 i; session = is.3 i }

pub is_manifest : (header : Header) (groups : List (List (List ℕ))) (edits : List Edit) (found : Option (List ℕ)) → AllByRecursion IsEdit edits → IsLog ManifestA header groups found → groups ≡ edit_groups edits → IsManifest header.profile edits found
is_manifest header groups edits found each log are = record {
  each = each;
  log = subst (λ h. IsLog ManifestA h (edit_groups edits) found) (the_header header log.splits.fits) (subst (λ gs. IsLog ManifestA header gs found) are log);
}

pub is_ready : {D : Type 0} (tells : Bool) (seen : D → Image) (may_leave : D → Image → Type 0) (journal : D) (log : LogFile) (header : Header) (groups : List (List (List ℕ))) (edits : List Edit)
    → IsHeaderOf ManifestA header → groups ≡ edit_groups edits → IsReady tells seen may_leave journal log header groups → IsReady tells seen may_leave journal log (manifest_header header.profile) (edit_groups edits)
is_ready tells seen may_leave journal log header groups edits fits are ready =
    subst (λ h. IsReady tells seen may_leave journal log h (edit_groups edits)) (the_header header fits) (subst (λ gs. IsReady tells seen may_leave journal log header gs) are ready)

are_front : (front : List (List (List ℕ))) (group : List (List ℕ)) (behind : List (List (List ℕ))) → AreGroups (front ++ group ∷ behind) → AreGroups front × IsGroup group
are_front [] group behind each = (tt, each.0)
are_front (first ∷ front) group behind each =
    let rest = are_front front group behind each.1 in ((each.0, rest.0), rest.1)

bytes_of_groups : (front behind : List (List (List ℕ))) → groups_bytes (front ++ behind) ≡ groups_bytes front ++ groups_bytes behind
bytes_of_groups [] behind = refl
bytes_of_groups (first ∷ front) behind =
    ap (λ l. group_bytes first ++ l) (bytes_of_groups front behind) ∙ sym (append_assoc (group_bytes first) (groups_bytes front) (groups_bytes behind))

-- the bytes before and behind the front groups
front_bytes : (head : List ℕ) (groups front : List (List (List ℕ))) (group : List (List ℕ)) (behind : List (List (List ℕ))) (rest : List ℕ) → groups ≡ front ++ group ∷ behind
    → head ++ groups_bytes groups ++ rest ≡ head ++ groups_bytes front ++ (group_bytes group ++ (groups_bytes behind ++ rest))
front_bytes head groups front group behind rest whole =
    ap (λ gs. head ++ groups_bytes gs ++ rest) whole
    ∙ ap (λ l. head ++ l ++ rest) (bytes_of_groups front (group ∷ behind))
    ∙ append_assoc head (groups_bytes front ++ (group_bytes group ++ groups_bytes behind)) rest
    ∙ ap (λ l. head ++ l) (append_assoc (groups_bytes front) (group_bytes group ++ groups_bytes behind) rest)
    ∙ ap (λ l. head ++ (groups_bytes front ++ l)) (append_assoc (group_bytes group) (groups_bytes behind) rest)
    ∙ sym (append_assoc head (groups_bytes front) (group_bytes group ++ (groups_bytes behind ++ rest)))

-- a group that is no edit's, behind groups of edits
pub no_edit : (header : Header) (groups : List (List (List ℕ))) (edits : List Edit) (found : Option (List ℕ)) (bytes rest : List ℕ) (at : ℕ) → AllByRecursion IsEdit edits → found ≡ Some bytes → Splits ManifestA bytes header groups rest → FirstNoEdit groups edits at
    → IsDamagedBehind header.profile edits found at
no_edit header groups edits found bytes rest at each holds splits first =
    let more = groups_bytes first.behind ++ rest in
    let are = are_front (edit_groups edits) first.group first.behind (subst AreGroups first.whole splits.each) in
    record {
      rest = record_bytes (records_bytes first.group) ++ more;
      bytes = bytes;
      holds = holds;
      each = each;
      splits = subst (λ h. Splits ManifestA bytes h (edit_groups edits) (group_bytes first.group ++ more)) (the_header header splits.fits) (record {
        fits = splits.fits;
        each = are.0;
        spelled = splits.spelled ∙ front_bytes (header_bytes header) groups (edit_groups edits) first.group first.behind rest first.whole;
      });
      none = λ edit gate behind is group same. first.none edit is (one_group first.group (edit_bytes edit ∷ []) more (gate ∷ behind) are.1 group same).0;
      place = first.place;
    }

-- no group, behind groups of edits
pub no_group : (header : Header) (records : List (ℕ × List ℕ)) (edits : List Edit) (found : Option (List ℕ)) (at : ℕ) → AllByRecursion IsEdit edits → (breaks : BreaksOff ManifestA header records found at) → breaks.groups ≡ edit_groups edits
    → IsDamagedBehind header.profile edits found at
no_group header records edits found at each breaks are = record {
  rest = breaks.rest;
  bytes = breaks.bytes;
  holds = breaks.holds;
  each = each;
  splits = subst (λ h. Splits ManifestA breaks.bytes h (edit_groups edits) (1 ∷ breaks.rest)) (the_header header breaks.splits.fits) (subst (λ gs. Splits ManifestA breaks.bytes header gs (1 ∷ breaks.rest)) are breaks.splits);
  none = λ edit gate behind is group same. breaks.none (edit_bytes edit ∷ []) gate behind group same;
  place = breaks.place ∙ ap (λ gs. 24 + length (groups_bytes gs)) are;
}

-- of each list of groups with these records: it is that of the edits
abbrev pub AreAll : List (ℕ × List ℕ) → List Edit → Type 0
AreAll records edits = (groups : List (List (List ℕ))) → AreGroups groups → records ≡ placed 24 groups → groups ≡ edit_groups edits

-- of each list of groups with these records: its first that is no edit's, behind those of the edits, is here
abbrev pub AreUpTo : List (ℕ × List ℕ) → List Edit → ℕ → Type 0
AreUpTo records edits at = (groups : List (List (List ℕ))) → AreGroups groups → records ≡ placed 24 groups → FirstNoEdit groups edits at

if_ok : {T E : Type 0} (P : T → Type 0) (r : Result T E) (x : T) → r ≡ Ok x → IfOk r P → P x
if_ok P r x is h = subst (λ s. IfOk s P) is h

if_err : {T E : Type 0} (P : E → Type 0) (r : Result T E) (x : E) → r ≡ Err x → IfErr r P → P x
if_err P r x is h = subst (λ s. IfErr s P) is h

if_some : {T : Type 0} (P : T → Type 0) (o : Option T) (x : T) → o ≡ Some x → IfSome o P → P x
if_some P o x is h = subst (λ s. IfSome s P) is h

if_none : {T : Type 0} (P : Type 0) (o : Option T) → o ≡ None → IfNone o P → P
if_none P o is h = subst (λ s. IfNone s P) is h

-- what a log that was read to its end, or not, tells of a file, where its journal tells
abbrev pub HeldBy : Bool → Header → List (ℕ × List ℕ) → Option (List ℕ) → LogFile → Type 0
HeldBy tells header records found log = IsTrue tells → Holds ManifestA header records found

abbrev pub BrokenAt : Bool → Header → List (ℕ × List ℕ) → Option (List ℕ) → ℕ → Type 0
BrokenAt tells header records found at = IsTrue tells → BreaksOff ManifestA header records found at

-- a manifest that was read to its end holds the edits of its records
pub manifest_found : (r : Result Manifest ℕ) (log : Result LogFile ℕ) (broken : Option ℕ) (header : Header) (records read : List (ℕ × List ℕ)) (edits : List Edit) (found : Option (List ℕ)) (tells : Bool) → IfOk r (λ m. (broken ≡ None) × (log ≡ Ok (manifest_log m)))
    → AllByRecursion IsEdit edits → read ≡ records → IfOk log (HeldBy tells header records found) → IfNone broken (AreAll read edits)
    → IfOk r (λ m. IsTrue tells → IsManifest header.profile edits found)
manifest_found (Err at) log broken header records read edits found tells whole each same holds all = tt
manifest_found (Ok m) log broken header records read edits found tells whole each same holds all = λ told.
    let held = if_ok (HeldBy tells header records found) log (manifest_log m) whole.1 holds told in
    let are = if_none (AreAll read edits) broken whole.0 all in
    is_manifest header held.groups edits found each held.log (are held.groups held.log.splits.each (same ∙ held.given))

-- and is ready for what follows them
pub manifest_ready : {D : Type 0} (tells : Bool) (seen : D → Image) (may_leave : D → Image → Type 0) (old new : D) (r : Result Manifest ℕ) (log : Result LogFile ℕ) (broken : Option ℕ) (header : Header) (records read : List (ℕ × List ℕ)) (edits : List Edit)
    → IfOk r (λ m. (broken ≡ None) × (log ≡ Ok (manifest_log m))) → AllByRecursion IsEdit edits → read ≡ records → IfOk log (HeldBy tells header records (seen old ManifestA)) → IfNone broken (AreAll read edits)
    → IfOk log (λ l. (groups : List (List (List ℕ))) → IsTrue tells → IsLog ManifestA header groups (seen old ManifestA) → IsReady tells seen may_leave new l header groups) → IfOk log (λ l. log_file l ≡ ManifestA) → IfOk log (λ l. log_tail l ≡ [])
    → IfOk r (λ m. IsTrue tells → IsReadyManifest tells seen may_leave new m header.profile edits)
manifest_ready tells seen may_leave old new (Err at) log broken header records read edits whole each same holds all ready file empty = tt
manifest_ready tells seen may_leave old new (Ok m) log broken header records read edits whole each same holds all ready file empty = λ told.
    let held = if_ok (HeldBy tells header records (seen old ManifestA)) log (manifest_log m) whole.1 holds told in
    let are = if_none (AreAll read edits) broken whole.0 all in
    let its = if_ok (λ l. (groups : List (List (List ℕ))) → IsTrue tells → IsLog ManifestA header groups (seen old ManifestA) → IsReady tells seen may_leave new l header groups) log (manifest_log m) whole.1 ready in
    record {
      each = each;
      file = if_ok (λ l. log_file l ≡ ManifestA) log (manifest_log m) whole.1 file;
      unspent = if_ok (λ l. log_tail l ≡ []) log (manifest_log m) whole.1 empty;
      ready = is_ready tells seen may_leave new (manifest_log m) header held.groups edits held.log.splits.fits (are held.groups held.log.splits.each (same ∙ held.given)) (its held.groups told held.log);
    }

-- a group that is no edit's, in a file that is in form or not
behind_edits : (log : Result LogFile ℕ) (header : Header) (records read : List (ℕ × List ℕ)) (edits : List Edit) (found : Option (List ℕ)) (tells : Bool) (at : ℕ) → AllByRecursion IsEdit edits → read ≡ records → IfOk log (HeldBy tells header records found)
    → IfErr log (BrokenAt tells header records found) → AreUpTo read edits at → IsTrue tells → IsDamagedBehind header.profile edits found at
behind_edits (Ok l) header records read edits found tells at each same holds breaks to told =
    let held = holds told in
    no_edit header held.groups edits found held.log.bytes (held.log.gate ∷ held.log.rest) at each held.log.holds held.log.splits (to held.groups held.log.splits.each (same ∙ held.given))
behind_edits (Err a) header records read edits found tells at each same holds breaks to told =
    let off = breaks told in
    no_edit header off.groups edits found off.bytes (1 ∷ off.rest) at each off.holds off.splits (to off.groups off.splits.each (same ∙ off.given))

-- one that wasn't is damaged behind the edits of its records
pub manifest_broken : (r : Result Manifest ℕ) (log : Result LogFile ℕ) (broken : Option ℕ) (header : Header) (records read : List (ℕ × List ℕ)) (edits : List Edit) (found : Option (List ℕ)) (tells : Bool) → IfErr r (λ at. (broken ≡ Some at) ⊎ ((broken ≡ None) × (log ≡ Err at)))
    → AllByRecursion IsEdit edits → read ≡ records → IfOk log (HeldBy tells header records found) → IfErr log (BrokenAt tells header records found) → IfNone broken (AreAll read edits) → IfSome broken (AreUpTo read edits)
    → IfErr r (λ at. IsTrue tells → IsDamagedBehind header.profile edits found at)
manifest_broken (Ok m) log broken header records read edits found tells whole each same holds breaks all up_to = tt
manifest_broken (Err at) log broken header records read edits found tells (inl is) each same holds breaks all up_to = λ told.
    behind_edits log header records read edits found tells at each same holds breaks (if_some (AreUpTo read edits) broken at is up_to) told
manifest_broken (Err at) log broken header records read edits found tells (inr is) each same holds breaks all up_to = λ told.
    let are = if_none (AreAll read edits) broken is.0 all in
    let off = if_err (BrokenAt tells header records found) log at is.1 breaks told in
    no_group header records edits found at each off (are off.groups off.splits.each (same ∙ off.given))
