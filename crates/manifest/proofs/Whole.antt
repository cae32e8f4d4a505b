-- One list of edits for a file, and one first damage.
use Rattle.std.proofs.Common.{◌≡◌, ◌≢◌, inl, inr, ℕ, ◌+◌, ◌<◌, List, [], ◌∷◌, ◌++◌, take, drop, get_or, length, Option, Some, refl, sym, ap, ◌∙◌, subst, arith, append_assoc}
use Rattle.std.proofs.lemmas.List.{take_at, drop_at}
use Rattle.std.specs.List.{AllByRecursion}
use Rattle.disk_model.specs.declared.journal_file.JournalFile.TheVariants.{ManifestA}
use Rattle.peb_base.specs.declared.profile.Profile.{Profile}
use Rattle.flsm_model.specs.declared.edit.Edit.{Edit}
use Rattle.record_log.specs.GroupLaws.{one_group}
use Rattle.record_log.specs.Groups.{group_bytes, groups_bytes, IsGroup, AreGroups}
use Rattle.record_log.specs.Header.{header_bytes}
use Rattle.record_log.specs.Log.{Splits, HasNoHeader}
use Rattle.manifest.specs.Edits.{edit_bytes, IsEdit}
use Rattle.manifest.specs.Manifests.{manifest_header, edit_groups, IsManifest, IsNoEditGroup, IsDamagedManifest}
use Rattle.manifest.proofs.EditKinds.{edits_apart}

abbrev first_body : List (List (List ℕ)) → List ℕ
first_body [] = []
first_body ([] ∷ groups) = []
first_body ((body ∷ bodies) ∷ groups) = body

-- groups of edits tell the edits
pub same_edits : (a b : List Edit) → AllByRecursion IsEdit a → AllByRecursion IsEdit b → edit_groups a ≡ edit_groups b → a ≡ b
same_edits [] [] each_a each_b same = refl
same_edits [] (f ∷ b) each_a each_b same = absurd (let e = ap length same in omega (arith, e))
same_edits (e ∷ a) [] each_a each_b same = absurd (let n = ap length same in omega (arith, n))
same_edits (e ∷ a) (f ∷ b) each_a each_b same =
    let first = (edits_apart e f [] [] each_a.0 each_b.0 (ap (λ l. l ++ []) (ap first_body same))).0 in
    let rest = same_edits a b each_a.1 each_b.1 (ap (drop 1) same) in λ i. first i ∷ rest i

-- no group of an edit stands before a list that begins with another gate
pub no_edit_closed : (gate : ℕ) (rest : List ℕ) → gate ≢ 1 → IsNoEditGroup (gate ∷ rest)
no_edit_closed gate rest shut edit next more is group whole = shut (ap (λ l. get_or l 0 0) whole)

stuck : (x y : List ℕ) (edit : Edit) (more : List ℕ) → IsEdit edit → IsGroup (edit_bytes edit ∷ []) → IsNoEditGroup x → 0 < length y → x ≡ group_bytes (edit_bytes edit ∷ []) ++ (more ++ y) → ⊥
stuck x [] edit [] is group none some whole = omega (arith, some)
stuck x (gate ∷ y) edit [] is group none some whole = none edit gate y is group whole
stuck x y edit (gate ∷ more) is group none some whole = none edit gate (more ++ y) is group whole

-- bytes have one longest front of groups of one edit each
pub same_front : (a b : List Edit) (x y : List ℕ) → AllByRecursion IsEdit a → AllByRecursion IsEdit b → AreGroups (edit_groups a) → AreGroups (edit_groups b) → 0 < length x → 0 < length y → IsNoEditGroup x → IsNoEditGroup y → groups_bytes (edit_groups a) ++ x ≡ groups_bytes (edit_groups b) ++ y
    → (edit_groups a ≡ edit_groups b) × (x ≡ y)
same_front [] [] x y each_a each_b are_a are_b some_x some_y none_x none_y same = (refl, same)
same_front [] (f ∷ b) x y each_a each_b are_a are_b some_x some_y none_x none_y same =
    absurd (stuck x y f (groups_bytes (edit_groups b)) each_b.0 are_b.0 none_x some_y (same ∙ append_assoc (group_bytes (edit_bytes f ∷ [])) (groups_bytes (edit_groups b)) y))
same_front (e ∷ a) [] x y each_a each_b are_a are_b some_x some_y none_x none_y same =
    absurd (stuck y x e (groups_bytes (edit_groups a)) each_a.0 are_a.0 none_y some_x (sym same ∙ append_assoc (group_bytes (edit_bytes e ∷ [])) (groups_bytes (edit_groups a)) x))
same_front (e ∷ a) (f ∷ b) x y each_a each_b are_a are_b some_x some_y none_x none_y same =
    let whole : group_bytes (edit_bytes e ∷ []) ++ (groups_bytes (edit_groups a) ++ x) ≡ group_bytes (edit_bytes f ∷ []) ++ (groups_bytes (edit_groups b) ++ y) =
    sym (append_assoc (group_bytes (edit_bytes e ∷ [])) (groups_bytes (edit_groups a)) x) ∙ same ∙ append_assoc (group_bytes (edit_bytes f ∷ [])) (groups_bytes (edit_groups b)) y in
    let parts = one_group (edit_bytes e ∷ []) (edit_bytes f ∷ []) (groups_bytes (edit_groups a) ++ x) (groups_bytes (edit_groups b) ++ y) are_a.0 are_b.0 whole in
    let rest = same_front a b x y each_a.1 each_b.1 are_a.1 are_b.1 some_x some_y none_x none_y parts.1 in
    (λ i. parts.0 i ∷ rest.0 i, rest.1)

-- two headers of as many bytes
heads : (head other : List ℕ) (x y : List ℕ) → length head ≡ 24 → length other ≡ 24 → head ++ x ≡ other ++ y → x ≡ y
heads head other x y long longer same = sym (drop_at head x 24 long) ∙ ap (drop 24) same ∙ drop_at other y 24 longer

same_bytes : (a b : List ℕ) → ◌≡◌ {A = Option (List ℕ)} (Some a) (Some b) → a ≡ b
same_bytes a b same = cc

-- the same of the bytes of a whole file
pub same_splits : (bytes : List ℕ) (p q : Profile) (a b : List Edit) (x y : List ℕ) → AllByRecursion IsEdit a → AllByRecursion IsEdit b → 0 < length x → 0 < length y → IsNoEditGroup x → IsNoEditGroup y
    → Splits ManifestA bytes (manifest_header p) (edit_groups a) x → Splits ManifestA bytes (manifest_header q) (edit_groups b) y → (edit_groups a ≡ edit_groups b) × (x ≡ y)
same_splits bytes p q a b x y each_a each_b some_x some_y none_x none_y one other =
    let one_bytes = one.spelled ∙ append_assoc (header_bytes (manifest_header p)) (groups_bytes (edit_groups a)) x in
    let other_bytes = other.spelled ∙ append_assoc (header_bytes (manifest_header q)) (groups_bytes (edit_groups b)) y in
    same_front a b x y each_a each_b one.each other.each some_x some_y none_x none_y
    (heads (header_bytes (manifest_header p)) (header_bytes (manifest_header q)) (groups_bytes (edit_groups a) ++ x) (groups_bytes (edit_groups b) ++ y) refl refl (sym one_bytes ∙ other_bytes))

-- a file that splits behind a header has one
has_header : (found : Option (List ℕ)) (bytes : List ℕ) (p : Profile) (groups : List (List (List ℕ))) (x : List ℕ) → found ≡ Some bytes → Splits ManifestA bytes (manifest_header p) groups x → HasNoHeader ManifestA found → ⊥
has_header found bytes p groups x holds splits none =
    let same = same_bytes bytes none.bytes (sym holds ∙ none.holds) in
    none.none (manifest_header p) splits.fits (ap (take 24) (sym same ∙ splits.spelled ∙ append_assoc (header_bytes (manifest_header p)) (groups_bytes groups) x) ∙ take_at (header_bytes (manifest_header p)) (groups_bytes groups ++ x) 24 refl)

-- a file that holds edits up to a closed gate isn't damaged
pub undamaged : (found : Option (List ℕ)) (profile : Profile) (edits : List Edit) (at : ℕ) → IsManifest profile edits found → IsDamagedManifest found at → ⊥
undamaged found profile edits at one (inl head) = has_header found one.log.bytes profile (edit_groups edits) _ one.log.holds one.log.splits head.1
undamaged found profile edits at one (inr behind) =
    let damage = behind.2 in
    let same = same_bytes damage.bytes one.log.bytes (sym damage.holds ∙ one.log.holds) in
    let moved = subst (λ (l : List ℕ). Splits ManifestA l (manifest_header behind.0) (edit_groups behind.1) (1 ∷ damage.rest)) same damage.splits in
    let both = same_splits one.log.bytes profile behind.0 edits behind.1 _ _ one.each damage.each (omega arith) (omega arith) (no_edit_closed one.log.gate one.log.rest one.log.closed) damage.none one.log.splits moved in
    one.log.closed (ap (λ l. get_or l 0 0) both.1)

-- a file is damaged at one place
pub one_damage : (found : Option (List ℕ)) (m n : ℕ) → IsDamagedManifest found m → IsDamagedManifest found n → m ≡ n
one_damage found m n (inl head) (inl again) = head.0 ∙ sym again.0
one_damage found m n (inl head) (inr behind) = absurd (has_header found behind.2.bytes behind.0 (edit_groups behind.1) _ behind.2.holds behind.2.splits head.1)
one_damage found m n (inr behind) (inl head) = absurd (has_header found behind.2.bytes behind.0 (edit_groups behind.1) _ behind.2.holds behind.2.splits head.1)
one_damage found m n (inr one) (inr other) =
    let a = one.2 in
    let b = other.2 in
    let same = same_bytes b.bytes a.bytes (sym b.holds ∙ a.holds) in
    let moved = subst (λ (l : List ℕ). Splits ManifestA l (manifest_header other.0) (edit_groups other.1) (1 ∷ b.rest)) same b.splits in
    let both = same_splits a.bytes one.0 other.0 one.1 other.1 _ _ a.each b.each (omega arith) (omega arith) a.none b.none a.splits moved in
    a.place ∙ ap (λ gs. 24 + length (groups_bytes gs)) both.0 ∙ sym b.place
