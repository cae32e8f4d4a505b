-- Edits read from groups, one after another.
use Rattle.std.proofs.Common.{◌≡◌, inl, inr, ℕ, ◌+◌, ◌<◌, Bool, true, false, List, [], ◌∷◌, ◌++◌, length, map, drop, get_or, refl, sym, ap, ◌∙◌, subst, arith, append_assoc, length-append, eq-eqb, nat_eq}
use Rattle.std.proofs.lemmas.List.{append-nil, map-append}
use Rattle.std.proofs.lemmas.Bool.{cases_Bool}
use Rattle.std.specs.List.{AllByRecursion}
use Rattle.flsm_model.specs.declared.edit.Edit.{Edit}
use Rattle.record_log.specs.declared.record.Record.{Record}
use Rattle.record_log.specs.Groups.{group_bytes, groups_bytes, AreGroups, placed}
use Rattle.record_log.specs.GroupLaws.{groups-push, placed-push}
use Rattle.record_log.specs.Records.{view_of, views}
use Rattle.manifest.specs.Edits.{edit_bytes, IsEdit}
use Rattle.manifest.specs.GroupOfEdit.{goes_on, StandsAlone, StandsForNone, FirstNoEdit}
use Rattle.manifest.specs.Manifests.{edit_groups, edits_of, ArePlaced}
use Rattle.manifest.proofs.Items.{all-push}

-- the place behind the groups of these edits
abbrev pub place_behind : List Edit → ℕ
place_behind edits = 24 + length (groups_bytes (edit_groups edits))

-- these edits were read of the groups, and these records are left
pub record ReadsSoFar (groups : List (List (List ℕ))) (found : List (ℕ × Edit)) (rest : List (ℕ × List ℕ)) : Type 0 where
  pub more : List (List (List ℕ))
  pub each : AreGroups more
  pub whole : groups ≡ edit_groups (edits_of found) ++ more
  pub gates : ArePlaced found
  pub are : rest ≡ placed (place_behind (edits_of found)) more

-- the group that the first of the records left is of
pub record TheGroup (groups : List (List (List ℕ))) (found : List (ℕ × Edit)) (gate : ℕ) (body : List ℕ) (behind : List (ℕ × List ℕ)) : Type 0 where
  pub bodies : List (List ℕ)
  pub others : List (List (List ℕ))
  pub each : AreGroups others
  pub whole : groups ≡ edit_groups (edits_of found) ++ (body ∷ bodies) ∷ others
  pub place : gate ≡ place_behind (edits_of found)
  pub are : behind ≡ map (λ x. (gate, x)) bodies ++ placed (gate + length (group_bytes (body ∷ bodies))) others

abbrev first_gate : List (ℕ × List ℕ) → ℕ
first_gate [] = 0
first_gate (r ∷ records) = r.0

abbrev first_body : List (ℕ × List ℕ) → List ℕ
first_body [] = []
first_body (r ∷ records) = r.1

group_by : (more : List (List (List ℕ))) (groups : List (List (List ℕ))) (found : List (ℕ × Edit)) (gate : ℕ) (body : List ℕ) (behind : List (ℕ × List ℕ)) → AreGroups more → groups ≡ edit_groups (edits_of found) ++ more → (gate, body) ∷ behind ≡ placed (place_behind (edits_of found)) more
    → TheGroup groups found gate body behind
group_by [] groups found gate body behind each whole are = absurd (let e = ap length are in omega (arith, e))
group_by ([] ∷ others) groups found gate body behind each whole are = absurd (omega (arith, each.0.0))
group_by ((b ∷ bodies) ∷ others) groups found gate body behind each whole are =
    let at = place_behind (edits_of found) in
    let gates : gate ≡ at = ap (λ l. first_gate l) are in
    let same : body ≡ b = ap (λ l. first_body l) are in
    let tail : behind ≡ map (λ x. (at, x)) bodies ++ placed (at + length (group_bytes (b ∷ bodies))) others = ap (drop 1) are in
    record {
      bodies = bodies;
      others = others;
      each = each.1;
      whole = whole ∙ ap (λ x. edit_groups (edits_of found) ++ (x ∷ bodies) ∷ others) (sym same);
      place = gates;
      are = tail ∙ (λ i. map (λ x. ((sym gates) i, x)) bodies ++ placed ((sym gates) i + length (group_bytes ((sym same) i ∷ bodies))) others);
    }

the_group : (groups : List (List (List ℕ))) (found : List (ℕ × Edit)) (rest : List (ℕ × List ℕ)) (gate : ℕ) (body : List ℕ) (behind : List (ℕ × List ℕ)) → ReadsSoFar groups found rest → rest ≡ (gate, body) ∷ behind → TheGroup groups found gate body behind
the_group groups found rest gate body behind so_far is = group_by so_far.more groups found gate body behind so_far.each so_far.whole (sym is ∙ so_far.are)

differs : (gate n : ℕ) → 0 < n → nat_eq (gate + n) gate ≡ false
differs gate n some = elim (cases_Bool (nat_eq (gate + n) gate)) [
  | inl same ↦ absurd (grind (arith, same, some))
  | inr other ↦ other
]

others_differ : (gate n : ℕ) (others : List (List (List ℕ))) → 0 < n → AreGroups others → goes_on gate (placed (gate + n) others) ≡ false
others_differ gate n [] some each = refl
others_differ gate n ([] ∷ others) some each = absurd (omega (arith, each.0.0))
others_differ gate n ((b ∷ bodies) ∷ others) some each = differs gate n some

-- a group of one record isn't gone on with
goes_not : (groups : List (List (List ℕ))) (found : List (ℕ × Edit)) (gate : ℕ) (body : List ℕ) (behind : List (ℕ × List ℕ)) (group : TheGroup groups found gate body behind) → group.bodies ≡ [] → goes_on gate behind ≡ false
goes_not groups found gate body behind group none =
    let n = length (group_bytes (body ∷ group.bodies)) in
    let is : behind ≡ placed (gate + n) group.others = group.are ∙ ap (λ bs. map (λ x. (gate, x)) bs ++ placed (gate + n) group.others) none in
    ap (goes_on gate) is ∙ others_differ gate n group.others (omega arith) group.each

one_body : (gate : ℕ) (bodies : List (List ℕ)) (rest behind : List (ℕ × List ℕ)) → behind ≡ map (λ x. (gate, x)) bodies ++ rest → goes_on gate behind ≡ false → bodies ≡ []
one_body gate [] rest behind are alone = refl
one_body gate (b ∷ bodies) rest behind are alone =
    let goes : nat_eq gate gate ≡ false = sym (ap (goes_on gate) are) ∙ alone in absurd (let same = eq-eqb gate gate refl in let clash : ◌≡◌ {A = Bool} true false = sym same ∙ goes in cc)

edits_push : (found : List (ℕ × Edit)) (gate : ℕ) (edit : Edit) → edits_of (found ++ (gate, edit) ∷ []) ≡ edits_of found ++ edit ∷ []
edits_push found gate edit = map-append (λ (p : ℕ × Edit). p.1) found ((gate, edit) ∷ [])

pub groups_of_push : (edits : List Edit) (edit : Edit) → edit_groups (edits ++ edit ∷ []) ≡ edit_groups edits ++ (edit_bytes edit ∷ []) ∷ []
groups_of_push edits edit = map-append (λ e. edit_bytes e ∷ []) edits (edit ∷ [])

found_groups : (found : List (ℕ × Edit)) (gate : ℕ) (edit : Edit) → edit_groups (edits_of (found ++ (gate, edit) ∷ [])) ≡ edit_groups (edits_of found) ++ (edit_bytes edit ∷ []) ∷ []
found_groups found gate edit = ap edit_groups (edits_push found gate edit) ∙ groups_of_push (edits_of found) edit

-- nothing is read yet
pub reads_none : (groups : List (List (List ℕ))) (records : List (ℕ × List ℕ)) → AreGroups groups → records ≡ placed 24 groups → ReadsSoFar groups [] records
reads_none groups records each are = record { more = groups; each = each; whole = refl; gates = refl; are = are }

-- one edit more
pub reads_more : (groups : List (List (List ℕ))) (found : List (ℕ × Edit)) (rest behind : List (ℕ × List ℕ)) (gate : ℕ) (edit : Edit) → ReadsSoFar groups found rest → (alone : StandsAlone gate (edit_bytes edit) rest) → behind ≡ alone.behind → ReadsSoFar groups (found ++ (gate, edit) ∷ []) behind
reads_more groups found rest behind gate edit so_far alone is =
    let group = the_group groups found rest gate (edit_bytes edit) alone.behind so_far alone.are in
    let one = edit_bytes edit ∷ [] in
    let before = edit_groups (edits_of found) in
    let none : group.bodies ≡ [] = one_body gate group.bodies (placed (gate + length (group_bytes (edit_bytes edit ∷ group.bodies))) group.others) alone.behind group.are alone.alone in
    let pushed = found_groups found gate edit in
    let longer : length (groups_bytes (before ++ one ∷ [])) ≡ length (groups_bytes before) + length (group_bytes one) = ap length (groups-push before one) ∙ length-append (groups_bytes before) (group_bytes one) in
    let place : gate + length (group_bytes one) ≡ place_behind (edits_of (found ++ (gate, edit) ∷ [])) = omega (arith, group.place, longer, ap (λ gs. length (groups_bytes gs)) pushed) in
    record {
      more = group.others;
      each = group.each;
      whole = group.whole ∙ ap (λ bs. before ++ (edit_bytes edit ∷ bs) ∷ group.others) none ∙ sym (append_assoc before (one ∷ []) group.others) ∙ ap (λ gs. gs ++ group.others) (sym pushed);
      gates = map-append (λ (p : ℕ × Edit). (p.0, edit_bytes p.1)) found ((gate, edit) ∷ [])
          ∙ (λ i. so_far.gates i ++ (group.place i, edit_bytes edit) ∷ [])
          ∙ sym (placed-push 24 before one)
          ∙ ap (placed 24) (sym pushed);
      are = is ∙ group.are ∙ ap (λ bs. map (λ x. (gate, x)) bs ++ placed (gate + length (group_bytes (edit_bytes edit ∷ bs))) group.others) none ∙ ap (λ n. placed n group.others) place;
    }

-- the first group left is no edit's
pub reads_damage : (groups : List (List (List ℕ))) (found : List (ℕ × Edit)) (rest : List (ℕ × List ℕ)) (gate : ℕ) → ReadsSoFar groups found rest → StandsForNone gate rest → FirstNoEdit groups (edits_of found) gate
reads_damage groups found rest gate so_far damage =
    let group = the_group groups found rest gate damage.body damage.behind so_far damage.are in
    record {
      group = damage.body ∷ group.bodies;
      behind = group.others;
      whole = group.whole;
      none = λ edit is same. elim damage.none [
        | inl goes ↦ let clash : ◌≡◌ {A = Bool} true false = sym goes ∙ goes_not groups found gate damage.body damage.behind group (ap (drop 1) same) in cc
        | inr alone ↦ alone.1 edit is (ap (λ l. get_or l 0 []) same)
      ];
      place = group.place;
    }

none_more : (more : List (List (List ℕ))) (place : ℕ) → AreGroups more → [] ≡ placed place more → more ≡ []
none_more [] place each are = refl
none_more ([] ∷ others) place each are = absurd (omega (arith, each.0.0))
none_more ((b ∷ bodies) ∷ others) place each are = absurd (let e = ap length are in omega (arith, e))

-- nothing is left
pub reads_all : (groups : List (List (List ℕ))) (found : List (ℕ × Edit)) (rest : List (ℕ × List ℕ)) → ReadsSoFar groups found rest → rest ≡ [] → groups ≡ edit_groups (edits_of found)
reads_all groups found rest so_far is =
    so_far.whole ∙ ap (λ gs. edit_groups (edits_of found) ++ gs) (none_more so_far.more (place_behind (edits_of found)) so_far.each (sym is ∙ so_far.are)) ∙ append-nil (edit_groups (edits_of found))

pub each_more : (found : List (ℕ × Edit)) (gate : ℕ) (edit : Edit) → AllByRecursion IsEdit (edits_of found) → IsEdit edit → AllByRecursion IsEdit (edits_of (found ++ (gate, edit) ∷ []))
each_more found gate edit each is = subst (AllByRecursion IsEdit) (sym (edits_push found gate edit)) (all-push IsEdit (edits_of found) edit each is)

-- the first record, and those behind it
pub views_first : (records : List Record) (r : Record) → 0 < length records → r ≡ get_or records 0 r → views records ≡ view_of r ∷ views (drop 1 records)
views_first [] r some is = absurd (omega arith)
views_first (x ∷ records) r some is = ap (λ y. view_of y ∷ views records) (sym is)

pub views_none : (records : List Record) → length records ≡ 0 → views records ≡ []
views_none [] none = refl
views_none (r ∷ records) none = absurd (omega (arith, none))
