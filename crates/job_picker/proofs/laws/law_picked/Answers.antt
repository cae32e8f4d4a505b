use Rattle.std.proofs.Common.{◌≡◌, Bool, true, false, cond, not, List, [], ◌∷◌, map, refl, ap, ◌∙◌}
use Rattle.std.specs.Prelude.{find, Some, option_map}
use Rattle.std.specs.List.{list_any, list_all}
use Rattle.flsm_model.specs.declared.claim.Claim.{Claim}
use Rattle.flsm_model.specs.declared.job.Job.{Job}
use Rattle.flsm_model.specs.declared.job_kind.JobKind.{JobKind}
use Rattle.flsm_model.specs.declared.job_kind.JobKind.TheVariants.{Flush, Move, Cut, Merge}
use Rattle.flsm_model.specs.Claims.{claims_at, claims_of, claims_conflict, is_free}
use Rattle.flsm_model.specs.Events.{Session, Standing, Running}
use Rattle.flsm_model.specs.Fits.{is_some_list}
use Rattle.flsm_model.specs.Picking.{beginning, wanted}
use Rattle.job_picker.specs.Joined.{PickedIsFirst, NoneIsPicked}
use Rattle.job_picker.proofs.laws.law_picked.Goals as goal

-- table numbers and floor change no claims
same_claims : (k : JobKind) (w : Standing) (n : Session) (j : Job) → claims_at k (beginning w n j) ≡ claims_at k j
same_claims Flush w n j = refl
same_claims Move w n j = refl
same_claims Cut w n j = refl
same_claims Merge w n j = refl

same_free : (w : Standing) (n : Session) (j : Job) (rs : List Running) → is_free (beginning w n j) rs ≡ is_free j rs
same_free w n j rs = ap (λ (own : List Claim). list_all (λ (r : Running). not (list_any (λ a. list_any (claims_conflict a) (claims_of r.1)) own)) rs) (same_claims j.kind w n j)

find_map : {X Y : Type 0} (f : X → Y) (p : Y → Bool) (q : X → Bool) (xs : List X) → ((x : X) → p (f x) ≡ q x) → find p (map f xs) ≡ option_map f (find q xs)
find_map f p q [] same = refl
find_map {X} {Y} f p q (x ∷ xs) same = ap (λ b. cond b (Some (f x)) (find p (map f xs))) (same x) ∙ by (q x) (find_map f p q xs same)
  where
    by : (b : Bool) → find p (map f xs) ≡ option_map f (find q xs) → cond b (Some (f x)) (find p (map f xs)) ≡ option_map f (cond b (Some x) (find q xs))
    by true rest = refl
    by false rest = rest

picked_is_first : PickedIsFirst
picked_is_first o w n = find_map (beginning w n) (λ j. is_free j n.running) (λ j. is_free j n.running) (wanted o w.tree.shape n.frozen) (λ j. same_free w n j n.running)

empty : (js : List Job) → is_some_list js ≡ false → js ≡ []
empty [] e = refl
empty (j ∷ js) e = cc

none_is_picked : NoneIsPicked
none_is_picked o w n none = ap (λ (js : List Job). find (λ j. is_free j n.running) (map (beginning w n) js)) (empty (wanted o w.tree.shape n.frozen) none)

pub returns : goal.returns
returns c = record { first = picked_is_first; none = none_is_picked }
