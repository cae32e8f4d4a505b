-- Claims that are kept, and the jobs in flight that they are of.
use Rattle.std.proofs.Common.{◌≡◌, ◌≢◌, ℕ, zero, suc, ◌+◌, ◌<◌, Bool, true, false, ◌&&◌, ◌||◌, not, cond, List, [], ◌∷◌, map, length, get_or, set, replicate, refl, sym, ap, ◌∙◌, subst, inl, inr, arith}
use Rattle.std.specs.Prelude.{◌==◌, filter, Option, Some, None, option_map, is_none}
use Rattle.std.specs.List.{list_all, position_from}
use Rattle.std.proofs.lemmas.Bool.{and_parts, and_from, cases_lt, eqb-true, eqb-false, eq-eqb, ne_eqb, not-true, true≢false}
use Rattle.std.proofs.lemmas.Iterator.Adapters.{position_from-zero}
use Rattle.std.proofs.lemmas.List.{get_or-set_same, get_or-set_other, get_or_past, get_or-replicate, length-set, length-replicate}
use Rattle.peb_base.specs.Members.{IsIn}
use Rattle.flsm_model.specs.declared.claim.Claim.{Claim}
use Rattle.flsm_model.specs.declared.job.Job.{Job}
use Rattle.flsm_model.specs.Claims.{claims_of, jobs_conflict, is_free}
use Rattle.flsm_model.specs.Events.{Running}
use Rattle.flsm_model.specs.Fits.{numbers_differ}
use Rattle.flsm_model.specs.Shape.{has_number}
use Rattle.flsm_model.specs.Steps.{job_of, without_job}
use Rattle.job_picker.specs.Kept.{Kept, kept_by, meets_kept, first_conflict, AreClaimsOf}

-- ---- tests of lists

-- tests that hold together are the same
pub same_test : (a b : Bool) → (a ≡ true → b ≡ true) → (b ≡ true → a ≡ true) → a ≡ b
same_test true b on back = sym (on refl)
same_test false true on back = back refl
same_test false false on back = refl

-- a test that holds of each element holds of the list
pub all_in : {X : Type 0} (p : X → Bool) (xs : List X) → ((x : X) → IsIn x xs → p x ≡ true) → list_all p xs ≡ true
all_in p [] each = refl
all_in p (x ∷ xs) each = and_from (p x) (list_all p xs) (each x (inl refl)) (all_in p xs (λ y among. each y (inr among)))

-- and of the list it holds of each element
pub at_all : {X : Type 0} (p : X → Bool) (xs : List X) (x : X) → list_all p xs ≡ true → IsIn x xs → p x ≡ true
at_all p [] x all among = absurd among
at_all p (y ∷ xs) x all among =
    let parts = and_parts (p y) (list_all p xs) all in
    elim among [ inl same ↦ ap p same ∙ parts.0 | inr later ↦ at_all p xs x parts.1 later ]

-- so it does by index, where it holds of the default too
all_at : {X : Type 0} (p : X → Bool) (xs : List X) (i : ℕ) (d : X) → p d ≡ true → list_all p xs ≡ true → p (get_or xs i d) ≡ true
all_at p [] i d past all = past
all_at p (x ∷ xs) zero d past all = (and_parts (p x) (list_all p xs) all).0
all_at p (x ∷ xs) (suc i) d past all = all_at p xs i d past (and_parts (p x) (list_all p xs) all).1

-- and back
all_from : {X : Type 0} (p : X → Bool) (xs : List X) (d : X) → ((i : ℕ) → p (get_or xs i d) ≡ true) → list_all p xs ≡ true
all_from p [] d each = refl
all_from p (x ∷ xs) d each = and_from (p x) (list_all p xs) (each 0) (all_from p xs d (λ i. each (suc i)))

-- no index is found exactly where no element passes
none_from : {X : Type 0} (p : X → Bool) (i : ℕ) (xs : List X) → is_none (position_from p i xs) ≡ list_all (λ x. not (p x)) xs
none_from p i [] = refl
none_from {X} p i (x ∷ xs) = by (p x) (none_from p (i + 1) xs)
  where
    by : (b : Bool) → is_none (position_from p (i + 1) xs) ≡ list_all (λ y. not (p y)) xs
        → is_none (cond b (Some i) (position_from p (i + 1) xs)) ≡ (not b && list_all (λ y. not (p y)) xs)
    by true rest = refl
    by false rest = rest

-- ---- jobs of actors

-- equality of numbers either way round
turned : (a b : ℕ) → (a == b) ≡ (b == a)
turned a b = by (a == b) refl
  where
    by : (c : Bool) → (a == b) ≡ c → (a == b) ≡ (b == a)
    by true e = e ∙ sym (eq-eqb b a (sym (eqb-true a b e)))
    by false e = e ∙ sym (ne_eqb b a (λ same. eqb-false a b e (sym same)))

-- the job of an actor is in flight
job_in : (rs : List Running) (actor : ℕ) (j : Job) → job_of rs actor ≡ Some j → IsIn (actor, j) rs
job_in [] actor j is = absurd (none_some is)
  where
    none_some : None ≡ Some j → ⊥
    none_some e = cc
job_in (r ∷ rs) actor j is = by (r.0 == actor) refl is (job_in rs actor j)
  where
    some_is : Some r.1 ≡ Some j → r.1 ≡ j
    some_is e = cc

    by : (b : Bool) → (r.0 == actor) ≡ b → cond b (Some r.1) (job_of rs actor) ≡ Some j → (job_of rs actor ≡ Some j → IsIn (actor, j) rs) → IsIn (actor, j) (r ∷ rs)
    by true e q rest = inl (pair_is (sym (eqb-true r.0 actor e)) (sym (some_is q)))
      where
        pair_is : actor ≡ r.0 → j ≡ r.1 → (actor, j) ≡ r
        pair_is a b = ap (λ n. (n, j)) a ∙ ap (λ k. (r.0, k)) b
    by false e q rest = inr (rest q)

-- no job is the actor's
unnumbered : (rs : List Running) (actor : ℕ) → job_of rs actor ≡ None → has_number actor (map (λ (r : Running). r.0) rs) ≡ false
unnumbered [] actor is = refl
unnumbered (r ∷ rs) actor is = by (r.0 == actor) refl is (unnumbered rs actor)
  where
    some_none : Some r.1 ≡ None → ⊥
    some_none e = cc

    by : (b : Bool) → (r.0 == actor) ≡ b → cond b (Some r.1) (job_of rs actor) ≡ None → (job_of rs actor ≡ None → has_number actor (map (λ (x : Running). x.0) rs) ≡ false)
        → (actor == r.0 || has_number actor (map (λ (x : Running). x.0) rs)) ≡ false
    by true e q rest = absurd (some_none q)
    by false e q rest = ap (λ b. b || has_number actor (map (λ (x : Running). x.0) rs)) (turned actor r.0 ∙ e) ∙ rest q

-- the actor of a job in flight is one of the actors
numbered : (rs : List Running) (r : Running) → IsIn r rs → has_number r.0 (map (λ (x : Running). x.0) rs) ≡ true
numbered [] r among = absurd among
numbered (x ∷ rs) r among = elim among [
  | inl same ↦ ap (λ b. b || has_number r.0 (map (λ (y : Running). y.0) rs)) (eq-eqb r.0 x.0 (ap (λ (y : Running). y.0) same))
  | inr later ↦ right_true (r.0 == x.0) (has_number r.0 (map (λ (y : Running). y.0) rs)) (numbered rs r later)
]
  where
    right_true : (a b : Bool) → b ≡ true → (a || b) ≡ true
    right_true true b h = refl
    right_true false b h = h

-- where actors differ, each job in flight is its actor's
in_job : (rs : List Running) (r : Running) → numbers_differ (map (λ (x : Running). x.0) rs) ≡ true → IsIn r rs → job_of rs r.0 ≡ Some r.1
in_job [] r differ among = absurd among
in_job (x ∷ rs) r differ among =
    let parts = and_parts (not (has_number x.0 (map (λ (y : Running). y.0) rs))) (numbers_differ (map (λ (y : Running). y.0) rs)) differ in
    elim among [
      | inl same ↦ ap (λ b. cond b (Some x.1) (job_of rs r.0)) (eq-eqb x.0 r.0 (sym (ap (λ (y : Running). y.0) same))) ∙ ap (λ (y : Running). Some y.1) (sym same)
      | inr later ↦ ap (λ b. cond b (Some x.1) (job_of rs r.0)) (ne_eqb x.0 r.0 (λ same. true≢false (sym (ap (λ n. has_number n (map (λ (y : Running). y.0) rs)) same ∙ numbered rs r later) ∙ not-true _ parts.0)))
          ∙ in_job rs r parts.1 later
    ]

-- ---- a job is free exactly where its claims meet no kept one

-- a job conflicts with no kept claims exactly where it conflicts with no job
free_kept : (kept : Kept) (rs : List Running) (j : Job) → AreClaimsOf kept rs → list_all (λ k. not (meets_kept (claims_of j) k)) kept ≡ is_free j rs
free_kept kept rs j are = same_test (list_all apart kept) (is_free j rs) on back
  where
    apart : Option (List Claim) → Bool
    apart k = not (meets_kept (claims_of j) k)

    on : list_all apart kept ≡ true → is_free j rs ≡ true
    on all = all_in (λ (r : Running). not (jobs_conflict j r.1)) rs (λ r among.
        sym (ap apart (are.each r.0 ∙ ap (option_map claims_of) (in_job rs r are.differ among))) ∙ all_at apart kept r.0 None refl all)

    back : is_free j rs ≡ true → list_all apart kept ≡ true
    back free = all_from apart kept None (λ i. ap apart (are.each i) ∙ by i (job_of rs i) refl)
      where
        by : (i : ℕ) (job : Option Job) → job_of rs i ≡ job → apart (option_map claims_of (job_of rs i)) ≡ true
        by i None e = ap (λ o. apart (option_map claims_of o)) e
        by i (Some k) e = ap (λ o. apart (option_map claims_of o)) e ∙ at_all (λ (r : Running). not (jobs_conflict j r.1)) rs (i, k) free (job_in rs i k e)

-- so none is found exactly where the job is free
pub conflict_free : (kept : Kept) (rs : List Running) (j : Job) → AreClaimsOf kept rs → is_none (first_conflict kept (claims_of j)) ≡ is_free j rs
conflict_free kept rs j are =
    ap is_none (position_from-zero (meets_kept (claims_of j)) kept) ∙ none_from (meets_kept (claims_of j)) 0 kept ∙ free_kept kept rs j are

-- ---- no job

-- an actor that keeps no claims
abbrev nothing : Option (List Claim)
nothing = None

-- without claims each actor keeps none
none_at : (n actor : ℕ) → kept_by (replicate n None) actor ≡ None
none_at n actor = elim (cases_lt actor n) [
  | inl within ↦ get_or-replicate n actor None None within
  | inr past ↦ let long = length-replicate n nothing in get_or_past (replicate n nothing) actor nothing (omega (arith, long, past))
]

-- so they are those of no jobs
pub none_kept : (n : ℕ) → AreClaimsOf (replicate n None) []
none_kept n = record { each = λ actor. none_at n actor; differ = refl }

-- ---- a job begins

-- the claims of a job more, of an actor that had none
pub kept_more : (kept : Kept) (rs : List Running) (worker : ℕ) (j : Job) → AreClaimsOf kept rs → worker < length kept → kept_by kept worker ≡ None
    → AreClaimsOf (set kept worker (Some (claims_of j))) ((worker, j) ∷ rs)
kept_more kept rs worker j are within none = record {
  each = λ actor. by actor (worker == actor) refl;
  differ = and_from _ _ (ap not (unnumbered rs worker (no_job (job_of rs worker) (sym (are.each worker) ∙ none)))) are.differ;
}
  where
    no_job : (o : Option Job) → option_map claims_of o ≡ None → o ≡ None
    no_job None e = refl
    no_job (Some k) e = absurd (some_none e)
      where
        some_none : Some (claims_of k) ≡ None → ⊥
        some_none h = cc

    by : (actor : ℕ) (b : Bool) → (worker == actor) ≡ b → get_or (set kept worker (Some (claims_of j))) actor None ≡ option_map claims_of (cond (worker == actor) (Some j) (job_of rs actor))
    by actor true e =
        let same : worker ≡ actor = eqb-true worker actor e in
        subst (λ n. get_or (set kept worker (Some (claims_of j))) n None ≡ Some (claims_of j)) same (get_or-set_same kept worker (Some (claims_of j)) None within)
        ∙ sym (ap (λ b. option_map claims_of (cond b (Some j) (job_of rs actor))) e)
    by actor false e =
        get_or-set_other kept worker actor (Some (claims_of j)) None (λ same. eqb-false worker actor e (sym same)) ∙ are.each actor
        ∙ sym (ap (λ b. option_map claims_of (cond b (Some j) (job_of rs actor))) e)

-- ---- a job ends

-- the other actors keep their jobs
left_other : (rs : List Running) (worker actor : ℕ) → worker ≢ actor → job_of (without_job rs worker) actor ≡ job_of rs actor
left_other [] worker actor apart = refl
left_other (r ∷ rs) worker actor apart = by (r.0 == worker) refl (left_other rs worker actor apart)
  where
    by : (b : Bool) → (r.0 == worker) ≡ b → job_of (without_job rs worker) actor ≡ job_of rs actor
        → job_of (cond (not b) (r ∷ without_job rs worker) (without_job rs worker)) actor ≡ cond (r.0 == actor) (Some r.1) (job_of rs actor)
    by true e rest = rest ∙ sym (ap (λ b. cond b (Some r.1) (job_of rs actor)) (ne_eqb r.0 actor (λ same. apart (sym (eqb-true r.0 worker e) ∙ same))))
    by false e rest = ap (λ o. cond (r.0 == actor) (Some r.1) o) rest

-- the actor has no job any more
left_same : (rs : List Running) (worker : ℕ) → job_of (without_job rs worker) worker ≡ None
left_same [] worker = refl
left_same (r ∷ rs) worker = by (r.0 == worker) refl (left_same rs worker)
  where
    by : (b : Bool) → (r.0 == worker) ≡ b → job_of (without_job rs worker) worker ≡ None → job_of (cond (not b) (r ∷ without_job rs worker) (without_job rs worker)) worker ≡ None
    by true e rest = rest
    by false e rest = ap (λ b. cond b (Some r.1) (job_of (without_job rs worker) worker)) e ∙ rest

-- fewer jobs have no more actors
few_numbered : (n : ℕ) (p : Running → Bool) (rs : List Running) → has_number n (map (λ (r : Running). r.0) rs) ≡ false → has_number n (map (λ (r : Running). r.0) (filter p rs)) ≡ false
few_numbered n p [] none = refl
few_numbered n p (r ∷ rs) none = let parts = neither (n == r.0) (has_number n (map (λ (x : Running). x.0) rs)) none in by (p r) parts.0 (few_numbered n p rs parts.1)
  where
    neither : (a b : Bool) → (a || b) ≡ false → (a ≡ false) × (b ≡ false)
    neither true b h = absurd (true≢false h)
    neither false b h = (refl, h)

    by : (b : Bool) → (n == r.0) ≡ false → has_number n (map (λ (x : Running). x.0) (filter p rs)) ≡ false → has_number n (map (λ (x : Running). x.0) (cond b (r ∷ filter p rs) (filter p rs))) ≡ false
    by true h rest = ap (λ b. b || has_number n (map (λ (x : Running). x.0) (filter p rs))) h ∙ rest
    by false h rest = rest

-- of fewer jobs the actors differ too
few_differ : (p : Running → Bool) (rs : List Running) → numbers_differ (map (λ (r : Running). r.0) rs) ≡ true → numbers_differ (map (λ (r : Running). r.0) (filter p rs)) ≡ true
few_differ p [] differ = refl
few_differ p (r ∷ rs) differ =
    let parts = and_parts (not (has_number r.0 (map (λ (x : Running). x.0) rs))) (numbers_differ (map (λ (x : Running). x.0) rs)) differ in
    by (p r) (not-true _ parts.0) (few_differ p rs parts.1)
  where
    by : (b : Bool) → has_number r.0 (map (λ (x : Running). x.0) rs) ≡ false → numbers_differ (map (λ (x : Running). x.0) (filter p rs)) ≡ true
        → numbers_differ (map (λ (x : Running). x.0) (cond b (r ∷ filter p rs) (filter p rs))) ≡ true
    by true none rest = and_from _ _ (ap not (few_numbered r.0 p rs none)) rest
    by false none rest = rest

-- an actor whose claims are freed keeps none, also past the last one
freed : (kept : Kept) (worker : ℕ) → get_or (set kept worker None) worker None ≡ None
freed kept worker = elim (cases_lt worker (length kept)) [
  | inl within ↦ get_or-set_same kept worker None None within
  | inr past ↦ get_or_past (set kept worker None) worker None (let long = length-set kept worker nothing in omega (arith, long, past))
]

-- the claims without those of an actor
pub kept_fewer : (kept : Kept) (rs : List Running) (worker : ℕ) → AreClaimsOf kept rs → AreClaimsOf (set kept worker None) (without_job rs worker)
kept_fewer kept rs worker are = record {
  each = λ actor. by actor (worker == actor) refl;
  differ = few_differ (λ (r : Running). not (r.0 == worker)) rs are.differ;
}
  where
    by : (actor : ℕ) (b : Bool) → (worker == actor) ≡ b → get_or (set kept worker None) actor None ≡ option_map claims_of (job_of (without_job rs worker) actor)
    by actor true e = subst (λ n. get_or (set kept worker None) n None ≡ option_map claims_of (job_of (without_job rs worker) n)) (eqb-true worker actor e)
        (freed kept worker ∙ sym (ap (option_map claims_of) (left_same rs worker)))
    by actor false e = get_or-set_other kept worker actor None None (λ same. eqb-false worker actor e (sym same)) ∙ are.each actor
        ∙ sym (ap (option_map claims_of) (left_other rs worker actor (eqb-false worker actor e)))
