-- Which levels a key meets.
use Rattle.std.proofs.Common.{◌≡◌, ℕ, zero, suc, ◌-◌, ◌*◌, ◌<◌, ◌≤◌, Bool, true, false, ◌&&◌, ◌||◌, [], ◌∷◌, Some, cond, refl, sym, ap, ◌∙◌, subst, inl, inr, arith, nat_le}
use Rattle.std.proofs.Math.Bool.{and-false}
use Rattle.std.proofs.Math.Nat.{mul-le-mul_left}
use Rattle.std.proofs.lemmas.Bool.{cases_eq, cases_lt, leb-true, le-leb, lt-leb}
use Rattle.peb_base.specs.Keys.{Bytes, key_eq}
use Rattle.peb_base.specs.KeyLaws.{same_key}
use Rattle.peb_base.specs.Choice.{need, meets, bits, level_from, level_of}
use Rattle.peb_base.specs.Profiles.{Column}
use Rattle.flsm_model.specs.Fits.{is_chosen, is_candidate}
use Rattle.flsm_model.specs.Candidates.{CandidatesMeet}

-- the level that was found is met, and none before it is
record IsShallowest (o : Column) (key : Bytes) (from level : ℕ) : Type 0 where
  from_here : from ≤ level
  met : meets o level key ≡ true
  before : (m : ℕ) → from ≤ m → m < level → meets o m key ≡ false

shallowest : (o : Column) (key : Bytes) (from count level : ℕ) → level_from o key from count ≡ Some level → IsShallowest o key from level
shallowest o key from zero level is = cc
shallowest o key from (suc count) level is = by (meets o from key) refl (shallowest o key (suc from) count level) is
  where
    by : (b : Bool) → meets o from key ≡ b → (level_from o key (suc from) count ≡ Some level → IsShallowest o key (suc from) level)
        → cond b (Some from) (level_from o key (suc from) count) ≡ Some level → IsShallowest o key from level
    by true met ih is =
        let here : from ≡ level = cc in
        record { from_here = omega arith; met = subst (λ n. meets o n key ≡ true) here met; before = λ m le less. absurd (omega arith) }
    by false unmet ih is =
        let later = ih is in
        record {
          from_here = omega (arith, later.from_here);
          met = later.met;
          before = λ m le less. elim (cases_eq m from) [
            | inl here ↦ ap (λ n. meets o n key) here ∙ unmet
            | inr past ↦ later.before m (omega arith) less
          ];
        }

-- deeper levels need no more bits
meets-deeper : (o : Column) (key : Bytes) (level deeper : ℕ) → level ≤ deeper → meets o level key ≡ true → meets o deeper key ≡ true
meets-deeper o key level deeper le met =
    let more : o.decrement * (level - 1) ≤ o.decrement * (deeper - 1) = mul-le-mul_left o.decrement (omega arith) in
    let few = leb-true (need o level) (bits o.hash key) met in
    le-leb (need o deeper) (bits o.hash key) (omega arith)

pub level-meets : (o : Column) (key : Bytes) (level at : ℕ) → level_of o key ≡ Some at → 1 ≤ level → nat_le at level ≡ meets o level key
level-meets o key level at is from =
    let found = shallowest o key 1 o.last_level at is in
    elim (cases_lt level at) [
      | inl above ↦ lt-leb at level above ∙ sym (found.before level from above)
      | inr within ↦ le-leb at level within ∙ sym (meets-deeper o key at level within found.met)
    ]

joined : (a x m chosen held : Bool) → (x ≡ true → a ≡ m) → held ≡ (chosen && m) → ((a && x) || held) ≡ ((x || chosen) && m)
joined a true true chosen held same is = rw (same refl) refl
joined a true false chosen held same is = rw (same refl) (is ∙ and-false chosen)
joined a false m chosen held same is = rw (and-false a) is

pub candidates-meet : CandidatesMeet
candidates-meet o [] level key stand from = refl
candidates-meet o (c ∷ cs) level key stand from =
    joined (nat_le c.level level) (key_eq key c.key) (meets o level key) (is_chosen cs key) (is_candidate cs level key)
    (λ same. level-meets o c.key level c.level stand.0 from ∙ ap (meets o level) (sym (same_key key c.key same)))
    (candidates-meet o cs level key stand.1 from)
