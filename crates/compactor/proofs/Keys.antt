-- Keys of puts among sorted entries, and which of them were chosen.
use Rattle.std.proofs.Common.{◌≡◌, ℕ, Bool, true, false, cond, not, List, [], ◌∷◌, ◌++◌, Option, Some, None, ◌⊎◌, inl, inr, refl, sym, ap, ◌∙◌, subst}
use Rattle.std.specs.Prelude.{◌&&◌, ◌||◌, nat_lt}
use Rattle.std.proofs.lemmas.Bool.{and_parts, or_cases, true≢false, false≢true}
use Rattle.peb_base.specs.Choice.{level_of}
use Rattle.peb_base.specs.Entries.{AscendFrom, comes_before}
use Rattle.peb_base.specs.KeyLaws.{lt_trans, lt_asym, same_key, key_self, other_key}
use Rattle.peb_base.specs.Keys.{Bytes, key_eq, key_lt}
use Rattle.peb_base.specs.Profiles.{Column}
use Rattle.peb_base.specs.declared.entry.Entry.{Entry}
use Rattle.flsm_model.specs.Choices.{put_keys, chosen_at, choices}
use Rattle.flsm_model.specs.Compaction.{is_put}
use Rattle.flsm_model.specs.Ranges.{has_key}
use Rattle.flsm_model.specs.declared.chosen.Chosen.{Chosen}
use Rattle.compactor.specs.Choosing.{starts_with}

-- keys with one in front, where it is a put's and doesn't stand among them
abbrev with_put : Bool → Bool → Bytes → List Bytes → List Bytes
with_put put there key ks = cond (put && not there) (key ∷ ks) ks

-- a key differs from one above it
differs : (a b : Bytes) → key_lt a b ≡ true → key_eq a b ≡ false
differs a b lt = other_key a b
    (λ same. true≢false (sym lt ∙ lt_asym b a (ap (key_lt b) same ∙ ap (λ k. key_lt k b) (sym same) ∙ lt)))

-- the entry's key is above another one, or is it
is_above : (k : Bytes) (n : ℕ) (e : Entry) → comes_before k n e.key e.number ≡ true
    → (key_lt k e.key ≡ true) ⊎ (k ≡ e.key)
is_above k n e before =
    elim (or_cases (key_lt k e.key) (key_eq k e.key && nat_lt e.number n) before) [
      | inl above ↦ inl above
      | inr same ↦ inr (same_key k e.key (and_parts (key_eq k e.key) (nat_lt e.number n) same).0)
    ]

later : (key k : Bytes) (n : ℕ) (e : Entry) → key_lt key k ≡ true
    → comes_before k n e.key e.number ≡ true → key_lt key e.key ≡ true
later key k n e lt before = elim (is_above k n e before) [
  | inl above ↦ lt_trans key k e.key lt above
  | inr same ↦ ap (key_lt key) (sym same) ∙ lt
]

absent_with : (key : Bytes) (b : Bool) (k : Bytes) (ks : List Bytes) → key_lt key k ≡ true
    → has_key key ks ≡ false → has_key key (cond b (k ∷ ks) ks) ≡ false
absent_with key true k ks lt rest = ap (λ t. t || has_key key ks) (differs key k lt) ∙ rest
absent_with key false k ks lt rest = rest

-- no key below a sorted list's stands in it
below_none : (key k : Bytes) (n : ℕ) (es : List Entry) → key_lt key k ≡ true → AscendFrom k n es
    → has_key key (put_keys es) ≡ false
below_none key k n [] lt each = refl
below_none key k n (e ∷ es) lt each =
    let above = later key k n e lt each.1 in
    absent_with key (is_put e.change && not (has_key e.key (put_keys es))) e.key (put_keys es) above
    (below_none key e.key e.number es above each.2)

-- the key stands first
record StartsWith (key : Bytes) (ks : List Bytes) : Type 0 where
  pub rest : List Bytes
  pub is : ks ≡ key ∷ rest

first_with : (k : Bytes) (b : Bool) (key : Bytes) (ks : List Bytes) → k ≡ key
    → (has_key k ks ≡ true → StartsWith k ks) → has_key k (cond b (key ∷ ks) ks) ≡ true
    → StartsWith k (cond b (key ∷ ks) ks)
first_with k true key ks same rest has =
    record { rest = ks; is = ap (λ x. x ∷ ks) (sym same) }
first_with k false key ks same rest has = rest has

-- the least key of sorted entries stands first, where it stands among their puts
least_first : (k : Bytes) (n : ℕ) (es : List Entry) → AscendFrom k n es
    → has_key k (put_keys es) ≡ true → StartsWith k (put_keys es)
least_first k n [] each has = absurd (false≢true has)
least_first k n (e ∷ es) each has =
    let put = is_put e.change && not (has_key e.key (put_keys es)) in
    elim (is_above k n e each.1) [
      | inl above ↦ absurd (true≢false (sym has
          ∙ absent_with k put e.key (put_keys es) above (below_none k e.key e.number es above each.2)))
      | inr same ↦ first_with k put e.key (put_keys es) same
          (least_first k e.number es (subst (λ (key : Bytes). AscendFrom key e.number es) (sym same) each.2))
          has
    ]

or_last : (a b : Bool) → b ≡ true → (a || b) ≡ true
or_last true b is = refl
or_last false b is = is

is_key_with : (o : Column) (key k : Bytes) (l : Option ℕ) (ks : List Bytes)
    → (starts_with key (choices o ks) ≡ true → has_key key ks ≡ true)
    → starts_with key (chosen_at k l ++ choices o ks) ≡ true → has_key key (k ∷ ks) ≡ true
is_key_with o key k None ks rest starts = or_last (key_eq key k) (has_key key ks) (rest starts)
is_key_with o key k (Some l) ks rest starts =
    ap (λ x. key_eq key x || has_key key ks) (same_key k key starts)
    ∙ ap (λ t. t || has_key key ks) (key_self key)

-- what was chosen first is one of the keys
chosen_is_key : (o : Column) (key : Bytes) (ks : List Bytes)
    → starts_with key (choices o ks) ≡ true → has_key key ks ≡ true
chosen_is_key o key [] starts = absurd (false≢true starts)
chosen_is_key o key (k ∷ ks) starts =
    is_key_with o key k (level_of o k) ks (chosen_is_key o key ks) starts

-- a deletion adds no key
pub no_put : (o : Column) (e : Entry) (es : List Entry) → is_put e.change ≡ false
    → choices o (put_keys (e ∷ es)) ≡ choices o (put_keys es)
no_put o e es not_put =
    ap (λ b. choices o (with_put b (has_key e.key (put_keys es)) e.key (put_keys es))) not_put

no_level_with : (o : Column) (b : Bool) (key : Bytes) (ks : List Bytes) → level_of o key ≡ None
    → choices o (cond b (key ∷ ks) ks) ≡ choices o ks
no_level_with o true key ks none = ap (λ l. chosen_at key l ++ choices o ks) none
no_level_with o false key ks none = refl

-- nor does a put of a key without a level
pub no_level : (o : Column) (e : Entry) (es : List Entry) → level_of o e.key ≡ None
    → choices o (put_keys (e ∷ es)) ≡ choices o (put_keys es)
no_level o e es none =
    no_level_with o (is_put e.change && not (has_key e.key (put_keys es))) e.key (put_keys es) none

never : (b : Bool) → (b && false) ≡ false
never true = refl
never false = refl

-- nor one of the key that was chosen last
pub chosen_before : (o : Column) (e : Entry) (es : List Entry)
    → starts_with e.key (choices o (put_keys es)) ≡ true
    → choices o (put_keys (e ∷ es)) ≡ choices o (put_keys es)
chosen_before o e es starts =
    ap (λ b. choices o (with_put (is_put e.change) b e.key (put_keys es)))
    (chosen_is_key o e.key (put_keys es) starts)
    ∙ ap (λ b. choices o (cond b (e.key ∷ put_keys es) (put_keys es))) (never (is_put e.change))

-- a put of another key with a level adds it
pub chosen_now : (o : Column) (e : Entry) (es : List Entry) (level : ℕ)
    → AscendFrom e.key e.number es → is_put e.change ≡ true → level_of o e.key ≡ Some level
    → starts_with e.key (choices o (put_keys es)) ≡ false
    → choices o (put_keys (e ∷ es))
    ≡ record { key = e.key; level = level } ∷ choices o (put_keys es)
chosen_now o e es level each put has other = by (has_key e.key (put_keys es)) refl
  where
    first : StartsWith e.key (put_keys es) → starts_with e.key (choices o (put_keys es)) ≡ true
    first starts =
        ap (λ ks. starts_with e.key (choices o ks)) starts.is
        ∙ ap (λ l. starts_with e.key (chosen_at e.key l ++ choices o starts.rest)) has
        ∙ key_self e.key

    by : (b : Bool) → has_key e.key (put_keys es) ≡ b
        → choices o (put_keys (e ∷ es))
        ≡ record { key = e.key; level = level } ∷ choices o (put_keys es)
    by true is = absurd (true≢false (sym (first (least_first e.key e.number es each is)) ∙ other))
    by false is =
        ap (λ b. choices o (with_put b (has_key e.key (put_keys es)) e.key (put_keys es))) put
        ∙ ap (λ b. choices o (with_put true b e.key (put_keys es))) is
        ∙ ap (λ l. chosen_at e.key l ++ choices o (put_keys es)) has
