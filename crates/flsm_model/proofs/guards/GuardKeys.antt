-- What keys more do to the guards of a level.
use Rattle.std.proofs.Common.{◌≡◌, ℕ, zero, suc, Bool, true, false, cond, ◌||◌, not, List, [], ◌∷◌, ◌⊎◌, inl, inr, refl, sym, ◌∙◌, ap, subst, arith}
use Rattle.std.specs.Prelude.{filter, Some}
use Rattle.std.specs.List.{list_all}
use Rattle.std.proofs.lemmas.Bool.{and_parts, and_from, or_cases, or_left, or_right, true≢false, false≢true, not-true}
use Rattle.peb_base.specs.Keys.{Bytes, key_lt, key_le, key_eq}
use Rattle.flsm_model.specs.Ranges.{in_range, has_key, range_after, range_of, with_key, with_keys}
use Rattle.peb_base.specs.KeyLaws.{le_trans, lt_le_weak}
use Rattle.peb_base.specs.declared.table_row.TableRow.{TableRow}
use Rattle.peb_base.specs.Profiles.{Column}
use Rattle.flsm_model.specs.declared.edit.Edit.{Edit}
use Rattle.flsm_model.specs.declared.edit.Edit.TheVariants.{Open, Flush, Move, Cut, Merge}
use Rattle.flsm_model.specs.Shape.{Shape, shape_after, guards_at}
use Rattle.flsm_model.specs.Fits.{fits, is_guard}
use Rattle.flsm_model.proofs.guards.Facts.{cut_facts}
use Rattle.flsm_model.proofs.guards.InGuards.{InGuards, guards_after}

pub has_with : (x k : Bytes) (gs : List Bytes) → has_key x gs ≡ true → has_key x (with_key k gs) ≡ true
has_with x k [] h = absurd (false≢true h)
has_with x k (g ∷ gs) h = by (key_lt k g) (key_eq k g) h (has_with x k gs)
  where
    by : (a b : Bool) → (key_eq x g || has_key x gs) ≡ true → (has_key x gs ≡ true → has_key x (with_key k gs) ≡ true) → has_key x (cond a (k ∷ g ∷ gs) (cond b (g ∷ gs) (g ∷ with_key k gs))) ≡ true
    by true b h ih = or_right (key_eq x k) _ h
    by false true h ih = h
    by false false h ih = elim (or_cases (key_eq x g) (has_key x gs) h) [ inl s ↦ or_left _ _ s | inr r ↦ or_right (key_eq x g) _ (ih r) ]

pub has_withs : (x : Bytes) (ks gs : List Bytes) → has_key x gs ≡ true → has_key x (with_keys ks gs) ≡ true
has_withs x [] gs h = h
has_withs x (k ∷ ks) gs h = has_with x k (with_keys ks gs) (has_withs x ks gs h)

with_has : (x k : Bytes) (gs : List Bytes) → has_key x (with_key k gs) ≡ true → (key_eq x k ≡ true) ⊎ (has_key x gs ≡ true)
with_has x k [] h = elim (or_cases (key_eq x k) false h) [ inl s ↦ inl s | inr r ↦ absurd (false≢true r) ]
with_has x k (g ∷ gs) h = by (key_lt k g) (key_eq k g) h (with_has x k gs)
  where
    by : (a b : Bool) → has_key x (cond a (k ∷ g ∷ gs) (cond b (g ∷ gs) (g ∷ with_key k gs))) ≡ true → (has_key x (with_key k gs) ≡ true → (key_eq x k ≡ true) ⊎ (has_key x gs ≡ true))
        → (key_eq x k ≡ true) ⊎ ((key_eq x g || has_key x gs) ≡ true)
    by true b h ih = or_cases (key_eq x k) (key_eq x g || has_key x gs) h
    by false true h ih = inr h
    by false false h ih = elim (or_cases (key_eq x g) (has_key x (with_key k gs)) h) [
      | inl s ↦ inr (or_left _ _ s)
      | inr r ↦ elim (ih r) [ inl a ↦ inl a | inr b ↦ inr (or_right (key_eq x g) _ b) ]
    ]

pub withs_has : (x : Bytes) (ks gs : List Bytes) → has_key x (with_keys ks gs) ≡ true → (has_key x ks ≡ true) ⊎ (has_key x gs ≡ true)
withs_has x [] gs h = inr h
withs_has x (k ∷ ks) gs h = elim (with_has x k (with_keys ks gs) h) [
  | inl s ↦ inl (or_left (key_eq x k) _ s)
  | inr r ↦ elim (withs_has x ks gs r) [ inl a ↦ inl (or_right (key_eq x k) _ a) | inr b ↦ inr b ]
]

-- a key outside a range leaves the range as it is
range_same : (lo : Bytes) (gs : List Bytes) (k x : Bytes) → key_le lo k ≡ true → in_range (range_after lo gs x).0 (range_after lo gs x).1 k ≡ false
    → range_after lo (with_key k gs) x ≡ range_after lo gs x
range_same lo [] k x l out = absurd (true≢false (sym (and_from (key_le lo k) true l refl) ∙ out))
range_same lo (g ∷ gs) k x l out = by (key_lt x g) (key_lt k g) (key_eq k g) refl refl out (range_same g gs k x)
  where
    by : (xg kg e : Bool) → key_lt x g ≡ xg → key_lt k g ≡ kg
        → in_range (cond xg (lo, Some g) (range_after g gs x)).0 (cond xg (lo, Some g) (range_after g gs x)).1 k ≡ false
        → (key_le g k ≡ true → in_range (range_after g gs x).0 (range_after g gs x).1 k ≡ false → range_after g (with_key k gs) x ≡ range_after g gs x)
        → range_after lo (cond kg (k ∷ g ∷ gs) (cond e (g ∷ gs) (g ∷ with_key k gs))) x ≡ cond xg (lo, Some g) (range_after g gs x)
    by true true e a b o ih = absurd (true≢false (sym (and_from (key_le lo k) (key_lt k g) l b) ∙ o))
    by false true e a b o ih =
        let ge : key_le g x ≡ true = ap not a in
        let no : key_lt x k ≡ false = not-true (key_lt x k) (le_trans k g x (lt_le_weak k g b) ge) in
        rw (no, a) refl
    by true false true a b o ih = rw a refl
    by false false true a b o ih = rw a refl
    by true false false a b o ih = rw a refl
    by false false false a b o ih = rw a (ih (ap not b) o)

least2 : (k : Bytes) → key_le [] k ≡ true
least2 [] = refl
least2 (b ∷ bs) = refl

pub ranges_same : (gs ks : List Bytes) (x : Bytes) → list_all (λ k. not (in_range (range_of gs x).0 (range_of gs x).1 k)) ks ≡ true → range_of (with_keys ks gs) x ≡ range_of gs x
ranges_same gs [] x h = refl
ranges_same gs (k ∷ ks) x h =
    let p = and_parts _ _ h in
    let ih = ranges_same gs ks x p.1 in
    range_same [] (with_keys ks gs) k x (least2 k) (subst (λ r. in_range r.0 r.1 k ≡ false) (sym ih) (not-true _ p.0)) ∙ ih

-- the guards of a range, with keys more outside it
filter_with : (p : Bytes → Bool) (k : Bytes) (gs : List Bytes) → p k ≡ false → filter p (with_key k gs) ≡ filter p gs
filter_with p k [] h = rw h refl
filter_with p k (g ∷ gs) h = by (key_lt k g) (key_eq k g) (filter_with p k gs h)
  where
    by : (a b : Bool) → filter p (with_key k gs) ≡ filter p gs → filter p (cond a (k ∷ g ∷ gs) (cond b (g ∷ gs) (g ∷ with_key k gs))) ≡ filter p (g ∷ gs)
    by true b ih = rw h refl
    by false true ih = refl
    by false false ih = ap (λ xs. cond (p g) (g ∷ xs) xs) ih

pub filter_withs : (p : Bytes → Bool) (ks gs : List Bytes) → list_all (λ k. not (p k)) ks ≡ true → filter p (with_keys ks gs) ≡ filter p gs
filter_withs p [] gs h = refl
filter_withs p (k ∷ ks) gs h = let a = and_parts _ _ h in filter_with p k (with_keys ks gs) (not-true _ a.0) ∙ filter_withs p ks gs a.1

-- ---- the guards after an edit

-- the guards of a level stay, or those keys come that a Cut commits there
pub data GuardsTurn (s : Shape) (e : Edit) (l : ℕ) : Type 0 where
  Same : guards_at (shape_after s e) l ≡ guards_at s l → GuardsTurn s e l
  More : (keys : List Bytes) (inputs : List ℕ) (outputs : List TableRow) → e ≡ Cut l keys inputs outputs → guards_at (shape_after s e) l ≡ with_keys keys (guards_at s l) → GuardsTurn s e l

pub guards_turn : (o : Column) (s : Shape) (e : Edit) (l : ℕ) → InGuards o s → fits o s e ≡ true → GuardsTurn s e l
guards_turn o s e zero h f = Same refl
guards_turn o s (Open session log) (suc l) h f = Same refl
guards_turn o s (Flush row from to log chosen) (suc l) h f = Same refl
guards_turn o s (Move level floor inputs outputs) (suc l) h f = Same refl
guards_turn o s (Merge floor whole inputs outputs) (suc l) h f = Same refl
guards_turn o s (Cut level keys inputs outputs) (suc l) h f =
    let k = cut_facts o s level keys inputs outputs f in
    elim (guards_after s level (suc l) keys inputs outputs (omega (arith, h.count, k.from, k.upto)) k.from (omega arith)) [
      | inl e ↦ More keys inputs outputs (ap (λ x. Cut x keys inputs outputs) (sym e.0)) (e.1 ∙ ap (λ x. with_keys keys (guards_at s x)) (sym e.0))
      | inr e ↦ Same e.1
    ]

-- a guard stays one
pub guard_stays : (o : Column) (s : Shape) (e : Edit) (l : ℕ) (k : Bytes) → InGuards o s → fits o s e ≡ true → is_guard s l k ≡ true → is_guard (shape_after s e) l k ≡ true
guard_stays o s e l k h f g = by (guards_turn o s e l h f)
  where
    by : GuardsTurn s e l → has_key k (guards_at (shape_after s e) l) ≡ true
    by (Same q) = rw q g
    by (More keys inputs outputs s2 q) = rw q (has_withs k keys (guards_at s l) g)
