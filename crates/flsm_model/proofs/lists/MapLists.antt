-- Maps as lists by ascending key: those that give the same at each key are the same.
use Rattle.std.proofs.Common.{◌≡◌, Bool, true, false, cond, not, List, [], ◌∷◌, ◌⊎◌, inl, inr, refl, sym, ◌∙◌, ap, subst}
use Rattle.std.specs.Prelude.{Option, Some, None}
use Rattle.std.specs.Cmp.Lexicographic.{bytes_decides}
use Rattle.std.proofs.lemmas.Bool.{cases_Bool, true≢false, not-true}
use Rattle.peb_base.specs.Keys.{Bytes, key_lt, key_eq}
use Rattle.peb_base.specs.Map.{Map, lookup, set_key, remove_key, apply_change, apply_entries}
use Rattle.flsm_model.specs.Compaction.{is_put}
use Rattle.peb_base.specs.KeyLaws.{lt_trans, le_refl, same_key, other_key, key_self}
use Rattle.peb_base.specs.MapLaws.{lookup_set, lookup_set_other, lookup_remove, lookup_remove_other}
use Rattle.peb_base.specs.declared.change.Change.{Change}
use Rattle.peb_base.specs.declared.change.Change.TheVariants.{Put, Delete}
use Rattle.peb_base.specs.declared.entry.Entry.{Entry}
use Rattle.peb_base.specs.Members.{IsIn}
use Rattle.flsm_model.proofs.guards.NewRows.{le_ne_lt}
use Rattle.flsm_model.proofs.lists.Lists.{EachBefore, each_before-filter}
use Rattle.flsm_model.specs.Contents.{put_value}

-- the value of a put
pub no_value : (c : Change) → is_put c ≡ false → put_value c ≡ None
no_value (Put v) h = absurd (true≢false h)
no_value Delete h = refl

pub lt_self : (k : Bytes) → key_lt k k ≡ true → ⊥
lt_self k h = true≢false (sym h ∙ not-true _ (le_refl k))

-- ---- maps by what they give at each key

-- the keys ascend
abbrev pub MapSorted : Map → Type 0
MapSorted m = EachBefore (λ p q. key_lt p.0 q.0 ≡ true) m

-- a key below all others isn't there
pub lookup_below : (k : Bytes) (ps : Map) → ((q : Bytes × Bytes) → IsIn q ps → key_lt k q.0 ≡ true) → lookup k ps ≡ None
lookup_below k [] h = refl
lookup_below k (p ∷ ps) h =
    let n : key_eq k p.0 ≡ false = other_key k p.0 (λ s. lt_self k (subst (λ z. key_lt k z ≡ true) (sym s) (h p (inl refl)))) in
    rw n (lookup_below k ps (λ q i. h q (inr i)))

pub lookup_self : (p : Bytes × Bytes) (ps : Map) → lookup p.0 (p ∷ ps) ≡ Some p.1
lookup_self p ps = rw (key_self p.0) refl

pub some_none : (v : Bytes) → Some v ≡ None → ⊥
some_none v h = cc

-- maps that give the same at each key are the same
pub maps_same : (a b : Map) → MapSorted a → MapSorted b → ((k : Bytes) → lookup k a ≡ lookup k b) → a ≡ b
maps_same [] [] s t h = refl
maps_same [] (q ∷ b) s t h = absurd (some_none q.1 (sym (lookup_self q b) ∙ sym (h q.0)))
maps_same (p ∷ a) [] s t h = absurd (some_none p.1 (sym (lookup_self p a) ∙ h p.0))
maps_same (p ∷ a) (q ∷ b) s t h = elim (cases_Bool (key_eq p.0 q.0)) [
  | inl e ↦
      let k : p.0 ≡ q.0 = same_key p.0 q.0 e in
      let v : Some p.1 ≡ Some q.1 = sym (lookup_self p a) ∙ h p.0 ∙ rw e refl in
      let rest : a ≡ b = maps_same a b s.1 t.1 (λ x. tails x k) in
      λ i. (k i, some_inj p.1 q.1 v i) ∷ rest i
  | inr n ↦ absurd (elim (cases_Bool (key_lt p.0 q.0)) [
    | inl less ↦ some_none p.1 (sym (lookup_self p a) ∙ h p.0 ∙ rw n (lookup_below p.0 b (λ z i. lt_trans p.0 q.0 z.0 less (t.0 z i))))
    | inr ge ↦
        let more : key_lt q.0 p.0 ≡ true = le_ne_lt q.0 p.0 (ap not ge) (other_key q.0 p.0 (λ z. true≢false (sym ((bytes_decides p.0 q.0).1 (sym z)) ∙ n))) in
        let other : key_eq q.0 p.0 ≡ false = other_key q.0 p.0 (λ z. true≢false (sym ((bytes_decides p.0 q.0).1 (sym z)) ∙ n)) in
        some_none q.1 (sym (lookup_self q b) ∙ sym (h q.0) ∙ rw other (lookup_below q.0 a (λ z i. lt_trans q.0 p.0 z.0 more (s.0 z i))))
  ])
]
  where
    some_inj : (x y : Bytes) → Some x ≡ Some y → x ≡ y
    some_inj x y e = cc

    tails : (x : Bytes) → p.0 ≡ q.0 → lookup x a ≡ lookup x b
    tails x k = elim (cases_Bool (key_eq x p.0)) [
      | inl e ↦
          let xp : x ≡ p.0 = same_key x p.0 e in
          lookup_below x a (λ z i. subst (λ y. key_lt y z.0 ≡ true) (sym xp) (s.0 z i)) ∙ sym (lookup_below x b (λ z i. subst (λ y. key_lt y z.0 ≡ true) (sym (xp ∙ k)) (t.0 z i)))
      | inr n ↦
          let n2 : key_eq x q.0 ≡ false = subst (λ z. key_eq x z ≡ false) k n in
          let step : lookup x (p ∷ a) ≡ lookup x a = rw n refl in
          let step2 : lookup x (q ∷ b) ≡ lookup x b = rw n2 refl in
          sym step ∙ h x ∙ step2
    ]

-- ---- changes of a map

pub in_set : (k v : Bytes) (m : Map) (q : Bytes × Bytes) → IsIn q (set_key k v m) → (q ≡ (k, v)) ⊎ IsIn q m
in_set k v [] q i = i
in_set k v (p ∷ ps) q i = by (key_lt k p.0) (key_eq k p.0) i (in_set k v ps q)
  where
    by : (a b : Bool) → IsIn q (cond a ((k, v) ∷ p ∷ ps) (cond b ((k, v) ∷ ps) (p ∷ set_key k v ps))) → (IsIn q (set_key k v ps) → (q ≡ (k, v)) ⊎ IsIn q ps) → (q ≡ (k, v)) ⊎ ((q ≡ p) ⊎ IsIn q ps)
    by true b i ih = i
    by false true i ih = elim i [ inl s ↦ inl s | inr r ↦ inr (inr r) ]
    by false false i ih = elim i [ inl s ↦ inr (inl s) | inr r ↦ elim (ih r) [ inl x ↦ inl x | inr y ↦ inr (inr y) ] ]

pub set_sorted : (k v : Bytes) (m : Map) → MapSorted m → MapSorted (set_key k v m)
set_sorted k v [] h = ((λ q i. absurd i), tt)
set_sorted k v (p ∷ ps) h = by (key_lt k p.0) (key_eq k p.0) refl refl (set_sorted k v ps h.1)
  where
    by : (a b : Bool) → key_lt k p.0 ≡ a → key_eq k p.0 ≡ b → MapSorted (set_key k v ps) → MapSorted (cond a ((k, v) ∷ p ∷ ps) (cond b ((k, v) ∷ ps) (p ∷ set_key k v ps)))
    by true b x y r = ((λ q i. elim i [ inl s ↦ subst (λ (z : Bytes × Bytes). key_lt k z.0 ≡ true) (sym s) x | inr m ↦ lt_trans k p.0 q.0 x (h.0 q m) ]), h)
    by false true x y r = ((λ q i. subst (λ z. key_lt z q.0 ≡ true) (sym (same_key k p.0 y)) (h.0 q i)), h.1)
    by false false x y r =
        let more : key_lt p.0 k ≡ true = le_ne_lt p.0 k (ap not x) (other_key p.0 k (λ z. true≢false (sym ((bytes_decides k p.0).1 (sym z)) ∙ y))) in
        ((λ q i. elim (in_set k v ps q i) [ inl s ↦ subst (λ (z : Bytes × Bytes). key_lt p.0 z.0 ≡ true) (sym s) more | inr m ↦ h.0 q m ]), r)

pub change_sorted : (k : Bytes) (c : Change) (m : Map) → MapSorted m → MapSorted (apply_change k c m)
change_sorted k (Put v) m h = set_sorted k v m h
change_sorted k Delete m h = each_before-filter _ _ m h

pub apply_sorted : (es : List Entry) (m : Map) → MapSorted m → MapSorted (apply_entries es m)
apply_sorted [] m h = h
apply_sorted (e ∷ es) m h = apply_sorted es (apply_change e.key e.change m) (change_sorted e.key e.change m h)

pub set_at : (x k v : Bytes) (m : Map) → lookup x (set_key k v m) ≡ cond (key_eq x k) (Some v) (lookup x m)
set_at x k v m = elim (cases_Bool (key_eq x k)) [
  | inl s ↦ subst (λ z. lookup z (set_key k v m) ≡ Some v) (sym (same_key x k s)) (lookup_set k v m) ∙ rw s refl
  | inr n ↦ lookup_set_other x k v m n ∙ rw n refl
]

pub remove_at : (x k : Bytes) (m : Map) → lookup x (remove_key k m) ≡ cond (key_eq x k) None (lookup x m)
remove_at x k m = elim (cases_Bool (key_eq x k)) [
  | inl s ↦ subst (λ z. lookup z (remove_key k m) ≡ None) (sym (same_key x k s)) (lookup_remove k m) ∙ rw s refl
  | inr n ↦ lookup_remove_other x k m n ∙ rw n refl
]

-- the value that the last change of the key leaves
abbrev pub latest : Bytes → List Entry → Option Bytes → Option Bytes
latest k [] d = d
latest k (e ∷ es) d = latest k es (cond (key_eq k e.key) (put_value e.change) d)

pub lookup_change : (x k : Bytes) (c : Change) (m : Map) → lookup x (apply_change k c m) ≡ cond (key_eq x k) (put_value c) (lookup x m)
lookup_change x k (Put v) m = set_at x k v m
lookup_change x k Delete m = remove_at x k m

pub lookup_applied : (x : Bytes) (es : List Entry) (m : Map) → lookup x (apply_entries es m) ≡ latest x es (lookup x m)
lookup_applied x [] m = refl
lookup_applied x (e ∷ es) m = lookup_applied x es (apply_change e.key e.change m) ∙ ap (latest x es) (lookup_change x e.key e.change m)
