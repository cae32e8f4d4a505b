-- The first and the last entry of a key in a list.
use Rattle.std.proofs.Common.{◌≡◌, ℕ, suc, ◌+◌, ◌-◌, ◌<◌, ◌≤◌, Bool, true, false, cond, ◌&&◌, not, List, [], ◌∷◌, ◌++◌, length, inl, inr, refl, sym, ◌∙◌, ap, subst, arith}
use Rattle.std.specs.Prelude.{nat_lt, filter, flat_map, Option, Some, None}
use Rattle.std.specs.Cmp.Lexicographic.{bytes_decides}
use Rattle.std.proofs.lemmas.Bool.{and_parts, and_from, or_cases, or_parts, cases_Bool, cases_lt, ltb-true, lt-ltb, true≢false, not-true}
use Rattle.peb_base.specs.Keys.{Bytes, key_lt, key_le, key_eq}
use Rattle.peb_base.specs.Batches.{Batches, entries_of, numbered, ordered_above}
use Rattle.peb_base.specs.Map.{Map, lookup}
use Rattle.peb_base.specs.Entries.{in_order, put_in, entry_lt}
use Rattle.peb_base.specs.KeyLaws.{lt_le, le_refl, same_key, other_key}
use Rattle.peb_base.specs.declared.change.Change.{Change}
use Rattle.peb_base.specs.declared.change.Change.TheVariants.{Put, Delete}
use Rattle.peb_base.specs.declared.op.Op.{Op}
use Rattle.peb_base.specs.declared.entry.Entry.{Entry}
use Rattle.peb_base.specs.Members.{IsIn}
use Rattle.peb_base.specs.Shown.{firsts, put_of}
use Rattle.flsm_model.proofs.lists.Members.{in_put}
use Rattle.flsm_model.proofs.contents.Sorts.{Sorted, sorted_in_order}
use Rattle.flsm_model.proofs.contents.Shown.{in_numbered, above_low}
use Rattle.flsm_model.proofs.guards.NewRows.{le_ne_lt}
use Rattle.flsm_model.proofs.lists.Lists.{in_filter, in_append, in_flat, EachBefore, each_before-filter}
use Rattle.flsm_model.proofs.lists.MapLists.{lt_self, MapSorted, lookup_below, latest}
use Rattle.flsm_model.specs.Contents.{put_value}

-- ---- the first entry of each key

-- the value of the first change of the key
abbrev pub first_at : Bytes → List Entry → Option Bytes
first_at k [] = None
first_at k (e ∷ es) = cond (key_eq k e.key) (put_value e.change) (first_at k es)

pub first_filter : (x k : Bytes) (es : List Entry) → key_eq x k ≡ false → first_at x (filter (λ (f : Entry). not (key_eq f.key k)) es) ≡ first_at x es
first_filter x k [] n = refl
first_filter x k (e ∷ es) n = by (key_eq e.key k) refl (first_filter x k es n)
  where
    by : (b : Bool) → key_eq e.key k ≡ b → first_at x (filter (λ (f : Entry). not (key_eq f.key k)) es) ≡ first_at x es
        → first_at x (cond (not b) (e ∷ filter (λ (f : Entry). not (key_eq f.key k)) es) (filter (λ (f : Entry). not (key_eq f.key k)) es)) ≡ cond (key_eq x e.key) (put_value e.change) (first_at x es)
    by true y ih =
        let n2 : key_eq x e.key ≡ false = other_key x e.key (λ z. true≢false (sym ((bytes_decides x k).1 (z ∙ same_key e.key k y)) ∙ n)) in
        rw n2 ih
    by false y ih = ap (λ z. cond (key_eq x e.key) (put_value e.change) z) ih

pub firsts_first : (x : Bytes) (es : List Entry) → first_at x (firsts es) ≡ first_at x es
firsts_first x [] = refl
firsts_first x (e ∷ es) = elim (cases_Bool (key_eq x e.key)) [
  | inl s ↦ rw s refl
  | inr n ↦ rw n (first_filter x e.key (firsts es) n ∙ firsts_first x es)
]

pub in_firsts : (f : Entry) (es : List Entry) → IsIn f (firsts es) → IsIn f es
in_firsts f [] i = i
in_firsts f (e ∷ es) i = elim i [ inl s ↦ inl s | inr r ↦ inr (in_firsts f es (in_filter (λ (g : Entry). not (key_eq g.key e.key)) f (firsts es) r).0) ]

-- keys ascend strictly
abbrev pub KeysRise : List Entry → Type 0
KeysRise es = EachBefore (λ e f. key_lt e.key f.key ≡ true) es

pub firsts_rise : (es : List Entry) → Sorted es → KeysRise (firsts es)
firsts_rise [] h = tt
firsts_rise (e ∷ es) h = (
  (λ f i.
      let p = in_filter (λ (g : Entry). not (key_eq g.key e.key)) f (firsts es) i in
      le_ne_lt e.key f.key (h.0 f (in_firsts f es p.0)) (other_key e.key f.key (λ z. true≢false (sym ((bytes_decides f.key e.key).1 (sym z)) ∙ not-true _ p.1)))),
  each_before-filter _ _ (firsts es) (firsts_rise es h.1),
)

pub puts_in : (q : Bytes × Bytes) (es : List Entry) → IsIn q (flat_map (λ (e : Entry). put_of e.key e.change) es) → (e : Entry) × IsIn e es × (q.0 ≡ e.key)
puts_in q es i =
    let r = in_flat (λ (e : Entry). put_of e.key e.change) q es i in
    (r.0, r.1, by r.0.key r.0.change r.2)
  where
    by : (k : Bytes) (c : Change) → IsIn q (put_of k c) → q.0 ≡ k
    by k (Put v) m = elim m [ inl s ↦ ap (λ (z : Bytes × Bytes). z.0) s | inr r ↦ absurd r ]
    by k Delete m = absurd m

pub rise_sorted : (es : List Entry) → KeysRise es → MapSorted (flat_map (λ (e : Entry). put_of e.key e.change) es)
rise_sorted [] h = tt
rise_sorted (e ∷ es) h = by e.change (rise_sorted es h.1)
  where
    rest : Map
    rest = flat_map (λ (e : Entry). put_of e.key e.change) es

    by : (c : Change) → MapSorted rest → MapSorted (put_of e.key c ++ rest)
    by (Put v) r = ((λ q i. let p = puts_in q es i in subst (λ z. key_lt e.key z ≡ true) (sym p.2) (h.0 p.0 p.1)), r)
    by Delete r = r

pub lookup_puts : (x : Bytes) (es : List Entry) → KeysRise es → lookup x (flat_map (λ (e : Entry). put_of e.key e.change) es) ≡ first_at x es
lookup_puts x [] h = refl
lookup_puts x (e ∷ es) h = by e.change (lookup_puts x es h.1)
  where
    rest : Map
    rest = flat_map (λ (e : Entry). put_of e.key e.change) es

    by : (c : Change) → lookup x rest ≡ first_at x es → lookup x (put_of e.key c ++ rest) ≡ cond (key_eq x e.key) (put_value c) (first_at x es)
    by (Put v) ih = ap (λ z. cond (key_eq x e.key) (Some v) z) ih
    by Delete ih = elim (cases_Bool (key_eq x e.key)) [
      | inl s ↦ lookup_below x rest (λ q i. let p = puts_in q es i in subst (λ z. key_lt x z ≡ true) (sym p.2) (subst (λ z. key_lt z p.0.key ≡ true) (sym (same_key x e.key s)) (h.0 p.0 p.1))) ∙ rw s refl
      | inr n ↦ ih ∙ rw n refl
    ]

-- ---- the newest entry of a key

pub data Found (es : List Entry) (k : Bytes) (r : Option Bytes) : Type 0 where
  Nowhere : ((x : Entry) → IsIn x es → x.key ≡ k → ⊥) → r ≡ None → Found es k r
  At : (x : Entry) → IsIn x es → x.key ≡ k → r ≡ put_value x.change → ((y : Entry) → IsIn y es → y.key ≡ k → y.number ≤ x.number) → Found es k r

-- numbers ascend
abbrev pub Rising : List Entry → Type 0
Rising es = EachBefore (λ e f. e.number < f.number) es

-- none there, or the last
pub data Last (es : List Entry) (k : Bytes) (d r : Option Bytes) : Type 0 where
  NoneThere : ((x : Entry) → IsIn x es → x.key ≡ k → ⊥) → r ≡ d → Last es k d r
  LastAt : (x : Entry) → IsIn x es → x.key ≡ k → r ≡ put_value x.change → ((y : Entry) → IsIn y es → y.key ≡ k → y.number ≤ x.number) → Last es k d r

pub last_found : (k : Bytes) (es : List Entry) (d : Option Bytes) → Rising es → Last es k d (latest k es d)
last_found k [] d h = NoneThere (λ x i. absurd i) refl
last_found k (e ∷ es) d h = by (last_found k es (cond (key_eq k e.key) (put_value e.change) d) h.1)
  where
    by : Last es k (cond (key_eq k e.key) (put_value e.change) d) (latest k (e ∷ es) d) → Last (e ∷ es) k d (latest k (e ∷ es) d)
    by (LastAt x i q r n) =
        LastAt x (inr i) q r (λ y m s. elim m [ inl z ↦ omega (arith, ap (λ (u : Entry). u.number) z, h.0 x i) | inr z ↦ n y z s ])
    by (NoneThere never q) = elim (cases_Bool (key_eq k e.key)) [
      | inl s ↦ LastAt e (inl refl) (sym (same_key k e.key s)) (q ∙ rw s refl) (λ y m t. elim m [ inl z ↦ omega (arith, ap (λ (u : Entry). u.number) z) | inr z ↦ absurd (never y z t) ])
      | inr n ↦ NoneThere (λ x m t. elim m [
        | inl z ↦ true≢false (sym ((bytes_decides k e.key).1 (sym t ∙ ap (λ (u : Entry). u.key) z)) ∙ n)
        | inr z ↦ never x z t
      ]) (q ∙ rw n refl)
    ]

pub found_last : (k : Bytes) (es : List Entry) → Rising es → Found es k (latest k es None)
found_last k es h = by (last_found k es None h)
  where
    by : Last es k None (latest k es None) → Found es k (latest k es None)
    by (NoneThere never q) = Nowhere never q
    by (LastAt x i q r n) = At x i q r n

-- numbers fall along each key
abbrev pub Falling : List Entry → Type 0
Falling es = EachBefore (λ e f. f.key ≡ e.key → f.number ≤ e.number) es

pub falling_put : (e : Entry) (es : List Entry) → Sorted es → Falling es → Falling (put_in e es)
falling_put e [] s h = ((λ f i. absurd i), tt)
falling_put e (f ∷ fs) s h = by (entry_lt e f) refl (falling_put e fs s.1 h.1)
  where
    by : (b : Bool) → entry_lt e f ≡ b → Falling (put_in e fs) → Falling (cond b (e ∷ f ∷ fs) (f ∷ put_in e fs))
    by true x r = (
      (λ g i q.
          let gf : key_le f.key g.key ≡ true = elim i [ inl a ↦ subst (λ (z : Entry). key_le f.key z.key ≡ true) (sym a) (le_refl f.key) | inr m ↦ s.0 g m ] in
          elim (or_cases (key_lt e.key f.key) (key_eq e.key f.key && nat_lt f.number e.number) x) [
            | inl less ↦ absurd (lt_self e.key (subst (λ z. key_lt e.key z ≡ true) q (lt_le e.key f.key g.key less gf)))
            | inr same ↦
                let p = and_parts (key_eq e.key f.key) (nat_lt f.number e.number) same in
                let less : f.number < e.number = ltb-true f.number e.number p.1 in
                elim i [ inl a ↦ omega (arith, ap (λ (z : Entry). z.number) a, less) | inr m ↦ omega (arith, h.0 g m (q ∙ same_key e.key f.key p.0), less) ]
          ]),
      h,
    )
    by false x r = (
      (λ g i q. elim (in_put g e fs i) [
        | inl a ↦
            let same : key_eq e.key f.key ≡ true = (bytes_decides e.key f.key).1 (ap (λ (z : Entry). z.key) (sym a) ∙ q) in
            let o = or_parts (key_lt e.key f.key) (key_eq e.key f.key && nat_lt f.number e.number) x in
            elim (cases_lt f.number e.number) [
              | inl less ↦ absurd (true≢false (sym (and_from _ _ same (lt-ltb f.number e.number less)) ∙ o.1))
              | inr ge ↦ omega (arith, ap (λ (z : Entry). z.number) a, ge)
            ]
        | inr m ↦ h.0 g m q
      ]),
      r,
    )

pub falling_in_order : (es : List Entry) → Falling (in_order es)
falling_in_order [] = tt
falling_in_order (e ∷ es) = falling_put e (in_order es) (sorted_in_order es) (falling_in_order es)

pub found_first : (k : Bytes) (es : List Entry) → Falling es → Found es k (first_at k es)
found_first k [] h = Nowhere (λ x i. absurd i) refl
found_first k (e ∷ es) h = elim (cases_Bool (key_eq k e.key)) [
  | inl s ↦
      let q : k ≡ e.key = same_key k e.key s in
      At e (inl refl) (sym q) (rw s refl) (λ y m t. elim m [ inl z ↦ omega (arith, ap (λ (u : Entry). u.number) z) | inr z ↦ h.0 y z (t ∙ q) ])
  | inr n ↦ rest n (found_first k es h.1)
]
  where
    not_e : key_eq k e.key ≡ false → (x : Entry) → x ≡ e → x.key ≡ k → ⊥
    not_e n x z t = true≢false (sym ((bytes_decides k e.key).1 (sym t ∙ ap (λ (u : Entry). u.key) z)) ∙ n)

    rest : key_eq k e.key ≡ false → Found es k (first_at k es) → Found (e ∷ es) k (first_at k (e ∷ es))
    rest n (Nowhere never q) = Nowhere (λ x m t. elim m [ inl z ↦ not_e n x z t | inr z ↦ never x z t ]) (rw n q)
    rest n (At x i q r m) = At x (inr i) q (rw n r) (λ y u t. elim u [ inl z ↦ absurd (not_e n y z t) | inr z ↦ m y z t ])

-- ---- entries of batches

pub rising_numbered : (first : ℕ) (ops : List Op) → Rising (numbered first ops)
rising_numbered first [] = tt
rising_numbered first (op ∷ ops) = ((λ f i. omega (arith, (in_numbered f (suc first) ops i).0)), rising_numbered (suc first) ops)

pub rising_append : (xs ys : List Entry) → Rising xs → Rising ys → ((x y : Entry) → IsIn x xs → IsIn y ys → x.number < y.number) → Rising (xs ++ ys)
rising_append [] ys a b h = b
rising_append (x ∷ xs) ys a b h =
    ((λ f i. elim (in_append f xs ys i) [ inl m ↦ a.0 f m | inr m ↦ h x f (inl refl) m ]), rising_append xs ys a.1 b (λ u v i k. h u v (inr i) k))

pub rising_entries : (low : ℕ) (bs : Batches) → ordered_above low bs ≡ true → Rising (entries_of bs)
rising_entries low [] h = tt
rising_entries low (b ∷ bs) h =
    let p3 : ordered_above (b.0 + length b.1 - 1) bs ≡ true = (and_parts _ _ h).1 in
    rising_append (numbered b.0 b.1) (entries_of bs) (rising_numbered b.0 b.1) (rising_entries (b.0 + length b.1 - 1) bs p3)
    (λ x y i k. omega (arith, (in_numbered x b.0 b.1 i).1, above_low (b.0 + length b.1 - 1) bs y p3 k))

pub same_number : (es : List Entry) (x y : Entry) → Rising es → IsIn x es → IsIn y es → x.number ≡ y.number → x ≡ y
same_number [] x y h i k s = absurd i
same_number (e ∷ es) x y h i k s = elim i [
  | inl a ↦ elim k [ inl b ↦ a ∙ sym b | inr b ↦ absurd (omega (arith, s, ap (λ (z : Entry). z.number) a, h.0 y b)) ]
  | inr a ↦ elim k [ inl b ↦ absurd (omega (arith, s, ap (λ (z : Entry). z.number) b, h.0 x a)) | inr b ↦ same_number es x y h.1 a b s ]
]
