-- A walk back that stops at what a number sees.
use Rattle.std.proofs.Common.{◌≡◌, ℕ, zero, suc, ◌⊎◌, inl, inr, Bool, true, false, not, ◌&&◌, ◌||◌, List, [], ◌∷◌, ◌++◌, Some, length, take, refl, sym, ap, ◌∙◌, subst, arith}
use Rattle.std.specs.Prelude.{if◌then◌else◌, slice_get, nat_lt}
use Rattle.std.proofs.lemmas.Bool.{true≢false, false≢true, or_parts, and_parts, not-true}
use Rattle.std.proofs.lemmas.Bool.Decides.{nat_tests}
use Rattle.peb_base.specs.Keys.{Bytes, key_lt, key_eq}
use Rattle.peb_base.specs.KeyLaws.{same_key, key_self, other_key, lt_trans, lt_asym}
use Rattle.peb_base.specs.Entries.{AreSorted, AscendFrom, entry_lt}
use Rattle.peb_base.specs.Members.{IsIn}
use Rattle.peb_base.specs.Sorting.{behind_first}
use Rattle.peb_base.specs.declared.entry.Entry.{Entry}
use Rattle.merge_iter.specs.CutLaws.{some_is, in_at}
use Rattle.merge_iter.specs.Seeing.{puts, is_passed, is_found, seen}
use Rattle.merge_iter.proofs.Going.{seen_passed, seen_deleted, seen_put, seen_in, never_behind}

-- ---- fronts

-- the first ones and one more
same_head : (n : ℕ) (key : Bytes) (y : Entry) (xs ys : List Entry)
    → ((k : Bytes) → seen n k xs ≡ seen n k ys) → seen n key (y ∷ xs) ≡ seen n key (y ∷ ys)
same_head n key y xs ys same =
    ap (λ vs. if is_passed n key y then vs else if puts y.change then y ∷ seen n y.key xs else seen n y.key xs)
    (same key)
    ∙ ap (λ vs. if is_passed n key y then seen n key ys else if puts y.change then y ∷ vs else vs) (same y.key)

alone : (n : ℕ) (key : Bytes) (x : Entry) → is_found n (Some x) ≡ false → seen n key (x ∷ []) ≡ []
alone n key x h = by (is_passed n key x) refl (puts x.change) refl
  where
    by : (b : Bool) → is_passed n key x ≡ b → (c : Bool) → puts x.change ≡ c → seen n key (x ∷ []) ≡ []
    by true t c d = seen_passed n key x [] t
    by false t false d = seen_deleted n key x [] t d
    by false t true d =
        absurd (false≢true (sym h ∙ ap (λ b. not b && puts x.change) (or_parts (nat_lt n x.number) _ t).0 ∙ d))

-- one that isn't a put numbered at most n is never seen
pub not_found : (n : ℕ) (key : Bytes) (es : List Entry) (r : ℕ) (x : Entry) → slice_get es r ≡ Some x
    → is_found n (Some x) ≡ false → seen n key (take (suc r) es) ≡ seen n key (take r es)
not_found n key [] r x at h = cc
not_found n key (y ∷ es) zero x at h =
    ap (λ (z : Entry). seen n key (z ∷ [])) (some_is y x at) ∙ alone n key x h
not_found n key (y ∷ es) (suc r) x at h =
    same_head n key y (take (suc r) es) (take r es) (λ k. not_found n k es r x at h)

-- nor is one behind another of its key that is numbered at most n
pub decided : (n : ℕ) (key : Bytes) (es : List Entry) (r : ℕ) (y x : Entry) → slice_get es r ≡ Some y
    → slice_get es (suc r) ≡ Some x → nat_lt n y.number ≡ false → y.key ≡ x.key
    → seen n key (take (suc (suc r)) es) ≡ seen n key (take (suc r) es)
decided n key [] r y x at next low same = cc
decided n key (z ∷ es) (suc r) y x at next low same =
    same_head n key z (take (suc (suc r)) es) (take (suc r) es) (λ k. decided n k es r y x at next low same)
decided n key (z ∷ []) zero y x at next low same = cc
decided n key (z ∷ w ∷ es) zero y x at next low same =
    subst (λ (a : Entry). seen n key (a ∷ w ∷ []) ≡ seen n key (a ∷ [])) (sym (some_is z y at))
    (subst (λ (b : Entry). seen n key (y ∷ b ∷ []) ≡ seen n key (y ∷ [])) (sym (some_is w x next))
    (by (key_eq y.key key) refl (puts y.change) refl))
  where
    x_passes : is_passed n y.key x ≡ true
    x_passes = passes (nat_lt n x.number) (ap (λ k. key_eq k y.key) (sym same) ∙ key_self y.key)
      where
        passes : (b : Bool) → key_eq x.key y.key ≡ true → (b || key_eq x.key y.key) ≡ true
        passes true h = refl
        passes false h = h

    passed_at : (c : Bool) → key_eq y.key key ≡ c → is_passed n key y ≡ c
    passed_at c e = λ i. low i || e i

    by : (c : Bool) → key_eq y.key key ≡ c → (d : Bool) → puts y.change ≡ d
        → seen n key (y ∷ x ∷ []) ≡ seen n key (y ∷ [])
    by true e d p =
        let same_keys : y.key ≡ key = same_key y.key key e in
        seen_passed n key y (x ∷ []) (passed_at true e)
        ∙ seen_passed n key x [] (subst (λ k. is_passed n k x ≡ true) same_keys x_passes)
        ∙ sym (seen_passed n key y [] (passed_at true e))
    by false e false p =
        seen_deleted n key y (x ∷ []) (passed_at false e) p ∙ seen_passed n y.key x [] x_passes
        ∙ sym (seen_deleted n key y [] (passed_at false e) p)
    by false e true p =
        seen_put n key y (x ∷ []) (passed_at false e) p
        ∙ ap (λ vs. y ∷ vs) (seen_passed n y.key x [] x_passes)
        ∙ sym (seen_put n key y [] (passed_at false e) p)

-- a put of a key none of whose entries before it are numbered at most n is seen
pub found : (n : ℕ) (key : Bytes) (es : List Entry) (r : ℕ) (x : Entry) → slice_get es r ≡ Some x
    → is_found n (Some x) ≡ true → key_eq x.key key ≡ false
    → ((z : Entry) → IsIn z (take r es) → nat_lt n z.number ≡ false → key_eq x.key z.key ≡ false)
    → seen n key (take (suc r) es) ≡ seen n key (take r es) ++ x ∷ []
found n key [] r x at h other before = cc
found n key (y ∷ es) zero x at h other before =
    ap (λ (z : Entry). seen n key (z ∷ [])) (some_is y x at) ∙ seen_put n key x [] passed parts.1
  where
    parts : (not (nat_lt n x.number) ≡ true) × (puts x.change ≡ true)
    parts = and_parts (not (nat_lt n x.number)) (puts x.change) h

    passed : is_passed n key x ≡ false
    passed = λ i. not-true (nat_lt n x.number) parts.0 i || other i
found n key (y ∷ es) (suc r) x at h other before =
    by (is_passed n key y) refl (puts y.change) refl
    (λ k o. found n k es r x at h o (λ z i low. before z (inr i) low))
  where
    Deeper : Type 0
    Deeper = (k : Bytes) → key_eq x.key k ≡ false
        → seen n k (take (suc r) es) ≡ seen n k (take r es) ++ x ∷ []

    by : (b : Bool) → is_passed n key y ≡ b → (c : Bool) → puts y.change ≡ c → Deeper
        → seen n key (y ∷ take (suc r) es) ≡ seen n key (y ∷ take r es) ++ x ∷ []
    by true t c d ih =
        seen_passed n key y (take (suc r) es) t ∙ ih key other
        ∙ ap (λ vs. vs ++ x ∷ []) (sym (seen_passed n key y (take r es) t))
    by false t false d ih =
        seen_deleted n key y (take (suc r) es) t d
        ∙ ih y.key (before y (inl refl) (or_parts (nat_lt n y.number) _ t).0)
        ∙ ap (λ vs. vs ++ x ∷ []) (sym (seen_deleted n key y (take r es) t d))
    by false t true d ih =
        seen_put n key y (take (suc r) es) t d
        ∙ ap (λ vs. y ∷ vs) (ih y.key (before y (inl refl) (or_parts (nat_lt n y.number) _ t).0))
        ∙ ap (λ vs. vs ++ x ∷ []) (sym (seen_put n key y (take r es) t d))

-- what is seen of the first entries comes first in all that is seen
pub front_seen : (n : ℕ) (key : Bytes) (es : List Entry) (r : ℕ)
    → (more : List Entry) × (seen n key es ≡ seen n key (take r es) ++ more)
front_seen n key es zero = (seen n key es, refl)
front_seen n key [] (suc r) = ([], refl)
front_seen n key (y ∷ es) (suc r) =
    by (is_passed n key y) (puts y.change) (front_seen n key es r) (front_seen n y.key es r)
  where
    by : (b c : Bool) → (more : List Entry) × (seen n key es ≡ seen n key (take r es) ++ more)
        → (more : List Entry) × (seen n y.key es ≡ seen n y.key (take r es) ++ more)
        → (more : List Entry)
        × ((if b then seen n key es else if c then y ∷ seen n y.key es else seen n y.key es)
        ≡ (if b then seen n key (take r es) else if c then y ∷ seen n y.key (take r es) else seen n y.key (take r es))
        ++ more)
    by true c a d = a
    by false false a d = d
    by false true a d = (d.0, ap (λ vs. y ∷ vs) d.1)

-- of a visible entry just those in front of it are seen of what lies in front
pub count_before : (n : ℕ) (from : Bytes) (number : ℕ) (key : Bytes) (es : List Entry) (q p : ℕ) (e : Entry)
    → AscendFrom from number es → slice_get es q ≡ Some e → slice_get (seen n key es) p ≡ Some e
    → length (seen n key (take q es)) ≡ p
count_before n from number key [] q p e h at there = cc
count_before n from number key (y ∷ es) q p e h at there =
    by (is_passed n key y) refl (puts y.change) refl q at
    (λ k m r a b. count_before n y.key y.number k es m r e h.2 a b)
  where
    Deeper : Type 0
    Deeper = (k : Bytes) (m r : ℕ) → slice_get es m ≡ Some e → slice_get (seen n k es) r ≡ Some e
        → length (seen n k (take m es)) ≡ r

    not_here : (k : Bytes) (r : ℕ) → slice_get (y ∷ es) 0 ≡ Some e → slice_get (seen n k es) r ≡ Some e → ⊥
    not_here k r a b =
        never_behind y es h.2 (seen_in n k es y
        (subst (λ (z : Entry). IsIn z (seen n k es)) (sym (some_is y e a)) (in_at (seen n k es) r e b)))

    further : (k : Bytes) → ((xs : List Entry) → seen n key (y ∷ xs) ≡ seen n k xs) → (q : ℕ)
        → slice_get (y ∷ es) q ≡ Some e → Deeper → length (seen n key (take q (y ∷ es))) ≡ p
    further k same zero a ih =
        absurd (not_here k p a (ap (λ vs. slice_get vs p) (sym (same es)) ∙ there))
    further k same (suc m) a ih =
        ap length (same (take m es)) ∙ ih k m p a (ap (λ vs. slice_get vs p) (sym (same es)) ∙ there)

    by : (b : Bool) → is_passed n key y ≡ b → (c : Bool) → puts y.change ≡ c → (q : ℕ)
        → slice_get (y ∷ es) q ≡ Some e → Deeper → length (seen n key (take q (y ∷ es))) ≡ p
    by true t c d q a ih = further key (λ xs. seen_passed n key y xs t) q a ih
    by false t false d q a ih = further y.key (λ xs. seen_deleted n key y xs t d) q a ih
    by false t true d q a ih =
        at_put p q a ih (ap (λ vs. slice_get vs p) (sym (seen_put n key y es t d)) ∙ there)
      where
        at_put : (p q : ℕ) → slice_get (y ∷ es) q ≡ Some e → Deeper
            → slice_get (y ∷ seen n y.key es) p ≡ Some e → length (seen n key (take q (y ∷ es))) ≡ p
        at_put zero zero a ih b = refl
        at_put zero (suc m) a ih b =
            absurd (never_behind y es h.2
            (subst (λ (z : Entry). IsIn z es) (sym (some_is y e b)) (in_at es m e a)))
        at_put (suc r) zero a ih b = absurd (not_here y.key r a b)
        at_put (suc r) (suc m) a ih b =
            ap length (seen_put n key y (take m es) t d) ∙ ap suc (ih y.key m r a b)

-- ---- keys before an entry

before_at : (from : Bytes) (number : ℕ) (es : List Entry) (m : ℕ) (y z : Entry) → AscendFrom from number es
    → slice_get es m ≡ Some y → IsIn z (take m es) → entry_lt z y ≡ true
before_at from number [] m y z h at i = cc
before_at from number (w ∷ es) zero y z h at i = absurd i
before_at from number (w ∷ es) (suc m) y z h at (inl s) =
    subst (λ (a : Entry). entry_lt a y ≡ true) (sym s) (behind_first w y es h.2 (in_at es m y at))
before_at from number (w ∷ es) (suc m) y z h at (inr i) = before_at w.key w.number es m y z h.2 at i

last_or_before : (es : List Entry) (m : ℕ) (y z : Entry) → slice_get es m ≡ Some y
    → IsIn z (take (suc m) es) → (z ≡ y) ⊎ IsIn z (take m es)
last_or_before [] m y z at i = cc
last_or_before (w ∷ es) zero y z at (inl s) = inl (s ∙ some_is w y at)
last_or_before (w ∷ es) zero y z at (inr i) = absurd i
last_or_before (w ∷ es) (suc m) y z at (inl s) = inr (inl s)
last_or_before (w ∷ es) (suc m) y z at (inr i) = by (last_or_before es m y z at i)
  where
    by : (z ≡ y) ⊎ IsIn z (take m es) → (z ≡ y) ⊎ ((z ≡ w) ⊎ IsIn z (take m es))
    by (inl s) = inl s
    by (inr j) = inr (inr j)

-- between two entries of one key lie entries of that key alone
between : (z y x : Entry) → entry_lt z y ≡ true → entry_lt y x ≡ true → z.key ≡ x.key
    → (y.key ≡ x.key) × (nat_lt y.number z.number ≡ true)
between z y x zy yx same = at (key_lt z.key y.key) refl
  where
    irrefl : (k : Bytes) → key_lt k k ≡ true → ⊥
    irrefl k t = true≢false (sym t ∙ lt_asym k k t)

    parts : (b c : Bool) → (b && c) ≡ true → (b ≡ true) × (c ≡ true)
    parts b c h = and_parts b c h

    rest_of : (b c : Bool) → b ≡ false → (b || c) ≡ true → c ≡ true
    rest_of b c f h = sym (ap (λ t. t || c) f) ∙ h

    at : (b : Bool) → key_lt z.key y.key ≡ b → (y.key ≡ x.key) × (nat_lt y.number z.number ≡ true)
    at true t = absurd (up (key_lt y.key x.key) refl)
      where
        up : (b : Bool) → key_lt y.key x.key ≡ b → ⊥
        up true u = irrefl z.key (ap (key_lt z.key) same ∙ lt_trans z.key y.key x.key t u)
        up false u =
            let equal = (parts _ _ (rest_of (key_lt y.key x.key) _ u yx)).0 in
            irrefl z.key (ap (key_lt z.key) (same ∙ sym (same_key y.key x.key equal)) ∙ t)
    at false t =
        let p = parts _ _ (rest_of (key_lt z.key y.key) _ t zy) in
        (sym (same_key z.key y.key p.0) ∙ same, p.1)

-- where the entry in front is newer than n, or of another key, none before is of the key and at most n
pub none_older : (n : ℕ) (es : List Entry) (m : ℕ) (y x : Entry) → AreSorted es → slice_get es m ≡ Some y
    → slice_get es (suc m) ≡ Some x → (not (nat_lt n y.number) && key_eq y.key x.key) ≡ false
    → (z : Entry) → IsIn z (take (suc m) es) → nat_lt n z.number ≡ false → key_eq x.key z.key ≡ false
none_older n es m y x sorted at next stop z i low =
    other_key x.key z.key (λ same. by (last_or_before es m y z at i) (sym same))
  where
    in_front : (from : Bytes) (number : ℕ) (es : List Entry) (m : ℕ) → AscendFrom from number es
        → slice_get es m ≡ Some y → slice_get es (suc m) ≡ Some x → entry_lt y x ≡ true
    in_front from number [] m h at next = cc
    in_front from number (w ∷ es) zero h at next =
        subst (λ (a : Entry). entry_lt a x ≡ true) (some_is w y at) (behind_first w x es h.2 (in_at es 0 x next))
    in_front from number (w ∷ es) (suc m) h at next = in_front w.key w.number es m h.2 at next

    newer : y.key ≡ x.key → nat_lt n y.number ≡ true
    newer same = at_test (nat_lt n y.number) refl
      where
        at_test : (b : Bool) → nat_lt n y.number ≡ b → nat_lt n y.number ≡ true
        at_test true t = t
        at_test false t =
            absurd (true≢false (sym (ap (λ b. not b && key_eq y.key x.key) t
            ∙ ap (key_eq y.key) (sym same) ∙ key_self y.key) ∙ stop))

    higher : (a b : ℕ) → nat_lt n a ≡ true → nat_lt a b ≡ true → nat_lt n b ≡ true
    higher a b h g = grind (arith, nat_tests, h, g)

    by : (z ≡ y) ⊎ IsIn z (take m es) → z.key ≡ x.key → ⊥
    by (inl s) same =
        true≢false (sym (ap (λ (e : Entry). nat_lt n e.number) s
        ∙ newer (sym (ap (λ (e : Entry). e.key) s) ∙ same)) ∙ low)
    by (inr j) same =
        let b = between z y x (before_at [] 0 es m y z sorted at j) (in_front [] 0 es m sorted at next) same in
        true≢false (sym (higher y.number z.number (newer b.0) b.1) ∙ low)
