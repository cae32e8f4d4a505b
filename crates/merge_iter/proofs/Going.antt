-- A walk on that stops at what a number sees.
use Rattle.std.proofs.Common.{◌≡◌, ℕ, zero, suc, ◌<◌, ◌≤◌, ◌⊎◌, inl, inr, Bool, true, false, not, ◌||◌, List, [], ◌∷◌, Option, Some, None, length, drop, refl, sym, ap, ◌∙◌, subst, arith}
use Rattle.std.specs.Prelude.{if◌then◌else◌, slice_get, nat_lt, IfSome}
use Rattle.std.proofs.lemmas.Bool.{true≢false, false≢true, or_parts}
use Rattle.std.proofs.lemmas.Bool.Decides.{nat_tests}
use Rattle.peb_base.specs.Keys.{Bytes}
use Rattle.peb_base.specs.Cursors.{place_in, entry_at, next_place, StandsAmong}
use Rattle.peb_base.specs.Entries.{AscendFrom}
use Rattle.peb_base.specs.EntryLaws.{entry_irrefl}
use Rattle.peb_base.specs.Members.{IsIn}
use Rattle.peb_base.specs.Sorting.{behind_first}
use Rattle.peb_base.specs.declared.cursor.Cursor.{Ghosts}
use Rattle.peb_base.specs.declared.entry.Entry.{Entry}
use Rattle.merge_iter.specs.CutLaws.{some_is, in_at, got, get_inside, place_there, none_in_list}
use Rattle.merge_iter.specs.Seeing.{puts, is_passed, is_hidden, key_after, seen, visible, rest, IsAhead, Sees}
use Rattle.merge_iter.specs.StandLaws.{Among}

-- ---- lists

pub none_past : (es : List Entry) (n : ℕ) → length es ≤ n → drop n es ≡ []
none_past [] zero h = refl
none_past [] (suc n) h = refl
none_past (e ∷ es) zero h = absurd (omega (arith, h))
none_past (e ∷ es) (suc n) h = none_past es n (omega (arith, h))

pub drop_get : (es : List Entry) (n : ℕ) (e : Entry) → slice_get es n ≡ Some e
    → drop n es ≡ e ∷ drop (suc n) es
drop_get [] n e h = cc
drop_get (x ∷ es) zero e h = cc
drop_get (x ∷ es) (suc n) e h = drop_get es n e h

pub get_drop : (es : List Entry) (n : ℕ) (e : Entry) (more : List Entry) → drop n es ≡ e ∷ more
    → slice_get es n ≡ Some e
get_drop [] zero e more h = cc
get_drop [] (suc n) e more h = cc
get_drop (x ∷ es) zero e more h = cc
get_drop (x ∷ es) (suc n) e more h = get_drop es n e more h

none_drop : (es : List Entry) (n : ℕ) → drop n es ≡ [] → slice_get es n ≡ None
none_drop es n h = by (slice_get es n) refl
  where
    by : (o : Option Entry) → slice_get es n ≡ o → slice_get es n ≡ None
    by None is = is
    by (Some e) is = cc (sym h ∙ drop_get es n e is)

-- from a place of the list on, or from none behind it
pub rest_in : (es : List Entry) (n : ℕ) → rest es (place_in es n) ≡ drop n es
rest_in es n = by (nat_lt n (length es)) refl
  where
    by : (b : Bool) → nat_lt n (length es) ≡ b → rest es (place_in es n) ≡ drop n es
    by true t = ap (λ c. rest es (if c then Some n else None)) t
    by false t =
        let past : length es ≤ n = grind (arith, nat_tests, t) in
        ap (λ c. rest es (if c then Some n else None)) t ∙ sym (none_past es n past)

-- from the entry at a place on
pub rest_at : (es : List Entry) (at : Option ℕ) (e : Entry) → entry_at es at ≡ Some e
    → rest es at ≡ e ∷ rest es (next_place es at)
rest_at es None e h = cc
rest_at es (Some n) e h = drop_get es n e h ∙ ap (λ fs. e ∷ fs) (sym (rest_in es (suc n)))

-- ---- one step

pub seen_passed : (n : ℕ) (key : Bytes) (e : Entry) (es : List Entry) → is_passed n key e ≡ true
    → seen n key (e ∷ es) ≡ seen n key es
seen_passed n key e es h =
    ap (λ b. if b then seen n key es else if puts e.change then e ∷ seen n e.key es else seen n e.key es) h

pub seen_deleted : (n : ℕ) (key : Bytes) (e : Entry) (es : List Entry) → is_passed n key e ≡ false
    → puts e.change ≡ false → seen n key (e ∷ es) ≡ seen n e.key es
seen_deleted n key e es h d =
    ap (λ b. if b then seen n key es else if puts e.change then e ∷ seen n e.key es else seen n e.key es) h
    ∙ ap (λ b. if b then e ∷ seen n e.key es else seen n e.key es) d

pub seen_put : (n : ℕ) (key : Bytes) (e : Entry) (es : List Entry) → is_passed n key e ≡ false
    → puts e.change ≡ true → seen n key (e ∷ es) ≡ e ∷ seen n e.key es
seen_put n key e es h d =
    ap (λ b. if b then seen n key es else if puts e.change then e ∷ seen n e.key es else seen n e.key es) h
    ∙ ap (λ b. if b then e ∷ seen n e.key es else seen n e.key es) d

-- over a hidden entry
pub step_on : (n : ℕ) (key : Bytes) (es : List Entry) (at : Option ℕ) (p : ℕ)
    → is_hidden n key (entry_at es at) ≡ true → IsAhead n key es at p
    → IsAhead n (key_after n key (entry_at es at)) es (next_place es at) p
step_on n key es at p hidden ahead = by (entry_at es at) refl hidden
  where
    by : (o : Option Entry) → entry_at es at ≡ o → is_hidden n key o ≡ true
        → seen n (key_after n key o) (rest es (next_place es at)) ≡ drop p (visible n es)
    by None is h = absurd (false≢true h)
    by (Some e) is h = at_entry (is_passed n key e) refl (puts e.change) refl
      where
        more : List Entry
        more = rest es (next_place es at)

        whole : seen n key (e ∷ more) ≡ drop p (visible n es)
        whole = ap (seen n key) (sym (rest_at es at e is)) ∙ ahead

        at_entry : (b : Bool) → is_passed n key e ≡ b → (c : Bool) → puts e.change ≡ c
            → seen n (if is_passed n key e then key else e.key) more ≡ drop p (visible n es)
        at_entry true t c d =
            ap (λ b. seen n (if b then key else e.key) more) t ∙ sym (seen_passed n key e more t) ∙ whole
        at_entry false t false d =
            ap (λ b. seen n (if b then key else e.key) more) t ∙ sym (seen_deleted n key e more t d) ∙ whole
        at_entry false t true d =
            absurd (false≢true (sym (ap (λ b. b || not (puts e.change)) t ∙ ap not d) ∙ h))

-- where a walk on stops, it sees
pub stop_on : {C : Type 0} (g : Ghosts C) → Among g → (n : ℕ) (key : Bytes) (c : C) (es : List Entry)
    (at : Option ℕ) (p : ℕ) → g.stands c es at → is_hidden n key (g.shows c) ≡ false
    → IsAhead n key es at p → Sees g n c es (place_in (visible n es) p)
stop_on g among n key c es at p stands stop ahead =
    by (entry_at es at) refl (subst (λ o. is_hidden n key o ≡ false) st.shows stop)
  where
    st : StandsAmong es at (g.shows c)
    st = among c es at stands

    vs : List Entry
    vs = visible n es

    nothing : (at : Option ℕ) → entry_at es at ≡ None → IfSome at (λ k. k < length es) → rest es at ≡ []
    nothing None h inside = refl
    nothing (Some k) h inside = let r = got es k inside in cc (sym h ∙ r.1)

    by : (o : Option Entry) → entry_at es at ≡ o → is_hidden n key o ≡ false
        → Sees g n c es (place_in vs p)
    by None is h =
        let none : slice_get vs p ≡ None =
        none_drop vs p (sym ahead ∙ ap (seen n key) (nothing at is st.inside)) in
        let past : place_in vs p ≡ None = none_in_list vs p none in
        record {
          at = at;
          stands = stands;
          same = ap (entry_at vs) past ∙ sym is;
          inside = subst (λ q. IfSome q (λ k. k < length vs)) (sym past) tt;
        }
    by (Some e) is h =
        let parts = or_parts (is_passed n key e) (not (puts e.change)) h in
        let there : slice_get vs p ≡ Some e =
        get_drop vs p e _ (sym ahead ∙ ap (seen n key) (rest_at es at e is)
        ∙ seen_put n key e (rest es (next_place es at)) parts.0 (put (puts e.change) parts.1)) in
        let place : place_in vs p ≡ Some p = place_there vs p e there in
        record {
          at = at;
          stands = stands;
          same = ap (entry_at vs) place ∙ there ∙ sym is;
          inside = subst (λ q. IfSome q (λ k. k < length vs)) (sym place) (get_inside vs p e there);
        }
      where
        put : (b : Bool) → not b ≡ false → b ≡ true
        put true h = refl
        put false h = absurd (true≢false h)

-- ---- where walks begin

-- what can be seen is among the entries
pub seen_in : (n : ℕ) (key : Bytes) (es : List Entry) (x : Entry) → IsIn x (seen n key es) → IsIn x es
seen_in n key [] x i = i
seen_in n key (y ∷ es) x i =
    by (is_passed n key y) (puts y.change) i (λ k j. seen_in n k es x j)
  where
    by : (b c : Bool)
        → IsIn x (if b then seen n key es else if c then y ∷ seen n y.key es else seen n y.key es)
        → ((k : Bytes) → IsIn x (seen n k es) → IsIn x es) → (x ≡ y) ⊎ IsIn x es
    by true c i ih = inr (ih key i)
    by false false i ih = inr (ih y.key i)
    by false true (inl s) ih = inl s
    by false true (inr j) ih = inr (ih y.key j)

pub never_behind : (e : Entry) (es : List Entry) → AscendFrom e.key e.number es → IsIn e es → ⊥
never_behind e es h i = true≢false (sym (behind_first e e es h i) ∙ entry_irrefl e)

-- behind a visible entry lie the visible ones behind it
pub behind_seen : (n : ℕ) (from : Bytes) (number : ℕ) (key : Bytes) (es : List Entry) (q p : ℕ) (e : Entry)
    → AscendFrom from number es → slice_get es q ≡ Some e → slice_get (seen n key es) p ≡ Some e
    → seen n e.key (drop (suc q) es) ≡ drop (suc p) (seen n key es)
behind_seen n from number key [] q p e h at there = cc
behind_seen n from number key (y ∷ es) q p e h at there =
    by (is_passed n key y) refl (puts y.change) refl q at
    (λ k m r a b. behind_seen n y.key y.number k es m r e h.2 a b)
  where
    Deeper : Type 0
    Deeper = (k : Bytes) (m r : ℕ) → slice_get es m ≡ Some e → slice_get (seen n k es) r ≡ Some e
        → seen n e.key (drop (suc m) es) ≡ drop (suc r) (seen n k es)

    not_here : (k : Bytes) (r : ℕ) → slice_get (y ∷ es) 0 ≡ Some e → slice_get (seen n k es) r ≡ Some e → ⊥
    not_here k r a b =
        never_behind y es h.2 (seen_in n k es y
        (subst (λ (z : Entry). IsIn z (seen n k es)) (sym (some_is y e a)) (in_at (seen n k es) r e b)))

    further : (k : Bytes) (r : ℕ) → seen n key (y ∷ es) ≡ seen n k es → (q : ℕ)
        → slice_get (y ∷ es) q ≡ Some e → Deeper
        → seen n e.key (drop (suc q) (y ∷ es)) ≡ drop (suc p) (seen n key (y ∷ es))
    further k r same zero a ih =
        absurd (not_here k p a (ap (λ vs. slice_get vs p) (sym same) ∙ there))
    further k r same (suc m) a ih =
        ih k m p a (ap (λ vs. slice_get vs p) (sym same) ∙ there) ∙ ap (drop (suc p)) (sym same)

    by : (b : Bool) → is_passed n key y ≡ b → (c : Bool) → puts y.change ≡ c → (q : ℕ)
        → slice_get (y ∷ es) q ≡ Some e → Deeper
        → seen n e.key (drop (suc q) (y ∷ es)) ≡ drop (suc p) (seen n key (y ∷ es))
    by true t c d q a ih = further key p (seen_passed n key y es t) q a ih
    by false t false d q a ih = further y.key p (seen_deleted n key y es t d) q a ih
    by false t true d q a ih = at_put p q a ih (ap (λ vs. slice_get vs p) (sym (seen_put n key y es t d)) ∙ there)
      where
        at_put : (p q : ℕ) → slice_get (y ∷ es) q ≡ Some e → Deeper
            → slice_get (y ∷ seen n y.key es) p ≡ Some e
            → seen n e.key (drop (suc q) (y ∷ es)) ≡ drop (suc p) (seen n key (y ∷ es))
        at_put zero zero a ih b =
            ap (λ (z : Entry). seen n z.key es) (sym (some_is y e a))
            ∙ ap (drop 1) (sym (seen_put n key y es t d))
        at_put zero (suc m) a ih b =
            absurd (never_behind y es h.2
            (subst (λ (z : Entry). IsIn z es) (sym (some_is y e b)) (in_at es m e a)))
        at_put (suc r) zero a ih b = absurd (not_here y.key r a b)
        at_put (suc r) (suc m) a ih b = ih y.key m r a b ∙ ap (drop (suc (suc r))) (sym (seen_put n key y es t d))
