-- What a number sees of entries one after another.
use Rattle.std.proofs.Common.{◌≡◌, ℕ, Bool, true, false, not, ◌&&◌, ◌||◌, List, [], ◌∷◌, ◌++◌, Option, Some, None, refl, sym, ap, ◌∙◌, subst}
use Rattle.std.specs.Prelude.{if◌then◌else◌, nat_lt}
use Rattle.std.proofs.lemmas.Bool.{true≢false, false≢true}
use Rattle.std.proofs.lemmas.List.{append-nil}
use Rattle.peb_base.specs.Keys.{Bytes, key_eq}
use Rattle.peb_base.specs.declared.cursor.Cursor.{Ghosts}
use Rattle.peb_base.specs.declared.entry.Entry.{Entry}
use Rattle.merge_iter.specs.Seeing.{puts, is_passed, is_hidden, key_after, key_of, key_past, put_at_most, seen, visible}
use Rattle.merge_iter.specs.VisibleViews.{HasPassed, HasShown}
use Rattle.merge_iter.specs.declared.visible.Visible.{Visible}

-- what is hidden is there
pub hidden_there : (n : ℕ) (key : Bytes) (o : Option Entry) → is_hidden n key o ≡ true
    → (e : Entry) × (o ≡ Some e)
hidden_there n key None h = absurd (false≢true h)
hidden_there n key (Some e) h = (e, refl)

-- what isn't hidden is seen
pub not_hidden : (n : ℕ) (key : Bytes) (o : Option Entry) → is_hidden n key o ≡ false
    → put_at_most n o ≡ o
not_hidden n key None h = refl
not_hidden n key (Some e) h = by (nat_lt n e.number) refl (puts e.change) refl
  where
    by : (a : Bool) → nat_lt n e.number ≡ a → (b : Bool) → puts e.change ≡ b
        → (if not (nat_lt n e.number) && puts e.change then Some e else None) ≡ Some e
    by true t b u =
        absurd (true≢false (sym (ap (λ c. (c || key_eq e.key key) || not (puts e.change)) t) ∙ h))
    by false t true u =
        ap (λ c. if not c && puts e.change then Some e else None) t
        ∙ ap (λ c. if c then Some e else None) u
    by false t false u = absurd (true≢false (sym (last (is_passed n key e) u) ∙ h))
      where
        last : (c : Bool) → puts e.change ≡ false → (c || not (puts e.change)) ≡ true
        last true u = refl
        last false u = ap not u

-- of entries behind others those are seen that can still be
seen_on : (n : ℕ) (key : Bytes) (xs ys : List Entry)
    → seen n key (xs ++ ys) ≡ seen n key xs ++ seen n (key_past n key xs) ys
seen_on n key [] ys = refl
seen_on n key (x ∷ xs) ys =
    by (is_passed n key x) (puts x.change) (seen_on n key xs ys) (seen_on n x.key xs ys)
  where
    by : (p b : Bool) → seen n key (xs ++ ys) ≡ seen n key xs ++ seen n (key_past n key xs) ys
        → seen n x.key (xs ++ ys) ≡ seen n x.key xs ++ seen n (key_past n x.key xs) ys
        → (if p then seen n key (xs ++ ys)
        else if b then x ∷ seen n x.key (xs ++ ys) else seen n x.key (xs ++ ys))
        ≡ (if p then seen n key xs else if b then x ∷ seen n x.key xs else seen n x.key xs)
        ++ seen n (key_past n (if p then key else x.key) xs) ys
    by true b past other = past
    by false true past other = ap (λ (l : List Entry). x ∷ l) other
    by false false past other = other

past_on : (n : ℕ) (key : Bytes) (xs : List Entry) (e : Entry)
    → key_past n key (xs ++ e ∷ []) ≡ key_after n (key_past n key xs) (Some e)
past_on n key [] e = refl
past_on n key (x ∷ xs) e = past_on n (key_after n key (Some x)) xs e

-- what is hidden isn't seen
seen_hidden : (n : ℕ) (key : Bytes) (e : Entry) → is_hidden n key (Some e) ≡ true
    → seen n key (e ∷ []) ≡ []
seen_hidden n key e h = by (is_passed n key e) (puts e.change) h
  where
    by : (p b : Bool) → (p || not b) ≡ true
        → (if p then [] else if b then e ∷ [] else []) ≡ []
    by true b h = refl
    by false true h = absurd (false≢true h)
    by false false h = refl

-- what isn't is seen, and no later entry of its key
seen_here : (n : ℕ) (key : Bytes) (e : Entry) → is_hidden n key (Some e) ≡ false
    → (seen n key (e ∷ []) ≡ e ∷ []) × (key_after n key (Some e) ≡ e.key)
seen_here n key e h = by (is_passed n key e) (puts e.change) h
  where
    by : (p b : Bool) → (p || not b) ≡ false
        → ((if p then [] else if b then e ∷ [] else []) ≡ e ∷ [])
        × ((if p then key else e.key) ≡ e.key)
    by true b h = absurd (true≢false h)
    by false true h = (refl, refl)
    by false false h = absurd (true≢false h)

-- an entry that is hidden is passed
pub passed_hidden : {C : Type 0} (g : Ghosts C) (v : Visible C) (n : C) (given : List Entry) (e : Entry)
    → HasPassed g v given → g.shows v.inner ≡ Some e → is_hidden v.number v.key (Some e) ≡ true
    → ((es : List Entry) → g.walks v.inner es → g.walks n (es ++ e ∷ []))
    → HasPassed g (record v { key = key_after v.number v.key (Some e); inner = n }) given
passed_hidden g v n given e has there hidden on = record {
  over = has.over ++ e ∷ [];
  walks = on has.over has.walks;
  sees = seen_on v.number [] has.over (e ∷ [])
      ∙ ap (λ (l : List Entry). seen v.number [] has.over ++ l)
      (seen_hidden v.number (key_past v.number [] has.over) e
      (subst (λ key. is_hidden v.number key (Some e) ≡ true) has.key hidden))
      ∙ append-nil (seen v.number [] has.over) ∙ has.sees;
  key = ap (λ key. key_after v.number key (Some e)) has.key
      ∙ sym (past_on v.number [] has.over e);
}

-- an entry that is shown is given
given_on : {C : Type 0} (g : Ghosts C) (v : Visible C) (n : C) (given : List Entry) (e : Entry)
    → HasShown g v given → put_at_most v.number (g.shows v.inner) ≡ Some e
    → ((es : List Entry) (f : Entry) → g.shows v.inner ≡ Some f → g.walks v.inner es
    → g.walks n (es ++ f ∷ []))
    → HasPassed g (record v { key = key_of v.key (g.shows v.inner); inner = n }) (given ++ e ∷ [])
given_on g v n given e has sees on = record {
  over = over ++ e ∷ [];
  walks = on over e there has.passed.walks;
  sees = seen_on v.number [] over (e ∷ [])
      ∙ ap (λ (l : List Entry). l ++ seen v.number (key_past v.number [] over) (e ∷ [])) has.passed.sees
      ∙ ap (λ (l : List Entry). given ++ l) here.0;
  key = ap (key_of v.key) there ∙ sym here.1 ∙ sym (past_on v.number [] over e);
}
  where
    over : List Entry
    over = has.passed.over

    there : g.shows v.inner ≡ Some e
    there = sym (not_hidden v.number v.key (g.shows v.inner) has.stops) ∙ sees

    here : (seen v.number (key_past v.number [] over) (e ∷ []) ≡ e ∷ [])
        × (key_after v.number (key_past v.number [] over) (Some e) ≡ e.key)
    here = seen_here v.number (key_past v.number [] over) e
        (subst (λ key. is_hidden v.number key (Some e) ≡ false) has.passed.key
        (subst (λ o. is_hidden v.number v.key o ≡ false) there has.stops))

pub passed_shown : {C : Type 0} (g : Ghosts C) (v k : Visible C) (n : C) (given : List Entry) (e : Entry)
    → k ≡ record v { key = key_of v.key (g.shows v.inner) }
    → HasShown g v given → put_at_most v.number (g.shows v.inner) ≡ Some e
    → ((es : List Entry) (f : Entry) → g.shows k.inner ≡ Some f → g.walks k.inner es
    → g.walks n (es ++ f ∷ []))
    → HasPassed g (record k { inner = n }) (given ++ e ∷ [])
passed_shown {C} g v k n given e is has sees =
    subst (λ (x : Visible C). ((es : List Entry) (f : Entry) → g.shows x.inner ≡ Some f
    → g.walks x.inner es → g.walks n (es ++ f ∷ []))
    → HasPassed g (record x { inner = n }) (given ++ e ∷ [])) (sym is)
    (given_on g v n given e has sees)
