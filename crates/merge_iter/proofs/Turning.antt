-- A view that goes back, and turns to what it found.
use Rattle.std.proofs.Common.{◌≡◌, ℕ, zero, suc, ◌<◌, ◌≤◌, Bool, true, false, not, ◌&&◌, ◌||◌, List, [], ◌∷◌, ◌++◌, Option, Some, None, length, drop, take, refl, sym, ap, ◌∙◌, subst, arith}
use Rattle.std.specs.Prelude.{slice_get, nat_lt, IfSome}
use Rattle.std.proofs.lemmas.List.{append_assoc, length-append, take_all}
use Rattle.std.proofs.lemmas.Bool.{false≢true, and_parts, not-true}
use Rattle.peb_base.specs.Keys.{Bytes, key_eq}
use Rattle.peb_base.specs.KeyLaws.{same_key}
use Rattle.peb_base.specs.Cursors.{place_in, entry_at, last_place, previous_place, StandsAmong}
use Rattle.peb_base.specs.Members.{IsIn}
use Rattle.peb_base.specs.declared.cursor.Cursor.{Ghosts}
use Rattle.peb_base.specs.declared.entry.Entry.{Entry}
use Rattle.merge_iter.specs.CutLaws.{in_at, got, place_there}
use Rattle.merge_iter.specs.Moves.{target}
use Rattle.merge_iter.specs.Seeing.{puts, is_passed, is_found, looks_back, key_of, seen, visible, IsAhead, IsBack, Sees}
use Rattle.merge_iter.specs.StandLaws.{Among, last_there}
use Rattle.merge_iter.specs.declared.step.Step.TheVariants.{Next}
use Rattle.merge_iter.specs.declared.visible.Visible.{Visible}
use Rattle.merge_iter.proofs.Beginning.{no_empty}
use Rattle.merge_iter.proofs.Going.{seen_put, behind_seen, drop_get, rest_in}
use Rattle.merge_iter.proofs.Returning.{not_found, decided, found, front_seen, count_before, none_older}

-- ---- one step

-- over the entry in front
pub step_back : (n : ℕ) (key : Bytes) (es : List Entry) (r : ℕ) (left : List Entry) (was : Bool) (y : Entry)
    → slice_get es r ≡ Some y → looks_back n key was (Some y) ≡ true → IsBack n key es (suc r) left was
    → IsBack n y.key es r left (is_found n (Some y))
step_back n key es r left was y at looks back = by (is_found n (Some y)) refl
  where
    -- what is seen of the first ones up to the entry
    upto_it : seen n [] (take (suc r) es) ≡ left
    upto_it = up was looks back
      where
        up : (was : Bool) → looks_back n key was (Some y) ≡ true → IsBack n key es (suc r) left was
            → seen n [] (take (suc r) es) ≡ left
        up false looks back = back
        up true looks back =
            let parts = and_parts (not (nat_lt n y.number)) (key_eq y.key key) looks in
            sym (decided n [] es r y back.0 at back.1 (not-true (nat_lt n y.number) parts.0)
            (same_key y.key key parts.1 ∙ sym back.2)) ∙ back.4

    by : (b : Bool) → is_found n (Some y) ≡ b → IsBack n y.key es r left b
    by false h = sym (not_found n [] es r y at h) ∙ upto_it
    by true h = (y, at, refl, h, upto_it)

-- it went back from old over what isn't the last visible entry
pub record WentBackTo {C : Type 0} (g : Ghosts C) (old new : Visible C) (found : Bool) : Type 0 where
  pub goes : (es : List Entry) (r : ℕ) → g.stands old.inner es (previous_place (Some r))
      → (m : ℕ) × g.stands new.inner es (previous_place (Some m))
      × IsBack old.number new.key es m (seen old.number [] (take r es)) found
  pub later : g.faults old.inner ≤ g.faults new.inner
  pub keeps : g.keeps old.inner new.inner
  pub number : new.number ≡ old.number
  pub refused : g.refused new.inner ≡ None
  pub same : g.shows old.inner ≡ None → (new ≡ old) × (found ≡ false)

pub went_back : {C : Type 0} (g : Ghosts C) → Among g
    → ((a b c : C) → g.keeps a b → g.keeps b c → g.keeps a c) → (old l k : Visible C) (n : C)
    → (was now : Bool) → WentBackTo g old l was → now ≡ is_found l.number (g.shows l.inner)
    → k ≡ record l { key = key_of l.key (g.shows l.inner) }
    → looks_back l.number l.key was (g.shows l.inner) ≡ true
    → ((es : List Entry) (place : Option ℕ) → g.stands k.inner es place
    → g.stands n es (previous_place place)) → g.faults k.inner ≤ g.faults n → g.keeps k.inner n
    → g.refused n ≡ None → WentBackTo g old (record k { inner = n }) now
went_back {C} g among kept_on old l k n was now w found is looks =
    subst (λ (v : Visible C). ((es : List Entry) (place : Option ℕ) → g.stands v.inner es place
    → g.stands n es (previous_place place)) → g.faults v.inner ≤ g.faults n → g.keeps v.inner n
    → g.refused n ≡ None → WentBackTo g old (record v { inner = n }) now) (sym is)
    (λ goes later keeps refused. record {
      goes = λ es r s.
          let at = w.goes es r s in
          step goes es (seen old.number [] (take r es)) at.0 at.1 at.2
          (among l.inner es (previous_place (Some at.0)) at.1);
      later = (let a = w.later in omega (arith, a, later));
      keeps = kept_on old.inner l.inner n w.keeps keeps;
      number = w.number;
      refused = refused;
      same = λ none.
          let at = w.same none in
          absurd (false≢true
          (sym (ap (looks_back l.number l.key was) (ap (λ (v : Visible C). g.shows v.inner) at.0 ∙ none))
          ∙ looks));
    })
  where
    step : ((es : List Entry) (place : Option ℕ) → g.stands l.inner es place
        → g.stands n es (previous_place place)) → (es left : List Entry) (m : ℕ)
        → g.stands l.inner es (previous_place (Some m)) → IsBack old.number l.key es m left was
        → StandsAmong es (previous_place (Some m)) (g.shows l.inner)
        → (m : ℕ) × g.stands n es (previous_place (Some m))
        × IsBack old.number (key_of l.key (g.shows l.inner)) es m left now
    step goes es left zero s back st =
        absurd (false≢true (ap (looks_back l.number l.key was) (sym st.shows) ∙ looks))
    step goes es left (suc m) s back st =
        let there = got es m st.inside in
        let shown : g.shows l.inner ≡ Some there.0 = st.shows ∙ there.1 in
        let looks_on : looks_back old.number l.key was (Some there.0) ≡ true =
        subst (λ k. looks_back k l.key was (Some there.0) ≡ true) w.number
        (ap (looks_back l.number l.key was) (sym shown) ∙ looks) in (
          m,
          goes es (Some m) s,
          subst (λ o. IsBack old.number (key_of l.key o) es m left now) (sym shown)
              (subst (IsBack old.number there.0.key es m left)
              (sym (found ∙ ap (λ k. is_found k (g.shows l.inner)) w.number ∙ ap (is_found old.number) shown))
              (step_back old.number l.key es m left was there.0 there.1 looks_on back)),
        )

-- ---- the turn

get_at : (xs : List Entry) (x : Entry) (ys : List Entry) → slice_get (xs ++ x ∷ ys) (length xs) ≡ Some x
get_at [] x ys = refl
get_at (y ∷ xs) x ys = get_at xs x ys

-- where the put is that was found, and what lies ahead of it
pub turn_found : {C : Type 0} (g : Ghosts C) → Among g → (n : ℕ) (key : Bytes) (c : C) (es : List Entry)
    (r : ℕ) (left : List Entry) → g.stands c es (previous_place (Some r)) → IsBack n key es r left true
    → looks_back n key true (g.shows c) ≡ false
    → (p : ℕ) × IsAhead n [] es (place_in es r) p
    × (place_in (visible n es) p ≡ previous_place (Some (length left)))
turn_found g among n key c es r left s back stop = (p, ahead, place)
  where
    e : Entry
    e = back.0

    st : StandsAmong es (previous_place (Some r)) (g.shows c)
    st = among c es (previous_place (Some r)) s

    front : List Entry
    front = seen n [] (take r es)

    p : ℕ
    p = length front

    parts : (not (nat_lt n e.number) ≡ true) × (puts e.change ≡ true)
    parts = and_parts (not (nat_lt n e.number)) (puts e.change) back.3

    no_key : key_eq e.key [] ≡ false
    no_key = no_empty [] 0 es st.sorted e (in_at es r e back.1)

    older : (r : ℕ) → slice_get es r ≡ Some e → StandsAmong es (previous_place (Some r)) (g.shows c)
        → (z : Entry) → IsIn z (take r es) → nat_lt n z.number ≡ false → key_eq e.key z.key ≡ false
    older zero at st z i low = absurd i
    older (suc m) at st z i low =
        let there = got es m st.inside in
        none_older n es m there.0 e st.sorted there.1 at
        (ap (λ k. not (nat_lt n there.0.number) && key_eq there.0.key k) back.2
        ∙ ap (looks_back n key true) (sym (st.shows ∙ there.1)) ∙ stop) z i low

    left_is : left ≡ front ++ e ∷ []
    left_is = sym back.4 ∙ found n [] es r e back.1 back.3 no_key (older r back.1 st)

    visible_is : visible n es ≡ front ++ e ∷ (front_seen n [] es (suc r)).0
    visible_is =
        (front_seen n [] es (suc r)).1
        ∙ ap (λ vs. vs ++ (front_seen n [] es (suc r)).0) (back.4 ∙ left_is)
        ∙ append_assoc front (e ∷ []) (front_seen n [] es (suc r)).0

    there : slice_get (visible n es) p ≡ Some e
    there = ap (λ vs. slice_get vs p) visible_is ∙ get_at front e (front_seen n [] es (suc r)).0

    not_passed : is_passed n [] e ≡ false
    not_passed = λ i. not-true (nat_lt n e.number) parts.0 i || no_key i

    ahead : IsAhead n [] es (place_in es r) p
    ahead =
        ap (seen n []) (rest_in es r ∙ drop_get es r e back.1)
        ∙ seen_put n [] e (drop (suc r) es) not_passed parts.1
        ∙ ap (λ vs. e ∷ vs) (behind_seen n [] 0 [] es r p e st.sorted back.1 there)
        ∙ sym (drop_get (visible n es) p e there)

    one_longer : length (front ++ e ∷ []) ≡ suc p
    one_longer = let more = length-append front (e ∷ []) in omega (arith, more)

    place : place_in (visible n es) p ≡ previous_place (Some (length left))
    place = place_there (visible n es) p e there
        ∙ sym (ap (λ k. previous_place (Some k)) (ap length left_is ∙ one_longer))

pub one_on : (es : List Entry) (r : ℕ) → target Next es (previous_place (Some r)) ≡ place_in es r
one_on es zero = refl
one_on es (suc r) = refl

-- ---- where walks back begin

pub last_is : (es : List Entry) → last_place es ≡ previous_place (Some (length es))
last_is es = last_there es (length es) (omega arith) (omega arith)

pub last_back : (n : ℕ) (es : List Entry)
    → previous_place (Some (length (seen n [] (take (length es) es)))) ≡ last_place (visible n es)
last_back n es =
    ap (λ xs. previous_place (Some (length (seen n [] xs)))) (take_all (length es) es (omega arith)) ∙ sym (last_is (visible n es))

-- from a visible entry, or from no place
pub prev_back : {C : Type 0} (g : Ghosts C) → Among g → (n : ℕ) (c : C) (es : List Entry)
    (place : Option ℕ) → (s : Sees g n c es place)
    → (r : ℕ) × (previous_place s.at ≡ previous_place (Some r))
    × (previous_place (Some (length (seen n [] (take r es)))) ≡ previous_place place)
prev_back g among n c es place s = by place s.at s.same s.inside st.inside
  where
    st : StandsAmong es s.at (g.shows c)
    st = among c es s.at s.stands

    vs : List Entry
    vs = visible n es

    by : (place at : Option ℕ) → entry_at vs place ≡ entry_at es at → IfSome place (λ p. p < length vs)
        → IfSome at (λ k. k < length es)
        → (r : ℕ) × (previous_place at ≡ previous_place (Some r))
        × (previous_place (Some (length (seen n [] (take r es)))) ≡ previous_place place)
    by None None same inside within = (0, refl, refl)
    by None (Some k) same inside within = let r = got es k within in cc (same ∙ r.1)
    by (Some p) None same inside within = let r = got vs p inside in cc (sym same ∙ r.1)
    by (Some p) (Some k) same inside within =
        let r = got vs p inside in (
          k,
          refl,
          ap (λ m. previous_place (Some m))
              (count_before n [] 0 [] es k p r.0 st.sorted (sym same ∙ r.1) r.1),
        )
