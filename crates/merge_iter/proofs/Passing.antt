-- A view that goes on over what isn't seen.
use Rattle.std.proofs.Common.{◌≡◌, ℕ, ◌<◌, ◌≤◌, Bool, true, false, List, [], ◌∷◌, ◌++◌, Option, Some, None, refl, sym, ap, ◌∙◌, subst, arith}
use Rattle.std.proofs.lemmas.Bool.{false≢true}
use Rattle.peb_base.specs.Cursors.{next_place, place_in}
use Rattle.peb_base.specs.declared.cursor.Cursor.{Ghosts}
use Rattle.peb_base.specs.declared.entry.Entry.{Entry}
use Rattle.merge_iter.specs.Seeing.{is_hidden, key_after, IsAhead, Sees, visible}
use Rattle.merge_iter.specs.StandLaws.{Among}
use Rattle.merge_iter.specs.declared.visible.Visible.{Visible}
use Rattle.merge_iter.specs.VisibleViews.{HasPassed}
use Rattle.merge_iter.proofs.Going.{step_on, stop_on}
use Rattle.merge_iter.proofs.Showing.{hidden_there, passed_hidden}

-- it went on from old, and what could be seen there from its place on still can
pub record WentOnTo {C : Type 0} (g : Ghosts C) (old new : Visible C) : Type 0 where
  pub goes : (es : List Entry) (at : Option ℕ) (p : ℕ) → g.stands old.inner es at
      → IsAhead old.number old.key es at p
      → (now : Option ℕ) × g.stands new.inner es now × IsAhead old.number new.key es now p
  pub later : g.faults old.inner ≤ g.faults new.inner
  pub keeps : g.keeps old.inner new.inner
  pub number : new.number ≡ old.number
  pub refused : g.refused new.inner ≡ None
  pub fewer : g.ahead new.inner ≤ g.ahead old.inner
  pub same : g.shows old.inner ≡ None → new ≡ old
  pub passed : (given : List Entry) → HasPassed g old given → HasPassed g new given

pub went_further : {C : Type 0} (g : Ghosts C) → Among g
    → ((a b c : C) → g.keeps a b → g.keeps b c → g.keeps a c) → (old l k : Visible C) (n : C)
    → WentOnTo g old l → k ≡ record l { key = key_after l.number l.key (g.shows l.inner) }
    → is_hidden l.number l.key (g.shows l.inner) ≡ true
    → ((es : List Entry) (place : Option ℕ) → g.stands k.inner es place
    → g.stands n es (next_place es place)) → g.faults k.inner ≤ g.faults n → g.keeps k.inner n
    → g.refused n ≡ None
    → ((e : Entry) → g.shows k.inner ≡ Some e → g.ahead n < g.ahead k.inner)
    → ((es : List Entry) (e : Entry) → g.shows k.inner ≡ Some e → g.walks k.inner es
    → g.walks n (es ++ e ∷ [])) → WentOnTo g old (record k { inner = n })
went_further {C} g among kept_on old l k n w is hidden =
    subst (λ (v : Visible C). ((es : List Entry) (place : Option ℕ) → g.stands v.inner es place
    → g.stands n es (next_place es place)) → g.faults v.inner ≤ g.faults n → g.keeps v.inner n
    → g.refused n ≡ None
    → ((e : Entry) → g.shows v.inner ≡ Some e → g.ahead n < g.ahead v.inner)
    → ((es : List Entry) (e : Entry) → g.shows v.inner ≡ Some e → g.walks v.inner es
    → g.walks n (es ++ e ∷ [])) → WentOnTo g old (record v { inner = n })) (sym is)
    (λ goes later keeps refused less on. record {
      goes = λ es at p s ahead.
          let r = w.goes es at p s ahead in
          let shown = (among l.inner es r.0 r.1).shows in (
            next_place es r.0,
            goes es r.0 r.1,
            subst (λ m. IsAhead old.number (key_after m l.key (g.shows l.inner)) es (next_place es r.0) p)
                (sym w.number)
                (subst (λ o. IsAhead old.number (key_after old.number l.key o) es (next_place es r.0) p) (sym shown)
                (step_on old.number l.key es r.0 p
                (subst (λ o. is_hidden old.number l.key o ≡ true) shown
                (subst (λ m. is_hidden m l.key (g.shows l.inner) ≡ true) w.number hidden)) r.2)),
          );
      later = (let a = w.later in omega (arith, a, later));
      keeps = kept_on old.inner l.inner n w.keeps keeps;
      number = w.number;
      refused = refused;
      fewer =
          (let there = hidden_there l.number l.key (g.shows l.inner) hidden in
          let low = w.fewer in
          let below = less there.0 there.1 in
          omega (arith, low, below));
      same = λ none. absurd (false≢true
          (sym (ap (is_hidden l.number l.key) (ap (λ (v : Visible C). g.shows v.inner) (w.same none) ∙ none))
          ∙ hidden));
      passed = λ given has.
          let there = hidden_there l.number l.key (g.shows l.inner) hidden in
          subst (λ o. HasPassed g (record l { key = key_after l.number l.key o; inner = n }) given)
          (sym there.1)
          (passed_hidden g l n given there.0 (w.passed given has) there.1
          (subst (λ o. is_hidden l.number l.key o ≡ true) there.1 hidden)
          (λ es. on es there.0 there.1));
    })

-- where it stops, it sees
pub stops : {C : Type 0} (g : Ghosts C) → Among g → (old new : Visible C) → WentOnTo g old new
    → is_hidden new.number new.key (g.shows new.inner) ≡ false → (es : List Entry) (at : Option ℕ) (p : ℕ)
    → g.stands old.inner es at → IsAhead old.number old.key es at p
    → Sees g new.number new.inner es (place_in (visible old.number es) p)
stops g among old new w stop es at p s ahead =
    let r = w.goes es at p s ahead in
    subst (λ m. Sees g m new.inner es (place_in (visible old.number es) p)) (sym w.number)
    (stop_on g among old.number new.key new.inner es r.0 p r.1
    (subst (λ m. is_hidden m new.key (g.shows new.inner) ≡ false) w.number stop) r.2)
