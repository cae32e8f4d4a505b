-- A merge that goes back over what comes behind an entry.
use Rattle.std.proofs.Common.{◌≡◌, ℕ, zero, suc, ◌<◌, ◌≤◌, true, false, List, [], ◌∷◌, Option, Some, None, Result, Ok, Err, length, refl, sym, ap, ◌∙◌, subst}
use Rattle.std.specs.Prelude.{slice_get, IsOk}
use Rattle.std.proofs.lemmas.Bool.{false≢true}
use Rattle.peb_base.specs.Keys.{Bytes}
use Rattle.peb_base.specs.Cursors.{previous_place, StandsAmong, LeadsTo}
use Rattle.peb_base.specs.declared.read_fault.ReadFault.{ReadFault}
use Rattle.peb_base.specs.Entries.{AscendFrom, entry_lt}
use Rattle.peb_base.specs.EntryLaws.{entry_asym}
use Rattle.peb_base.specs.declared.cursor.Cursor.{Ghosts}
use Rattle.peb_base.specs.declared.entry.Entry.{Entry}
use Rattle.merge_iter.specs.CutLaws.{some_is, got}
use Rattle.merge_iter.specs.Heads.{comes_behind}
use Rattle.merge_iter.specs.Parts.{AreParts}
use Rattle.merge_iter.specs.StandLaws.{Among, stands_at}
use Rattle.merge_iter.specs.Standing.{Merged, StandEach, IsHere, Stands}
use Rattle.merge_iter.specs.Told.{NoneRefused, HasChosen}
use Rattle.merge_iter.specs.Views.{shown_by, back_of, faults_of, Keeps}
use Rattle.merge_iter.proofs.Stepping.{Way, never_nothing}

-- it went back from old, if it was behind, and refused nothing
pub record WentTo {C : Type 0} (g : Ghosts C) (key : Bytes) (number : ℕ) (old new : Merged C) : Type 0 where
  pub same : comes_behind key number (shown_by g old) ≡ false → new ≡ old
  pub low : back_of g new ≤ back_of g old
  pub later : faults_of g old ≤ faults_of g new
  pub keeps : Keeps g old new
  pub refused : new.refused ≡ None
  pub told : NoneRefused g old.inputs → NoneRefused g new.inputs
  pub chosen : HasChosen g true old → HasChosen g true new

-- the entry one place back comes before that at the place
step_down : (key : Bytes) (number : ℕ) (es : List Entry) (n : ℕ) (e f : Entry) → AscendFrom key number es
    → slice_get es (suc n) ≡ Some e → slice_get es n ≡ Some f → entry_lt f e ≡ true
step_down key number [] n e f h there before = cc
step_down key number (x ∷ []) zero e f h there before = cc
step_down key number (x ∷ y ∷ es) zero e f h there before =
    subst (λ (z : Entry). entry_lt z e ≡ true) (some_is x f before)
    (subst (λ (z : Entry). entry_lt x z ≡ true) (some_is y e there) h.2.1)
step_down key number (x ∷ es) (suc n) e f h there before =
    step_down x.key x.number es n e f h.2 there before

-- in sorted entries nothing one place back comes behind
pub not_behind : (es : List Entry) (place : Option ℕ) (e : Entry) (now : Option Entry)
    → StandsAmong es place (Some e) → StandsAmong es (previous_place place) now
    → comes_behind e.key e.number now ≡ false
not_behind es None e now was is = ap (comes_behind e.key e.number) is.shows
not_behind es (Some zero) e now was is = ap (comes_behind e.key e.number) is.shows
not_behind es (Some (suc n)) e None was is = refl
not_behind es (Some (suc n)) e (Some f) was is =
    entry_asym f e (step_down [] 0 es n e f was.sorted (sym was.shows) (sym is.shows))

beyond : (es : List Entry) (n : ℕ) → n < length es → slice_get es n ≡ None → ⊥
beyond es n lt none = let r = got es n lt in cc (sym none ∙ r.1)

-- what shows nothing stands at no place
pub nowhere : (es : List Entry) (place : Option ℕ) → StandsAmong es place None → place ≡ None
nowhere es None s = refl
nowhere es (Some n) s = none (slice_get es n) refl
  where
    none : (o : Option Entry) → slice_get es n ≡ o → Some n ≡ None
    none None is = absurd (beyond es n s.inside is)
    none (Some e) is = cc (s.shows ∙ is)

-- at no place, and shown again with nothing refused
pub still_nowhere : {C : Type 0} (g : Ghosts C) → Among g → (m n : Merged C) → Way g m
    → n.inputs ≡ m.inputs → n.current ≡ m.current → shown_by g m ≡ None → (es : List Entry)
    → (place : Option ℕ) → Stands g.stands m es place → Stands g.stands n es (previous_place place)
still_nowhere g among m n way inputs current none es place s =
    subst (Stands g.stands n es) (sym (ap previous_place (nowhere es place at))) (record {
      part = s.part;
      parts = subst (λ cs. AreParts es (length cs) s.part) (sym inputs) s.parts;
      at = s.at;
      each = subst (λ cs. StandEach g.stands cs s.part s.at) (sym inputs) s.each;
      here = subst (IsHere n s.part s.at es None) (sym (current ∙ no_current)) refl;
    })
  where
    at : StandsAmong es place None
    at = subst (StandsAmong es place) none (stands_at g among m es place way s)

    no_current : m.current ≡ None
    no_current = by m.current refl
      where
        by : (o : Option ℕ) → m.current ≡ o → m.current ≡ None
        by None is = is
        by (Some i) is = absurd (never_nothing g m n way i is none)

pub leads_ok : (StandsAt : Option ℕ → Type 0) (place : Option ℕ) (result : Result (Unit {0}) ReadFault)
    → IsOk result → StandsAt place → LeadsTo StandsAt place result
leads_ok StandsAt place (Ok x) ok s = s
leads_ok StandsAt place (Err e) ok s = absurd (false≢true ok)
