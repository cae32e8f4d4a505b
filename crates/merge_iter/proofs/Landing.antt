-- A move of inputs that the merge took in.
use Rattle.std.proofs.Common.{◌≡◌, ℕ, Bool, List, Option, Some, None, Result, Ok, Err, map, sym, ap, ◌∙◌, subst}
use Rattle.std.specs.Prelude.{OnOk, OnErr}
use Rattle.peb_base.specs.Cursors.{LeadsTo}
use Rattle.peb_base.specs.declared.cursor.Cursor.{Ghosts}
use Rattle.peb_base.specs.declared.entry.Entry.{Entry}
use Rattle.peb_base.specs.declared.read_fault.ReadFault.{ReadFault}
use Rattle.merge_iter.specs.Heads.{current_head, IsChosen}
use Rattle.merge_iter.specs.Landed.{Landed}
use Rattle.merge_iter.specs.Moves.{AllWent}
use Rattle.merge_iter.specs.StandLaws.{Among}
use Rattle.merge_iter.specs.Standing.{Merged, Stands}
use Rattle.merge_iter.proofs.Leading.{failed_stands}

pub lands : {C : Type 0} (g : Ghosts C) (R : List C → List C → Type 0) (back : Bool) (old new : Merged C)
    (sent : List C) (moved result : Result (Unit {0}) ReadFault) → AllWent g R old.inputs sent moved
    → new.inputs ≡ sent → result ≡ moved → OnOk result (IsChosen back (map g.shows new.inputs) new.current)
    → OnOk result (new.is_back ≡ back) → OnErr result (new.current ≡ None)
    → Landed g R back old new result
lands g R back old new sent moved result went inputs answer chosen direction nothing = record {
  went = subst (AllWent g R old.inputs new.inputs) (sym answer)
      (subst (λ cs. AllWent g R old.inputs cs moved) (sym inputs) went);
  chosen = chosen;
  direction = direction;
  nothing = nothing;
}

module _ {C : Type 0} (g : Ghosts C) (R : List C → List C → Type 0) (back : Bool) (old new : Merged C) where
  pub leads : Among g → (es : List Entry) (place : Option ℕ) → Stands g.stands old es place
      → (to : Option ℕ) → (R old.inputs new.inputs → new.is_back ≡ back
      → IsChosen back (map g.shows new.inputs) new.current → Stands g.stands new es to)
      → (result : Result (Unit {0}) ReadFault) → Landed g R back old new result
      → LeadsTo (Stands g.stands new es) to result
  leads among es place s to goes (Ok x) l = goes l.went l.direction l.chosen
  leads among es place s to goes (Err e) l = failed_stands g among old new es place s e to l.went l.nothing

  -- what holds of a move that answers Ok
  pub on_ok : (P : Type 0) → (R old.inputs new.inputs → new.is_back ≡ back
      → IsChosen back (map g.shows new.inputs) new.current → P)
      → (result : Result (Unit {0}) ReadFault) → Landed g R back old new result → OnOk result P
  on_ok P goes (Ok x) l = goes l.went l.direction l.chosen
  on_ok P goes (Err e) l = tt

  -- what holds where an entry is shown, after Ok
  pub where_shown : (P : Entry → Type 0) → (R old.inputs new.inputs → new.is_back ≡ back
      → IsChosen back (map g.shows new.inputs) new.current
      → (e : Entry) → current_head (map g.shows new.inputs) new.current ≡ Some e → P e)
      → (result : Result (Unit {0}) ReadFault) → Landed g R back old new result
      → (e : Entry) → current_head (map g.shows new.inputs) new.current ≡ Some e → P e
  where_shown P goes (Ok x) l e there = goes l.went l.direction l.chosen e there
  where_shown P goes (Err f) l e there =
      cc (sym (ap (current_head (map g.shows new.inputs)) l.nothing) ∙ there)

  -- what holds after Ok, and where no input is current
  pub or_nothing : (P : Type 0) → (new.current ≡ None → P) → (R old.inputs new.inputs → new.is_back ≡ back
      → IsChosen back (map g.shows new.inputs) new.current → P)
      → (result : Result (Unit {0}) ReadFault) → Landed g R back old new result → P
  or_nothing P none goes (Ok x) l = goes l.went l.direction l.chosen
  or_nothing P none goes (Err e) l = none l.nothing
