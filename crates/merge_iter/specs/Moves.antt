-- What moves of inputs do.
use Rattle.std.specs.Prelude.{◌≡◌, ◌≢◌, ℕ, ◌<◌, ◌≤◌, Bool, true, false, List, [], ◌∷◌, ◌++◌, Option, Some, None, Result, Ok, Err, get_or, length}
use Rattle.peb_base.specs.Cursors.{first_place, last_place, next_place, previous_place, place_from, LeadsTo, CountsFaults, IfDamage}
use Rattle.peb_base.specs.Entries.{comes_before, entry_lt}
use Rattle.peb_base.specs.Keys.{Bytes}
use Rattle.peb_base.specs.declared.cursor.Cursor.{Ghosts}
use Rattle.peb_base.specs.declared.entry.Entry.{Entry}
use Rattle.peb_base.specs.declared.read_fault.ReadFault.{ReadFault}
use Rattle.merge_iter.specs.declared.step.Step.{Step}
use Rattle.merge_iter.specs.declared.step.Step.TheVariants.{First, Last, Next, Previous}

-- ---- one input

-- where a step leads to; from no place it leads to the end that lies behind it
abbrev pub target : Step → List Entry → Option ℕ → Option ℕ
target First es place = first_place es
target Last es place = last_place es
target Next es None = first_place es
target Next es (Some n) = next_place es (Some n)
target Previous es None = last_place es
target Previous es (Some n) = previous_place (Some n)

-- the step in a direction
abbrev pub step_in : Bool → Step
step_in false = Next
step_in true = Previous

-- it went one entry on: what it showed is gone over, and fewer are ahead
pub record WentOn {C : Type 0} (g : Ghosts C) (old new : C) : Type 0 where
  pub walks : (es : List Entry) (e : Entry) → g.shows old ≡ Some e → g.walks old es
      → g.walks new (es ++ e ∷ [])
  pub fewer : (e : Entry) → g.shows old ≡ Some e → g.ahead new < g.ahead old

-- it went one entry back: what it shows doesn't come behind what it showed, and fewer lie back
pub record WentBack {C : Type 0} (g : Ghosts C) (old new : C) : Type 0 where
  pub falls : (e f : Entry) → g.shows old ≡ Some e → g.shows new ≡ Some f → entry_lt e f ≡ false
  pub fewer : (e : Entry) → g.shows old ≡ Some e → g.back new < g.back old

-- what a step tells over any device
abbrev pub Steps : {C : Type 0} → Ghosts C → Step → C → C → Type 0
Steps g First old new = g.walks new []
Steps g Last old new = Unit {0}
Steps g Next old new = WentOn g old new
Steps g Previous old new = WentBack g old new

-- whatever happened to it, it is the same input, stands somewhere where it did, and counts its faults
pub record Remains {C : Type 0} (g : Ghosts C) (old new : C) : Type 0 where
  pub keeps : g.keeps old new
  pub later : g.faults old ≤ g.faults new
  pub stands : (es : List Entry) (place : Option ℕ) → g.stands old es place
      → (now : Option ℕ) × g.stands new es now

-- it made the step, and refused nothing
pub record Moved {C : Type 0} (g : Ghosts C) (step : Step) (old new : C) : Type 0 where
  pub goes : (es : List Entry) (place : Option ℕ) → g.stands old es place
      → g.stands new es (target step es place)
  pub steps : Steps g step old new
  pub refused : g.refused new ≡ None
  pub remains : Remains g old new

-- it went to the first entry at or behind a key and number, and refused nothing
pub record Sought {C : Type 0} (g : Ghosts C) (key : Bytes) (number : ℕ)
    (old new : C) : Type 0 where
  pub goes : (es : List Entry) (place : Option ℕ) → g.stands old es place
      → g.stands new es (place_from key number es)
  pub behind : (e : Entry) → g.shows new ≡ Some e → comes_before e.key e.number key number ≡ false
  pub refused : g.refused new ≡ None
  pub remains : Remains g old new

-- it refused with this and stands nowhere, with damage only where that stands, and
-- with a fault only where the device failed
pub record Failed {C : Type 0} (g : Ghosts C) (e : ReadFault) (old new : C) : Type 0 where
  pub goes : (es : List Entry) (place : Option ℕ) → g.stands old es place
      → LeadsTo (g.stands new es) place (Err e)
  pub counts : CountsFaults (g.faults old) (g.faults new) (Err e)
  pub damage : IfDamage {T = Unit {0}} (Err e) (g.damaged new)
  pub nothing : g.shows new ≡ None
  pub refused : g.refused new ≡ Some e
  pub remains : Remains g old new

-- it made the step, or refused
abbrev pub Went : {C : Type 0} → Ghosts C → Step → C → C → Result (Unit {0}) ReadFault → Type 0
Went g step old new (Ok x) = Moved g step old new
Went g step old new (Err e) = Failed g e old new

-- it found the key and number, or refused
abbrev pub Searched : {C : Type 0} → Ghosts C → Bytes → ℕ → C → C → Result (Unit {0}) ReadFault
    → Type 0
Searched g key number old new (Ok x) = Sought g key number old new
Searched g key number old new (Err e) = Failed g e old new

-- ---- all inputs

-- R holds of each input before and after
pub record Each {C : Type 0} (R : C → C → Type 0) (old new : List C) : Type 0 where
  pub same : length new ≡ length old
  pub each : (k : ℕ) (d : C) → k < length old → R (get_or old k d) (get_or new k d)

-- R holds of one of them, and the others are as they were
pub record OnlyAt {C : Type 0} (R : C → C → Type 0) (place : ℕ) (old new : List C) : Type 0 where
  pub same : length new ≡ length old
  pub at : (d : C) → R (get_or old place d) (get_or new place d)
  pub others : (k : ℕ) (d : C) → k ≢ place → get_or new k d ≡ get_or old k d

-- R holds of each, or of the one at a place alone
abbrev pub Of : {C : Type 0} → (C → C → Type 0) → Option ℕ → List C → List C → Type 0
Of R None old new = Each R old new
Of R (Some place) old new = OnlyAt R place old new

-- one of them refused, and all remain
pub record OneFailed {C : Type 0} (g : Ghosts C) (e : ReadFault) (old new : List C) : Type 0 where
  pub remain : Each (Remains g) old new
  pub place : ℕ
  pub inside : place < length old
  pub failed : (d : C) → Failed g e (get_or old place d) (get_or new place d)

-- R holds of those that were to be moved, or one refused
abbrev pub AllWent : {C : Type 0} → Ghosts C → (List C → List C → Type 0) → List C → List C
    → Result (Unit {0}) ReadFault → Type 0
AllWent g R old new (Ok x) = R old new
AllWent g R old new (Err e) = OneFailed g e old new
