-- Where a cursor stands among its entries.
use Rattle.std.specs.Prelude.{◌≡◌, ℕ, zero, suc, ◌-◌, ◌<◌, ◌≤◌, false, List, length, nat_lt, if◌then◌else◌, Option, Some, None, Result, Ok, Err, slice_get, IfSome}
use Rattle.std.specs.List.{AllByRecursion}
use Rattle.peb_base.specs.Keys.{Bytes}
use Rattle.peb_base.specs.Entries.{AreSorted, entry_lt, first_from}
use Rattle.peb_base.specs.Faults.{Rose}
use Rattle.peb_base.specs.declared.entry.Entry.{Entry}
use Rattle.peb_base.specs.declared.read_fault.ReadFault.{ReadFault}
use Rattle.peb_base.specs.declared.read_fault.ReadFault.TheVariants.{Fault, Damaged}

-- this place, where the list has it
abbrev pub place_in : List Entry → ℕ → Option ℕ
place_in es n = if nat_lt n (length es) then Some n else None

-- the first entry at or behind a key and number
abbrev pub place_from : Bytes → ℕ → List Entry → Option ℕ
place_from key number es = place_in es (first_from key number es)

-- the first entry
abbrev pub first_place : List Entry → Option ℕ
first_place es = place_in es 0

-- the last entry
abbrev pub last_place : List Entry → Option ℕ
last_place es = place_in es (length es - 1)

-- one step on; there is no step from no place
abbrev pub next_place : List Entry → Option ℕ → Option ℕ
next_place es None = None
next_place es (Some n) = place_in es (suc n)

-- one step back
abbrev pub previous_place : Option ℕ → Option ℕ
previous_place None = None
previous_place (Some zero) = None
previous_place (Some (suc n)) = Some n

-- the entry at the place
abbrev pub entry_at : List Entry → Option ℕ → Option Entry
entry_at es None = None
entry_at es (Some n) = slice_get es n

-- a cursor that shows this stands there: its entries are sorted, its place is one of
-- theirs or none, and it shows the entry at its place
pub record StandsAmong (es : List Entry) (place : Option ℕ) (shown : Option Entry) : Type 0 where
  pub sorted : AreSorted es
  pub inside : IfSome place (λ n. n < length es)
  pub shows : shown ≡ entry_at es place

-- the entry comes before none of these
abbrev pub ComesBeforeNone : Entry → List Entry → Type 0
ComesBeforeNone e es = AllByRecursion (λ f. entry_lt e f ≡ false) es

-- a move goes there, or the device failed and it stands nowhere; it doesn't tell damage
abbrev pub LeadsTo : (Option ℕ → Type 0) → Option ℕ → Result (Unit {0}) ReadFault → Type 0
LeadsTo StandsAt place (Ok x) = StandsAt place
LeadsTo StandsAt place (Err Fault) = StandsAt None
LeadsTo StandsAt place (Err (Damaged table at)) = ⊥

-- the refusal of a move
abbrev pub refusal : Result (Unit {0}) ReadFault → Option ReadFault
refusal (Ok x) = None
refusal (Err e) = Some e

-- where the device failed
abbrev pub OnFault : Result (Unit {0}) ReadFault → Type 0 → Type 0
OnFault (Err Fault) fact = fact
OnFault result fact = Unit {0}

-- where damage is told of the table of this number, at this place
abbrev pub IfDamage : {T : Type 0} → Result T ReadFault → (ℕ → ℕ → Type 0) → Type 0
IfDamage (Ok x) fact = Unit {0}
IfDamage (Err Fault) fact = Unit {0}
IfDamage (Err (Damaged table at)) fact = fact table at

-- the count of faults never falls in a move, and the device failed only where it rose
pub record CountsFaults (before now : ℕ) (result : Result (Unit {0}) ReadFault) : Type 0 where
  pub never_falls : before ≤ now
  pub rose : OnFault result (Rose before now)
