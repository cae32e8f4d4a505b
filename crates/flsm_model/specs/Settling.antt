-- How much there is to do until the store is settled.
use Rattle.std.specs.Prelude.{◌≡◌, ℕ, zero, suc, ◌+◌, ◌*◌, ◌<◌, ◌≤◌, true, ◌&&◌, not, if◌then◌else◌, List, [], ◌∷◌, ◌++◌, length, nat_lt, nat_le, ◌==◌, ◌⊎◌, ⊤, Some}
use Rattle.peb_base.specs.Members.{IsIn}
use Rattle.peb_base.specs.Profiles.{column, Column}
use Rattle.peb_base.specs.declared.profile.Profile.{Profile}
use Rattle.peb_base.specs.declared.entry.Entry.{Entry}
use Rattle.peb_base.specs.declared.table_row.TableRow.{TableRow}
use Rattle.flsm_model.specs.declared.chosen.Chosen.{Chosen}
use Rattle.flsm_model.specs.declared.edit.Edit.{Edit}
use Rattle.flsm_model.specs.declared.edit.Edit.TheVariants.{Open, Flush, Move, Cut, Merge}
use Rattle.flsm_model.specs.Shape.{Record, Shape, rows_numbered, outputs_of, shape_after, shape_of}
use Rattle.flsm_model.specs.Fits.{is_guard, is_legal_record}
use Rattle.flsm_model.specs.Writes.{total, one_if}
use Rattle.flsm_model.specs.Events.{Session, Standing, Running}
use Rattle.flsm_model.specs.Outcomes.{frozen_entries, IsOutcome}

-- the sum over the numbers up to this one
abbrev pub sum_to : (ℕ → ℕ) → ℕ → ℕ
sum_to f zero = f zero
sum_to f (suc n) = sum_to f n + f (suc n)

-- the entries of rows
abbrev pub entries_in : List TableRow → ℕ
entries_in rows = total (λ (r : TableRow). r.entries) rows

-- the entries of the rows above the level
abbrev pub entries_above : ℕ → List TableRow → ℕ
entries_above level rows =
    total (λ (r : TableRow). if nat_lt r.level level then r.entries else 0) rows

-- the levels that entries have still to go: a frozen entry one more than the last level's number,
-- one of a live table those below its own
abbrev pub levels_to_go : Column → ℕ → Shape → ℕ
levels_to_go o frozen s = sum_to (λ level. frozen + entries_above level s.live) o.last_level

-- at how many levels from 1 up to this one the chosen key is a candidate and no guard
abbrev pub levels_open : Shape → Chosen → ℕ → ℕ
levels_open s c zero = 0
levels_open s c (suc level) =
    one_if (nat_le c.level (suc level) && not (is_guard s (suc level) c.key))
    + levels_open s c level

-- the candidates that are not committed, counted per level
abbrev pub uncommitted : Column → Shape → ℕ
uncommitted o s = total (λ (c : Chosen). levels_open s c o.last_level) s.chosen

-- the tables of the last level among these
abbrev pub last_tables : Column → List TableRow → ℕ
last_tables o rows = total (λ (r : TableRow). one_if (r.level == o.last_level)) rows

-- there is less to do, by these three in this order of weight; the numbers are those of the frozen
-- entries
abbrev pub Lessens : Column → ℕ → Shape → ℕ → Shape → Type 0
Lessens o f s f2 s2 =
    (levels_to_go o f2 s2 < levels_to_go o f s)
    ⊎ (((levels_to_go o f2 s2 ≤ levels_to_go o f s) × (uncommitted o s2 < uncommitted o s))
    ⊎ ((levels_to_go o f2 s2 ≤ levels_to_go o f s) × (uncommitted o s2 ≤ uncommitted o s)
    × (last_tables o s2.live < last_tables o s.live)))

-- how many entries an edit takes: a Flush the frozen ones, others those of their inputs
abbrev pub entries_taken : Shape → ℕ → Edit → ℕ
entries_taken s frozen (Flush row from to log chosen) = frozen
entries_taken s frozen (Open session log) = 0
entries_taken s frozen (Move level floor inputs outputs) = entries_in (rows_numbered inputs s.live)
entries_taken s frozen (Cut level keys inputs outputs) = entries_in (rows_numbered inputs s.live)
entries_taken s frozen (Merge floor whole inputs outputs) = entries_in (rows_numbered inputs s.live)

-- how many entries are frozen after the edit
abbrev pub frozen_after : ℕ → Edit → ℕ
frozen_after frozen (Flush row from to log chosen) = 0
frozen_after frozen (Open session log) = frozen
frozen_after frozen (Move level floor inputs outputs) = frozen
frozen_after frozen (Cut level keys inputs outputs) = frozen
frozen_after frozen (Merge floor whole inputs outputs) = frozen

-- the edit has work: a Flush some entries, a Merge two tables; an opening settles nothing
abbrev pub HasWork : Column → Shape → ℕ → Edit → Type 0
HasWork o s frozen (Flush row from to log chosen) = 0 < frozen
HasWork o s frozen (Open session log) = ⊥
HasWork o s frozen (Move level floor inputs outputs) = ⊤
HasWork o s frozen (Cut level keys inputs outputs) = ⊤
HasWork o s frozen (Merge floor whole inputs outputs) =
    2 ≤ last_tables o (rows_numbered inputs s.live)

-- an edit of a legal record that has work, and writes no more entries than it takes, leaves less to
-- do
abbrev pub EditsSettle : Type 0
EditsSettle =
    (p : Profile) (r : Record) (e : Edit) (frozen : ℕ)
    → is_legal_record (column p) (r ++ e ∷ []) ≡ true
    → HasWork (column p) (shape_of (column p) r) frozen e
    → entries_in (outputs_of e) ≤ entries_taken (shape_of (column p) r) frozen e
    → Lessens (column p) frozen (shape_of (column p) r) (frozen_after frozen e)
    (shape_of (column p) (r ++ e ∷ []))

-- at most so many candidates without a guard, counted per level, can be where each frozen entry may
-- choose a key more
abbrev pub most_uncommitted : Column → ℕ → Shape → ℕ
most_uncommitted o frozen s = (length s.chosen + frozen) * o.last_level

-- so many entries are frozen or in live tables
abbrev pub entries_held : ℕ → Shape → ℕ
entries_held frozen s = frozen + entries_in s.live

-- three digits as one number, the second at most P and the third at most E
abbrev pub measure : ℕ → ℕ → ℕ → ℕ → ℕ → ℕ
measure P E a b c = (a * suc P + b) * suc E + c

-- how much there is to do, as one number: the three in their order of weight
abbrev pub to_do : Column → ℕ → Shape → ℕ
to_do o frozen s =
    measure (most_uncommitted o frozen s) (entries_held frozen s) (levels_to_go o frozen s)
    (uncommitted o s) (last_tables o s.live)

-- how many keys an edit chooses
abbrev pub keys_chosen : Edit → ℕ
keys_chosen (Flush row from to log chosen) = length chosen
keys_chosen (Open session log) = 0
keys_chosen (Move level floor inputs outputs) = 0
keys_chosen (Cut level keys inputs outputs) = 0
keys_chosen (Merge floor whole inputs outputs) = 0

-- the number falls too, where an edit chooses no more keys than it takes entries
abbrev pub NumberFalls : Type 0
NumberFalls =
    (p : Profile) (r : Record) (e : Edit) (frozen : ℕ)
    → is_legal_record (column p) (r ++ e ∷ []) ≡ true
    → HasWork (column p) (shape_of (column p) r) frozen e
    → entries_in (outputs_of e) ≤ entries_taken (shape_of (column p) r) frozen e
    → keys_chosen e ≤ entries_taken (shape_of (column p) r) frozen e
    → to_do (column p) (frozen_after frozen e) (shape_of (column p) (r ++ e ∷ []))
    < to_do (column p) frozen (shape_of (column p) r)

-- how many entries are frozen
abbrev pub entries_frozen : Standing → Session → ℕ
entries_frozen w n =
    total (λ (es : List Entry). length es) (frozen_entries w.batches w.tree.shape.to n.frozen)

-- the outcome of a job in flight has no more entries than the job takes
abbrev pub OutcomesConserve : Column → Standing → Type 0
OutcomesConserve o w =
    (n : Session) → w.session ≡ Some n → (r : Running) → IsIn r n.running → (e : Edit)
    → IsOutcome o w n r.1 e
    → entries_in (outputs_of e) ≤ entries_taken w.tree.shape (entries_frozen w n) e

-- the edit leaves less to do than there is now: by the three, and as one number
abbrev pub LeavesLess : Column → Standing → Session → Edit → Type 0
LeavesLess o w n e =
    Lessens o (entries_frozen w n) w.tree.shape (frozen_after (entries_frozen w n) e)
    (shape_after w.tree.shape e)
    × (to_do o (frozen_after (entries_frozen w n) e) (shape_after w.tree.shape e)
    < to_do o (entries_frozen w n) w.tree.shape)

-- each outcome of a job in flight that has work leaves less to do
abbrev pub OutcomesSettle : Column → Standing → Type 0
OutcomesSettle o w =
    (n : Session) → w.session ≡ Some n → (r : Running) → IsIn r n.running → (e : Edit)
    → IsOutcome o w n r.1 e
    → HasWork o w.tree.shape (entries_frozen w n) e
    → LeavesLess o w n e
