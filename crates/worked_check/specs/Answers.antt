-- What an independent model of the store answers of a history, and that the definitions of the model agree.
use Rattle.std.specs.Prelude.{◌≡◌, ℕ, Bool, true, map, take, List, [], ◌∷◌, Option}
use Rattle.std.specs.List.{AllByRecursion}
use Rattle.peb_base.specs.Batches.{Batches}
use Rattle.peb_base.specs.Keys.{Bytes}
use Rattle.peb_base.specs.Map.{Map}
use Rattle.peb_base.specs.Shown.{shown}
use Rattle.peb_base.specs.declared.entry.Entry.{Entry}
use Rattle.peb_base.specs.declared.table_row.TableRow.{TableRow}
use Rattle.flsm_model.specs.declared.edit.Edit.{Edit}
use Rattle.flsm_model.specs.declared.job.Job.{Job}
use Rattle.flsm_model.specs.declared.level_count.LevelCount.{LevelCount}
use Rattle.flsm_model.specs.Events.{Event, Standing, base}
use Rattle.flsm_model.specs.Steps.{run}
use Rattle.flsm_model.specs.Shape.{Record, shape_of}
use Rattle.flsm_model.specs.Fits.{fits}
use Rattle.flsm_model.specs.Trees.{Table, empty_tree}
use Rattle.flsm_model.specs.Shown.{all_entries}
use Rattle.flsm_model.specs.Writes.{writes_from, cuts_from}
use Rattle.flsm_model.specs.Ledgers.{ledger}
use Rattle.flsm_model.specs.Picking.{over_at}
use Rattle.worked_check.specs.Samples.{small, due_in}

-- a job that is due, or none, after so many events
pub record Due : Type 0 where
  pub after : ℕ
  pub job : Option Job

-- which of these edits fit after so many edits of the record
pub record Fitting : Type 0 where
  pub after : ℕ
  pub edits : List Edit
  pub fit : List Bool

-- the answers for a history
pub record Answers : Type 0 where
  -- the record that its manifest has, and the batches that were committed
  pub edits : Record
  pub batches : Batches
  -- where the record leads: the guards of each level, the live tables and their entries
  pub guards : List (List Bytes)
  pub live : List TableRow
  pub contents : List (List Entry)
  -- the ordered map that tables show at this number
  pub number : ℕ
  pub map_there : Map
  -- of the entries with these numbers: how often each was written, and cut, at each level
  pub numbers : List ℕ
  pub writes : List (List ℕ)
  pub cuts : List (List ℕ)
  -- jobs cut short, by level and bytes; what was written at each level, and the guards over their limit
  pub shorts : List (ℕ × ℕ)
  pub ledgers : List LevelCount
  pub over : List (List (Bytes × Option Bytes))
  -- which job was due, and which edits would have fitted, on the way
  pub due : List Due
  pub fitting : List Fitting

abbrev levels : List ℕ
levels = 0 ∷ 1 ∷ 2 ∷ 3 ∷ []

-- the empty store
abbrev pub begin : Standing
begin = base true small [] []

-- the definitions give these answers for these events
pub record Agrees (events : List Event) (a : Answers) : Type 0 where
  pub edits : (run small begin events).edits ≡ a.edits
  pub batches : (run small begin events).batches ≡ a.batches
  pub guards : (shape_of small a.edits).guards ≡ a.guards
  pub live : (shape_of small a.edits).live ≡ a.live
  pub contents : map (λ (t : Table). t.entries) (run small begin events).tree.tables ≡ a.contents
  pub shows : shown (all_entries (run small begin events).tree.tables) a.number ≡ a.map_there
  pub writes : map (λ q. map
      (λ l. writes_from small a.batches (empty_tree small) q l a.edits) levels) a.numbers
      ≡ a.writes
  pub cuts : map (λ q. map
      (λ l. cuts_from small a.batches (empty_tree small) q l a.edits) levels) a.numbers
      ≡ a.cuts
  pub ledgers : map (ledger a.edits a.shorts) levels ≡ a.ledgers
  pub over : map (over_at small (shape_of small a.edits)) levels ≡ a.over
  pub due : AllByRecursion
      (λ (d : Due). due_in small (run small begin (take d.after events)) ≡ d.job) a.due
  pub fitting : AllByRecursion
      (λ (f : Fitting). map (fits small (shape_of small (take f.after a.edits))) f.edits
      ≡ f.fit) a.fitting
