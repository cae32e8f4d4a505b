-- A record is the list of the manifest's edits. Its shape is what later edits depend on.
use Rattle.std.specs.Prelude.{ℕ, zero, suc, ◌-◌, Bool, not, List, [], ◌∷◌, ◌++◌, map, filter, replicate, ◌==◌, get_or, set}
use Rattle.std.specs.List.{list_any}
use Rattle.peb_base.specs.Keys.{Bytes}
use Rattle.peb_base.specs.declared.table_row.TableRow.{TableRow}
use Rattle.peb_base.specs.Profiles.{Column}
use Rattle.flsm_model.specs.declared.chosen.Chosen.{Chosen}
use Rattle.flsm_model.specs.declared.edit.Edit.{Edit}
use Rattle.flsm_model.specs.declared.edit.Edit.TheVariants.{Open, Flush, Move, Cut, Merge}
use Rattle.flsm_model.specs.Ranges.{with_keys}

-- edits, the oldest first
abbrev pub Record : Type 0
Record = List Edit

-- what the edits so far leave
pub record Shape : Type 0 where
  pub session : ℕ  -- of the last opening
  pub to : ℕ  -- where the last flush ended
  pub log : ℕ  -- of the last flush
  pub used : List ℕ  -- the table numbers of the session
  pub chosen : List Chosen
  pub guards : List (List Bytes)  -- of each level from 1 on
  pub live : List TableRow

-- before the first edit
abbrev pub empty_shape : Column → Shape
empty_shape o =
    record {
      session = 0;
      to = 0;
      log = 1;
      used = [];
      chosen = [];
      guards = replicate o.last_level
          [];
      live = [];
    }

-- the guards of a level; level 0 has none, so all keys are in one range there
abbrev pub guards_at : Shape → ℕ → List Bytes
guards_at s zero = []
guards_at s (suc level) = get_or s.guards level []

-- the number is one of these
abbrev pub has_number : ℕ → List ℕ → Bool
has_number n ms = list_any (λ m. n == m) ms

-- a row has the number
abbrev pub is_numbered : List TableRow → ℕ → Bool
is_numbered rows n = list_any (λ r. r.number == n) rows

-- the rows of these numbers
abbrev pub rows_numbered : List ℕ → List TableRow → List TableRow
rows_numbered ns rows = filter (λ r. has_number r.number ns) rows

-- the other rows
abbrev pub rows_without : List ℕ → List TableRow → List TableRow
rows_without ns rows = filter (λ r. not (has_number r.number ns)) rows

-- the numbers of the tables that an edit takes away
abbrev pub inputs_of : Edit → List ℕ
inputs_of (Open session log) = []
inputs_of (Flush row from to log chosen) = []
inputs_of (Move level floor inputs outputs) = inputs
inputs_of (Cut level keys inputs outputs) = inputs
inputs_of (Merge floor whole inputs outputs) = inputs

-- the rows of the tables that an edit adds
abbrev pub outputs_of : Edit → List TableRow
outputs_of (Open session log) = []
outputs_of (Flush row from to log chosen) = row ∷ []
outputs_of (Move level floor inputs outputs) = outputs
outputs_of (Cut level keys inputs outputs) = outputs
outputs_of (Merge floor whole inputs outputs) = outputs

-- the shape after inputs are taken away and outputs added
abbrev pub after_exchange : Shape → List ℕ → List TableRow → Shape
after_exchange s inputs outputs =
    record s {
      used = s.used ++ map (λ r. r.number) outputs;
      live = rows_without inputs s.live ++ outputs;
    }

-- the shape after the inputs of an edit are taken away and its outputs added
abbrev pub exchange_of : Shape → Edit → Shape
exchange_of s e = after_exchange s (inputs_of e) (outputs_of e)

-- the shape after an edit
abbrev pub shape_after : Shape → Edit → Shape
shape_after s (Open session log) = record s { session = session; used = [] }
shape_after s (Flush row from to log chosen) =
    record (exchange_of s (Flush row from to log chosen)) {
      to = to;
      log = log;
      chosen = s.chosen ++ chosen;
    }
shape_after s (Cut level keys inputs outputs) =
    record (exchange_of s (Cut level keys inputs outputs))
    { guards = set s.guards (level - 1) (with_keys keys (guards_at s level)) }
shape_after s e = exchange_of s e

-- the shape after further edits
abbrev pub shape_from : Shape → Record → Shape
shape_from s [] = s
shape_from s (e ∷ es) = shape_from (shape_after s e) es

-- the shape of a record
abbrev pub shape_of : Column → Record → Shape
shape_of o r = shape_from (empty_shape o) r
