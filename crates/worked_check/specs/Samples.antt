-- Words in which worked histories are written.
use Rattle.std.specs.Prelude.{ℕ, Bool, List, length, Option, Some, None}
use Rattle.peb_base.specs.Profiles.{Column, column}
use Rattle.peb_base.specs.Tables.{first_key, last_key, least_number, greatest_number, raw_length, table_length}
use Rattle.peb_base.specs.declared.change.Change.TheVariants.{Put, Delete}
use Rattle.peb_base.specs.declared.op.Op.{Op}
use Rattle.peb_base.specs.declared.entry.Entry.{Entry}
use Rattle.peb_base.specs.declared.table_row.TableRow.{TableRow}
use Rattle.peb_base.specs.declared.profile.Profile.TheVariants.{Small}
use Rattle.flsm_model.specs.declared.chosen.Chosen.{Chosen}
use Rattle.flsm_model.specs.declared.job_kind.JobKind.{JobKind}
use Rattle.flsm_model.specs.declared.job.Job.{Job}
use Rattle.flsm_model.specs.Events.{Session, Standing}
use Rattle.flsm_model.specs.Picking.{picked}

abbrev pub small : Column
small = column Small

abbrev pub put : List ℕ → ℕ → List ℕ → Entry
put key number value = record { key = key; number = number; change = Put value }

abbrev pub del : List ℕ → ℕ → Entry
del key number = record { key = key; number = number; change = Delete }

abbrev pub op_put : List ℕ → List ℕ → Op
op_put key value = record { key = key; change = Put value }

abbrev pub op_del : List ℕ → Op
op_del key = record { key = key; change = Delete }

abbrev pub chosen_key : List ℕ → ℕ → Chosen
chosen_key key level = record { key = key; level = level }

abbrev pub row_of : ℕ → ℕ → ℕ → List ℕ → List ℕ → ℕ → ℕ → ℕ → ℕ → ℕ → TableRow
row_of number level tier smallest largest entries raw first last bytes =
    record {
      number = number;
      level = level;
      tier = tier;
      smallest = smallest;
      largest =
          largest;
      entries = entries;
      raw = raw;
      first = first;
      last = last;
      bytes = bytes;
    }

abbrev pub row : Column → ℕ → ℕ → List Entry → TableRow
row o number level es =
    row_of number level 0 (first_key es) (last_key es) (length es) (raw_length es) (least_number es)
    (greatest_number es) (table_length o es)

abbrev pub job_of : JobKind → ℕ → List ℕ → Option (List ℕ) → List ℕ → List (List ℕ) → ℕ → ℕ → Bool
    → Job
job_of kind level lo hi inputs keys numbers floor whole =
    record {
      kind = kind;
      level = level;
      lo = lo;
      hi = hi;
      inputs = inputs;
      keys = keys;
      numbers =
          numbers;
      floor = floor;
      whole = whole;
    }

abbrev due_at : Column → Standing → Option Session → Option Job
due_at o w None = None
due_at o w (Some n) = picked o w n

abbrev pub due_in : Column → Standing → Option Job
due_in o w = due_at o w w.session
