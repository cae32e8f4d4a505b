-- Words for worked examples: profile `small`, session 1, keys and values of one byte.
use Rattle.std.proofs.Common.{ℕ, false, List, [], ◌∷◌, length, None, refl, arith}
use Rattle.peb_base.specs.Numbers.{number_of}
use Rattle.peb_base.specs.Profiles.{Column, column}
use Rattle.peb_base.specs.Tables.{first_key, last_key, least_number, greatest_number, raw_length, table_length}
use Rattle.peb_base.specs.declared.change.Change.TheVariants.{Put, Delete}
use Rattle.peb_base.specs.declared.op.Op.{Op}
use Rattle.peb_base.specs.declared.entry.Entry.{Entry}
use Rattle.peb_base.specs.declared.table_row.TableRow.{TableRow}
use Rattle.peb_base.specs.declared.profile.Profile.TheVariants.{Small}
use Rattle.flsm_model.specs.declared.job_kind.JobKind.{JobKind}
use Rattle.flsm_model.specs.declared.job.Job.{Job}
use Rattle.flsm_model.specs.Trees.{Describes}

abbrev pub small : Column
small = column Small

-- the number of a count in session 1
abbrev pub n : ℕ → ℕ
n count = number_of 1 count

abbrev pub put : ℕ → ℕ → ℕ → Entry
put key count value = record { key = key ∷ []; number = n count; change = Put (value ∷ []) }

abbrev pub delete : ℕ → ℕ → Entry
delete key count = record { key = key ∷ []; number = n count; change = Delete }

-- a batch of one put
abbrev pub puts : ℕ → ℕ → ℕ → ℕ × List Op
puts key count value = (n count, record { key = key ∷ []; change = Put (value ∷ []) } ∷ [])

-- the row of a table with these entries
abbrev pub row : ℕ → ℕ → List Entry → TableRow
row count level es =
    record {
      number = n count;
      level = level;
      tier = 0;
      smallest = first_key es;
      largest = last_key es;
      entries = length es;
      raw = raw_length es;
      first = least_number es;
      last = greatest_number es;
      bytes = table_length small es;
    }

pub described : (count level : ℕ) (e : Entry) (es : List Entry) → Describes small (row count level (e ∷ es)) (e ∷ es)
described count level e es =
    record {
      tells = record { some = omega arith; smallest = refl; largest = refl; entries = refl; raw = refl; first = refl; last = refl };
      bytes = refl;
    }

-- a job over all keys, with its level, inputs and keys, the first of its table numbers, and its floor
abbrev pub job : JobKind → ℕ → List ℕ → List (List ℕ) → ℕ → ℕ → Job
job kind level inputs keys numbers floor =
    record { kind = kind; level = level; lo = []; hi = None; inputs = inputs; keys = keys; numbers = n numbers; floor = n floor; whole = false }

abbrev pub o_key : List ℕ
o_key = 111 ∷ []

abbrev pub g_key : List ℕ
g_key = 103 ∷ []
