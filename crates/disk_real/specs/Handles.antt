-- How many handles of each table there are.
use Rattle.std.specs.Prelude.{ℕ, ◌+◌, ◌-◌, ◌^◌, min, Bool, true, false, nat_le, ◌&&◌, Option, None, Some, if◌then◌else◌}
use Rattle.std.specs.BTreeMap.{BTreeMap, get}
use Rattle.std.specs.Ordering.{nat_cmp}
use Rattle.std.specs.declared.alloc.Global.{Global}
use Rattle.disk_real.specs.declared.table_handles.Handles.{Handles}

-- the handles of a table, or none
abbrev pub or_none : Option Handles → Handles
or_none None = record { count = 0; is_retired = false }
or_none (Some handles) = handles

-- the handles of the table of this number
abbrev pub handles_at : BTreeMap ℕ Handles → ℕ → Handles
handles_at tables number = or_none (get nat_cmp tables number)

-- with one handle more
abbrev pub one_more : Handles → Handles
one_more handles = record handles { count = min (handles.count + 1) (2 ^ 64 - 1) }

-- the table is retired
abbrev pub retired_at : Handles → Handles
retired_at handles = record handles { is_retired = true }

-- with one handle less, or none
abbrev pub one_fewer : Handles → Option Handles
one_fewer handles =
    if nat_le handles.count 1 then None else Some (record handles { count = handles.count - 1 })

-- the table is retired, and its last handle goes
abbrev pub goes : Handles → Bool
goes handles = nat_le handles.count 1 && handles.is_retired
