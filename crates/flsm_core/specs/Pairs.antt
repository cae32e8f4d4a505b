-- The entries of the map in memory, as contracts see them.
use Rattle.std.specs.Prelude.{ℕ, List, Vec, map}
use Rattle.std.specs.declared.alloc.Global.{Global}
use Rattle.peb_base.specs.Map.{Map}

-- each key as its bytes
abbrev pub pairs : List (Vec ℕ Global × List ℕ) → Map
pairs entries = map (λ e. (e.0.items, e.1)) entries
