-- Keys behind a handle.
use Rattle.std.specs.Prelude.{List, [], Option, Some, None}
use Rattle.std.specs.Arc.{arc_value}
use Rattle.std.specs.declared.alloc.Global.{Global}
use Rattle.std.specs.declared.sync.Arc.{Arc}
use Rattle.std.specs.declared.vec.Vec.{Vec}
use Rattle.peb_base.specs.Keys.{Bytes}

-- the keys that the handle leads to, or none
abbrev pub held_keys : Option (Arc (Vec Bytes Global) Global) → List Bytes
held_keys None = []
held_keys (Some list) = (arc_value list).items
