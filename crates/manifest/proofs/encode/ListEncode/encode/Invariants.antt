use Rattle.std.proofs.Common.{◌≡◌, ◌++◌, drop}
use Rattle.std.specs.Prelude.{flat_map}
use Rattle.manifest.specs.Fields.{list_bytes}
use Rattle.manifest.proofs.encode.ListEncode.encode.Given as goal

abbrev pub invariant-loop-item : goal.invariant-loop-item
invariant-loop-item g l = l.bytes.items ++ flat_map g.X.Encode.spelling (drop l.item-index l.items) ≡ l.fn.bytes.items ++ list_bytes g.X.Encode.spelling l.items
