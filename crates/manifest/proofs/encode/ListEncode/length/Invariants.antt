use Rattle.std.proofs.Common.{◌≡◌, ◌+◌, ◌-◌, ◌^◌, ◌≤◌, length, take, min}
use Rattle.std.specs.Prelude.{flat_map}
use Rattle.std.specs.List.{AllByRecursion}
use Rattle.manifest.proofs.encode.ListEncode.length.Given as goal

abbrev pub invariant-loop-item : goal.invariant-loop-item
invariant-loop-item g l = record {
  length : l.length ≡ min (4 + length (flat_map g.X.Encode.spelling (take l.item-index l.item-items))) (2 ^ 64 - 1);
  some : 1 ≤ l.length;
  few : l.length ≤ 2 ^ 31 → l.item-index + 4 ≤ l.length;
  each : l.length ≤ 2 ^ 31 → AllByRecursion g.X.Encode.fits (take l.item-index l.item-items);
}
