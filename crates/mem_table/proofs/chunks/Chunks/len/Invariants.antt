use Rattle.std.proofs.Common.{◌≡◌, ◌-◌, ◌^◌, length, map, take}
use Rattle.std.specs.Prelude.{min}
use Rattle.std.specs.Arc.{arc_value}
use Rattle.mem_table.specs.Chunked.{joined}
use Rattle.mem_table.proofs.chunks.Chunks.len.Given as goal

abbrev pub invariant-loop-chunk : goal.invariant-loop-chunk
invariant-loop-chunk l =
    l.len ≡ min (length (joined (map arc_value (take l.chunk-index l.chunk-items)))) (2 ^ 64 - 1)
