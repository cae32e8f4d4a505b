use Rattle.std.proofs.Common.{◌≡◌, ◌++◌, ◌-◌, ◌^◌, take}
use Rattle.std.specs.Prelude.{min}
use Rattle.peb_base.specs.Batches.{numbered}
use Rattle.peb_base.specs.Entries.{in_order, size_of}
use Rattle.mem_table.specs.Chunked.{joined}
use Rattle.mem_table.proofs.mem_table.MemTable.insert_all.Given as goal

abbrev pub invariant-loop-at : goal.invariant-loop-at
invariant-loop-at l = record {
  now : joined l.entries
      ≡ in_order (joined l.self-inside.entries ++ numbered l.first (take l.at l.ops));
  sized : l.size ≡ min (size_of (joined l.entries)) (2 ^ 64 - 1);
}
