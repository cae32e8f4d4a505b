use Rattle.std.proofs.Common.{◌-◌, ◌^◌, ◌≤◌, ◌<◌, IsTrue, length}
use Rattle.std.specs.Prelude.{min}
use Rattle.disk_model.specs.Ports.{ReadsAtMost}
use Rattle.table_file.proofs.ending.end_within.Given as goal

abbrev pub invariant-loop : goal.invariant-loop
invariant-loop g l = record {
  order : l.low ≤ l.high;
  within : l.high ≤ l.most;
  range : l.high - l.low < 2 ^ (64 - l.counter);
  end : IsTrue g.P.File.TableHandle.tells → (l.low ≤ min (length (g.P.File.TableHandle.bytes l.file)) l.most)
      × (min (length (g.P.File.TableHandle.bytes l.file)) l.most ≤ l.high);
  port : ReadsAtMost g.P.Port l.counter l.fn.port l.port ⊥;
}
