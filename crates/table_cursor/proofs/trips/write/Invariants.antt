use Rattle.std.proofs.Common.{◌≡◌, ◌≤◌, take}
use Rattle.table_file.specs.Writing.{block_length, HasPushed}
use Rattle.table_cursor.proofs.trips.write.Given as goal

abbrev pub invariant-each : goal.invariant-each
invariant-each g l = record {
  pushed : HasPushed g.M.File.TableHandle.tells (g.M.Maker.begun l.maker) (g.M.Maker.written l.maker) l.writer (take l.entry-index l.entries);
  number : l.writer.number ≡ l.number;
  level : l.writer.level ≡ l.level;
  block : block_length l.writer ≡ block_length l.fn.writer;
  sealed : g.M.Maker.sealed l.maker ≡ g.M.Maker.sealed l.fn.maker;
  gone : g.M.Maker.gone l.maker ≡ g.M.Maker.gone l.fn.maker;
  later : g.M.Maker.faults l.fn.maker ≤ g.M.Maker.faults l.maker;
}
