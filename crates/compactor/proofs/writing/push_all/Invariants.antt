use Rattle.std.proofs.Common.{◌≡◌, ◌≤◌, ◌+◌}
use Rattle.disk_model.specs.Tables.{capped}
use Rattle.mem_table.specs.Seen.{entries_in, place_at, ahead_of}
use Rattle.table_file.specs.Taking.{closed_length}
use Rattle.table_file.specs.Writing.{block_length, HasPushed}
use Rattle.compactor.specs.Stopping.{fault_behind, table_fault}
use Rattle.compactor.proofs.Pushing.{front_at, rest_at}
use Rattle.compactor.proofs.writing.push_all.Given as goal

abbrev pub invariant-each : goal.invariant-each
invariant-each g l = record {
  over : entries_in l.cursor ≡ l.view;
  pushed : HasPushed g.M.File.TableHandle.tells (g.M.Maker.begun l.maker) (g.M.Maker.written l.maker) l.writer
      (front_at (entries_in l.cursor) (place_at l.cursor));
  taken : g.M.Maker.taken l.maker ≡ capped (g.M.Maker.taken l.fn.maker
      + closed_length (block_length l.fn.writer) (front_at (entries_in l.cursor) (place_at l.cursor)));
  limit : table_fault (block_length l.fn.writer) (entries_in l.cursor)
      ≡ fault_behind (block_length l.fn.writer) (front_at (entries_in l.cursor) (place_at l.cursor))
      (rest_at (entries_in l.cursor) (place_at l.cursor));
  number : l.writer.number ≡ l.fn.writer.number;
  level : l.writer.level ≡ l.fn.writer.level;
  block : block_length l.writer ≡ block_length l.fn.writer;
  sealed : g.M.Maker.sealed l.maker ≡ g.M.Maker.sealed l.fn.maker;
  gone : g.M.Maker.gone l.maker ≡ g.M.Maker.gone l.fn.maker;
  later : g.M.Maker.faults l.fn.maker ≤ g.M.Maker.faults l.maker;
}

abbrev pub decreases-each : goal.decreases-each
decreases-each g l = ahead_of l.cursor
