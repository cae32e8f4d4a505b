use Rattle.std.proofs.Common.{◌≡◌, ◌≤◌, ◌+◌, ℕ, IsTrue, List, length}
use Rattle.peb_base.specs.declared.entry.Entry.{Entry}
use Rattle.table_cursor.specs.Views.{table_of, port_of, ahead_of}
use Rattle.table_file.specs.Pieces.{Piece}
use Rattle.table_file.specs.PieceWriting.{full_length}
use Rattle.guard_commit.specs.Ports.{ReadsOn}
use Rattle.guard_commit.specs.Reading.{HasPassed}
use Rattle.guard_commit.specs.Tallying.{Tallies}
use Rattle.guard_commit.specs.Writing.{MakerTold, told_by, work, HasWritten, only, behind, IsOutside}
use Rattle.guard_commit.proofs.passing.push_all.Given as goal

abbrev pub invariant-each : goal.invariant-each
invariant-each g l = record {
  walk : (es : List Entry) × HasPassed l.cursor es × Tallies l.tally es
      × ((from : MakerTold) (ps : List Piece)
      → HasWritten g.P.File.TableHandle from (work (told_by g.M.Maker g.P.File.TableHandle.tells l.fn.maker) l.fn.pieces l.keys) (only ps)
      → HasWritten g.P.File.TableHandle from (work (told_by g.M.Maker g.P.File.TableHandle.tells l.maker) l.pieces l.keys) (behind ps es));
  table : l.table ≡ table_of l.cursor;
  port : ReadsOn g.P.Port (port_of l.fn.cursor) (port_of l.cursor);
  later : g.M.Maker.faults l.fn.maker ≤ g.M.Maker.faults l.maker;
  grows : g.M.Maker.taken l.fn.maker ≤ g.M.Maker.taken l.maker;
  gone : g.M.Maker.gone l.maker ≡ g.M.Maker.gone l.fn.maker;
  elsewhere : IsTrue g.P.File.TableHandle.tells → (n : ℕ) → IsOutside l.fn.pieces.numbers (length l.keys + 1) n
      → g.M.Maker.sealed l.maker n ≡ g.M.Maker.sealed l.fn.maker n;
  numbers : l.pieces.numbers ≡ l.fn.pieces.numbers;
  level : l.pieces.level ≡ l.fn.pieces.level;
  full : full_length l.pieces ≡ full_length l.fn.pieces;
}

abbrev pub decreases-each : goal.decreases-each
decreases-each g l = ahead_of l.cursor
