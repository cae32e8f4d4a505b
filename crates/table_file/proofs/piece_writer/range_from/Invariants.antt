use Rattle.std.proofs.Common.{◌≤◌, ◌-◌, length}
use Rattle.table_file.specs.Pieces.{range_of}
use Rattle.table_file.proofs.piece_writer.range_from.Given as goal

abbrev pub invariant-loop-at : goal.invariant-loop-at
invariant-loop-at l = record { low : l.at ≤ range_of l.key l.keys; high : l.at ≤ length l.keys }

abbrev pub decreases-loop-at : goal.decreases-loop-at
decreases-loop-at l = length l.keys - l.at
