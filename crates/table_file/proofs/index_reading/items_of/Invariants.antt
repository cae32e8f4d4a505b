use Rattle.std.proofs.Common.{length, drop}
use Rattle.table_file.proofs.IndexWalk.{Walk}
use Rattle.table_file.proofs.index_reading.items_of.Given as goal

abbrev pub invariant-walk : goal.invariant-walk
invariant-walk l = Walk l.place l.key l.above l.end l.items.items l.rest (drop 4 l.bytes)

abbrev pub decreases-walk : goal.decreases-walk
decreases-walk l = length l.rest
