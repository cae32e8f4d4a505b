use Rattle.std.proofs.Common.{map}
use Rattle.merge_iter.proofs.Firsts.{Best}
use Rattle.merge_iter.proofs.choosing.chosen.Given as goal

abbrev pub invariant-loop-i : goal.invariant-loop-i
invariant-loop-i g l = Best l.is_back (map g.C.Cursor.shows l.inputs) l.i l.best
