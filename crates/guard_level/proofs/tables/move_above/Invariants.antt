use Rattle.std.proofs.Common.{◌≡◌, ◌≤◌, ◌+◌, ◌++◌, ◌-◌, take, drop, vec_len, vec_capacity}
use Rattle.guard_level.specs.TableLists.{below, above}
use Rattle.guard_level.proofs.tables.move_above.Given as goal

abbrev pub invariant-loop-at : goal.invariant-loop-at
invariant-loop-at g l = record {
  within : l.at ≤ vec_len l.tables;
  kept : take l.at l.tables.items ++ below g.T.HasRow.the_row l.key (drop l.at l.tables.items) ≡ below g.T.HasRow.the_row l.key l.fn.tables.items;
  given : l.given.items ++ above g.T.HasRow.the_row l.key (drop l.at l.tables.items) ≡ above g.T.HasRow.the_row l.key l.fn.tables.items;
  room : vec_len l.given + (vec_len l.tables - l.at) ≤ vec_capacity l.given;
}

abbrev pub decreases-loop-at : goal.decreases-loop-at
decreases-loop-at g l = vec_len l.tables - l.at
