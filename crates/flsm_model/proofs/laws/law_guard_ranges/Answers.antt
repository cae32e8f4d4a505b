use Rattle.flsm_model.proofs.guards.Indexed.{range_is_of_guard, ranges_part_keys, rows_lie_in_ranges, new_guard_is_inserted}
use Rattle.flsm_model.proofs.laws.law_guard_ranges.Goals as goal

pub returns-clause-range : goal.returns-clause-range
returns-clause-range c = range_is_of_guard

pub returns-clause-keys : goal.returns-clause-keys
returns-clause-keys c = ranges_part_keys

pub returns-clause-rows : goal.returns-clause-rows
returns-clause-rows c = rows_lie_in_ranges

pub returns-clause-insert : goal.returns-clause-insert
returns-clause-insert c = new_guard_is_inserted
