use Rattle.std.proofs.Common.{◌≡◌, drop, vec_len}
use Rattle.std.specs.List.{AllByRecursion}
use Rattle.guard_level.specs.TableLists.{IsAbsent}
use Rattle.guard_level.proofs.level.take_from.Given as goal

abbrev pub invariant-loop-guard : goal.invariant-loop-guard
invariant-loop-guard g l = record {
  same : l.guards.items ≡ l.fn.guards.items;
  len : vec_len l.guards ≡ vec_len l.fn.guards;
  absent : AllByRecursion (IsAbsent g.T.HasRow.the_row l.number) (drop l.guard l.fn.guards.items) → AllByRecursion (IsAbsent g.T.HasRow.the_row l.number) l.fn.guards.items;
}
