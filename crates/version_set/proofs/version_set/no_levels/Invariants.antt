use Rattle.std.proofs.Common.{◌≡◌, length}
use Rattle.std.specs.List.{AllByRecursion}
use Rattle.version_set.specs.Shapes.{IsEmptyLevel}
use Rattle.version_set.proofs.version_set.no_levels.Given as goal

abbrev pub invariant-loop : goal.invariant-loop
invariant-loop g l = record {
  count_is : length l.levels.items ≡ l.counter;
  empty : AllByRecursion IsEmptyLevel l.levels.items;
}
