use Rattle.std.proofs.Common.{◌≡◌, map, take}
use Rattle.std.specs.Arc.{arc_value}
use Rattle.version_set.specs.declared.tests.Bare.{Bare}
use Rattle.version_set.proofs.tests.tables.Given as goal

abbrev pub invariant-loop-row : goal.invariant-loop-row
invariant-loop-row l = map (λ t. (arc_value {X = Bare} t).row) l.tables.items ≡ take l.row-index l.rows
