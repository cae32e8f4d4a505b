use Rattle.std.proofs.Common.{take, []}
use Rattle.std.specs.List.{AllZip}
use Rattle.version_set.specs.Shapes.{IsOfLevel}
use Rattle.version_set.proofs.building.levels_of.Given as goal

abbrev pub invariant-loop-keys : goal.invariant-loop-keys
invariant-loop-keys g l = AllZip (λ level keys. IsOfLevel g.T.HasRow.the_row level keys []) l.levels.items (take l.keys-index l.guards)
