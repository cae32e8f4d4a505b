use Rattle.std.proofs.Common.{◌≡◌, ℕ, List, length}
use Rattle.std.specs.List.{AllByRecursion}
use Rattle.record_log.specs.Groups.{AreGroups, placed}
use Rattle.record_log.specs.Records.{views}
use Rattle.manifest.specs.Edits.{IsEdit}
use Rattle.manifest.specs.Manifests.{edits_of}
use Rattle.manifest.proofs.SoFar.{ReadsSoFar}
use Rattle.manifest.proofs.edit_groups.all_edits.Given as goal

abbrev pub invariant-loop-rest : goal.invariant-loop-rest
invariant-loop-rest l = record {
  each : AllByRecursion IsEdit (edits_of l.edits.items);
  so_far : (groups : List (List (List ℕ))) → AreGroups groups → views l.records ≡ placed 24 groups → ReadsSoFar groups l.edits.items (views l.rest);
}

abbrev pub decreases-loop-rest : goal.decreases-loop-rest
decreases-loop-rest l = length l.rest
