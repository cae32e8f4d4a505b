use Rattle.std.proofs.Common.{◌≡◌, ◌+◌, ◌≤◌, drop}
use Rattle.flsm_model.specs.Legal.{holds_of}
use Rattle.version_set.proofs.held.count_of.Given as goal

abbrev pub invariant-loop-pair : goal.invariant-loop-pair
invariant-loop-pair l = record {
  few : l.count ≤ l.pair-index;
  counted : l.count + holds_of l.client (drop l.pair-index l.pairs) ≡ holds_of l.client l.pairs;
}
