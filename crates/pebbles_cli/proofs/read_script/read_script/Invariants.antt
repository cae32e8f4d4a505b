use Rattle.std.proofs.Common.{◌≡◌, ℕ, ◌-◌, ◌≤◌, List, vec_len}
use Rattle.pebbles_cli.specs.Read.{Begins}
use Rattle.pebbles_cli.proofs.read_script.read_script.Given as goal

abbrev pub invariant-pieces : goal.invariant-pieces
invariant-pieces g l = record {
  begins : Begins (g.S.Scripts.text l.fn.scripts l.name) l.bytes.items;
  same : (other : List ℕ) → g.S.Scripts.text l.scripts other ≡ g.S.Scripts.text l.fn.scripts other;
  later : g.S.Scripts.faults l.fn.scripts ≤ g.S.Scripts.faults l.scripts;
}

abbrev pub decreases-pieces : goal.decreases-pieces
decreases-pieces g l = 16777217 - vec_len l.bytes
