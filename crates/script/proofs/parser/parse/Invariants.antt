use Rattle.std.proofs.Common.{◌≡◌, ◌+◌, ◌≤◌, length}
use Rattle.script.specs.Script.{lines_of, script_of, read}
use Rattle.script.proofs.Scripts.{with_front}
use Rattle.script.proofs.parser.parse.Given as goal

abbrev pub invariant-loop-rest : goal.invariant-loop-rest
invariant-loop-rest l = record {
  so_far : with_front l.commands.items (read l.line (lines_of l.rest)) ≡ script_of l.bytes;
  count : l.line + length l.rest ≤ length l.bytes + 1;
}

abbrev pub decreases-loop-rest : goal.decreases-loop-rest
decreases-loop-rest l = length l.rest
