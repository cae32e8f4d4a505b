use Rattle.std.proofs.Common.{◌<◌}
use Rattle.std.specs.Prelude.{All}
use Rattle.peb_base.specs.Numbers.{number_of}
use Rattle.mem_table.proofs.tests.chunks_of.Given as goal

abbrev pub invariant-loop-count : goal.invariant-loop-count
invariant-loop-count l = All (λ e. e.number < number_of 1 l.count) l.table
