use Rattle.std.proofs.Common.{◌<◌}
use Rattle.std.specs.Prelude.{All}
use Rattle.peb_base.specs.Numbers.{number_of}
use Rattle.mem_table.proofs.tests.views_of.Given as goal

abbrev pub invariant-loop-at : goal.invariant-loop-at
invariant-loop-at l = All (λ e. e.number < number_of 1 l.at) l.table
