use Rattle.std.proofs.Common.{◌≡◌, take, map}
use Rattle.peb_base.specs.declared.table_row.TableRow.{TableRow}
use Rattle.flsm_model.proofs.growing.numbers_of.Given as goal

abbrev pub invariant-loop-row : goal.invariant-loop-row
invariant-loop-row l = l.numbers.items ≡ map (λ (row : TableRow). row.number) (take l.row-index l.rows)
