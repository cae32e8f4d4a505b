use Rattle.std.proofs.Common.{List, ◌≡◌, ◌++◌, take, length}
use Rattle.peb_base.specs.declared.table_row.TableRow.{TableRow}
use Rattle.flsm_model.specs.Ledgers.{Shorts, Counts}
use Rattle.flsm_model.proofs.ledger.Ledger.count_cut_rows.Given as goal

abbrev pub invariant-loop-row : goal.invariant-loop-row
invariant-loop-row l = (length l.self ≡ length l.initial.self) × ((rows cuts : List TableRow) (shorts : Shorts)
    → Counts l.initial.self rows cuts shorts → Counts l.self (rows ++ take l.row-index l.added) (cuts ++ take l.row-index l.added) shorts)
