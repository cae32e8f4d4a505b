use Rattle.std.proofs.Common.{◌+◌, List, [], ◌∷◌, ◌++◌, take, take_all, sym, subst, arith}
use Rattle.peb_base.specs.declared.table_row.TableRow.{TableRow}
use Rattle.flsm_model.specs.Ledgers.{Counts}
use Rattle.flsm_model.proofs.lists.Counting.{taken_more}
use Rattle.flsm_model.proofs.ledger.Ledger.count_cut_rows.Goals as goal

pub loop-row-preserved : goal.loop-row-preserved
loop-row-preserved c = (
  omega (arith, c.count_cut_row.ensures.levels, c.loop-row.invariant.0),
  λ rows cuts shorts h.
      let more = λ (xs : List TableRow). taken_more xs c.args.added.now c.loop-row.row-index c.row-item.result c.loop-row-test.true c.row-item.is in
      subst (λ rs. Counts c.count_cut_row.new.self rs (cuts ++ take (c.loop-row.row-index + 1) c.args.added.now) shorts) (sym (more rows))
      (subst (λ cs. Counts c.count_cut_row.new.self ((rows ++ take c.loop-row.row-index c.args.added.now) ++ c.row-item.result ∷ []) cs shorts) (sym (more cuts))
      (c.count_cut_row.ensures.counts _ _ shorts (c.loop-row.invariant.1 rows cuts shorts h))),
)

pub returns-clause-counts : goal.returns-clause-counts
returns-clause-counts c = λ rows cuts shorts h.
    subst (λ rs. Counts c.loop-row.self (rows ++ rs) (cuts ++ rs) shorts) (take_all c.loop-row.row-index c.args.added.now c.loop-row-test.false) (c.loop-row.invariant.1 rows cuts shorts h)
