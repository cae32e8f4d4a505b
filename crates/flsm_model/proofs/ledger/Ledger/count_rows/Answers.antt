use Rattle.std.proofs.Common.{◌++◌, take_all, sym, subst, arith}
use Rattle.flsm_model.specs.Ledgers.{Counts}
use Rattle.flsm_model.proofs.lists.Counting.{taken_more}
use Rattle.flsm_model.proofs.ledger.Ledger.count_rows.Goals as goal

pub loop-row-preserved : goal.loop-row-preserved
loop-row-preserved c = (
  omega (arith, c.count_row.ensures.levels, c.loop-row.invariant.0),
  λ rows cuts shorts h.
      subst (λ rs. Counts c.count_row.new.self rs cuts shorts) (sym (taken_more rows c.args.added.now c.loop-row.row-index c.row-item.result c.loop-row-test.true c.row-item.is))
      (c.count_row.ensures.counts _ cuts shorts (c.loop-row.invariant.1 rows cuts shorts h)),
)

pub returns-clause-counts : goal.returns-clause-counts
returns-clause-counts c = λ rows cuts shorts h.
    subst (λ rs. Counts c.loop-row.self (rows ++ rs) cuts shorts) (take_all c.loop-row.row-index c.args.added.now c.loop-row-test.false) (c.loop-row.invariant.1 rows cuts shorts h)
