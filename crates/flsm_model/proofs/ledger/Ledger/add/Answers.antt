use Rattle.std.proofs.Common.{◌++◌, refl, subst}
use Rattle.std.specs.Prelude.{flat_map}
use Rattle.flsm_model.specs.Shape.{outputs_of}
use Rattle.flsm_model.specs.Ledgers.{Counts, cut_rows}
use Rattle.flsm_model.proofs.lists.Counting.{ledger_push, ledger_push_plain}
use Rattle.flsm_model.proofs.ledger.Ledger.add.Goals as goal

pub returns-in-Flush-clause-counts : goal.returns-in-Flush-clause-counts
returns-in-Flush-clause-counts c = λ es shorts h. rw c.in-Flush.is (ledger_push_plain _ es _ shorts refl (c.count_row.ensures.counts _ _ shorts h))

pub returns-in-Move-clause-counts : goal.returns-in-Move-clause-counts
returns-in-Move-clause-counts c = λ es shorts h.
    rw c.in-Move.is (ledger_push_plain c.count_rows.new.self es _ shorts refl
    (subst (λ rs. Counts c.count_rows.new.self (flat_map outputs_of es ++ rs) (flat_map cut_rows es) shorts) c.items.ensures (c.count_rows.ensures.counts _ _ shorts h)))

pub returns-in-Cut-clause-counts : goal.returns-in-Cut-clause-counts
returns-in-Cut-clause-counts c = λ es shorts h.
    rw c.in-Cut.is (ledger_push c.count_cut_rows.new.self es _ shorts
    (subst (λ rs. Counts c.count_cut_rows.new.self (flat_map outputs_of es ++ rs) (flat_map cut_rows es ++ rs) shorts) c.items-in-Cut.ensures (c.count_cut_rows.ensures.counts _ _ shorts h)))

pub returns-in-Merge-clause-counts : goal.returns-in-Merge-clause-counts
returns-in-Merge-clause-counts c = λ es shorts h.
    rw c.in-Merge.is (ledger_push_plain c.count_rows-in-Merge.new.self es _ shorts refl
    (subst (λ rs. Counts c.count_rows-in-Merge.new.self (flat_map outputs_of es ++ rs) (flat_map cut_rows es) shorts) c.items-in-Merge.ensures (c.count_rows-in-Merge.ensures.counts _ _ shorts h)))
