use Rattle.std.proofs.Common.{◌+◌, ◌&&◌, not, drop, map, sym, ap, ◌∙◌}
use Rattle.peb_base.specs.declared.table_row.TableRow.{TableRow}
use Rattle.flsm_model.specs.Fits.{numbers_differ}
use Rattle.flsm_model.proofs.lists.Testing.{differ_from}
use Rattle.flsm_model.proofs.rows.numbers_differ.Goals as goal

pub returns-then-is_live : goal.returns-then-is_live
returns-then-is_live c =
    sym (sym c.loop-i.invariant ∙ differ_from c.args.rows.now c.loop-i.i c.index-rows-i.result c.is_live.result c.loop-i-test.true c.index-rows-i.is c.is_live.ensures
    ∙ ap (λ b. not b && numbers_differ (map (λ (r : TableRow). r.number) (drop (c.loop-i.i + 1) c.args.rows.now))) c.if-is_live.true)

pub loop-i-preserved : goal.loop-i-preserved
loop-i-preserved c =
    sym (differ_from c.args.rows.now c.loop-i.i c.index-rows-i.result c.is_live.result c.loop-i-test.true c.index-rows-i.is c.is_live.ensures
    ∙ ap (λ b. not b && numbers_differ (map (λ (r : TableRow). r.number) (drop (c.loop-i.i + 1) c.args.rows.now))) c.if-is_live.false)
    ∙ c.loop-i.invariant
