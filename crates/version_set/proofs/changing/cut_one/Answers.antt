use Rattle.std.proofs.Common.{◌∙◌, ap, subst, sym}
use Rattle.version_set.specs.Shapes.{HasRows}
use Rattle.version_set.specs.Changes.{EachTable, IsWhole}
use Rattle.version_set.specs.Contents.{HoldsContent}
use Rattle.version_set.proofs.Cuts.{on_ok_map, cut_keys, cut_rows, cut_each}
use Rattle.version_set.proofs.changing.cut_one.Goals as goal

pub returns-clause-keys : goal.returns-clause-keys
returns-clause-keys g c =
    on_ok_map c.cut.result (λ is. ap (λ level. level.keys) is ∙ cut_keys g.T.HasRow.the_row c.args.key c.args.level.now c.keys-guards.ensures.ascend) c.cut.ensures.ok

pub returns-clause-rows : goal.returns-clause-rows
returns-clause-rows g c =
    on_ok_map c.cut.result (λ is rows each. subst (λ level. HasRows g.T.HasRow.the_row level rows) (sym is)
    (cut_rows g.T.HasRow.the_row c.args.key c.args.level.now rows c.keys-guards.ensures.ascend c.keys-guards.ensures.each each)) c.cut.ensures.ok

pub returns-clause-whole : goal.returns-clause-whole
returns-clause-whole g c =
    on_ok_map c.cut.result (λ is other each. subst (EachTable (λ t. IsWhole other (g.T.HasRow.the_row t))) (sym is)
    (cut_each (λ t. IsWhole other (g.T.HasRow.the_row t)) g.T.HasRow.the_row c.args.key c.args.level.now c.keys-guards.ensures.each each)) c.cut.ensures.ok

pub returns-clause-contents : goal.returns-clause-contents
returns-clause-contents g c =
    on_ok_map c.cut.result (λ is content each. subst (EachTable (HoldsContent g.T.HasRow.the_row g.T.HasRow.holds content)) (sym is)
    (cut_each (HoldsContent g.T.HasRow.the_row g.T.HasRow.holds content) g.T.HasRow.the_row c.args.key c.args.level.now c.keys-guards.ensures.each each)) c.cut.ensures.ok
