use Rattle.std.proofs.Common.{List, subst, sym}
use Rattle.version.specs.Levels.{Levels}
use Rattle.version_set.specs.Changes.{CanStage}
use Rattle.std.specs.List.{AllByRecursion}
use Rattle.version_set.specs.Contents.{HoldsContent, EachLive}
use Rattle.version_set.proofs.version_set.VersionSet.stage.Goals as goal

pub returns-in-Ok-clause-staged : goal.returns-in-Ok-clause-staged
returns-in-Ok-clause-staged g c = λ s can.
    let row = g.T.HasRow.the_row in
    c.in-Ok.ensures.made s
    (subst (λ (v : Levels g.row.T.Denot). CanStage row v s c.args.edit.now c.as_slice.result.now) (sym c.version.ensures)
    (subst (λ (ts : List g.row.T.Denot). CanStage row c.args.self.now.current s c.args.edit.now ts) (sym c.as_slice.ensures.value) can))

pub returns-in-Ok-clause-contents : goal.returns-in-Ok-clause-contents
returns-in-Ok-clause-contents g c = λ content h.
    let P = HoldsContent g.T.HasRow.the_row g.T.HasRow.holds content in
    c.in-Ok.ensures.contents content (subst (EachLive P) (sym c.version.ensures) h.0, subst (AllByRecursion P) (sym c.as_slice.ensures.value) h.1)
