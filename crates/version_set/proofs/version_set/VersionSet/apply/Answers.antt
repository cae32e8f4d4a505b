use Rattle.std.proofs.Common.{List, ap, subst, sym}
use Rattle.version.specs.Levels.{Levels}
use Rattle.version_set.specs.Changes.{IsStagedFor}
use Rattle.std.specs.List.{AllByRecursion}
use Rattle.version_set.specs.Contents.{HoldsContent, EachLive}
use Rattle.version_set.proofs.version_set.VersionSet.apply.Goals as goal

pub returns-in-Ok-clause-staged : goal.returns-in-Ok-clause-staged
returns-in-Ok-clause-staged g c = λ s can.
    let row = g.T.HasRow.the_row in
    subst (λ (v : Levels g.row.T.Denot). IsStagedFor row v c.swap.result.items s c.args.edit.now) (sym (ap (λ set. set.current) c.swap.ensures.set))
    (subst (λ (ts : List g.row.T.Denot). IsStagedFor row c.in-Ok.staged.next ts s c.args.edit.now) (sym c.swap.ensures.gone) (c.in-Ok.ensures.staged s can))

pub returns-in-Ok-clause-contents : goal.returns-in-Ok-clause-contents
returns-in-Ok-clause-contents g c = λ content h.
    let P = HoldsContent g.T.HasRow.the_row g.T.HasRow.holds content in
    let left = c.in-Ok.ensures.contents content h in
    (subst (EachLive P) (sym (ap (λ set. set.current) c.swap.ensures.set)) left.0, subst (AllByRecursion P) (sym c.swap.ensures.gone) left.1)
