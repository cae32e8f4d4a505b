use Rattle.std.proofs.Common.{subst, sym}
use Rattle.version.specs.Levels.{Levels}
use Rattle.version_set.specs.Changes.{IsStagedFor}
use Rattle.version_set.specs.Contents.{HoldsContent, EachLive}
use Rattle.version_set.proofs.staging.next_version.Goals as goal

pub returns-clause-made : goal.returns-clause-made
returns-clause-made g c = λ s can.
    subst (λ (v : Levels g.row.T.Denot). IsStagedFor g.T.HasRow.the_row v c.in_ok-version.gone.items s c.args.edit.now) (sym c.in_ok-next.ensures.ok) (c.in_ok-version.ensures.made s can)

pub returns-clause-contents : goal.returns-clause-contents
returns-clause-contents g c = λ content h.
    let left = c.in_ok-version.ensures.contents content h in
    (subst (EachLive (HoldsContent g.T.HasRow.the_row g.T.HasRow.holds content)) (sym c.in_ok-next.ensures.ok) left.0, left.1)
