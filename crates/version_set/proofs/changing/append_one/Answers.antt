use Rattle.std.proofs.Common.{subst, sym}
use Rattle.version_set.specs.Changes.{EachTable}
use Rattle.version_set.specs.Contents.{HoldsContent}
use Rattle.version_set.proofs.Cuts.{on_ok, appended_as}
use Rattle.version_set.proofs.Holding.{each_appended, share_holds}
use Rattle.version_set.proofs.changing.append_one.Goals as goal
use Rattle.version_set.proofs.changing.append_one.Goals.{in-Ok, in-Err}

pub returns-clause-rows : goal.returns-clause-rows
returns-clause-rows g c = elim c.match-append.branch [
  | in-Ok w ↦ on_ok c.match-append.result (λ rows each. appended_as g.T.HasRow.the_row c.args.level.now c.append.new.self rows c.args.table.now c.in_ok-shared.shared
      w.in-Ok.ensures.ok c.in_ok-shared.ensures.row c.keys-guards.ensures.each each)
  | in-Err w ↦ rw w.result-is tt
]

pub returns-clause-contents : goal.returns-clause-contents
returns-clause-contents g c =
    let row = g.T.HasRow.the_row in
    let holds = g.T.HasRow.holds in
    elim c.match-append.branch [
      | in-Ok w ↦ on_ok c.match-append.result (λ content h. subst (EachTable (HoldsContent row holds content)) (sym w.in-Ok.ensures.ok)
          (each_appended (HoldsContent row holds content) row c.in_ok-shared.shared c.args.level.now h.0
          (share_holds row holds content c.args.table.now c.in_ok-shared.shared c.in_ok-shared.ensures.row c.in_ok-shared.ensures.entries h.1)))
      | in-Err w ↦ rw w.result-is tt
    ]
