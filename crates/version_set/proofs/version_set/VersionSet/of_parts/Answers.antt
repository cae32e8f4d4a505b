use Rattle.std.proofs.Common.{◌≡◌, ◌∙◌, [], length, map, subst, sym, arith, vec_len}
use Rattle.std.specs.List.{AllByRecursion}
use Rattle.version.specs.Levels.{Levels}
use Rattle.version_set.specs.Shapes.{HasPlace, HasTables}
use Rattle.version_set.specs.Contents.{HoldsContent, EachLive}
use Rattle.version_set.proofs.Holding.{live_of_none}
use Rattle.version_set.proofs.Parts.{keys_of_zip, empty_stands}
use Rattle.version_set.proofs.version_set.VersionSet.of_parts.Goals as goal

pub place_all-requires : goal.place_all-requires
place_all-requires g c =
    let row = g.T.HasRow.the_row in
    subst (λ ks. AllByRecursion (λ t. HasPlace ks (row t)) c.args.tables.now) (sym (keys_of_zip row c.in_ok-levels.levels.items c.args.guards.now c.in_ok-levels.ensures)) c.requires.placed

pub of_parts-requires : goal.of_parts-requires
of_parts-requires g c =
    let row = g.T.HasRow.the_row in
    let guards = c.args.guards.now in
    let begun = subst (λ ts. HasTables row (record { top = ts; levels = c.in_ok-levels.levels.items }) guards []) (sym c.new-top.ensures.items)
    (empty_stands row c.in_ok-levels.levels.items guards c.in_ok-levels.ensures) in
    let stands = c.in_ok-place_all.ensures.stands guards [] begun in
    let count = stands.count in
    let all : vec_len c.place_all.new.levels ≡ length c.place_all.new.levels.items = c.place_all.new.levels.ok.0 in
    omega (arith, count, all, c.requires.few)

pub returns-clause-stands : goal.returns-clause-stands
returns-clause-stands g c =
    let row = g.T.HasRow.the_row in
    let guards = c.args.guards.now in
    let begun = subst (λ ts. HasTables row (record { top = ts; levels = c.in_ok-levels.levels.items }) guards []) (sym c.new-top.ensures.items)
    (empty_stands row c.in_ok-levels.levels.items guards c.in_ok-levels.ensures) in
    subst (λ (v : Levels g.row.T.Denot). HasTables row v guards (map row c.args.tables.now)) (sym (c.in_ok-current.ensures.ok ∙ c.in_ok-version.ensures)) (c.in_ok-place_all.ensures.stands guards [] begun)

pub returns-clause-contents : goal.returns-clause-contents
returns-clause-contents g c = λ content all.
    let P = HoldsContent g.T.HasRow.the_row g.T.HasRow.holds content in
    let begun = subst (λ ts. EachLive P (record { top = ts; levels = c.in_ok-levels.levels.items })) (sym c.new-top.ensures.items)
    (live_of_none P g.T.HasRow.the_row c.in_ok-levels.levels.items c.args.guards.now c.in_ok-levels.ensures) in
    subst (EachLive P) (sym (c.in_ok-current.ensures.ok ∙ c.in_ok-version.ensures)) (c.in_ok-place_all.ensures.contents content (begun, all))
