use Rattle.std.proofs.Common.{◌≡◌, ◌∙◌, ◌-◌, ◌<◌, ◌++◌, ◌∷◌, [], List, suc, length, ap, refl, subst, sym, arith}
use Rattle.std.proofs.lemmas.List.{length-map}
use Rattle.guard_level.specs.Guards.{Guards}
use Rattle.peb_base.specs.declared.table_row.TableRow.{TableRow}
use Rattle.version.specs.Levels.{no_guards}
use Rattle.version_set.specs.Shapes.{HasRows}
use Rattle.std.specs.List.{AllByRecursion}
use Rattle.version_set.specs.Changes.{EachTable}
use Rattle.version_set.specs.Contents.{HoldsContent}
use Rattle.version_set.proofs.Cuts.{on_ok_map, on_ok_both}
use Rattle.version_set.proofs.Holding.{share_holds, live_level}
use Rattle.version_set.proofs.Parts.{keys_stay, placed_level, read_as}
use Rattle.version_set.proofs.Taken.{all_push}
use Rattle.version_set.proofs.building.place.Goals as goal

pub returns-clause-keys : goal.returns-clause-keys
returns-clause-keys g c =
    let levels = c.args.levels.now.items in
    let at = c.row.result.now.level - 1 in
    let deep = c.requires.deep in
    let level : c.row.result.now.level ≡ (g.T.HasRow.the_row c.args.table.now).level = ap (λ (r : TableRow). r.level) c.row.ensures in
    let some = c.if-level-eq0.false in
    let within : at < length levels = omega (arith, deep, level, some, length-map levels (λ (l : Guards g.row.T.Denot). l.keys)) in
    let read = read_as levels at c.index_mut.result.now no_guards within c.index_mut.ensures.value in
    on_ok_map c.append_one.result (λ same. keys_stay levels _ at c.append_one.new.level refl (same ∙ ap (λ (l : Guards g.row.T.Denot). l.keys) read)) c.append_one.ensures.keys

pub returns-clause-stands : goal.returns-clause-stands
returns-clause-stands g c =
    let row = g.T.HasRow.the_row in
    let levels = c.args.levels.now.items in
    let at = c.row.result.now.level - 1 in
    let deep = c.requires.deep in
    let level : c.row.result.now.level ≡ (row c.args.table.now).level = ap (λ (r : TableRow). r.level) c.row.ensures in
    let some = c.if-level-eq0.false in
    let within : at < length levels = omega (arith, deep, level, some, length-map levels (λ (l : Guards g.row.T.Denot). l.keys)) in
    let next : (row c.args.table.now).level ≡ suc at = omega (arith, level, some) in
    let read = read_as levels at c.index_mut.result.now no_guards within c.index_mut.ensures.value in
    on_ok_both c.append_one.result (λ same rows guards live stands.
    placed_level row c.args.top.now.items levels _ at c.append_one.new.level c.args.table.now guards live next within refl (same ∙ ap (λ (l : Guards g.row.T.Denot). l.keys) read)
    (subst (λ (l : Guards g.row.T.Denot). (rs : List TableRow) → HasRows row l rs → HasRows row c.append_one.new.level (rs ++ row c.args.table.now ∷ [])) read rows) stands)
    c.append_one.ensures.keys c.append_one.ensures.rows

pub returns-then-level-eq0-clause-contents : goal.returns-then-level-eq0-clause-contents
returns-then-level-eq0-clause-contents g c = λ content h.
    let P = HoldsContent g.T.HasRow.the_row g.T.HasRow.holds content in
    let own = share_holds g.T.HasRow.the_row g.T.HasRow.holds content c.args.table.now c.in_ok-handle.handle c.in_ok-handle.ensures.row c.in_ok-handle.ensures.entries h.1 in
    record { top = subst (AllByRecursion P) (sym c.in_ok-push.ensures.items) (all_push P c.args.top.now.items c.in_ok-handle.handle h.0.top own); deeper = h.0.deeper }

pub returns-clause-contents : goal.returns-clause-contents
returns-clause-contents g c =
    let levels = c.args.levels.now.items in
    let at = c.row.result.now.level - 1 in
    let deep = c.requires.deep in
    let level : c.row.result.now.level ≡ (g.T.HasRow.the_row c.args.table.now).level = ap (λ (r : TableRow). r.level) c.row.ensures in
    let some = c.if-level-eq0.false in
    let within : at < length levels = omega (arith, deep, level, some, length-map levels (λ (l : Guards g.row.T.Denot). l.keys)) in
    let read = read_as levels at c.index_mut.result.now no_guards within c.index_mut.ensures.value in
    on_ok_map c.append_one.result (λ more content h.
    let P = HoldsContent g.T.HasRow.the_row g.T.HasRow.holds content in
    live_level P (record { top = c.args.top.now.items; levels = levels }) at c.append_one.new.level h.0 (more content (subst (EachTable P) (sym read) (h.0.deeper at), h.1)))
    c.append_one.ensures.contents
