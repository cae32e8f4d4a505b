use Rattle.std.proofs.Common.{◌-◌, map, refl}
use Rattle.version_set.specs.Changes.{Change}
use Rattle.version_set.proofs.Holding.{level_holds}
use Rattle.version_set.proofs.Stands.{can_cut, can_append, made_level}
use Rattle.version_set.proofs.changing.change_level.Goals as goal

pub cut_all-requires : goal.cut_all-requires
cut_all-requires g c =
    let change : Change = record { level = c.args.level; keys = c.args.keys.now; inputs = c.args.inputs.now; outputs = map g.T.HasRow.the_row c.args.tables.now } in
    can_cut g.T.HasRow.the_row g.T.HasRow.holds c.args.version.now c.requires.may.0 c.requires.may.1 change c.level-old.result.now c.in_ok-next.next c.take_all.new.level c.in_ok-gone.gone.items
    c.requires.may.2 c.requires.below c.level-old.ensures c.keys-guards.ensures.ascend c.in_ok-next.ensures c.in_ok-gone.ensures.taken

pub append_all-requires : goal.append_all-requires
append_all-requires g c =
    let change : Change = record { level = c.args.level; keys = c.args.keys.now; inputs = c.args.inputs.now; outputs = map g.T.HasRow.the_row c.args.tables.now } in
    can_append g.T.HasRow.the_row g.T.HasRow.holds c.args.version.now c.requires.may.0 c.requires.may.1 change c.level-old.result.now c.in_ok-next.next c.take_all.new.level c.cut_all.new.level c.args.tables.now
    c.requires.may.2 c.requires.below c.level-old.ensures c.keys-guards.ensures.ascend c.in_ok-next.ensures c.in_ok-gone.ensures.keys c.in_ok-cut_all.ensures.keys refl

pub returns-clause-made : goal.returns-clause-made
returns-clause-made g c = λ guards live may.
    let change : Change = record { level = c.args.level; keys = c.args.keys.now; inputs = c.args.inputs.now; outputs = map g.T.HasRow.the_row c.args.tables.now } in
    made_level g.T.HasRow.the_row g.T.HasRow.holds c.args.version.now c.in_ok-made.made guards live change c.level-old.result.now c.in_ok-next.next c.take_all.new.level c.cut_all.new.level c.append_all.new.level
    c.in_ok-gone.gone.items may c.requires.below c.level-old.ensures
    (record {
      copied_is = c.in_ok-next.ensures;
      taken_keys = c.in_ok-gone.ensures.keys;
      taken_rows = c.in_ok-gone.ensures.taken;
      cut_keys = c.in_ok-cut_all.ensures.keys;
      cut_rows = c.in_ok-cut_all.ensures.rows;
      done_keys = c.in_ok-append_all.ensures.keys;
      done_rows = c.in_ok-append_all.ensures.rows;
    })
    c.in_ok-made.ensures

pub returns-clause-contents : goal.returns-clause-contents
returns-clause-contents g c =
    level_holds g.T.HasRow.the_row g.T.HasRow.holds c.args.version.now c.in_ok-made.made (c.args.level - 1) c.level-old.result.now c.in_ok-next.next c.take_all.new.level c.cut_all.new.level
    c.append_all.new.level c.in_ok-gone.gone.items c.args.tables.now c.level-old.ensures c.in_ok-next.ensures c.in_ok-gone.ensures.contents c.in_ok-cut_all.ensures.contents
    c.in_ok-append_all.ensures.contents c.in_ok-made.ensures
