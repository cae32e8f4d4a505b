use Rattle.std.proofs.Common.{◌∙◌, [], ap}
use Rattle.flsm_model.specs.Ranges.{with_keys}
use Rattle.version_set.proofs.Parts.{ascending_alone, empty_rows}
use Rattle.version_set.proofs.building.level_of.Goals as goal

pub returns : goal.returns
returns g c = record {
  keys_are = c.in_ok-cut_all.ensures.keys ∙ ap (with_keys c.args.keys.now) c.new-level.ensures.keys ∙ ascending_alone [] c.args.keys.now c.requires;
  each = c.in_ok-cut_all.ensures.rows [] (empty_rows g.T.HasRow.the_row c.new-level.result c.new-level.ensures.tables);
}
