use Rattle.std.proofs.Common.{◌≡◌, ◌∙◌, ap, map, refl, subst, sym}
use Rattle.flsm_model.specs.declared.edit.Edit.TheVariants.{Move}
use Rattle.version_set.specs.Changes.{Change, CanStage, IsStagedFor}
use Rattle.version_set.proofs.Cuts.{if_ok_map}
use Rattle.version_set.proofs.Edits.{flush_may, flush_made, cut_may, cut_made, merge_may, merge_made, move_is}
use Rattle.version_set.proofs.staging.made.Goals as goal

pub change-requires : goal.change-requires
change-requires g c =
    let row = g.T.HasRow.the_row in
    let s = c.requires.0 in
    let change : Change = record { level = 0; keys = c.deref.result.now; inputs = c.deref-in-Flush.result.now; outputs = map row c.args.tables.now } in (
      s.guards,
      s.live,
      flush_may row c.args.version.now c.args.tables.now s c.args.edit.now c.requires.1 c.in-Flush.is change refl (c.deref.ensures.value ∙ c.new-no_keys.ensures.items)
          (c.deref-in-Flush.ensures.value ∙ c.new-no_inputs.ensures.items) refl,
    )

pub returns-in-Flush-clause-made : goal.returns-in-Flush-clause-made
returns-in-Flush-clause-made g c =
    let row = g.T.HasRow.the_row in
    let change : Change = record { level = 0; keys = c.deref.result.now; inputs = c.deref-in-Flush.result.now; outputs = map row c.args.tables.now } in
    let keys = c.deref.ensures.value ∙ c.new-no_keys.ensures.items in
    let inputs = c.deref-in-Flush.ensures.value ∙ c.new-no_inputs.ensures.items in
    if_ok_map c.change.result (λ made is s can. flush_made row c.args.version.now c.args.tables.now s c.args.edit.now can c.in-Flush.is change refl keys inputs refl made.0 made.1.items
    (is s.guards s.live (flush_may row c.args.version.now c.args.tables.now s c.args.edit.now can c.in-Flush.is change refl keys inputs refl))) c.change.ensures.made

pub returns-in-Move-clause-made : goal.returns-in-Move-clause-made
returns-in-Move-clause-made g c =
    let row = g.T.HasRow.the_row in
    let tables = c.args.tables.now in
    if_ok_map c.moved.result (λ made is s can.
    let same : c.args.edit.now ≡ Move c.in-Move.level c.in-Move.floor c.items.result.now (map row tables) =
    move_is row c.args.version.now tables s c.args.edit.now can c.in-Move.is ∙ ap (λ ns. Move c.in-Move.level c.in-Move.floor ns (map row tables)) (sym c.items.ensures) in
    subst (IsStagedFor row made.0 made.1.items s) (sym same) (is s c.in-Move.floor (subst (λ e. CanStage row c.args.version.now s e tables) same can))) c.moved.ensures.made

pub change-requires-in-Cut : goal.change-requires-in-Cut
change-requires-in-Cut g c =
    let row = g.T.HasRow.the_row in
    let s = c.requires.0 in
    let change : Change = record { level = c.in-Cut.level; keys = c.items-in-Cut.result.now; inputs = c.items-in-Cut-2.result.now; outputs = map row c.args.tables.now } in
    (s.guards, s.live, cut_may row c.args.version.now c.args.tables.now s c.args.edit.now c.requires.1 c.in-Cut.is change refl c.items-in-Cut.ensures c.items-in-Cut-2.ensures refl)

pub returns-in-Cut-clause-made : goal.returns-in-Cut-clause-made
returns-in-Cut-clause-made g c =
    let row = g.T.HasRow.the_row in
    let change : Change = record { level = c.in-Cut.level; keys = c.items-in-Cut.result.now; inputs = c.items-in-Cut-2.result.now; outputs = map row c.args.tables.now } in
    if_ok_map c.change-in-Cut.result (λ made is s can.
    cut_made row c.args.version.now c.args.tables.now s c.args.edit.now can c.in-Cut.is change refl c.items-in-Cut.ensures c.items-in-Cut-2.ensures refl made.0 made.1.items
    (is s.guards s.live (cut_may row c.args.version.now c.args.tables.now s c.args.edit.now can c.in-Cut.is change refl c.items-in-Cut.ensures c.items-in-Cut-2.ensures refl))) c.change-in-Cut.ensures.made

pub change-requires-in-Merge : goal.change-requires-in-Merge
change-requires-in-Merge g c =
    let row = g.T.HasRow.the_row in
    let s = c.requires.0 in
    let change : Change = record { level = c.last_level.result; keys = c.deref-in-Merge.result.now; inputs = c.items-in-Merge.result.now; outputs = map row c.args.tables.now } in (
      s.guards,
      s.live,
      merge_may row c.args.version.now c.args.tables.now s c.args.edit.now c.requires.1 c.in-Merge.is change c.last_level.ensures (c.deref-in-Merge.ensures.value ∙ c.new-no_keys.ensures.items)
          c.items-in-Merge.ensures refl,
    )

pub returns-clause-made : goal.returns-clause-made
returns-clause-made g c =
    let row = g.T.HasRow.the_row in
    let change : Change = record { level = c.last_level.result; keys = c.deref-in-Merge.result.now; inputs = c.items-in-Merge.result.now; outputs = map row c.args.tables.now } in
    let keys = c.deref-in-Merge.ensures.value ∙ c.new-no_keys.ensures.items in
    if_ok_map c.change-in-Merge.result (λ made is s can.
    merge_made row c.args.version.now c.args.tables.now s c.args.edit.now can c.in-Merge.is change c.last_level.ensures keys c.items-in-Merge.ensures refl made.0 made.1.items
    (is s.guards s.live (merge_may row c.args.version.now c.args.tables.now s c.args.edit.now can c.in-Merge.is change c.last_level.ensures keys c.items-in-Merge.ensures refl))) c.change-in-Merge.ensures.made
