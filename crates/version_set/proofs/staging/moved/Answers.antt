use Rattle.std.proofs.Common.{◌≡◌, ◌∙◌, ◌+◌, [], List, ap, map, refl, subst, sym, arith, suc}
use Rattle.std.specs.List.{AllByRecursion}
use Rattle.peb_base.specs.Keys.{Bytes}
use Rattle.peb_base.specs.declared.table_row.TableRow.{TableRow}
use Rattle.version_set.specs.Changes.{Change, Changes, IsMade, guards_after, live_after}
use Rattle.version_set.specs.Contents.{HoldsContent}
use Rattle.version_set.proofs.Edits.{change_is, taking, adding, move_takes, move_adds, move_done}
use Rattle.version_set.proofs.staging.moved.Goals as goal

pub change-requires : goal.change-requires
change-requires g c =
    let row = g.T.HasRow.the_row in
    let s = c.requires.0 in
    let first : Change = record { level = c.args.level; keys = c.deref.result.now; inputs = c.args.inputs.now; outputs = map row c.deref-2.result.now } in
    let first_is : first ≡ taking c.args.level c.args.inputs.now = change_is first c.args.level [] c.args.inputs.now [] refl (c.deref.ensures.value ∙ c.new-no_keys.ensures.items) refl
    (ap (map row) (c.deref-2.ensures.value ∙ c.new-no_tables.ensures.items)) in (
      s.guards,
      s.live,
      subst (Changes row c.args.version.now s.guards s.live) (sym first_is)
          (move_takes row c.args.version.now c.args.tables.now s c.args.level c.requires.1 c.args.inputs.now (map row c.args.tables.now) c.requires.2),
    )

pub change-requires-2 : goal.change-requires-2
change-requires-2 g c =
    let row = g.T.HasRow.the_row in
    let s = c.requires.0 in
    let level = c.args.level in
    let inputs = c.args.inputs.now in
    let first : Change = record { level = level; keys = c.deref.result.now; inputs = inputs; outputs = map row c.deref-2.result.now } in
    let first_is : first ≡ taking level inputs = change_is first level [] inputs [] refl (c.deref.ensures.value ∙ c.new-no_keys.ensures.items) refl
    (ap (map row) (c.deref-2.ensures.value ∙ c.new-no_tables.ensures.items)) in
    let takes = subst (Changes row c.args.version.now s.guards s.live) (sym first_is)
    (move_takes row c.args.version.now c.args.tables.now s level c.requires.1 inputs (map row c.args.tables.now) c.requires.2) in
    let taken = subst (IsMade row (c.in_ok-next.next, c.in_ok-next.gone.items) s.guards s.live) first_is (c.in_ok-next.ensures.made s.guards s.live takes) in
    let second : Change = record { level = level + 1; keys = c.deref-3.result.now; inputs = c.deref-4.result.now; outputs = map row c.args.tables.now } in
    let second_is : second ≡ adding (level + 1) (map row c.args.tables.now) = change_is second (level + 1) [] [] (map row c.args.tables.now) refl (c.deref-3.ensures.value ∙ c.new-no_keys.ensures.items)
    (c.deref-4.ensures.value ∙ c.new-no_inputs.ensures.items) refl in
    let below : level + 1 ≡ suc level = omega arith in
    let guards : List (List Bytes) = guards_after s.guards (taking level inputs) in
    let live : List TableRow = live_after s.live (taking level inputs) in (
      guards,
      live,
      subst (Changes row c.in_ok-next.next guards live) (sym second_is)
          (move_adds row c.args.version.now c.in_ok-next.next c.args.tables.now s level (level + 1) c.requires.1 inputs (map row c.args.tables.now) below c.requires.2 taken.stands),
    )

pub returns-clause-made : goal.returns-clause-made
returns-clause-made g c = λ s floor can.
    let row = g.T.HasRow.the_row in
    let level = c.args.level in
    let inputs = c.args.inputs.now in
    let outputs = map row c.args.tables.now in
    let first : Change = record { level = level; keys = c.deref.result.now; inputs = inputs; outputs = map row c.deref-2.result.now } in
    let first_is : first ≡ taking level inputs = change_is first level [] inputs [] refl (c.deref.ensures.value ∙ c.new-no_keys.ensures.items) refl
    (ap (map row) (c.deref-2.ensures.value ∙ c.new-no_tables.ensures.items)) in
    let takes = subst (Changes row c.args.version.now s.guards s.live) (sym first_is) (move_takes row c.args.version.now c.args.tables.now s level floor inputs outputs can) in
    let taken = subst (IsMade row (c.in_ok-next.next, c.in_ok-next.gone.items) s.guards s.live) first_is (c.in_ok-next.ensures.made s.guards s.live takes) in
    let second : Change = record { level = level + 1; keys = c.deref-3.result.now; inputs = c.deref-4.result.now; outputs = outputs } in
    let second_is : second ≡ adding (level + 1) outputs = change_is second (level + 1) [] [] outputs refl (c.deref-3.ensures.value ∙ c.new-no_keys.ensures.items)
    (c.deref-4.ensures.value ∙ c.new-no_inputs.ensures.items) refl in
    let below : level + 1 ≡ suc level = omega arith in
    let guards : List (List Bytes) = guards_after s.guards (taking level inputs) in
    let live : List TableRow = live_after s.live (taking level inputs) in
    let adds = subst (Changes row c.in_ok-next.next guards live) (sym second_is)
    (move_adds row c.args.version.now c.in_ok-next.next c.args.tables.now s level (level + 1) floor inputs outputs below can taken.stands) in
    let added = subst (IsMade row (c.in_ok-made.made, c.in_ok-made._nothing.items) guards live) second_is (c.in_ok-made.ensures.made guards live adds) in
    move_done row c.args.version.now c.in_ok-made.made c.in_ok-next.gone.items c.in_ok-made._nothing.items c.args.tables.now s level (level + 1) floor inputs outputs can taken.inputs_are added

pub returns-clause-contents : goal.returns-clause-contents
returns-clause-contents g c = λ content h.
    let P = HoldsContent g.T.HasRow.the_row g.T.HasRow.holds content in
    let none = subst (AllByRecursion P) (sym (c.deref-2.ensures.value ∙ c.new-no_tables.ensures.items)) tt in
    let first = c.in_ok-next.ensures.contents content (h.0, none) in
    ((c.in_ok-made.ensures.contents content (first.0, h.1)).0, first.1)
