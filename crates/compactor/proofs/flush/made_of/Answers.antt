-- The table that was written, and the keys that were chosen, as what a flush has made.
use Rattle.std.proofs.Common.{◌≡◌, List, inl, ap, ◌∙◌, rules}
use Rattle.flsm_model.specs.Choices.{put_keys, choices}
use Rattle.flsm_model.specs.Shape.{outputs_of}
use Rattle.flsm_model.specs.declared.chosen.Chosen.{Chosen}
use Rattle.flsm_model.specs.declared.edit.Edit.TheVariants.{Flush}
use Rattle.peb_base.specs.Profiles.{column}
use Rattle.compactor.proofs.flush.made_of.Goals as goal

pub returns-in-Err-clause-unsealed : goal.returns-in-Err-clause-unsealed
returns-in-Err-clause-unsealed g c = λ told. inl c.in-Err.ensures.unsealed

pub returns-in-Ok-finished_with-clause-edit : goal.returns-in-Ok-finished_with-clause-edit
returns-in-Ok-finished_with-clause-edit g c =
    let row = c.in-Ok.table.row in
    let chosen : c.in_ok-chosen.chosen.items ≡ choices (column c.args.options.now.profile) (put_keys c.args.view.now) = search rules in
    record {
      row = row;
      describes = record { tells = c.in-Ok.ensures.holds.row_is; bytes = c.in-Ok.ensures.length };
      place = c.in-Ok.ensures.row;
      is = c.in-Ok-finished_with.ensures.edit ∙ ap (λ (l : List Chosen). Flush row 0 0 0 l) chosen;
    }

pub returns-in-Ok-finished_with-clause-table : goal.returns-in-Ok-finished_with-clause-table
returns-in-Ok-finished_with-clause-table g c = record {
  table = c.in-Ok.table;
  holds = c.in-Ok.ensures.holds;
  one = c.in-Ok-finished_with.ensures.table;
  row = ap outputs_of c.in-Ok-finished_with.ensures.edit;
}
