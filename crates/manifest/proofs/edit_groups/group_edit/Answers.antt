use Rattle.std.specs.Prelude.{IfOk}
use Rattle.std.proofs.Common.{◌≡◌, ◌∷◌, inl, inr, ℕ, false, List, Result, Ok, Err, refl, sym, ap, ◌∙◌, rules}
use Rattle.flsm_model.specs.declared.edit.Edit.{Edit}
use Rattle.record_log.specs.Records.{views}
use Rattle.manifest.specs.declared.edit_fault.EditFault.{EditFault}
use Rattle.manifest.specs.Edits.{edit_bytes}
use Rattle.manifest.specs.GroupOfEdit.{goes_on, StandsAlone}
use Rattle.manifest.proofs.edit_groups.group_edit.Goals as goal

-- an edit that was read of the only record of its group
alone_if : (r : Result Edit EditFault) (gate : ℕ) (body bytes : List ℕ) (behind : List (ℕ × List ℕ)) → bytes ≡ body → goes_on gate behind ≡ false → IfOk r (λ edit. bytes ≡ edit_bytes edit) → IfOk r (λ edit. StandsAlone gate (edit_bytes edit) ((gate, body) ∷ behind))
alone_if (Ok edit) gate body bytes behind value alone is = record { behind = behind; are = ap (λ l. (gate, l) ∷ behind) (sym value ∙ is); alone = alone }
alone_if (Err fault) gate body bytes behind value alone is = tt

pub returns-then-group_goes_on-clause-form : goal.returns-then-group_goes_on-clause-form
returns-then-group_goes_on-clause-form c = λ is. record {
  body = c.args.first.now.body.items;
  behind = views c.args.behind.now;
  are = refl;
  none = inl (search rules);
}

pub returns-clause-found : goal.returns-clause-found
returns-clause-found c = alone_if c.read_edit.result c.args.first.now.gate c.args.first.now.body.items c.deref.result.now (views c.args.behind.now) c.deref.ensures.value (search rules) c.read_edit.ensures.bytes

pub returns-clause-form : goal.returns-clause-form
returns-clause-form c = λ is. record {
  body = c.args.first.now.body.items;
  behind = views c.args.behind.now;
  are = refl;
  none = inr (search rules, (λ edit fits same. c.read_edit.ensures.form is edit fits (c.deref.ensures.value ∙ same)));
}
