use Rattle.std.proofs.Common.{◌<◌, [], length, rules, sym, ap, ◌∙◌, arith}
use Rattle.std.proofs.lemmas.List.{append-nil}
use Rattle.manifest.specs.Edits.{edit_bytes}
use Rattle.manifest.proofs.EditKinds.{edits_apart}
use Rattle.manifest.proofs.edit_record.read_edit.Goals as goal

pub returns-in_err-edit-clause-form : goal.returns-in_err-edit-clause-form
returns-in_err-edit-clause-form c = λ err edit is same. c.in_err-edit.ensures.form (search rules) edit [] is (same ∙ sym (append-nil (edit_bytes edit)))

pub returns-then-not-is_empty-clause-form : goal.returns-then-not-is_empty-clause-form
returns-then-not-is_empty-clause-form c = λ err edit is same.
    let found = c.in_ok-edit in
    let parts = edits_apart found.edit edit found.rest.now [] found.ensures.fits is (sym found.ensures.found ∙ same ∙ sym (append-nil (edit_bytes edit))) in
    let some : 0 < length found.rest.now = search rules in
    omega (arith, some, ap length parts.1)
