use Rattle.std.proofs.Common.{◌≡◌, ◌∙◌, ap, sym, false, arith}
use Rattle.std.specs.Prelude.{if◌then◌else◌}
use Rattle.std.proofs.lemmas.Bool.Decides.{nat_tests}
use Rattle.peb_base.specs.Tables.{common_prefix}
use Rattle.block_form.specs.Form.{is_restart}
use Rattle.block_form.proofs.Prefixes.{prefix-right}
use Rattle.block_form.proofs.writing.shared_len.Goals as goal

pub returns-clause-value : goal.returns-clause-value
returns-clause-value c =
    let plain : is_restart c.args.place ≡ false = grind (arith, nat_tests, c.if-place-eq0.false) in
    c.common.ensures ∙ sym (ap (λ b. if b then 0 else common_prefix c.args.before.now c.args.key.now) plain)

pub returns-clause-kept : goal.returns-clause-kept
returns-clause-kept c = omega (arith, c.common.ensures, prefix-right c.args.before.now c.args.key.now)
