use Rattle.std.proofs.Common.{◌≡◌, ◌+◌, ◌-◌, ap, false, take, drop, length, ◌++◌, arith}
use Rattle.std.proofs.lemmas.Bool.Decides.{nat_tests}
use Rattle.std.proofs.lemmas.List.{take_rest}
use Rattle.peb_base.specs.Tables.{common_prefix, shared_length}
use Rattle.block_form.specs.Form.{is_restart}
use Rattle.block_form.proofs.Prefixes.{shared_plain}
use Rattle.block_form.proofs.front.is_longest.Goals as goal

pub returns : goal.returns
returns c =
    let before = c.args.before.now in
    let no : is_restart c.args.place ≡ false = grind (arith, nat_tests, c.if-place-eq0.false) in
    let e : shared_length c.args.place before (take c.args.shared before ++ c.args.rest.now) ≡ c.args.shared + common_prefix (drop c.args.shared before) c.args.rest.now =
    shared_plain c.args.place c.args.shared before c.args.rest.now no c.requires in
    let same : common_prefix (take (length before - c.args.shared) (drop c.args.shared before)) c.args.rest.now ≡ common_prefix (drop c.args.shared before) c.args.rest.now =
    ap (λ l. common_prefix l c.args.rest.now) (take_rest before c.args.shared) in
    (λ h. let z = c.differs.ensures.0 h in omega (arith, e, same, z), λ h. c.differs.ensures.1 (omega (arith, e, same, h)))
