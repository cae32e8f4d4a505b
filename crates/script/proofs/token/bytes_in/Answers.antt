use Rattle.std.proofs.Common.{◌≡◌, ◌<◌, length, ap, sym, arith}
use Rattle.std.proofs.lemmas.Bool.Decides.{nat_tests}
use Rattle.script.specs.declared.why.Why.TheVariants as whys
use Rattle.script.specs.Gives.{or_why}
use Rattle.script.proofs.Tokens.{none_in, more_in, all_in}
use Rattle.script.proofs.token.bytes_in.Goals as goal

pub returns-in_default : goal.returns-in_default
returns-in_default c =
    let lt : 0 < length c.loop-rest.rest.now = grind (arith, nat_tests) in
    ap (or_why whys.Command) (none_in c.loop-rest.bytes.items c.loop-rest.rest.now c.args.text.now lt (sym c.in_default.ensures.value) c.loop-rest.invariant)

pub loop-rest-preserved : goal.loop-rest-preserved
loop-rest-preserved c =
    let lt : 0 < length c.loop-rest.rest.now = grind (arith, nat_tests) in
    rw c.in_ok-push.ensures.items (more_in c.loop-rest.bytes.items c.loop-rest.rest.now c.in-Some.after.now c.args.text.now c.in-Some.byte lt (sym c.in-Some.ensures.value) c.loop-rest.invariant)

pub returns : goal.returns
returns c =
    let e : length c.loop-rest.rest.now ≡ 0 = grind (arith, nat_tests) in
    ap (or_why whys.Command) (all_in c.loop-rest.bytes.items c.loop-rest.rest.now c.args.text.now e c.loop-rest.invariant)
