use Rattle.std.proofs.Common.{◌≡◌, length, arith}
use Rattle.std.proofs.lemmas.Bool.Decides.{nat_tests}
use Rattle.script.specs.Script.{lines_of, script_of}
use Rattle.script.proofs.Scripts.{goes_on, is_refused, is_read}
use Rattle.script.proofs.parser.parse.Goals as goal

pub loop-rest-preserved : goal.loop-rest-preserved
loop-rest-preserved c = record {
  so_far = rw c.in_ok-push.ensures.items
      (goes_on c.loop-rest.commands.items c.loop-rest.line c.in-Ok.command c.first_line.result.0.now (lines_of c.loop-rest.rest.now) (lines_of c.first_line.result.1.now) (script_of c.args.bytes.now)
      c.first_line.ensures.lines c.in-Ok.ensures c.loop-rest.invariant.so_far);
  count = omega (arith, c.first_line.ensures.shorter, c.loop-rest.invariant.count);
}

pub returns-in-Err : goal.returns-in-Err
returns-in-Err c =
    rw c.at_line.ensures
    (is_refused c.loop-rest.commands.items c.loop-rest.line c.in-Err.fault c.first_line.result.0.now (lines_of c.loop-rest.rest.now) (lines_of c.first_line.result.1.now) (script_of c.args.bytes.now)
    c.first_line.ensures.lines c.in-Err.ensures c.loop-rest.invariant.so_far)

pub returns : goal.returns
returns c =
    let none : length c.loop-rest.rest.now ≡ 0 = grind (arith, nat_tests) in
    is_read c.loop-rest.commands.items c.loop-rest.line c.loop-rest.rest.now (script_of c.args.bytes.now) none c.loop-rest.invariant.so_far
