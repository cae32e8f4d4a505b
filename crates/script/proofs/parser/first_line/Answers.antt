use Rattle.std.proofs.Common.{◌+◌, ◌-◌, drop, length, sym, arith, length-drop, take_all}
use Rattle.script.proofs.Scripts.{line_cut, line_last}
use Rattle.script.proofs.parser.first_line.Goals as goal

pub returns-in-Some-clause-lines : goal.returns-in-Some-clause-lines
returns-in-Some-clause-lines c =
    let all = take_all (length c.args.bytes.now - (c.in-Some.end + 1)) (drop (c.in-Some.end + 1) c.args.bytes.now) (omega (arith, length-drop (c.in-Some.end + 1) c.args.bytes.now)) in
    rw all (line_cut c.args.bytes.now c.in-Some.end (sym c.in-Some.ensures))

pub returns-in-None-clause-lines : goal.returns-in-None-clause-lines
returns-in-None-clause-lines c = line_last c.args.bytes.now c.requires (sym c.in-None.ensures)
