use Rattle.std.proofs.Common.{◌≡◌, ◌-◌, ◌∙◌, length, drop, ap, sym, arith}
use Rattle.std.specs.Prelude.{min}
use Rattle.std.proofs.lemmas.List.{length-take, length-drop}
use Rattle.std.proofs.lemmas.Bool.Decides.{nat_tests}
use Rattle.table_file.proofs.ending.has_byte.Goals as goal

pub returns-in-Ok-clause-there : goal.returns-in-Ok-clause-there
returns-in-Ok-clause-there g c = λ told.
    let bytes = g.P.File.TableHandle.bytes c.args.file.now in
    let n = c.in-Ok.count in
    let count : min n (length c.read.new.out) ≡ min 1 (length bytes - c.args.at) =
    sym (length-take n c.read.new.out) ∙ ap length (c.in-Ok.ensures.read told)
    ∙ length-take 1 (drop c.args.at bytes) ∙ ap (min 1) (length-drop c.args.at bytes) in
    grind (arith, nat_tests)
