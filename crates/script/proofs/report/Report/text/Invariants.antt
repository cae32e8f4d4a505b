use Rattle.std.proofs.Common.{◌≡◌, ◌∷◌, ◌++◌}
use Rattle.std.specs.Prelude.{codes}
use Rattle.peb_base.specs.Texts.{number_text}
use Rattle.script.specs.Report.{levels_text}
use Rattle.script.proofs.report.Report.text.Given as goal

abbrev pub invariant-loop-level : goal.invariant-loop-level
invariant-loop-level l = l.out.items ≡ codes "last " ++ number_text l.fn.self.last ++ 10 ∷ levels_text l.level
