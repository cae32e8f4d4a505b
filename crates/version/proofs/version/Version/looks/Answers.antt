use Rattle.std.proofs.Common.{◌≡◌, ◌∙◌, ap, arith}
use Rattle.peb_base.specs.Guards.{guard_of}
use Rattle.guard_level.specs.Guards.{tables_of}
use Rattle.version.proofs.Looks.{found_all}
use Rattle.version.proofs.version.Version.looks.Goals as goal

pub returns-clause-none_missed : goal.returns-clause-none_missed
returns-clause-none_missed g c =
    let level = c.level-level.result.now in
    let found : c.tables_of.result.now ≡ tables_of level (guard_of c.args.key.now level.keys) =
    c.tables_of.ensures.tables ∙ ap (tables_of level) c.guard_of.ensures.guard in
    found_all g.T.HasRow.the_row c.args.self.now c.args.level c.args.key.now level c.tables_of.result.now
    (omega (arith, c.if-level-eq0.false)) c.level-level.ensures found c.keys-keys.ensures.inside
