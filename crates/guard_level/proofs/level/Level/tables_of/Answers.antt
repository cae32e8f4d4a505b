use Rattle.std.proofs.Common.{◌≡◌, ◌<◌, ◌-◌, length, ◌∙◌, ap, rules}
use Rattle.guard_level.specs.Guards.{tables_of}
use Rattle.guard_level.proofs.GuardLemmas.{beside}
use Rattle.guard_level.proofs.level.Level.tables_of.Goals as goal

pub returns-then-guard-eq0-clause-inside : goal.returns-then-guard-eq0-clause-inside
returns-then-guard-eq0-clause-inside g c =
    let read : c.items.result.now ≡ tables_of c.args.self.now c.args.guard = search rules in
    rw (read, ← c.self.view_is) (c.self.invariant.inside c.args.guard)

pub returns-clause-tables : goal.returns-clause-tables
returns-clause-tables g c =
    let within : c.args.guard - 1 < length c.self.inside.guards.items = search rules in
    c.items-2.ensures ∙ beside c.self.inside.sentinel c.self.inside.guards.items c.args.guard c.index.result.now c.if-guard-eq0.false within c.index.ensures
    ∙ ap (λ level. tables_of level c.args.guard) c.self.view_is

pub returns-clause-inside : goal.returns-clause-inside
returns-clause-inside g c =
    let read : c.items-2.result.now ≡ tables_of c.args.self.now c.args.guard = returns-clause-tables g c in
    rw (read, ← c.self.view_is) (c.self.invariant.inside c.args.guard)
