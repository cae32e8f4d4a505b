use Rattle.std.proofs.Common.{◌≡◌, ◌<◌, ◌-◌, ◌∷◌, length, sym, rules, subst}
use Rattle.peb_base.specs.Guards.{guard_of, LiesIn}
use Rattle.guard_level.specs.Guards.{Guards, tables_of, IsLevel}
use Rattle.guard_level.proofs.GuardLemmas.{beside, set_beside, pushed_or_not, pushed_in}
use Rattle.guard_level.proofs.level.Level.append.Goals as goal

pub invariant_of-self : goal.invariant_of-self
invariant_of-self g c =
    let row = g.T.HasRow.the_row in
    let t = c.args.table in
    let old : Guards _ = record { keys = c.self.inside.keys; tables = c.self.inside.sentinel ∷ c.self.inside.guards.items } in
    let is : 0 ≡ guard_of (row t).smallest old.keys = search rules in
    let lies = subst (λ level. LiesIn level.keys (guard_of (row t).smallest level.keys) (row t)) (sym c.self.view_is) c.requires in
    pushed_in row t old 0 c.push.new.self c.self.invariant is lies (pushed_or_not c.push.result c.self.inside.sentinel c.push.new.self t c.push.ensures.ok c.push.ensures.err)

pub invariant_of-self-2 : goal.invariant_of-self-2
invariant_of-self-2 g c =
    let row = g.T.HasRow.the_row in
    let t = c.args.table in
    let sentinel = c.self.inside.sentinel in
    let guards = c.self.inside.guards.items in
    let guard = c.find_guard-guard.result in
    let new = c.push-2.new.self in
    let old : Guards _ = record { keys = c.self.inside.keys; tables = sentinel ∷ guards } in
    let is : guard ≡ guard_of (row t).smallest old.keys = search rules in
    let lies = subst (λ level. LiesIn level.keys (guard_of (row t).smallest level.keys) (row t)) (sym c.self.view_is) c.requires in
    let within : guard - 1 < length guards = search rules in
    let was : c.index_mut.result.now ≡ tables_of old guard = beside sentinel guards guard c.index_mut.result.now c.if-guard-eq0.false within c.index_mut.ensures.value in
    let pushed = pushed_or_not c.push-2.result c.index_mut.result.now new t c.push-2.ensures.ok c.push-2.ensures.err in
    subst (λ ts. IsLevel row (record { keys = old.keys; tables = ts })) (set_beside sentinel guards guard new c.if-guard-eq0.false)
    (pushed_in row t old guard new c.self.invariant is lies (rw (← was) pushed))
