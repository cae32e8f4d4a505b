use Rattle.std.proofs.Common.{◌≡◌, ◌-◌, suc, [], sym, ap, ◌∙◌, arith}
use Rattle.std.proofs.lemmas.Bool.{le-ltb}
use Rattle.peb_base.specs.Guards.{guard_of}
use Rattle.peb_base.specs.Keys.{key_eq}
use Rattle.guard_level.proofs.GuardLemmas.{none_found, one_found}
use Rattle.guard_level.proofs.level.is_key.Goals as goal

pub returns-then-guard-gt0 : goal.returns-then-guard-gt0
returns-then-guard-gt0 c =
    let is : guard_of c.args.key.now c.args.keys.now ≡ suc (c.args.guard - 1) = omega (arith, c.requires.guard, c.if-guard-gt0.true) in
    c.eq.ensures ∙ ap (key_eq c.args.key.now) (c.bytes.ensures.value ∙ c.index-keys-guard.is)
    ∙ sym (one_found [] c.args.key.now c.args.keys.now (c.args.guard - 1) c.index-keys-guard.result c.requires.ascend is)

pub returns-else-guard-gt0 : goal.returns-else-guard-gt0
returns-else-guard-gt0 c =
    let none : guard_of c.args.key.now c.args.keys.now ≡ 0 = omega (arith, c.requires.guard, c.if-guard-gt0.false) in
    rw (none_found [] c.args.key.now c.args.keys.now c.requires.ascend none) (le-ltb 0 c.args.guard c.if-guard-gt0.false)
