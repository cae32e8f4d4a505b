use Rattle.std.proofs.Common.{◌≡◌, length, rules, refl}
use Rattle.block_form.proofs.Prefixes.{prefix-none}
use Rattle.block_form.proofs.front.differs.Goals as goal

pub returns-then-is_empty-2 : goal.returns-then-is_empty-2
returns-then-is_empty-2 c =
    let empty : length c.args.rest.now ≡ 0 = search rules in
    (λ _. prefix-none c.args.before.now c.args.rest.now empty, λ _. refl)
