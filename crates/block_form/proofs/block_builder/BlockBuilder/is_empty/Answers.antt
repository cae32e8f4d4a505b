use Rattle.std.proofs.Common.{◌≡◌, length, arith, ap, sym, ◌∙◌}
use Rattle.std.proofs.lemmas.Bool.Decides.{nat_tests}
use Rattle.block_form.specs.Building.{Building}
use Rattle.block_form.proofs.block_builder.BlockBuilder.is_empty.Goals as goal

pub returns : goal.returns
returns c =
    let many : length c.args.self.now.entries ≡ c.self.inside.count = ap (λ (b : Building). length b.entries) (sym c.self.view_is) ∙ sym c.self.invariant.counted in
    grind (arith, nat_tests, many)
