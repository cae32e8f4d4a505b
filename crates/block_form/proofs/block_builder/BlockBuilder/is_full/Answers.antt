use Rattle.std.proofs.Common.{◌≡◌, ◌+◌, length, arith, ap, sym, ◌∙◌}
use Rattle.std.proofs.lemmas.Bool.Decides.{nat_tests}
use Rattle.block_form.specs.Building.{Building}
use Rattle.block_form.specs.Form.{block_bytes}
use Rattle.block_form.proofs.Pushes.{length-built}
use Rattle.block_form.proofs.block_builder.BlockBuilder.is_full.Goals as goal

pub returns : goal.returns
returns c =
    let long : length (block_bytes c.args.self.now.entries) ≡ c.len.result + length c.bytes.result.now + 4 =
    ap (λ (b : Building). length (block_bytes b.entries)) (sym c.self.view_is) ∙ omega (arith, length-built _ _ _ _ _ _ c.self.invariant, c.len.ensures.len, ap length c.bytes.ensures.bytes) in
    let full : c.self.inside.full ≡ c.args.self.now.full = ap (λ (b : Building). b.full) c.self.view_is in
    grind (arith, nat_tests, long, full)
