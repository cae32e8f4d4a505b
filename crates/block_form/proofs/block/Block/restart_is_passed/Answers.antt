use Rattle.std.proofs.Common.{◌∙◌}
use Rattle.peb_base.specs.Entries.{comes_before}
use Rattle.block_form.proofs.Spots.{spot_is}
use Rattle.block_form.proofs.block.Block.restart_is_passed.Goals as goal

pub returns : goal.returns
returns c = λ e there.
    let same = spot_is c.args.place c.args.self.now c.restart.result.0.now c.restart.result.1 e c.restart.ensures.spot there in
    c.is_before.ensures ∙ (λ i. comes_before (same.0 i) (same.1 i) c.args.key.now c.args.number)
