use Rattle.std.proofs.Common.{ap, ◌∙◌}
use Rattle.peb_base.specs.Map.{remove_key}
use Rattle.flsm_core.specs.Pairs.{pairs}
use Rattle.flsm_core.proofs.PairLemmas.{pairs-remove}
use Rattle.flsm_core.proofs.current_map.CurrentMap.remove.Goals as goal

pub returns : goal.returns
returns c =
    ap pairs c.remove-removed.ensures.entries ∙ pairs-remove c.self.inside.values.entries c.args.key.now c.len-len.ensures.ordered
    ∙ ap (λ m. remove_key c.args.key.now m) c.self.view_is
