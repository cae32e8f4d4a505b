use Rattle.std.proofs.Common.{refl, ap, ◌∙◌}
use Rattle.flsm_core.specs.Pairs.{pairs}
use Rattle.flsm_core.proofs.PairLemmas.{pairs-insert}
use Rattle.flsm_core.proofs.current_map.CurrentMap.set.Goals as goal

pub returns-clause-ok : goal.returns-clause-ok
returns-clause-ok c =
    ap pairs c.in_ok-insert.ensures.entries ∙ pairs-insert c.self.inside.values.entries c.into_bytes.result c.args.value
    ∙ rw (c.into_bytes.ensures.value, c.self.view_is) refl
