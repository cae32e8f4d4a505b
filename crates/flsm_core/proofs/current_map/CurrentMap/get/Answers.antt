use Rattle.std.proofs.Common.{Some, ap, ◌∙◌}
use Rattle.peb_base.specs.Map.{lookup}
use Rattle.flsm_core.proofs.PairLemmas.{lookup-pairs}
use Rattle.flsm_core.proofs.current_map.CurrentMap.get.Goals as goal

pub returns-in-Some-clause-value : goal.returns-in-Some-clause-value
returns-in-Some-clause-value c =
    ap Some c.bytes.ensures.value ∙ c.in-Some.ensures.value ∙ lookup-pairs c.self.inside.values.entries c.args.key.now ∙ ap (lookup c.args.key.now) c.self.view_is

pub returns-in-None-clause-value : goal.returns-in-None-clause-value
returns-in-None-clause-value c =
    c.in-None.ensures.value ∙ lookup-pairs c.self.inside.values.entries c.args.key.now ∙ ap (lookup c.args.key.now) c.self.view_is
