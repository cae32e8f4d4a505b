use Rattle.std.proofs.Common.{refl}
use Rattle.version_set.proofs.Cuts.{if_ok_map}
use Rattle.version_set.proofs.changing.change.Goals as goal

pub returns-then-level-eq0-clause-made : goal.returns-then-level-eq0-clause-made
returns-then-level-eq0-clause-made g c = if_ok_map c.change_top.result (λ made is guards live may. is guards live _ may c.if-level-eq0.true refl refl) c.change_top.ensures.made
