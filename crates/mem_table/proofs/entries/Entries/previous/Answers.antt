use Rattle.std.proofs.Common.{◌∙◌, [], ap, sym, subst}
use Rattle.std.specs.Prelude.{option_map, unwrap_or}
use Rattle.std.specs.Arc.{arc_value}
use Rattle.mem_table.specs.Spots.{IsSpot}
use Rattle.mem_table.proofs.entries.Entries.previous.Goals as goal

pub returns-in-Some-clause-spot : goal.returns-in-Some-clause-spot
returns-in-Some-clause-spot c =
    let held = ap (λ o. unwrap_or (option_map arc_value o) []) (sym c.in-Some.is) in
    λ x is. subst (λ cs. IsSpot cs x) (c.deref.ensures ∙ held ∙ c.self.view_is)
    (c.previous.ensures.spot x is)
