use Rattle.std.proofs.Common.{◌≡◌, ◌∙◌, ◌-◌, ap, set, map}
use Rattle.std.proofs.lemmas.List.{map-set}
use Rattle.std.specs.Arc.{arc_value}
use Rattle.version.proofs.version.Version.with_level.Goals as goal

pub returns : goal.returns
returns g c =
    let at = c.args.level - 1 in
    let level = c.in_ok-levels-2.field-0 in
    let old = ap (λ v. v.levels) c.self.view_is in
    let shared : map arc_value c.in_ok-levels.levels.items ≡ c.args.self.now.levels =
    c.in_ok-levels.ensures ∙ ap (map arc_value) c.deref.ensures.value ∙ old in
    let levels =
    map-set arc_value c.in_ok-levels.levels.items at level ∙ ap (λ ls. set ls at (arc_value level)) shared
    ∙ ap (set c.args.self.now.levels at) c.in_ok-levels-2.ensures.ok in
    let top = c.in_ok-top.ensures ∙ ap (λ v. v.top) c.self.view_is in
    cc (levels, top)
