-- Chosen keys in order.
use Rattle.std.specs.Prelude.{◌≡◌, true, List, [], ◌∷◌}
use Rattle.std.specs.List.{AllByRecursion}
use Rattle.peb_base.specs.Keys.{key_lt}
use Rattle.flsm_model.specs.declared.chosen.Chosen.{Chosen}

-- the keys ascend, and none stands twice
abbrev pub Ascend : List Chosen → Type 0
Ascend [] = Unit {0}
Ascend (c ∷ cs) = AllByRecursion (λ d. key_lt c.key d.key ≡ true) cs × Ascend cs
