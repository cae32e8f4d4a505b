-- Chosen keys, the last of them first.
use Rattle.std.specs.Prelude.{Bool, false, List, [], ◌∷◌}
use Rattle.flsm_model.specs.declared.chosen.Chosen.{Chosen}
use Rattle.peb_base.specs.Keys.{Bytes, key_eq}

-- the first of them is this key
abbrev pub starts_with : Bytes → List Chosen → Bool
starts_with key [] = false
starts_with key (c ∷ cs) = key_eq c.key key
