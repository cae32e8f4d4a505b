-- The live tables of a moment, by levels and guards.
use Rattle.std.specs.Prelude.{ℕ, zero, suc, List, [], get_or}
use Rattle.peb_base.specs.Guards.{guard_of}
use Rattle.peb_base.specs.Keys.{Bytes}
use Rattle.guard_level.specs.Guards.{Guards, tables_of}

-- the tables of level 0, and the guards of each deeper level with theirs
pub record Levels (T : Type 0) : Type 0 where
  pub top : List T
  pub levels : List (Guards T)

-- no guard and no table
abbrev pub no_guards : {T : Type 0} → Guards T
no_guards = record { keys = []; tables = [] }

-- the guards of a level, counted from 0 for level 1 on
abbrev pub level_at : {T : Type 0} → Levels T → ℕ → Guards T
level_at v n = get_or v.levels n no_guards

-- the tables of a level in which a key may lie: all of level 0, else those of the key's guard
abbrev pub looked_at : {T : Type 0} → Levels T → ℕ → Bytes → List T
looked_at v zero key = v.top
looked_at v (suc n) key = tables_of (level_at v n) (guard_of key (level_at v n).keys)
