-- Sums over inputs.
use Rattle.std.specs.Prelude.{ℕ, suc, ◌+◌, Bool, ◌&&◌, if◌then◌else◌, List, [], ◌∷◌, Option, Some, None, is_none}
use Rattle.peb_base.specs.declared.cursor.Cursor.{Ghosts}

-- the sum over all of them
abbrev pub total : {C : Type 0} → (C → ℕ) → List C → ℕ
total count [] = 0
total count (c ∷ cs) = count c + total count cs

-- how many steps in a direction one input has left; where all turn, one at no place goes through all
abbrev pub left : {C : Type 0} → Ghosts C → Bool → Bool → C → ℕ
left g back turns c =
    if turns && is_none (g.shows c) then g.size c else (if back then g.back c else g.ahead c)

-- how many steps are left from a place, of which the first leads away from it
abbrev pub steps_left : Option ℕ → ℕ → ℕ
steps_left None count = 0
steps_left (Some i) count = suc count
