-- What a merged walk went over, whatever the devices tell.
use Rattle.std.specs.Prelude.{◌≡◌, ℕ, ◌<◌, Bool, false, ◌&&◌, ◌||◌, not, nat_eq, nat_lt, if◌then◌else◌, List, [], ◌∷◌, Some, flat_map, get_or, length, map}
use Rattle.std.specs.List.{AllByRecursion}
use Rattle.peb_base.specs.Entries.{entry_lt}
use Rattle.peb_base.specs.Members.{IsIn}
use Rattle.peb_base.specs.declared.cursor.Cursor.{Ghosts}
use Rattle.peb_base.specs.declared.entry.Entry.{Entry}
use Rattle.merge_iter.specs.Heads.{head_at, current_head, IsChosen}
use Rattle.merge_iter.specs.Standing.{Merged}

-- an entry with the place of its input comes before another: in entry order, and of the same key and
-- number by the places
abbrev pub tagged_lt : ℕ × Entry → ℕ × Entry → Bool
tagged_lt a b = entry_lt a.1 b.1 || (not (entry_lt b.1 a.1) && nat_lt a.0 b.0)

-- the entries that came from the input at a place
abbrev pub from_input : ℕ → List (ℕ × Entry) → List Entry
from_input k given = flat_map (λ (t : ℕ × Entry). if nat_eq t.0 k then t.1 ∷ [] else []) given

-- none comes before one that was given earlier
abbrev pub NeverBack : List (ℕ × Entry) → Type 0
NeverBack [] = Unit {0}
NeverBack (t ∷ given) = AllByRecursion (λ u. tagged_lt u t ≡ false) given × NeverBack given

-- these entries were given, each with the place of its input, by walks of the inputs that can have gone
-- over just what came from each; never going back, and what is ahead comes before none of them
pub record Gave {C : Type 0} (g : Ghosts C) (inputs : List C)
    (given : List (ℕ × Entry)) : Type 0 where
  pub each : (k : ℕ) (d : C) → k < length inputs → g.walks (get_or inputs k d) (from_input k given)
  pub never_back : NeverBack given
  pub ahead : (t : ℕ × Entry) → IsIn t given → (k : ℕ) (h : Entry)
      → head_at (map g.shows inputs) k ≡ Some h → tagged_lt (k, h) t ≡ false

-- the merge went on and gave these entries, each with the place of its input, and goes on with the first
-- that is ahead
pub record WentThrough {C : Type 0} (g : Ghosts C) (m : Merged C)
    (given : List (ℕ × Entry)) : Type 0 where
  pub on : m.is_back ≡ false
  pub chosen : IsChosen false (map g.shows m.inputs) m.current
  pub gave : Gave g m.inputs given

-- the merge went on over these entries
pub record WentOver {C : Type 0} (g : Ghosts C) (m : Merged C) (es : List Entry) : Type 0 where
  pub given : List (ℕ × Entry)
  pub is : map (λ (t : ℕ × Entry). t.1) given ≡ es
  pub through : WentThrough g m given

-- the place of the current input, with the entry that the merge shows
abbrev pub IsCurrent : {C : Type 0} → Ghosts C → Merged C → ℕ × Entry → Type 0
IsCurrent g m t =
    (m.current ≡ Some t.0) × (current_head (map g.shows m.inputs) m.current ≡ Some t.1)
