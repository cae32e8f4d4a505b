-- The entries at which cursors stand, and the one that comes first in a direction.
use Rattle.std.specs.Prelude.{◌≡◌, ℕ, Bool, true, false, not, ◌&&◌, nat_lt, List, Option, Some, None, get_or, is_some}
use Rattle.peb_base.specs.Entries.{comes_before, entry_lt}
use Rattle.peb_base.specs.Keys.{Bytes}
use Rattle.peb_base.specs.declared.entry.Entry.{Entry}

-- the entry of the cursor at a place, if it has one
abbrev pub head_at : List (Option Entry) → ℕ → Option Entry
head_at heads k = get_or heads k None

-- the entry of the current cursor, if there is one
abbrev pub current_head : List (Option Entry) → Option ℕ → Option Entry
current_head heads None = None
current_head heads (Some k) = head_at heads k

-- a walk in this direction, on or back, meets a before b
abbrev pub meets : Bool → Entry → Entry → Bool
meets false a b = entry_lt a b
meets true a b = entry_lt b a

-- the same of entries that may not be there; one that is there is met before none
abbrev pub meets_first : Bool → Option Entry → Option Entry → Bool
meets_first back None b = false
meets_first back (Some a) None = true
meets_first back (Some a) (Some b) = meets back a b

-- of cursors with one entry, a walk in this direction takes that at the first place before that at the second
abbrev pub takes : Bool → ℕ → ℕ → Bool
takes false j k = nat_lt j k
takes true j k = nat_lt k j

-- the cursor at this place has this entry, and a walk in this direction meets no other before it, nor
-- the same of a cursor that it takes before
pub record IsFirst (back : Bool) (heads : List (Option Entry)) (place : ℕ)
    (e : Entry) : Type 0 where
  pub at : head_at heads place ≡ Some e
  pub none_before : (k : ℕ) → meets_first back (head_at heads k) (Some e) ≡ false
  pub taken : (k : ℕ) → takes back k place ≡ true
      → meets_first back (Some e) (head_at heads k) ≡ true

-- the current cursor is the first in this direction, or none has an entry
abbrev pub IsChosen : Bool → List (Option Entry) → Option ℕ → Type 0
IsChosen back heads None = (k : ℕ) → head_at heads k ≡ None
IsChosen back heads (Some place) = (e : Entry) × IsFirst back heads place e

-- of two cursors, the second of which has the earlier place, the first is taken before it
abbrev pub is_better : Bool → List (Option Entry) → ℕ → ℕ → Bool
is_better false heads place other = meets_first false (head_at heads place) (head_at heads other)
is_better true heads place other =
    not (meets_first true (head_at heads other) (head_at heads place))

-- the current cursor has an entry, before which a walk in this direction doesn't meet that of the cursor at k
abbrev pub gives_way : Bool → List (Option Entry) → Option ℕ → ℕ → Bool
gives_way back heads None k = true
gives_way back heads (Some i) k =
    is_some (head_at heads i) && not (meets_first back (head_at heads k) (head_at heads i))

-- an entry is there, and comes behind a key and number
abbrev pub comes_behind : Bytes → ℕ → Option Entry → Bool
comes_behind key number None = false
comes_behind key number (Some e) = comes_before key number e.key e.number
