-- What the laws of the map say.
use Rattle.std.specs.Prelude.{◌≡◌, ◌≢◌, ℕ, ◌+◌, ◌-◌, ◌<◌, true, List, [], ◌∷◌, ◌++◌, length, Some, None}
use Rattle.peb_base.specs.Keys.{Bytes}
use Rattle.peb_base.specs.Batches.{Batches, numbered, last_number, ordered_above}
use Rattle.peb_base.specs.Map.{apply_entries, map_at, value_at}
use Rattle.peb_base.specs.declared.change.Change.TheVariants.{Put, Delete}
use Rattle.peb_base.specs.declared.op.Op.{Op}

-- after a batch of higher numbers the last number is its last
abbrev pub LastIsOfTheBatch : Type 0
LastIsOfTheBatch = (bs : Batches) (first : ℕ) (ops : List Op) → last_number bs < first
    → last_number (bs ++ (first, ops) ∷ []) ≡ first + length ops - 1

-- the map after a batch of higher numbers is the map before it with the batch's operations applied
abbrev pub BatchApplies : Type 0
BatchApplies = (bs : Batches) (first : ℕ) (ops : List Op) → last_number bs < first
    → map_at (bs ++ (first, ops) ∷ []) (first + length ops - 1)
    ≡ apply_entries (numbered first ops) (map_at bs (last_number bs))

-- batches of higher numbers don't change the map at a number
abbrev pub OldMapsStay : Type 0
OldMapsStay = (bs more : Batches) (n : ℕ) → ordered_above n more ≡ true
    → map_at (bs ++ more) n ≡ map_at bs n

-- a put gives its key its value
abbrev pub PutIsRead : Type 0
PutIsRead = (bs : Batches) (first : ℕ) (k v : Bytes) → last_number bs < first
    → value_at (bs ++ (first, record { key = k; change = Put v } ∷ []) ∷ []) first k ≡ Some v

-- a deletion takes the value of its key away
abbrev pub DeleteIsRead : Type 0
DeleteIsRead = (bs : Batches) (first : ℕ) (k : Bytes) → last_number bs < first
    → value_at (bs ++ (first, record { key = k; change = Delete } ∷ []) ∷ []) first k ≡ None

-- an operation leaves the values of all other keys
abbrev pub OtherKeysStay : Type 0
OtherKeysStay = (bs : Batches) (first : ℕ) (op : Op) (k : Bytes) → last_number bs < first
    → k ≢ op.key → value_at (bs ++ (first, op ∷ []) ∷ []) first k ≡ value_at bs (last_number bs) k
