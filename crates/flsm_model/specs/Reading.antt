-- What memtables and live tables show at the numbers that are read.
use Rattle.std.specs.Prelude.{◌≡◌, ℕ, ◌<◌, true, ◌++◌, ◌⊎◌, Some}
use Rattle.peb_base.specs.Batches.{Batches, entries_of}
use Rattle.peb_base.specs.Map.{map_at}
use Rattle.peb_base.specs.declared.entry.Entry.{Entry}
use Rattle.peb_base.specs.Profiles.{Column}
use Rattle.flsm_model.specs.TrueRecord.{Live, SamePuts}
use Rattle.peb_base.specs.Members.{IsIn}
use Rattle.flsm_model.specs.Events.{Session, Standing, last_of}
use Rattle.flsm_model.specs.Steps.{is_held}
use Rattle.peb_base.specs.Shown.{shown}
use Rattle.flsm_model.specs.Shown.{all_entries, in_memory}

-- the number is last, or a snapshot that somebody holds
abbrev pub IsRead : Standing → Session → ℕ → Type 0
IsRead w n m = (m ≡ last_of w) ⊎ ((actor : ℕ) × (is_held (actor, m) n.held ≡ true))

-- the entry is in a memtable: above the last flush
pub record InMemory (bs : Batches) (to : ℕ) (x : Entry) : Type 0 where
  pub entry : IsIn x (entries_of bs)
  pub above : to < x.number

-- at a number that is read, memtables and live tables show the puts that the batches show
abbrev pub MapHolds : Column → Standing → Type 0
MapHolds o w =
    (n : Session) → w.session ≡ Some n → (m : ℕ) → IsRead w n m
    → SamePuts (λ x. Live w.tree x ⊎ InMemory w.batches w.tree.shape.to x)
    (λ x. IsIn x (entries_of w.batches)) m

-- the live tables show the map at the last flush; with the memtables they show it at each number
-- that is read
pub record MapShows (o : Column) (w : Standing) : Type 0 where
  pub flushed : shown (all_entries w.tree.tables) w.tree.shape.to ≡ map_at w.batches w.tree.shape.to
  pub read : (n : Session) → w.session ≡ Some n → (m : ℕ) → IsRead w n m
      → shown (all_entries w.tree.tables ++ in_memory w.batches w.tree.shape.to) m
      ≡ map_at w.batches m
