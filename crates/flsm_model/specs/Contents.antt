-- What live tables hold, and how a key is looked up in what entries show.
use Rattle.std.specs.Prelude.{◌≡◌, ℕ, ◌≤◌, List, ◌++◌, Option, Some, None}
use Rattle.peb_base.specs.Keys.{Bytes}
use Rattle.peb_base.specs.Batches.{entries_of}
use Rattle.peb_base.specs.Entries.{AreSorted, IsEntry}
use Rattle.peb_base.specs.Map.{Map, lookup, map_at}
use Rattle.peb_base.specs.Members.{IsIn}
use Rattle.peb_base.specs.Shown.{shown}
use Rattle.peb_base.specs.Profiles.{Column}
use Rattle.peb_base.specs.declared.change.Change.{Change}
use Rattle.peb_base.specs.declared.change.Change.TheVariants.{Put, Delete}
use Rattle.peb_base.specs.declared.entry.Entry.{Entry}
use Rattle.flsm_model.specs.Trees.{Describes, Table, rows_of}
use Rattle.flsm_model.specs.TrueRecord.{IsNewest}
use Rattle.flsm_model.specs.Events.{Session, Standing}
use Rattle.flsm_model.specs.Reading.{IsRead}
use Rattle.flsm_model.specs.Shown.{all_entries, in_memory}

-- no two of the entries have one number
abbrev pub NumbersDiffer : List Entry → Type 0
NumbersDiffer es = (x y : Entry) → IsIn x es → IsIn y es → x.number ≡ y.number → x ≡ y

-- the entries of live tables and memtables
abbrev pub entries_here : Standing → List Entry
entries_here w = all_entries w.tree.tables ++ in_memory w.batches w.tree.shape.to

-- the rows of the tables are the live ones, in their order, each tells of its table, and entries
-- within their limits ascend in each table; numbers differ, those in memtables too
pub record TablesStand (o : Column) (w : Standing) : Type 0 where
  pub rows : rows_of w.tree.tables ≡ w.tree.shape.live
  pub described : (t : Table) → IsIn t w.tree.tables → Describes o t.row t.entries
  pub sorted :
      ((x : Entry) → IsIn x (entries_of w.batches) → IsEntry x) → (t : Table) → IsIn t w.tree.tables
      → AreSorted t.entries
  pub differ : NumbersDiffer (entries_here w)

-- the value that a change puts
abbrev pub put_value : Change → Option Bytes
put_value (Put v) = Some v
put_value Delete = None

-- a key's value in the rows is that of its newest entry at or below n, and none where there is no
-- such entry
pub record LooksUp (es : List Entry) (n : ℕ) (rows : Map) : Type 0 where
  pub found :
      (x : Entry) → IsNewest (λ y. IsIn y es) x n → lookup x.key rows ≡ put_value x.change
  pub absent : (k : Bytes) → ((x : Entry) → IsIn x es → x.number ≤ n → x.key ≡ k → ⊥)
      → lookup k rows ≡ None

-- so it is of what entries show, where numbers differ
abbrev pub NewestIsShown : Type 0
NewestIsShown = (es : List Entry) (n : ℕ) → NumbersDiffer es → LooksUp es n (shown es n)

-- so it is of the map at a number that is read, by the entries of live tables and memtables
abbrev pub NewestIsInMap : Column → Standing → Type 0
NewestIsInMap o w =
    (n : Session) → w.session ≡ Some n → (m : ℕ) → IsRead w n m
    → LooksUp (entries_here w) m (map_at w.batches m)
