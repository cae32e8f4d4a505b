-- Where a cursor over a memtable stands.
use Rattle.std.proofs.Common.{◌≡◌, None, refl}
use Rattle.mem_table.specs.Seen.{entries_in, place_at, shown_by}
use Rattle.mem_table.specs.SeenLaws.{stands_among}
use Rattle.mem_table.specs.declared.mem_cursor.MemCursor.{MemCursor}
use Rattle.peb_base.specs.Entries.{AreSorted}
use Rattle.compactor.proofs.Places.{ended}

-- its entries are sorted
pub sorted_in : (c : MemCursor) → AreSorted (entries_in c)
sorted_in c = (stands_among c (entries_in c) (place_at c) (record { over = refl; there = refl })).sorted

-- where it shows nothing it stands nowhere
pub stands_nowhere : (c : MemCursor) → shown_by c ≡ None → place_at c ≡ None
stands_nowhere c none =
    ended (entries_in c) (place_at c)
    (stands_among c (entries_in c) (place_at c) (record { over = refl; there = refl })).inside none
