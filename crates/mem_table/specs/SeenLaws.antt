-- Laws of cursors over a memtable.
use Rattle.std.proofs.Common.{◌≡◌, ℕ, ◌<◌, ◌≤◌, List, [], length, take, Option, Some, None, refl, sym, ap, ◌∙◌, subst, arith}
use Rattle.std.specs.Prelude.{option_map, IfSome}
use Rattle.peb_base.specs.Cursors.{StandsAmong, ComesBeforeNone, entry_at}
use Rattle.peb_base.specs.Entries.{IsEntry, AreSorted}
use Rattle.peb_base.specs.SortedParts.{entry_within, behind_front}
use Rattle.peb_base.specs.declared.entry.Entry.{Entry}
use Rattle.mem_table.specs.Spots.{IsSpot, place_of}
use Rattle.mem_table.specs.Seen.{StandsIn, WalksIn, Keeps, entries_in, place_at, shown_by, ahead_of, back_of, steps_ahead, steps_back}
use Rattle.mem_table.specs.SpotLaws.{spot_inside}
use Rattle.mem_table.specs.declared.mem_cursor.MemCursor.{MemCursor}
use Rattle.mem_table.specs.declared.spot.Spot.{Spot}

-- its place is one of its entries'
pub place_inside : (c : MemCursor) → IfSome (place_at c) (λ n. n < length (entries_in c))
place_inside c = by c.spot (λ s is. c.inside s is)
  where
    by : (o : Option Spot) → ((s : Spot) → o ≡ Some s → IsSpot c.entries s)
        → IfSome (option_map (place_of c.entries) o) (λ n. n < length (entries_in c))
    by None inside = tt
    by (Some s) inside = spot_inside c.entries s (inside s refl)

-- where it stands it stands among them
pub stands_among : (c : MemCursor) (es : List Entry) (place : Option ℕ) → StandsIn c es place
    → StandsAmong es place (shown_by c)
stands_among c es place stands = record {
  sorted = subst AreSorted (sym stands.over) c.sorted;
  inside = subst (λ (o : Option ℕ). IfSome o (λ n. n < length es)) (sym stands.there)
      (subst (λ (l : List Entry). IfSome (place_at c) (λ n. n < length l)) (sym stands.over)
      (place_inside c));
  shows = ap (λ (l : List Entry). entry_at l (place_at c)) (sym stands.over)
      ∙ ap (entry_at es) (sym stands.there);
}

-- what it shows is within the limits of entries
pub shows_entry : (c : MemCursor) (e : Entry) → shown_by c ≡ Some e → IsEntry e
shows_entry c e there = by (place_at c) there
  where
    by : (o : Option ℕ) → entry_at (entries_in c) o ≡ Some e → IsEntry e
    by None there = cc
    by (Some n) there = entry_within [] 0 (entries_in c) n e c.sorted there

-- and comes before none of those that it went over
pub walk_ascends : (c : MemCursor) (es : List Entry) (e : Entry) → WalksIn c es
    → shown_by c ≡ Some e → ComesBeforeNone e es
walk_ascends c es e walks there = by (place_at c) walks there
  where
    by : (o : Option ℕ) → IfSome o (λ n. es ≡ take n (entries_in c))
        → entry_at (entries_in c) o ≡ Some e → ComesBeforeNone e es
    by None walks there = cc
    by (Some n) walks there =
        subst (ComesBeforeNone e) (sym walks) (behind_front [] 0 (entries_in c) n e c.sorted there)

-- there are no more steps than entries
pub steps_bounded : (c : MemCursor)
    → (ahead_of c ≤ length (entries_in c)) × (back_of c ≤ length (entries_in c))
steps_bounded c = by (place_at c) (place_inside c)
  where
    by : (o : Option ℕ) → IfSome o (λ n. n < length (entries_in c))
        → (steps_ahead (length (entries_in c)) o ≤ length (entries_in c))
        × (steps_back o ≤ length (entries_in c))
    by None inside = (omega arith, omega arith)
    by (Some n) inside = (omega arith, omega (arith, inside))

pub keeps_self : (c : MemCursor) → Keeps c c
keeps_self c = refl

pub keeps_on : (a b c : MemCursor) → Keeps a b → Keeps b c → Keeps a c
keeps_on a b c x y = y ∙ x

pub same_size : (a b : MemCursor) → Keeps a b → length (entries_in b) ≡ length (entries_in a)
same_size a b x = ap length x
