use Rattle.std.proofs.Common.{ℕ, ◌≤◌, List, Option}
use Rattle.peb_base.specs.declared.entry.Entry.{Entry}
use Rattle.table_cursor.specs.Views.{port_of, StandsIn, WalksIn, ahead_of, Keeps}
use Rattle.table_cursor.proofs.trips.walk.Given as goal

abbrev pub invariant-walk : goal.invariant-walk
invariant-walk g l = record {
  over : WalksIn l.cursor l.seen.items;
  told : (es : List Entry) (place : Option ℕ) → StandsIn l.fn.cursor es place → (now : Option ℕ) × StandsIn l.cursor es now;
  later : g.P.Port.faults (port_of l.fn.cursor) ≤ g.P.Port.faults (port_of l.cursor);
  keeps : Keeps l.fn.cursor l.cursor;
}

abbrev pub decreases-walk : goal.decreases-walk
decreases-walk g l = ahead_of l.cursor
