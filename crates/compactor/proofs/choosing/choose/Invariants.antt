use Rattle.std.proofs.Common.{◌≡◌}
use Rattle.mem_table.specs.Seen.{entries_in, place_at, back_of}
use Rattle.peb_base.specs.Profiles.{column}
use Rattle.compactor.proofs.Walks.{AreChosen}
use Rattle.compactor.proofs.choosing.choose.Given as goal

abbrev pub invariant-back : goal.invariant-back
invariant-back l = record {
  over : entries_in l.cursor ≡ l.view;
  chosen : AreChosen (column l.options.profile) (entries_in l.cursor) (place_at l.cursor) l.chosen.items;
}

abbrev pub decreases-back : goal.decreases-back
decreases-back l = back_of l.cursor
