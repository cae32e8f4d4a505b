use Rattle.std.proofs.Common.{List, ◌<◌, ◌^◌, length}
use Rattle.peb_base.specs.declared.entry.Entry.{Entry}
use Rattle.block_form.proofs.Ending.{Gone}
use Rattle.block_form.proofs.Walks.{Walk}
use Rattle.block_form.proofs.reading.ends_of.Given as goal

abbrev pub invariant-walk : goal.invariant-walk
invariant-walk l = record {
  front : List Entry;
  walk : Walk front l.ends.count l.at l.key l.ends.last l.rest l.left l.entries l.places;
  gone : Gone front l.key l.ends;
  small : length l.entries < 2 ^ 31;
}

abbrev pub decreases-walk : goal.decreases-walk
decreases-walk l = length l.rest
