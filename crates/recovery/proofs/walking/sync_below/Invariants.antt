use Rattle.std.proofs.Common.{◌≤◌}
use Rattle.disk_model.specs.Told.{told_by}
use Rattle.recovery.specs.Opening.{HasWatched}
use Rattle.recovery.specs.Reading.{KeepsLogs}
use Rattle.recovery.proofs.walking.sync_below.Given as goal

abbrev pub invariant-down : goal.invariant-down
invariant-down g l = record {
  below : l.low ≤ l.number;
  kept : KeepsLogs g.J.Journal l.journal l.low l.number;
  watched : HasWatched (told_by g.J.Journal l.initial.journal) (told_by g.J.Journal l.journal);
  never_falls : g.J.Journal.faults l.initial.journal ≤ g.J.Journal.faults l.journal;
}

abbrev pub decreases-down : goal.decreases-down
decreases-down g l = l.low
