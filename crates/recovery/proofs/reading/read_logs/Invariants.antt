use Rattle.std.proofs.Common.{◌≡◌, ◌≤◌, List, IsTrue}
use Rattle.peb_base.specs.Batches.{Batches}
use Rattle.disk_model.specs.Told.{told_by}
use Rattle.store_layout.specs.Logs.{Held, BeginsLogs}
use Rattle.store_layout.specs.Recorded.{Bounds}
use Rattle.recovery.specs.Opening.{HasWatched}
use Rattle.recovery.specs.Reading.{HasLogs, KeepsLogs}
use Rattle.recovery.proofs.reading.read_logs.Given as goal

abbrev pub invariant-loop-number : goal.invariant-loop-number
invariant-loop-number g l = record {
  count : l.read.next ≡ l.number;
  same : l.read.session ≡ l.session;
  so_far : (bounds : Bounds) → bounds.profile ≡ l.profile → bounds.first ≡ l.first → bounds.session ≡ l.session → (logs : List Held) × (batches : Batches)
      × HasLogs bounds l.read logs batches × (IsTrue g.J.Journal.tells → BeginsLogs bounds.first logs (g.J.Journal.seen l.initial.journal));
  watched : HasWatched (told_by g.J.Journal l.initial.journal) (told_by g.J.Journal l.journal);
  kept : KeepsLogs g.J.Journal l.journal l.first l.read.next;
  never_falls : g.J.Journal.faults l.initial.journal ≤ g.J.Journal.faults l.journal;
}
