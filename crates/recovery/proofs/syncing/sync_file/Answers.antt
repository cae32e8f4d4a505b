use Rattle.recovery.proofs.Openings.{watched_each}
use Rattle.recovery.proofs.syncing.sync_file.Goals as goal

pub returns-in-Ok-clause-watched : goal.returns-in-Ok-clause-watched
returns-in-Ok-clause-watched g c = record {
  seen = c.sync.ensures.seen;
  time = c.sync.ensures.time;
  each = watched_each c.args.file _ _ c.sync.ensures.images;
}

pub returns-in-Err-clause-watched : goal.returns-in-Err-clause-watched
returns-in-Err-clause-watched g c = record {
  seen = c.sync.ensures.seen;
  time = c.sync.ensures.time;
  each = watched_each c.args.file _ _ c.sync.ensures.images;
}
