-- What was read is ready, whatever waits then.
use Rattle.record_log.specs.Ready.{ready_with}
use Rattle.record_log.proofs.tests.grown.Goals as goal

pub close_group-requires : goal.close_group-requires
close_group-requires g c = λ told.
    let resumed = rw c.in-Ok-Some.field-0-is at c.in-Ok-Some.ensures in
    let holds = resumed.found told in (
      c.in-Ok-Some.read.1,
      holds.groups,
      ready_with g.J.Journal.tells g.J.Journal.seen g.J.Journal.may_leave c.resume.new.journal c.in-Ok-Some.read.0 c.add.new.self
          c.in-Ok-Some.read.1 holds.groups c.in_ok-add.ensures.file c.in_ok-add.ensures.place (resumed.ready holds.groups told holds.log),
    )
