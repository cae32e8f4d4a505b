use Rattle.turn_lock.specs.Tests.{events_behind}
use Rattle.turn_lock.proofs.tests.give_back.Given as goal

abbrev pub ghost-give : goal.ghost-give
ghost-give a = events_behind a.seat.now.known a.value.marks.items
