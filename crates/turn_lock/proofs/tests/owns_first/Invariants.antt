use Rattle.std.proofs.Common.{[]}
use Rattle.turn_lock.proofs.tests.owns_first.Given as goal

abbrev pub ghost-give_about : goal.ghost-give_about
ghost-give_about g a = []
