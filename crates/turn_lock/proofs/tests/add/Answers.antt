use Rattle.std.proofs.Common.{◌∙◌, sym, ap, Some}
use Rattle.std.specs.Result.{is_ok}
use Rattle.turn_lock.proofs.TestLemmas.{says}
use Rattle.turn_lock.proofs.tests.add.Goals as goal

pub give_back-requires-clause-says : goal.give_back-requires-clause-says
give_back-requires-clause-says g c =
    let t = c.take-tape in
    says _ (is_ok c.push-pushed.result) c.args.mark t.result.marks.items c.push-pushed.new.self.items t.new.seat.known t.ensures.value c.push-pushed.ensures.items
    (ap Some (sym c.requires.2 ∙ ap (λ v. v.number) (sym t.ensures.known)))
