use Rattle.std.proofs.Common.{◌∙◌, ◌++◌}
use Rattle.turn_lock.specs.Seat.{numbers}
use Rattle.turn_lock.proofs.TestLemmas.{chain_numbers, all_of_chain}
use Rattle.turn_lock.proofs.tests.close_chain.Goals as goal

pub close-requires-clause-all : goal.close-requires-clause-all
close-requires-clause-all c =
    let idle = c.requires.idle in let is = c.join-2.ensures.joined in
    chain_numbers c.args.first.known c.args.one.known c.args.two.known c.join-2.new.seat.known (c.join-2.ensures.numbers ∙ (λ i. numbers c.args.first.known ++ c.join.ensures.numbers i)) idle.0.2 idle.1.2 idle.2.2 ((λ i. (is i).seats) ∙ c.requires.first.0)

pub returns : goal.returns
returns c =
    all_of_chain c.args.first.known c.args.one.known c.args.two.known c.join-2.new.seat.known c.join.new.seat.known _ (λ i. (c.join-2.ensures.joined i).base) c.requires.first.1 c.close.ensures.whole c.close.ensures.value (λ p. (c.join-2.ensures.both p).0) (λ p. (c.join.ensures.both p).0)
