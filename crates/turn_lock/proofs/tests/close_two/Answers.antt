use Rattle.std.proofs.Common.{◌∙◌, subst, sym}
use Rattle.std.specs.List.{Contains}
use Rattle.turn_lock.specs.Seat.{after_join}
use Rattle.turn_lock.proofs.Places.{merged_right}
use Rattle.turn_lock.proofs.TestLemmas.{three_numbers, all_of_two}
use Rattle.turn_lock.proofs.tests.close_two.Goals as goal

pub close-requires-clause-all : goal.close-requires-clause-all
close-requires-clause-all c =
    let idle = c.requires.idle in
    three_numbers c.args.first.known c.args.one.known c.args.two.known _ (c.join-2.ensures.joined ∙ (λ i. after_join (c.join.ensures.joined i) c.args.two.known)) idle.0.2 idle.1.2 idle.2.2 c.requires.first.0

pub returns-clause-all : goal.returns-clause-all
returns-clause-all c =
    all_of_two c.args.first.known c.args.one.known c.args.two.known _ _ (c.join-2.ensures.joined ∙ (λ i. after_join (c.join.ensures.joined i) c.args.two.known)) c.requires.first.1 c.close.ensures.whole c.close.ensures.value

pub returns-clause-apart : goal.returns-clause-apart
returns-clause-apart c p h k =
    let v = c.args.one.known in
    c.join-2.ensures.apart p (subst (λ z. Contains z.mine p) (sym c.join.ensures.joined) (merged_right c.args.first.known.mine v.mine p h)) k
