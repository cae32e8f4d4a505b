use Rattle.std.proofs.Common.{rules, ◌≡◌, arith}
use Rattle.turn_lock.proofs.tests.add_by_two.Goals as goal

pub returns-then-two_ok : goal.returns-then-two_ok
returns-then-two_ok g c =
    let a = c.join-a.ensures in let z = c.close_two-tape.ensures in
    let none : c.in_ok-lock.field-0.first.known.base ≡ 0 = search rules in
    (_, _, a.first.1 c.if-one_ok.true, a.second.1 c.if-two_ok.true, (λ p l. z.all p (omega arith) l), z.apart)
