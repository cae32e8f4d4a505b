use Rattle.std.proofs.Common.{◌≡◌, map, filter, take, nat_le}
use Rattle.guard_choice.proofs.sorted.keys_to.Given as goal

abbrev pub invariant-loop-c : goal.invariant-loop-c
invariant-loop-c l = l.keys.items ≡ map (λ c. c.key) (filter (λ c. nat_le c.level l.level) (take l.c-index l.chosen))
