use Rattle.std.proofs.Common.{◌∷◌, ap, subst}
use Rattle.guard_level.specs.TableLists.{TakesFrom}
use Rattle.guard_level.specs.Guards.{Guards}
use Rattle.guard_level.proofs.Copies.{from_front, taken_level, searched_level, searched}
use Rattle.guard_level.proofs.level.Level.take.Goals as goal

pub invariant_of-self : goal.invariant_of-self
invariant_of-self g c =
    let old : Guards _ = record { keys = c.self.inside.keys; tables = c.self.inside.sentinel ∷ c.self.inside.guards.items } in
    taken_level g.T.HasRow.the_row c.args.number old c.in-Some.table (c.take.new.self ∷ c.self.inside.guards.items) c.self.invariant
    (from_front g.T.HasRow.the_row c.args.number c.self.inside.sentinel c.take.new.self c.self.inside.guards.items c.in-Some.table c.in-Some.ensures.taken)

pub invariant_of-self-in-None : goal.invariant_of-self-in-None
invariant_of-self-in-None g c =
    rw c.in-None.ensures.none.1 (searched_level g.T.HasRow.the_row c.args.number c.self.inside.keys c.self.inside.sentinel c.self.inside.guards.items c.take_from.new.guards.items c.take_from.result
    c.self.invariant c.take_from.ensures.taken c.take_from.ensures.none)

pub returns-in-Some-clause-taken : goal.returns-in-Some-clause-taken
returns-in-Some-clause-taken g c = record {
  keys = ap (λ level. level.keys) c.self.view_is;
  tables = subst (λ level. TakesFrom g.T.HasRow.the_row c.args.number level.tables c.in-Some.table (c.take.new.self ∷ c.self.inside.guards.items)) c.self.view_is
      (from_front g.T.HasRow.the_row c.args.number c.self.inside.sentinel c.take.new.self c.self.inside.guards.items c.in-Some.table c.in-Some.ensures.taken);
}

pub returns-in-None-clause-taken : goal.returns-in-None-clause-taken
returns-in-None-clause-taken g c =
    searched g.T.HasRow.the_row c.args.number c.args.self.now c.self.inside.keys c.self.inside.sentinel c.take.new.self c.self.inside.guards.items c.take_from.new.guards.items c.take_from.result
    c.self.view_is c.in-None.ensures.none.1 c.take_from.ensures.taken
