use Rattle.std.proofs.Common.{◌∷◌, subst}
use Rattle.std.specs.List.{AllZip}
use Rattle.guard_level.specs.TableLists.{AreShared}
use Rattle.guard_level.specs.Guards.{Guards, IsCopy}
use Rattle.guard_level.proofs.Copies.{shared_level, is_copy}
use Rattle.guard_level.proofs.level.Level.copy.Goals as goal

pub invariant_of-result : goal.invariant_of-result
invariant_of-result g c =
    let old : Guards _ = record { keys = c.self.inside.keys; tables = c.self.inside.sentinel ∷ c.self.inside.guards.items } in
    let new : Guards _ = record { keys = c.in_ok-keys.keys; tables = c.in_ok-sentinel.sentinel ∷ c.in_ok-guards.guards.items } in
    let guards = subst (λ ts. AllZip (AreShared g.T.HasRow.the_row g.T.HasRow.holds) ts c.in_ok-guards.guards.items) c.deref.ensures.value (c.in_ok-guards.ensures) in
    shared_level g.T.HasRow.the_row g.T.HasRow.holds old new c.self.invariant c.in_ok-keys.ensures (c.in_ok-sentinel.ensures, guards)

pub returns : goal.returns
returns g c =
    let old : Guards _ = record { keys = c.self.inside.keys; tables = c.self.inside.sentinel ∷ c.self.inside.guards.items } in
    let new : Guards _ = record { keys = c.in_ok-keys.keys; tables = c.in_ok-sentinel.sentinel ∷ c.in_ok-guards.guards.items } in
    let guards = subst (λ ts. AllZip (AreShared g.T.HasRow.the_row g.T.HasRow.holds) ts c.in_ok-guards.guards.items) c.deref.ensures.value (c.in_ok-guards.ensures) in
    subst (λ level. IsCopy g.T.HasRow.the_row g.T.HasRow.holds level new) c.self.view_is
    (is_copy g.T.HasRow.the_row g.T.HasRow.holds old new c.in_ok-keys.ensures (c.in_ok-sentinel.ensures, guards))
