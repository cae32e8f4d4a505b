use Rattle.std.proofs.Common.{drop, [], subst, append-nil}
use Rattle.std.specs.List.{AllZip}
use Rattle.std.proofs.lemmas.List.{drop_all}
use Rattle.guard_level.specs.TableLists.{AreShared}
use Rattle.guard_level.proofs.level.share_all.Goals as goal

pub returns : goal.returns
returns g c =
    let Shared = AllZip (AreShared g.T.HasRow.the_row g.T.HasRow.holds) in
    let guards = c.args.guards.now in
    let at_end : Shared (drop c.loop-tables.tables-index guards) [] = rw (drop_all c.loop-tables.tables-index guards c.loop-tables-test.false) tt in
    subst (λ ts. Shared guards ts) (append-nil c.loop-tables.shared.items) (c.loop-tables.invariant [] at_end)
