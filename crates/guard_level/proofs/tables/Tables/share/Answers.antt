use Rattle.std.proofs.Common.{drop, [], subst, append-nil}
use Rattle.std.proofs.lemmas.List.{drop_all}
use Rattle.guard_level.specs.TableLists.{AreShared}
use Rattle.guard_level.proofs.tables.Tables.share.Goals as goal

pub returns : goal.returns
returns g c =
    let Shared = AreShared g.T.HasRow.the_row g.T.HasRow.holds in
    let tables = c.deref-table-items.result.now in
    let at_end : Shared (drop c.loop-table.table-index tables) [] = rw (drop_all c.loop-table.table-index tables c.loop-table-test.false) tt in
    subst (λ ys. Shared c.args.self.now ys) (append-nil c.loop-table.items.items) (c.loop-table.invariant [] at_end)
