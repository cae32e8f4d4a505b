use Rattle.std.proofs.Common.{◌≡◌, drop, ap, ◌∙◌, subst}
use Rattle.std.proofs.lemmas.List.{drop_all}
use Rattle.peb_base.specs.Guards.{guard_of}
use Rattle.guard_level.specs.Guards.{IsUncut, tables_of}
use Rattle.guard_level.proofs.tests.cut.Invariants.{row_of}
use Rattle.guard_level.proofs.tests.cut.Goals as goal

pub cut-requires : goal.cut-requires
cut-requires g c =
    let tables = c.tables_of-table-items.result.now in
    let at_end : IsUncut row_of c.args.key (drop c.loop-table.table-index tables) = rw (drop_all c.loop-table.table-index tables c.loop-table-test.false) tt in
    let guard : c.guard_of.result ≡ guard_of c.args.key c.args.level.now.keys = c.guard_of.ensures.guard ∙ ap (λ key. guard_of key c.args.level.now.keys) c.bytes.ensures.value in
    subst (IsUncut row_of c.args.key) (c.tables_of-table-items.ensures.tables ∙ ap (tables_of c.args.level.now) guard) (c.loop-table.invariant at_end)
