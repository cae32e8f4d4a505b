use Rattle.std.proofs.Common.{◌<◌, ◌∙◌, [], sym, arith}
use Rattle.peb_base.specs.Entries.{comes_before}
use Rattle.table_cursor.specs.IndexLaws.{before_index}
use Rattle.table_cursor.proofs.agreeing.follows.Goals as goal

pub returns : goal.returns
returns g c =
    let items = c.args.table.now.items in
    let some : 0 < c.args.index = omega (arith, c.if-index-eq0.false) in
    let item = c.item-above.result in
    let before = before_index [] 0 items c.args.index (record { place = item.0; len = item.1; key = item.2.now; number = item.3 }) some c.item-above.ensures.item in
    c.is_before-2.ensures ∙ (λ i. comes_before (sym before.0 i) ((c.packed.ensures.number ∙ sym before.1) i) c.args.key.now c.args.number)
