use Rattle.std.proofs.Common.{◌≡◌, ◌<◌, length, refl, arith}
use Rattle.std.proofs.lemmas.Option.{slice_get_read}
use Rattle.table_file.specs.declared.index_item.IndexItem.{IndexItem}
use Rattle.table_file.proofs.Searching.{short_at}
use Rattle.table_file.proofs.table.Table.item.Goals as goal

pub returns-clause-short : goal.returns-clause-short
returns-clause-short g c =
    let items = c.self.inside.items.items in
    let item : IndexItem = c.index-item.result.now in
    let same : length items ≡ length c.args.self.now.items = λ i. length (c.self.view_is i).items in
    let within : c.args.index < length items = omega (arith, c.requires, same) in
    short_at items c.args.index item c.self.invariant.short (slice_get_read items (length items) c.args.index item refl within c.index-item.ensures)
