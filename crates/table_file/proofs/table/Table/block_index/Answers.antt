use Rattle.std.proofs.Common.{◌≡◌, ◌∙◌, List, [], ap, rules, sym, subst, true}
use Rattle.std.proofs.lemmas.List.Sorted.{IsPartitionPoint-from_clause}
use Rattle.table_file.specs.declared.index_item.IndexItem.{IndexItem}
use Rattle.table_file.specs.Items.{ends_before, ascend, index_for}
use Rattle.table_file.proofs.Searching.{parted, place_is}
use Rattle.table_file.proofs.table.Table.block_index.Goals as goal

pub returns : goal.returns
returns g c =
    let key = c.args.key.now in
    let number = c.args.number in
    let items = c.as_slice-items.result.now in
    let same : items ≡ c.self.inside.items.items = c.as_slice-items.ensures.value in
    let ascending : ascend items ≡ true = subst (λ (l : List IndexItem). ascend l ≡ true) (sym same) c.self.invariant.ascending in
    let point = IsPartitionPoint-from_clause (λ (item : IndexItem). ends_before key number item) items c.partition_point.result c.partition_point.ensures.partitioned (parted key number [] 0 items ascending) (λ a r q k. search rules) in
    place_is key number items c.partition_point.result c.partition_point.ensures.bound point.0 point.1 ∙ ap (index_for key number) same
    ∙ (λ i. index_for key number (c.self.view_is i).items)
