use Rattle.std.proofs.Common.{◌≡◌, ◌<◌, ◌≤◌, ◌∙◌, List, length, get_or, ap, sym, subst}
use Rattle.table_file.specs.declared.index_item.IndexItem.{IndexItem}
use Rattle.table_file.specs.Items.{index_for, block_for}
use Rattle.table_file.proofs.Searching.{block_found, no_block}
use Rattle.table_file.proofs.table.Table.block_of.Goals as goal

pub returns-in-Some : goal.returns-in-Some
returns-in-Some g c =
    let found = c.in-Some.ensures.lookup in
    let index = c.block_index-index.result in
    let item = c.in-Some.item.now in
    let items = c.self.inside.items.items in
    let same : items ≡ c.args.self.now.items = λ i. (c.self.view_is i).items in
    block_found c.args.key.now c.args.number items index item (c.block_index-index.ensures ∙ ap (index_for c.args.key.now c.args.number) (sym same)) (subst (λ (l : List IndexItem). index < length l) c.deref.ensures.value found.3.0)
    (subst (λ (l : List IndexItem). item ≡ get_or l index item) c.deref.ensures.value found.1) ∙ ap (block_for c.args.key.now c.args.number) same

pub returns-in-None : goal.returns-in-None
returns-in-None g c =
    let index = c.block_index-index.result in
    let items = c.self.inside.items.items in
    let same : items ≡ c.args.self.now.items = λ i. (c.self.view_is i).items in
    no_block c.args.key.now c.args.number items index (c.block_index-index.ensures ∙ ap (index_for c.args.key.now c.args.number) (sym same)) (subst (λ (l : List IndexItem). length l ≤ index) c.deref.ensures.value c.in-None.ensures.lookup.3)
    ∙ ap (block_for c.args.key.now c.args.number) same
