use Rattle.std.proofs.Common.{◌≡◌, ◌∙◌, List, map, ap, refl, subst, sym, rules, Global}
use Rattle.std.specs.Arc.{arc_value}
use Rattle.std.specs.declared.sync.Arc.{Arc}
use Rattle.std.proofs.lemmas.List.Sorted.{IsPartitionPoint-from_clause}
use Rattle.peb_base.specs.Entries.{AreSorted}
use Rattle.peb_base.specs.SortedParts.{all_before, place_is}
use Rattle.peb_base.specs.declared.entry.Entry.{Entry}
use Rattle.mem_table.specs.Chunked.{joined, chunk_from, HaveEntries}
use Rattle.mem_table.proofs.ChunkLemmas.{chunks_parted}
use Rattle.mem_table.proofs.chunks.Chunks.index_from.Goals as goal

pub returns : goal.returns
returns c =
    let key = c.args.key.now in
    let number = c.args.number in
    let items = c.as_slice-list.result.now in
    let same : map arc_value items ≡ map arc_value c.self.inside.list.items =
    ap (map arc_value) c.as_slice-list.ensures.value in
    let sorted : AreSorted (joined (map arc_value items)) =
    subst (λ l. AreSorted (joined l)) (sym same) c.self.invariant.sorted in
    let each : HaveEntries (map arc_value items) =
    subst HaveEntries (sym same) c.self.invariant.each in
    let test = λ (x : Arc (List Entry) Global). all_before key number (arc_value x) in
    let point = IsPartitionPoint-from_clause test items c.partition_point.result c.partition_point.ensures.partitioned
    (chunks_parted arc_value key number items sorted each) (λ a r q k. search rules) in
    place_is arc_value (all_before key number) (chunk_from key number) refl (λ e es. refl) items
    c.partition_point.result c.partition_point.ensures.bound point.0 point.1
    ∙ ap (chunk_from key number) (same ∙ c.self.view_is)
