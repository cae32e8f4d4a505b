use Rattle.std.proofs.Common.{◌≡◌, ◌∙◌, [], map, ap, refl, subst, sym, rules, Global}
use Rattle.std.specs.Arc.{arc_value}
use Rattle.std.specs.declared.sync.Arc.{Arc}
use Rattle.std.proofs.lemmas.List.Sorted.{IsPartitionPoint-from_clause}
use Rattle.peb_base.specs.Entries.{AreSorted, comes_before, first_from}
use Rattle.peb_base.specs.SortedParts.{parted, place_is}
use Rattle.peb_base.specs.declared.entry.Entry.{Entry}
use Rattle.mem_table.proofs.chunk.Chunk.place.Goals as goal

pub returns : goal.returns
returns c =
    let key = c.args.key.now in
    let number = c.args.number in
    let items = c.as_slice-entries.result.now in
    let same : map arc_value items ≡ map arc_value c.self.inside.entries.items =
    ap (map arc_value) c.as_slice-entries.ensures.value in
    let sorted : AreSorted (map arc_value items) =
    subst AreSorted (sym same) c.self.invariant.sorted in
    let test = λ (x : Arc Entry Global). comes_before (arc_value x).key
    (arc_value x).number key number in
    let point = IsPartitionPoint-from_clause test items c.partition_point.result c.partition_point.ensures.partitioned
    (parted arc_value key number [] 0 items sorted) (λ a r q k. search rules) in
    place_is arc_value (λ (e : Entry). comes_before e.key e.number key number)
    (first_from key number) refl (λ e es. refl) items
    c.partition_point.result c.partition_point.ensures.bound point.0 point.1
    ∙ ap (first_from key number) (same ∙ c.self.view_is)
