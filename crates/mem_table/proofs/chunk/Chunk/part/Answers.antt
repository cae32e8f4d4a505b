use Rattle.std.proofs.Common.{◌≡◌, ◌∙◌, ◌-◌, List, length, map, take, drop, ap, sym, subst, arith, length-drop}
use Rattle.std.specs.Arc.{arc_value}
use Rattle.std.proofs.lemmas.List.{length-take}
use Rattle.peb_base.specs.Entries.{AreSorted}
use Rattle.peb_base.specs.declared.entry.Entry.{Entry}
use Rattle.mem_table.proofs.ChunkLemmas.{part_sorted, map_part}
use Rattle.mem_table.proofs.chunk.Chunk.part.Goals as goal

pub invariant_of-result : goal.invariant_of-result
invariant_of-result c =
    let from = c.args.from in
    let n = c.args.to - c.args.from in
    let old : List Entry = c.args.self.now in
    let is : map arc_value c.in_ok-entries.entries.items ≡ take n (drop from old) =
    c.in_ok-entries.ensures ∙ map_part arc_value from n c.deref.result.now
    ∙ ap (λ l. take n (drop from (map arc_value l))) c.deref.ensures.value
    ∙ ap (λ l. take n (drop from l)) c.self.view_is in
    let was : AreSorted old = subst AreSorted c.self.view_is c.self.invariant.sorted in
    let len : length (map arc_value c.in_ok-entries.entries.items) ≡ n =
    omega (
      arith,
      ap length is,
      length-take n (drop from old),
      length-drop from old,
      c.requires.within,
    ) in
    record {
      sorted = subst AreSorted (sym is) (part_sorted from n old was);
      some = omega (arith, len, c.requires.some);
      few = omega (arith, len, c.requires.within, c.self.invariant.few, ap length c.self.view_is);
    }

pub returns : goal.returns
returns c =
    let from = c.args.from in
    let n = c.args.to - c.args.from in
    c.in_ok-entries.ensures ∙ map_part arc_value from n c.deref.result.now
    ∙ ap (λ l. take n (drop from (map arc_value l))) c.deref.ensures.value
    ∙ ap (λ l. take n (drop from l)) c.self.view_is
