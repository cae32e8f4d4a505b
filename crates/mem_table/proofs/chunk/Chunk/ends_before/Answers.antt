use Rattle.std.proofs.Common.{◌≡◌, suc, [], ◌-◌, ◌<◌, length, get_or, ap, ◌∙◌, arith, Global}
use Rattle.std.specs.Arc.{arc_value}
use Rattle.std.specs.declared.sync.Arc.{Arc}
use Rattle.std.proofs.lemmas.List.{length-map}
use Rattle.peb_base.specs.Entries.{comes_before}
use Rattle.peb_base.specs.SortedParts.{all_before}
use Rattle.peb_base.specs.declared.entry.Entry.{Entry}
use Rattle.mem_table.proofs.ChunkLemmas.{last_tells}
use Rattle.mem_table.proofs.chunk.Chunk.ends_before.Goals as goal

pub returns : goal.returns
returns c =
    let items = c.self.inside.entries.items in
    let last = c.index-last.result.now in
    let key = c.args.key.now in
    let number = c.args.number in
    let tests : c.is_before.result
    ≡ comes_before (arc_value last).key (arc_value last).number key number = cc in
    let some : 0 < length items =
    omega (arith, c.self.invariant.some, length-map items arc_value) in
    let place : suc (length items - 1) ≡ length items = omega (arith, some) in
    let test = λ (x : Arc Entry Global). comes_before (arc_value x).key
    (arc_value x).number key number in
    let read : last ≡ get_or items (length items - 1) last =
    let held : c.len.result ≡ length items = omega (arith, c.len.ensures) in
    c.index-last.ensures ∙ ap (λ n. get_or items (n - 1) last) held in
    tests ∙ ap test read
    ∙ last_tells arc_value key number [] 0 items
    (length items - 1) last c.self.invariant.sorted place
    ∙ ap (all_before key number) c.self.view_is
