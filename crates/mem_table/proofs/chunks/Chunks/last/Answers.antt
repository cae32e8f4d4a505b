use Rattle.std.proofs.Common.{◌≡◌, ◌∙◌, ◌+◌, ◌-◌, ◌<◌, suc, ℕ, List, Some, length, take, ap, sym, arith}
use Rattle.peb_base.specs.declared.entry.Entry.{Entry}
use Rattle.mem_table.specs.Chunked.{joined}
use Rattle.mem_table.specs.SpotLaws.{place_there, joined_last}
use Rattle.mem_table.proofs.chunks.Chunks.last.Goals as goal

pub returns-clause-spot : goal.returns-clause-spot
returns-clause-spot c = record {
  chunk = omega (arith, c.count-chunk.ensures.count, c.count-chunk.ensures.some);
  at = omega (arith, c.len-at.ensures.len, c.len-at.ensures.some, ap length c.chunk.ensures);
}

pub returns-clause-place : goal.returns-clause-place
returns-clause-place c =
    let cs : List (List Entry) = c.args.self.now in
    let i : ℕ = c.count-chunk.result - 1 in
    let is_last : suc i ≡ length cs =
    omega (arith, c.count-chunk.ensures.count, c.count-chunk.ensures.some) in
    let at : length (joined (take i cs)) + (c.len-at.result - 1) ≡ length (joined cs) - 1 =
    omega (
      arith,
      joined_last cs i is_last,
      c.len-at.ensures.len,
      c.len-at.ensures.some,
      ap length c.chunk.ensures,
    ) in
    let inside : length (joined cs) - 1 < length (joined cs) =
    omega (
      arith,
      joined_last cs i is_last,
      c.len-at.ensures.len,
      c.len-at.ensures.some,
      ap length c.chunk.ensures,
    ) in
    ap Some at ∙ sym (place_there (joined cs) (length (joined cs) - 1) inside)
