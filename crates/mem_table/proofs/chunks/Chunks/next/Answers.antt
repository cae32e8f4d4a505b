use Rattle.std.proofs.Common.{◌≡◌, ◌∙◌, ◌+◌, ◌<◌, suc, List, [], Some, length, take, get_or, ap, sym, subst, arith}
use Rattle.peb_base.specs.Cursors.{place_in}
use Rattle.peb_base.specs.declared.entry.Entry.{Entry}
use Rattle.mem_table.specs.Chunked.{joined}
use Rattle.mem_table.specs.SpotLaws.{chunk_some, place_there, joined_more, spot_inside}
use Rattle.mem_table.specs.Spots.{IsSpot, place_of}
use Rattle.mem_table.specs.declared.spot.Spot.{Spot}
use Rattle.mem_table.proofs.chunks.Chunks.next.Goals as goal

-- one step on leads to this place
stepped : (cs : List (List Entry)) (s t : Spot) → IsSpot cs t → suc (place_of cs s) ≡ place_of cs t
    → Some (place_of cs t) ≡ place_in (joined cs) (suc (place_of cs s))
stepped cs s t is same =
    sym (ap (place_in (joined cs)) same
    ∙ place_there (joined cs) (place_of cs t) (spot_inside cs t is))

pub returns-then-at-len-clause-place : goal.returns-then-at-len-clause-place
returns-then-at-len-clause-place c =
    let cs : List (List Entry) = c.args.self.now in
    let s : Spot = c.args.spot in
    stepped cs s (record { chunk = s.chunk; at = s.at + 1 })
    (record {
      chunk = c.requires.chunk;
      at =
          omega (arith, c.if-at-len.true, c.len.ensures.len, ap length c.chunk.ensures);
    })
    (omega arith)

next_spot : (cs : List (List Entry)) (s : Spot) → IsSpot cs s → s.chunk + 1 < length cs
    → 0 < length (get_or cs (s.chunk + 1) []) → length (get_or cs s.chunk []) ≡ s.at + 1
    → Some (place_of cs (record { chunk = s.chunk + 1; at = 0 }))
    ≡ place_in (joined cs) (suc (place_of cs s))
next_spot cs s is chunk some last =
    let one : s.chunk + 1 ≡ suc s.chunk = omega arith in
    stepped cs s (record { chunk = s.chunk + 1; at = 0 }) (record { chunk = chunk; at = some })
    (omega (
      arith,
      last,
      joined_more cs s.chunk is.chunk,
      ap (λ n. length (joined (take n cs))) one,
    ))

pub returns-then-chunk-count-clause-place : goal.returns-then-chunk-count-clause-place
returns-then-chunk-count-clause-place c =
    let cs : List (List Entry) = c.args.self.now in
    let s : Spot = c.args.spot in
    let within : s.chunk + 1 < length cs =
    omega (arith, c.if-chunk-count.true, c.count.ensures.count) in
    next_spot cs s c.requires within (chunk_some cs (s.chunk + 1) c.count.ensures.each within)
    (omega (
      arith,
      c.if-at-len.false,
      c.len.ensures.len,
      c.len.ensures.some,
      ap length c.chunk.ensures,
      c.requires.at,
    ))

pub returns-then-chunk-count-clause-spot : goal.returns-then-chunk-count-clause-spot
returns-then-chunk-count-clause-spot c =
    let cs : List (List Entry) = c.args.self.now in
    let within : c.args.spot.chunk + 1 < length cs =
    omega (arith, c.if-chunk-count.true, c.count.ensures.count) in
    λ x is. subst (IsSpot cs) (same_spot _ x is)
    (record {
      chunk = within;
      at =
          chunk_some cs (c.args.spot.chunk + 1) c.count.ensures.each within;
    })
  where
    same_spot : (a b : Spot) → Some a ≡ Some b → a ≡ b
    same_spot a b is = cc
