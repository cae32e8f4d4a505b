use Rattle.std.proofs.Common.{◌≡◌, ◌∙◌, ◌+◌, ◌<◌, ◌≤◌, ℕ, List, [], Some, length, take, get_or, ap, sym, subst, arith}
use Rattle.peb_base.specs.Cursors.{place_in}
use Rattle.peb_base.specs.Entries.{first_from}
use Rattle.peb_base.specs.declared.entry.Entry.{Entry}
use Rattle.mem_table.specs.Chunked.{joined, chunk_from}
use Rattle.mem_table.specs.SpotLaws.{place_there, place_past, chunk_inside}
use Rattle.mem_table.specs.Spots.{IsSpot, place_of}
use Rattle.mem_table.specs.declared.spot.Spot.{Spot}
use Rattle.mem_table.proofs.ChunkLemmas.{first_in_chunk, none_in_chunks}
use Rattle.mem_table.proofs.chunks.Chunks.spot_from.Goals as goal

pub returns-then-chunk-count-clause-place : goal.returns-then-chunk-count-clause-place
returns-then-chunk-count-clause-place c =
    let key = c.args.key.now in
    let number = c.args.number in
    let cs : List (List Entry) = c.args.self.now in
    let past : length cs ≤ chunk_from key number cs =
    omega (arith, c.if-chunk-count.true, c.count.ensures.count, c.index_from-chunk.ensures) in
    let none : length (joined cs) ≤ first_from key number (joined cs) =
    omega (arith, none_in_chunks key number cs past) in
    sym (place_past (joined cs) (first_from key number (joined cs)) none)

-- where a place that a chunk gives lies
found : (key : List ℕ) (number : ℕ) (cs : List (List Entry)) (i at : ℕ)
    → i ≡ chunk_from key number cs
    → i < length cs → at ≡ first_from key number (get_or cs i [])
    → IsSpot cs (record { chunk = i; at = at })
    × (Some (place_of cs (record { chunk = i; at = at }))
    ≡ place_in (joined cs) (first_from key number (joined cs)))
found key number cs i at is within place =
    let r = first_in_chunk key number cs i is within in
    let inside : at < length (get_or cs i []) = omega (arith, place, r.1) in
    let same : first_from key number (joined cs) ≡ length (joined (take i cs)) + at =
    omega (arith, r.0, place) in
    let there : first_from key number (joined cs) < length (joined cs) =
    omega (arith, same, inside, chunk_inside cs i within) in (
      record { chunk = within; at = inside },
      ap Some (sym same)
          ∙ sym (place_there (joined cs) (first_from key number (joined cs)) there),
    )

pub returns-clause-spot : goal.returns-clause-spot
returns-clause-spot c =
    let cs : List (List Entry) = c.args.self.now in
    let within : c.index_from-chunk.result < length cs =
    omega (arith, c.if-chunk-count.false, c.count.ensures.count) in
    let r = found c.args.key.now c.args.number cs c.index_from-chunk.result c.place-at.result c.index_from-chunk.ensures within
    (c.place-at.ensures ∙ ap (first_from c.args.key.now c.args.number) c.chunk.ensures) in
    λ x is. subst (IsSpot cs) (same_spot _ x is) r.0
  where
    same_spot : (a b : Spot) → Some a ≡ Some b → a ≡ b
    same_spot a b is = cc

pub returns-clause-place : goal.returns-clause-place
returns-clause-place c =
    let cs : List (List Entry) = c.args.self.now in
    let within : c.index_from-chunk.result < length cs =
    omega (arith, c.if-chunk-count.false, c.count.ensures.count) in
    let r = found c.args.key.now c.args.number cs c.index_from-chunk.result c.place-at.result c.index_from-chunk.ensures within
    (c.place-at.ensures ∙ ap (first_from c.args.key.now c.args.number) c.chunk.ensures) in
    r.1
