use Rattle.std.proofs.Common.{◌<◌, arith}
use Rattle.block_form.proofs.Walks.{block_spells, block_whole, holds_entries}
use Rattle.block_form.proofs.Restarts.{parts_short, placed_by}
use Rattle.block_form.proofs.block.Block.again.Goals as goal

pub invariant_of-result-2 : goal.invariant_of-result-2
invariant_of-result-2 c =
    let spells = block_spells c.args.bytes.now c.in-Some.parts.0.now c.in-Some.parts.1.now c.requires.0 c.in-Some.ensures.found c.requires.1 in
    let some : 0 < c.args.count = omega (arith, c.requires.1.some, c.requires.2) in
    holds_entries c.requires.0 c.in-Some.parts.0.now c.in-Some.parts.1.now c.args.count some spells c.requires.2

pub returns : goal.returns
returns c =
    let spells = block_spells c.args.bytes.now c.in-Some.parts.0.now c.in-Some.parts.1.now c.requires.0 c.in-Some.ensures.found c.requires.1 in
    let some : 0 < c.args.count = omega (arith, c.requires.1.some, c.requires.2) in
    block_whole c.args.bytes.now c.in-Some.parts.0.now c.in-Some.parts.1.now c.requires.0 c.args.count c.in-Some.ensures.found some spells c.requires.2

pub invariant_of-result : goal.invariant_of-result
invariant_of-result c =
    let spells = block_spells c.args.bytes.now c.in-Some.parts.0.now c.in-Some.parts.1.now c.requires.0 c.in-Some.ensures.found c.requires.1 in (
      parts_short c.args.bytes.now c.in-Some.parts.0.now c.in-Some.parts.1.now c.in-Some.ensures.found,
      (placed_by c.requires.0 c.in-Some.parts.0.now c.in-Some.parts.1.now c.args.count spells c.requires.2, tt),
    )
