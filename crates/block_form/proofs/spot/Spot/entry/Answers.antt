use Rattle.std.proofs.Common.{List, ℕ, sym, subst, arith}
use Rattle.std.proofs.lemmas.List.{take_rest}
use Rattle.block_form.specs.Spots.{BeginsWithAll}
use Rattle.block_form.proofs.Spots.{block_begins}
use Rattle.block_form.proofs.Walks.{block_long}
use Rattle.block_form.proofs.spot.Spot.entry.Goals as goal

pub slice_bounds-entry_at-count : goal.slice_bounds-entry_at-count
slice_bounds-entry_at-count c = omega (arith, block_long c.requires.0 c.args.block.now c.requires.1)

pub slice_bounds-entry_at-start : goal.slice_bounds-entry_at-start
slice_bounds-entry_at-start c = omega (arith, block_long c.requires.0 c.args.block.now c.requires.1)

pub entry_at-requires : goal.entry_at-requires
entry_at-requires c =
    let bytes = c.args.block.now in
    let all = block_begins c.requires.0 bytes c.requires.1 in
    (c.requires.0, subst (λ (l : List ℕ). BeginsWithAll c.requires.0 l) (sym (take_rest bytes 1)) all, c.requires.2)

pub returns : goal.returns
returns c = λ es is spot.
    let bytes = c.args.block.now in
    let all = block_begins es bytes is in
    c.entry_at.ensures es (subst (λ (l : List ℕ). BeginsWithAll es l) (sym (take_rest bytes 1)) all) spot
