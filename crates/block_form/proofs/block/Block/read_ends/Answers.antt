use Rattle.std.proofs.Common.{◌≡◌, ◌<◌, ◌∙◌, [], length, sym, ap, subst, arith}
use Rattle.block_form.proofs.Walks.{block_spells, block_whole, holds_entries, one_entries, not_empty, held}
use Rattle.block_form.specs.Ends.{TellsEnds}
use Rattle.block_form.proofs.Restarts.{parts_short, placed_by}
use Rattle.block_form.proofs.block.Block.read_ends.Goals as goal

pub returns-in_default-ends_of-clause-form : goal.returns-in_default-ends_of-clause-form
returns-in_default-ends_of-clause-form c = λ bad es is.
    c.in_default-ends_of.ensures.none es (block_spells c.args.bytes.now c.in-Some.parts.0.now c.in-Some.parts.1.now es c.in-Some.ensures.found is)

pub returns-then-ends-eq0-clause-form : goal.returns-then-ends-eq0-clause-form
returns-then-ends-eq0-clause-form c = λ bad es is.
    let all = c.in-Some-ends_of.ensures.found in
    let spells = block_spells c.args.bytes.now c.in-Some.parts.0.now c.in-Some.parts.1.now es c.in-Some.ensures.found is in
    let none : length all.0 ≡ 0 = omega (arith, all.2.count, c.if-ends-eq0.true) in
    not_empty es c.args.bytes.now (ap length (one_entries 0 [] 0 es all.0 spells.each all.1.each (sym spells.spelled ∙ all.1.spelled)) ∙ none) is

pub returns-clause-block : goal.returns-clause-block
returns-clause-block c =
    let all = c.in-Some-ends_of.ensures.found in
    let some : 0 < c.in-Some-ends_of.ends.count = omega (arith, c.if-ends-eq0.false) in
    block_whole c.args.bytes.now c.in-Some.parts.0.now c.in-Some.parts.1.now all.0 c.in-Some-ends_of.ends.count c.in-Some.ensures.found some all.1 (sym all.2.count)

pub invariant_of-block-inside : goal.invariant_of-block-inside
invariant_of-block-inside c =
    let all = c.in-Some-ends_of.ensures.found in (
      parts_short c.args.bytes.now c.in-Some.parts.0.now c.in-Some.parts.1.now c.in-Some.ensures.found,
      (placed_by all.0 c.in-Some.parts.0.now c.in-Some.parts.1.now c.in-Some-ends_of.ends.count all.1 (sym all.2.count), tt),
    )

pub invariant_of-block : goal.invariant_of-block
invariant_of-block c =
    let all = c.in-Some-ends_of.ensures.found in
    let some : 0 < c.in-Some-ends_of.ends.count = omega (arith, c.if-ends-eq0.false) in
    holds_entries all.0 c.in-Some.parts.0.now c.in-Some.parts.1.now c.in-Some-ends_of.ends.count some all.1 (sym all.2.count)

pub returns-clause-ends : goal.returns-clause-ends
returns-clause-ends c =
    let all = c.in-Some-ends_of.ensures.found in
    subst (λ es. TellsEnds es c.ends_of.new.key c.in-Some-ends_of.ends) (sym (held all.0 c.in-Some.parts.0.now c.in-Some.parts.1.now c.in-Some-ends_of.ends.count all.1 (sym all.2.count))) all.2
