use Rattle.std.proofs.Common.{◌≡◌, ◌+◌, ◌*◌, ◌<◌, inl, List, length, subst, ap, arith, ◌∙◌}
use Rattle.std.specs.Prelude.{slice_get}
use Rattle.peb_base.specs.declared.entry.Entry.{Entry}
use Rattle.block_form.specs.Walks.{HoldsEntries}
use Rattle.block_form.proofs.Restarts.{found_start, no_later, got_inside}
use Rattle.block_form.proofs.block.Block.restart_before.Goals as goal

pub halve-init : goal.halve-init
halve-init c =
    let holds = subst (λ (es : List Entry). HoldsEntries c.self.inside.entries.now c.self.inside.count es) c.self.view_is c.self.invariant in
    record {
      below = omega arith;
      few = omega (arith, holds.some, holds.count_is);
      passed = λ e there. inl (omega arith);
      ahead = λ e there. absurd (omega (arith, got_inside c.args.self.now _ e there, holds.some, holds.count_is));
    }

pub returns-clause-near : goal.returns-clause-near
returns-clause-near c =
    let holds = subst (λ (es : List Entry). HoldsEntries c.self.inside.entries.now c.self.inside.count es) c.self.view_is c.self.invariant in
    let so_far = c.halve.invariant in
    let es = c.args.self.now in
    let key = c.args.key.now in
    let lt : 16 * c.halve.low < length es = omega (arith, so_far.below, so_far.few) in
    let one : 16 * c.halve.high ≡ 16 * c.halve.low + 16 = omega (arith, so_far.below) in
    let start = found_start key c.args.number (16 * c.halve.low) es lt holds.each so_far.passed in
    let end = no_later key c.args.number es (16 * c.halve.low + 16) (λ e there. so_far.ahead e (ap (slice_get es) one ∙ there)) in
    (omega (arith, start), end)
