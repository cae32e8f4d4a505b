use Rattle.std.proofs.Common.{◌≡◌, ◌<◌, ◌∙◌, List, length, true, false, subst, sym, arith}
use Rattle.peb_base.specs.Entries.{comes_before}
use Rattle.peb_base.specs.declared.entry.Entry.{Entry}
use Rattle.block_form.specs.Walks.{HoldsEntries}
use Rattle.block_form.proofs.Restarts.{found_near}
use Rattle.block_form.proofs.Scans.{at, found_on, found_here}
use Rattle.block_form.proofs.Spots.{spot_is}
use Rattle.block_form.proofs.block.Block.scan.Goals as goal

pub scan-init : goal.scan-init
scan-init c = (
  omega (arith, c.requires.place),
  λ inside. c.requires.spot,
  found_near c.args.key.now c.args.number c.args.start c.args.self.now c.requires.near.0,
)

pub returns-then-not-is_before-clause-place : goal.returns-then-not-is_before-clause-place
returns-then-not-is_before-clause-place c =
    let holds = subst (λ (es : List Entry). HoldsEntries c.self.inside.entries.now c.self.inside.count es) c.self.view_is c.self.invariant in
    let lt : c.scan.place < length c.args.self.now = omega (arith, c.scan-test.true, holds.count_is) in
    let here = at c.scan.place c.args.self.now lt in
    let same = spot_is c.scan.place c.args.self.now c.scan.key_out c.scan.spot here.entry (c.scan.invariant.1 lt) here.got in
    let passed : comes_before here.entry.key here.entry.number c.args.key.now c.args.number ≡ false =
    (λ i. comes_before ((sym same.0 ∙ sym c.bytes.ensures.value) i) (sym same.1 i) c.args.key.now c.args.number) ∙ sym c.is_before.ensures ∙ c.if-not-is_before.true in
    found_here c.args.key.now c.args.number c.scan.place c.args.self.now here passed c.scan.invariant.2

pub scan-preserved : goal.scan-preserved
scan-preserved c =
    let holds = subst (λ (es : List Entry). HoldsEntries c.self.inside.entries.now c.self.inside.count es) c.self.view_is c.self.invariant in
    let lt : c.scan.place < length c.args.self.now = omega (arith, c.scan-test.true, holds.count_is) in
    let here = at c.scan.place c.args.self.now lt in
    let same = spot_is c.scan.place c.args.self.now c.scan.key_out c.scan.spot here.entry (c.scan.invariant.1 lt) here.got in
    let passed : comes_before here.entry.key here.entry.number c.args.key.now c.args.number ≡ true =
    (λ i. comes_before ((sym same.0 ∙ sym c.bytes.ensures.value) i) (sym same.1 i) c.args.key.now c.args.number) ∙ sym c.is_before.ensures ∙ c.if-not-is_before.false in
    (omega (arith, lt), c.behind-spot.ensures, found_on c.args.key.now c.args.number c.scan.place c.args.self.now here passed c.scan.invariant.2)
