use Rattle.std.proofs.Common.{◌≡◌, ◌≤◌, ◌+◌, ◌^◌, length, take, ap, ◌∙◌, subst, arith}
use Rattle.std.specs.Prelude.{flat_map}
use Rattle.std.specs.List.{AllByRecursion}
use Rattle.std.proofs.lemmas.List.{take_all}
use Rattle.manifest.proofs.Lengths.{length-taken, all-taken}
use Rattle.manifest.proofs.encode.ListEncode.length.Goals as goal

pub loop-item-preserved : goal.loop-item-preserved
loop-item-preserved g c =
    let inv = c.loop-item.invariant in
    let items = c.items-item-items.result.now in
    let x = c.item-item.result in
    let i = c.loop-item.item-index in
    let more : length (flat_map g.X.Encode.spelling (take (i + 1) items)) ≡ length (flat_map g.X.Encode.spelling (take i items)) + length (g.X.Encode.spelling x) =
    length-taken g.X.Encode.spelling items i x c.loop-item-test.true c.item-item.is in
    let item_length = c.length.ensures.length in
    let item_some = c.length.ensures.some in
    let sum = c.saturating_add-length.ensures in
    let before : c.saturating_add-length.result ≤ 2 ^ 31 → c.loop-item.length ≤ 2 ^ 31 = λ small. omega (arith, sum, small) in
    record {
      length = omega (arith, inv.length, more, item_length, sum);
      some = omega (arith, inv.some, sum);
      few = λ small. let so_far = inv.few (before small) in omega (arith, so_far, item_some, sum, small);
      each = λ small. all-taken g.X.Encode.fits items i x c.loop-item-test.true c.item-item.is (inv.each (before small)) (c.length.ensures.fits (omega (arith, sum, small)));
    }

pub returns-clause-length : goal.returns-clause-length
returns-clause-length g c =
    let all : take c.loop-item.item-index c.items-item-items.result.now ≡ c.args.self.now = take_all c.loop-item.item-index c.items-item-items.result.now c.loop-item-test.false ∙ c.items-item-items.ensures in
    let whole = ap (λ l. length (flat_map g.X.Encode.spelling l)) all in
    omega (arith, c.loop-item.invariant.length, whole)

pub returns-clause-fits : goal.returns-clause-fits
returns-clause-fits g c = λ small.
    let all : take c.loop-item.item-index c.items-item-items.result.now ≡ c.args.self.now = take_all c.loop-item.item-index c.items-item-items.result.now c.loop-item-test.false ∙ c.items-item-items.ensures in
    let few = c.loop-item.invariant.few small in
    record {
      few = omega (arith, few, small, c.loop-item-test.false, ap length c.items-item-items.ensures);
      each = subst (AllByRecursion g.X.Encode.fits) all (c.loop-item.invariant.each small);
    }
