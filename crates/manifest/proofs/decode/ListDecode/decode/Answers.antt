use Rattle.std.proofs.Common.{◌≡◌, ◌+◌, ◌-◌, [], ◌∷◌, ◌++◌, length, rules, arith, sym, ap, ◌∙◌, subst, length-append}
use Rattle.byteorder.specs.Endian.{big_bytes}
use Rattle.std.specs.Prelude.{flat_map}
use Rattle.std.specs.List.{AllByRecursion}
use Rattle.manifest.specs.FieldLaws.{counts_apart}
use Rattle.manifest.proofs.Items.{leaves_less, leaves_none, all-push, so_far-push}
use Rattle.manifest.proofs.decode.ListDecode.decode.Goals as goal

pub loop-init : goal.loop-init
loop-init g c =
    let none = c.new-items.ensures.items in
    record {
      so_far = ap (λ l. flat_map g.X.Decode.spelling l ++ c.in_ok-count.listed.now) none;
      each = subst (AllByRecursion g.X.Decode.fits) (sym none) tt;
      counted = ap length none;
      only = λ xs tail each counts are. record { items = xs; each = each; counted = omega (arith, counts); are = are };
    }

pub loop-preserved : goal.loop-preserved
loop-preserved g c =
    let inv = c.loop.invariant in
    let items = c.loop.items.items in
    let x = c.in_ok-item.item in
    let pushed : c.push.new.self.items ≡ items ++ x ∷ [] = c.in_ok-push.ensures.items in
    record {
      so_far = rw pushed (so_far-push g.X.Decode.spelling items x c.loop.rest.now c.in_ok-item.behind.now c.in_ok-count.listed.now inv.so_far c.in_ok-item.ensures.found);
      each = rw pushed (all-push g.X.Decode.fits items x inv.each c.in_ok-item.ensures.fits);
      counted = omega (arith, ap length pushed, length-append items (x ∷ []), inv.counted);
      only = λ xs tail each counts are. leaves_less (c.in_ok-count.count - (c.loop.counter + 1)) x c.in_ok-item.behind.now g.met.X.Decode.apart (inv.only xs tail each counts are) (omega (arith, c.loop-test.true)) c.in_ok-item.ensures.fits c.in_ok-item.ensures.found;
    }

pub returns-in_err-item-clause-form : goal.returns-in_err-item-clause-form
returns-in_err-item-clause-form g c = λ err value rest fits same.
    let count = c.in_ok-count in
    let whole : big_bytes 4 count.count ++ count.listed.now ≡ big_bytes 4 (length value) ++ (flat_map g.X.Decode.spelling value ++ rest) = sym count.ensures.found ∙ same in
    let parts = counts_apart.one count.count (length value) count.listed.now (flat_map g.X.Decode.spelling value ++ rest) count.ensures.fits fits.few whole in
    leaves_none (c.loop.invariant.only value rest fits.each (sym parts.0) parts.1) (omega (arith, c.loop-test.true)) (c.in_err-item.ensures.form (search rules))

pub returns-clause-fits : goal.returns-clause-fits
returns-clause-fits g c =
    let inv = c.loop.invariant in
    let is = c.of.ensures in rw is (record { few = omega (arith, inv.counted, c.in_ok-count.ensures.fits); each = inv.each })

pub returns-clause-found : goal.returns-clause-found
returns-clause-found g c =
    let inv = c.loop.invariant in
    let is = c.of.ensures in
    let counts : c.in_ok-count.count ≡ length c.loop.items.items = omega (arith, inv.counted, c.loop-test.false) in
    let listed = sym inv.so_far in
    rw is (c.in_ok-count.ensures.found ∙ (λ i. big_bytes 4 (counts i) ++ listed i))
