use Rattle.std.proofs.Common.{◌≡◌, suc, ◌+◌, ◌-◌, ◌*◌, ◌^◌, ◌∙◌, sym, ap, arith, pow-suc}
use Rattle.table_file.proofs.ending.end_within.Goals as goal

pub loop-preserved : goal.loop-preserved
loop-preserved g c =
    let count = c.loop.counter in
    let before = c.loop.invariant in
    let half = c.in-Ok.ensures in
    let left : suc (64 - (count + 1)) ≡ 64 - count = omega (arith, c.loop-test.true) in
    let twice : 2 ^ (64 - count) ≡ 2 ^ (64 - (count + 1)) * 2 = ap (λ n. 2 ^ n) (sym left) ∙ pow-suc 2 (64 - (count + 1)) in
    record {
      order = half.within.0;
      within = omega (arith, half.within.1, before.within);
      range = omega (arith, half.half, before.range, twice);
      end = λ told. half.end told c.args.most before.within (before.end told).0 (before.end told).1;
      port = record {
        files = half.port.files ∙ before.port.files;
        no_fewer = omega (arith, half.port.no_fewer, before.port.no_fewer);
        reads = omega (arith, half.port.reads, before.port.reads);
        steady = λ steady. half.port.steady (before.port.steady steady);
        later = omega (arith, half.port.later, before.port.later);
        cause = λ none. absurd none;
      };
    }
