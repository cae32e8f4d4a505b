use Rattle.std.proofs.Common.{◌≡◌, ◌*◌, ◌==◌, ◌||◌, length, ap, ◌∙◌, arith}
use Rattle.bloom.specs.Bits.{bit, bytes_of}
use Rattle.bloom.specs.Filter.{probe, is_probe}
use Rattle.bloom.proofs.BitBytes.{are-bytes, bytes-by-bits}
use Rattle.bloom.proofs.Held.{no-probe, one-more-probe}
use Rattle.bloom.proofs.probes.set_probes.Goals as goal

pub loop-i-init : goal.loop-i-init
loop-i-init c = record { bytes = are-bytes c.args.bytes.now (λ i. (c.type_inv.bytes i).fits); set = λ j. no-probe _ c.args.hash _ j }

pub loop-i-preserved : goal.loop-i-preserved
loop-i-preserved c =
    let bits = 8 * length c.args.bytes.now in
    let place : c.probe_at-place.result ≡ probe c.args.hash bits c.loop-i.i = c.probe_at-place.ensures ∙ ap (λ n. probe c.args.hash (8 * n) c.loop-i.i) c.loop-i.auto.bytes in
    record {
      bytes = are-bytes c.set_bit.new.bytes (λ i. (c.type_inv.bytes i).fits);
      set = λ j. c.set_bit.ensures j
          ∙ ap (λ b. b || (j == c.probe_at-place.result)) (c.loop-i.invariant.set j)
          ∙ one-more-probe (bit c.args.bytes.now j) c.loop-i.i c.args.hash bits j c.probe_at-place.result place;
    }

pub returns : goal.returns
returns c =
    let old = c.args.bytes.now in
    let bits = 8 * length old in
    let all : c.loop-i.i ≡ 6 = omega arith in
    bytes-by-bits c.loop-i.bytes (λ j. bit old j || is_probe 6 c.args.hash bits j) c.loop-i.invariant.bytes
    (λ j within. c.loop-i.invariant.set j ∙ ap (λ n. bit old j || is_probe n c.args.hash bits j) all)
    ∙ ap (λ n. bytes_of n (λ j. bit old j || is_probe 6 c.args.hash bits j)) c.loop-i.auto.bytes
