use Rattle.std.proofs.Common.{◌≡◌, ◌∙◌, length, sym, false, arith}
use Rattle.std.specs.Result.{is_err}
use Rattle.pebbles_cli.proofs.Reading.{begins_read}
use Rattle.pebbles_cli.proofs.read_script.read_script.Goals as goal

pub pieces-preserved : goal.pieces-preserved
pieces-preserved g c = record {
  begins =
      let place : c.len-in-pieces.result ≡ length c.pieces.bytes.items = omega (arith, c.len-in-pieces.ensures) in
      let fine : is_err c.extend_from_slice.result ≡ false = sym c.is_err.ensures.value ∙ c.if-is_err.false in
      begins_read (g.S.Scripts.text c.args.scripts.now c.args.name.now) (g.S.Scripts.text c.pieces.scripts c.args.name.now) c.pieces.bytes.items c.fetch.new.out c.extend_from_slice.new.self.items c.len-in-pieces.result c.in-Ok.got c.extend_from_slice.result
      (c.pieces.invariant.same c.args.name.now) place fine c.extend_from_slice.ensures.items c.pieces.invariant.begins c.in-Ok.ensures.bytes;
  same = λ other. c.in-Ok.ensures.same other ∙ c.pieces.invariant.same other;
  later = omega (arith, c.pieces.invariant.later, c.in-Ok.ensures.cause.later);
}
