use Rattle.std.proofs.Common.{◌≡◌, ◌∙◌, length, drop, ap, arith}
use Rattle.std.specs.Prelude.{min}
use Rattle.std.proofs.lemmas.List.{length-take}
use Rattle.table_file.proofs.Placing.{tiny_place}
use Rattle.table_file.proofs.opening.tiny_fault.Goals as goal

pub returns-clause-place : goal.returns-clause-place
returns-clause-place g c = λ told.
    let bytes = g.P.File.TableHandle.bytes c.args.file.now in
    let count : length c.as_slice.result.now ≡ min 49 (length bytes) =
    ap length (c.as_slice.ensures.value ∙ c.in-Ok.ensures.bytes told) ∙ length-take 49 (drop 0 bytes) in
    tiny_place c.args.row.now bytes c.place_in_tiny.result c.requires
    (λ long. c.place_in_tiny.ensures.whole (omega (arith, count, long, c.requires)))
    (λ differ. omega (arith, count, c.requires, c.place_in_tiny.ensures.other (λ same. differ (omega (arith, count, same, c.requires)))))
