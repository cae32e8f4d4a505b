use Rattle.std.proofs.Common.{◌∙◌, sym, ap, arith, length, []}
use Rattle.table_file.proofs.Summing.{last_fits}
use Rattle.table_file.proofs.table_writer.close_block.Goals as goal

pub latest-requires : goal.latest-requires
latest-requires g c =
    let last = c.requires.last in omega (arith, last.1.latest, (last_fits [] 0 last.0 last.2 last.3).number)

pub add-requires-clause-some : goal.add-requires-clause-some
add-requires-clause-some g c =
    let last = c.requires.last in omega (arith, ap length c.largest.ensures, ap length last.1.largest, (last_fits [] 0 last.0 last.2 last.3).some)

pub add-requires-clause-short : goal.add-requires-clause-short
add-requires-clause-short g c =
    let last = c.requires.last in omega (arith, ap length c.largest.ensures, ap length last.1.largest, (last_fits [] 0 last.0 last.2 last.3).short)

pub returns-clause-index : goal.returns-clause-index
returns-clause-index g c = λ blocks index key number.
    c.in_ok-add.ensures.added blocks c.args.builder.now.entries index (ap length c.finish-bytes.ensures.block.spelled) (c.largest.ensures ∙ sym key) (c.latest.ensures ∙ sym number)
