-- The new tables are at most those of all pieces.
use Rattle.std.proofs.Common.{List, map, ap, arith}
use Rattle.std.specs.Arc.{arc_value}
use Rattle.peb_base.specs.declared.entry.Entry.{Entry}
use Rattle.table_file.specs.Pieces.{whole_length}
use Rattle.table_file.specs.TakingLaws.{takes_all}
use Rattle.guard_commit.specs.Cutting.{cut_from, rows_of, bytes_in}
use Rattle.guard_commit.proofs.Made.{bytes_made, parts_told}
use Rattle.guard_commit.proofs.cut.cut_and_finish.Goals as goal

pub returns-in-Err-finished_with-clause-bound : goal.returns-in-Err-finished_with-clause-bound
returns-in-Err-finished_with-clause-bound g c = λ contents held.
    let f = g.P.File.TableHandle in
    let j = c.args.job.now in
    let full = c.args.options.now.block_bytes in
    let is = c.in-Ok.ensures.made in
    let made = map arc_value c.in-Ok.made.items in
    let bytes = bytes_made f full j.level made (cut_from j.numbers j.keys is.parts) is.pieces in
    let same = ap (λ (ps : List (List Entry)). whole_length full (cut_from j.numbers j.keys ps))
    (parts_told f (map arc_value c.args.tables.now) is.parts contents is.read held) in
    takes_all (bytes_in (rows_of made)) _ _ _ (omega (arith, bytes, same)) c.in-Ok.ensures.taken
