use Rattle.std.proofs.Common.{◌≡◌, [], map, refl, rules}
use Rattle.std.specs.Arc.{arc_value}
use Rattle.table_file.proofs.PiecePushes.{fresh}
use Rattle.table_file.proofs.piece_writer.PieceWriter.new.Goals as goal

pub returns-clause-cut : goal.returns-clause-cut
returns-clause-cut g c = λ m keys.
    let none : map arc_value c.new-2.result.items ≡ [] = search rules in
    fresh g.F.TableHandle m _ keys refl refl none
