use Rattle.table_file.proofs.PieceLaws.{pieces_are}
use Rattle.table_file.proofs.PieceLengths.{grows, open_whole}
use Rattle.table_file.proofs.piece_laws.law_pieces.Goals as goal

pub returns : goal.returns
returns c =
    record {
      entries = pieces_are;
      grows = grows;
      whole = λ full n keys es. open_whole full _;
    }
