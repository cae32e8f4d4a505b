use Rattle.mem_table.specs.Chunked.{joined}
use Rattle.mem_table.proofs.CursorLemmas.{found_behind}
use Rattle.mem_table.proofs.mem_cursor.MemCursorCursor.seek.Goals as goal

pub returns-clause-behind : goal.returns-clause-behind
returns-clause-behind c =
    λ e there. found_behind c.args.key.now c.args.number
    (joined c.args.self.now.entries) _ c.spot_from-self.ensures.place e there
