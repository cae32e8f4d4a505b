use Rattle.std.proofs.Common.{◌∙◌, ap, sym}
use Rattle.std.specs.Prelude.{slice_get}
use Rattle.mem_table.specs.SpotLaws.{get_at}
use Rattle.mem_table.proofs.chunks.Chunks.entry.Goals as goal

pub returns : goal.returns
returns c =
    get_at c.args.self.now c.args.spot.chunk c.args.spot.at c.requires.chunk c.requires.at
    ∙ ap (λ l. slice_get l c.args.spot.at) (sym c.chunk.ensures) ∙ c.entry.ensures
