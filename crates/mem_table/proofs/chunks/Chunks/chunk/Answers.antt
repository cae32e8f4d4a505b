use Rattle.std.proofs.Common.{◌∙◌, ◌<◌, [], ap, sym, subst, length, map, get_or}
use Rattle.std.specs.Arc.{arc_value}
use Rattle.mem_table.proofs.ChunkLemmas.{read_map}
use Rattle.mem_table.proofs.chunks.Chunks.chunk.Goals as goal

pub returns : goal.returns
returns c =
    let items = c.self.inside.list.items in
    let within : c.args.index < length (map arc_value items) =
    subst (λ l. c.args.index < length l) (sym c.self.view_is) c.requires in
    c.deref.ensures ∙ read_map arc_value items c.args.index c.index.result.now [] within c.index.ensures
    ∙ ap (λ l. get_or l c.args.index []) c.self.view_is
